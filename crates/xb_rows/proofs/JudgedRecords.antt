-- What is kept of a record stands for its fields.
use Rattle.std.proofs.Common.{◌≡◌, ◌≤◌, ◌<◌, ℕ, List, [], ◌∷◌, length, Option, Some, None, Bool, true, false, ◌&&◌, Result, Ok, refl, sym, ap, ◌∙◌, arith}
use Rattle.std.specs.Prelude.{codes, bytes_eq, if◌then◌else◌}
use Rattle.std.proofs.lemmas.Bool.{le-leb, le-ltb, lt-ltb, lt-leb}
use Rattle.std.proofs.lemmas.Slice.Eq.{bytes_eq-Decides}
use Rattle.xb_model.specs.Fields.{field_number, line_of}
use Rattle.xb_model.specs.Rows.{LoopRow, row_of}
use Rattle.xb_model.specs.declared.fault.RowFault.{RowFault}
use Rattle.xb_model.specs.declared.fault.RowFault.TheVariants as fault
use Rattle.xb_model.specs.declared.row.Contact.{Contact}
use Rattle.xb_model.specs.declared.field.TheConstants.{LINE_DIGITS}
use Rattle.xb_rows.specs.declared.kept.TheConstants.{MOST_FIELD_BYTES}
use Rattle.xb_rows.specs.declared.record.TheConstants.{MS_DIGITS}
use Rattle.xb_rows.specs.Kept.{AreWhole, StandFor}
use Rattle.xb_rows.specs.RowTexts.{Fields, ThreeFields, contact_of, is_header, ms_of, or_fault, row_of_fields, three_fields}
use Rattle.xb_rows.specs.Streams.{has_long, is_long, shown}

-- a list that is longer is another one
longer-not : (p letters : List ℕ) → length letters < length p → bytes_eq p letters ≡ false
longer-not p letters long = by (bytes_eq p letters) refl
  where
    by : (b : Bool) → bytes_eq p letters ≡ b → b ≡ false
    by false e = refl
    by true e = let same = ap length ((bytes_eq-Decides p letters).0 e) in absurd (omega arith)

-- a long field is no number
long-number : (most : ℕ) (p : List ℕ) → most ≤ MOST_FIELD_BYTES → MOST_FIELD_BYTES < length p
    → field_number most p ≡ None
long-number most p few long = rw (le-leb 1 (length p) (omega arith), lt-leb (length p) most (omega arith)) refl

-- and names nothing that the loop does
long-contact : (p : List ℕ) → MOST_FIELD_BYTES < length p → contact_of p ≡ None
long-contact p long =
    rw (
      longer-not p (codes "M") (omega arith),
      longer-not p (codes "B") (omega arith),
      longer-not p (codes "C") (omega arith),
    ) refl

long-is : (p : List ℕ) → MOST_FIELD_BYTES < length p → is_long p ≡ true
long-is p long = lt-ltb MOST_FIELD_BYTES (length p) long

short-is : (p : List ℕ) → length p ≤ MOST_FIELD_BYTES → is_long p ≡ false
short-is p short = le-ltb MOST_FIELD_BYTES (length p) short

-- ---- what stands for the fields of a record

-- a record of one field
pub one-stands : (a : List ℕ) → length a ≤ MOST_FIELD_BYTES → StandFor None (shown (a ∷ []))
one-stands a short = record { header = rw (short-is a short) refl; row = λ n. rw (short-is a short) refl }

-- of two
pub two-stand : (a b : List ℕ) → length a ≤ MOST_FIELD_BYTES → length b ≤ MOST_FIELD_BYTES
    → StandFor None (shown (a ∷ b ∷ []))
two-stand a b sa sb = record {
  header = rw (short-is a sa, short-is b sb) refl;
  row = λ n. rw (short-is a sa, short-is b sb) refl;
}

-- a record of three fields is shown as it is
pub shown-three : (a b c : List ℕ) → shown (a ∷ b ∷ c ∷ []) ≡ a ∷ b ∷ c ∷ []
shown-three a b c = by (has_long (a ∷ b ∷ c ∷ []))
  where
    by : (long : Bool) → (if long then a ∷ b ∷ c ∷ [] else a ∷ b ∷ c ∷ []) ≡ a ∷ b ∷ c ∷ []
    by true = refl
    by false = refl

-- of three
pub three-stand : (a b c : List ℕ) → StandFor (Some (a, b, c)) (shown (a ∷ b ∷ c ∷ []))
three-stand a b c = record {
  header = ap (λ fields. is_header (three_fields fields)) (shown-three a b c);
  row = λ n. ap (λ fields. row_of_fields n (three_fields fields)) (shown-three a b c);
}

-- and of more
pub more-stand : (a b c d : List ℕ) (rest : Fields) → length a ≤ MOST_FIELD_BYTES → length b ≤ MOST_FIELD_BYTES
    → length c ≤ MOST_FIELD_BYTES → StandFor None (shown (a ∷ b ∷ c ∷ d ∷ rest))
more-stand a b c d rest sa sb sc = record {
  header = rw (short-is a sa, short-is b sb, short-is c sc) refl;
  row = λ n. rw (short-is a sa, short-is b sb, short-is c sc) refl;
}

second-false : (x y : Bool) → (x && false && y) ≡ false
second-false true y = refl
second-false false y = refl

-- the first field is long
pub first-stands : (p : List ℕ) (rest : Fields) → MOST_FIELD_BYTES < length p → StandFor (Some ([], [], [])) (shown (p ∷ rest))
first-stands p rest long = record { header = header rest; row = row rest }
  where
    no_line : (n : ℕ) (b c : List ℕ) → row_of_fields n (Some (p, b, c)) ≡ row_of_fields n (Some ([], [], []))
    no_line n b c = rw (long-number LINE_DIGITS p (omega arith) long) refl

    header : (others : Fields) → is_header (three_fields (shown (p ∷ others))) ≡ is_header (Some ([], [], []))
    header [] = rw (long-is p long, longer-not p (codes "line") (omega arith)) refl
    header (b ∷ []) = rw (long-is p long, longer-not p (codes "line") (omega arith)) refl
    header (b ∷ c ∷ more) = rw (long-is p long, longer-not p (codes "line") (omega arith)) refl

    row : (others : Fields) (n : ℕ)
        → row_of_fields n (three_fields (shown (p ∷ others))) ≡ row_of_fields n (Some ([], [], []))
    row [] n = rw (long-is p long) (no_line n [] [])
    row (b ∷ []) n = rw (long-is p long) (no_line n b [])
    row (b ∷ c ∷ more) n = rw (long-is p long) (no_line n b c)

-- the second field is long
pub second-stands : (a p : List ℕ) (rest : Fields) → length a ≤ MOST_FIELD_BYTES → MOST_FIELD_BYTES < length p
    → StandFor (Some (a, [], [])) (shown (a ∷ p ∷ rest))
second-stands a p rest short long = record { header = header rest; row = row rest }
  where
    no_contact : (n : ℕ) (c : List ℕ) → row_of_fields n (Some (a, p, c)) ≡ row_of_fields n (Some (a, [], []))
    no_contact n c = by (line_of a)
      where
        next : List ℕ → List ℕ → ℕ → Result LoopRow RowFault
        next b ms line = or_fault (fault.Contact n) (contact_of b) (λ contact.
            or_fault (fault.Ms n) (ms_of contact ms) (λ time. Ok (row_of line contact time)))

        by : (o : Option ℕ) → or_fault (fault.Line n) o (next p c) ≡ or_fault (fault.Line n) o (next [] [])
        by None = refl
        by (Some line) = rw (long-contact p long) refl

    other : is_header (Some (a, [], [])) ≡ false
    other = second-false (bytes_eq a (codes "line")) (bytes_eq [] (codes "ms"))

    not_header : (c : List ℕ) → is_header (Some (a, p, c)) ≡ is_header (Some (a, [], []))
    not_header c =
        rw (longer-not p (codes "state") (omega arith))
        (second-false (bytes_eq a (codes "line")) (bytes_eq c (codes "ms")) ∙ sym other)

    header : (others : Fields) → is_header (three_fields (shown (a ∷ p ∷ others))) ≡ is_header (Some (a, [], []))
    header [] = rw (short-is a short, long-is p long) (not_header [])
    header (c ∷ more) = rw (short-is a short, long-is p long) (not_header c)

    row : (others : Fields) (n : ℕ)
        → row_of_fields n (three_fields (shown (a ∷ p ∷ others))) ≡ row_of_fields n (Some (a, [], []))
    row [] n = rw (short-is a short, long-is p long) (no_contact n [])
    row (c ∷ more) n = rw (short-is a short, long-is p long) (no_contact n c)

-- the third field is long
pub third-stands : (a b p : List ℕ) (rest : Fields) → length a ≤ MOST_FIELD_BYTES → length b ≤ MOST_FIELD_BYTES
    → MOST_FIELD_BYTES < length p → StandFor (Some (a, b, [])) (shown (a ∷ b ∷ p ∷ rest))
third-stands a b p rest sa sb long = record {
  header = rw (short-is a sa, short-is b sb, long-is p long) not_header;
  row = λ n. rw (short-is a sa, short-is b sb, long-is p long) (no_time n);
}
  where
    no_time : (n : ℕ) → row_of_fields n (Some (a, b, p)) ≡ row_of_fields n (Some (a, b, []))
    no_time n = by_line (line_of a)
      where
        last : List ℕ → ℕ → Contact → Result LoopRow RowFault
        last ms line contact = or_fault (fault.Ms n) (ms_of contact ms) (λ time. Ok (row_of line contact time))

        by_contact : (line : ℕ) (o : Option Contact) → or_fault (fault.Contact n) o (last p line)
            ≡ or_fault (fault.Contact n) o (last [] line)
        by_contact line None = refl
        by_contact line (Some contact) = rw (long-number MS_DIGITS p (omega arith) long) refl

        by_line : (o : Option ℕ) → or_fault (fault.Line n) o (λ line. or_fault (fault.Contact n) (contact_of b) (last p line))
            ≡ or_fault (fault.Line n) o (λ line. or_fault (fault.Contact n) (contact_of b) (last [] line))
        by_line None = refl
        by_line (Some line) = by_contact line (contact_of b)

    not_header : is_header (Some (a, b, p)) ≡ is_header (Some (a, b, []))
    not_header = rw (longer-not p (codes "ms") (omega arith)) refl

-- ---- three fields that are whole

-- the header has a third field
pub header-whole : (kept : Option ThreeFields) → is_header kept ≡ true → AreWhole kept
header-whole None e = cc e
header-whole (Some (a, b, [])) e = by (bytes_eq a (codes "line")) (bytes_eq b (codes "state")) e
  where
    by : (x y : Bool) → (x && y && false) ≡ true → ⊥
    by true true h = cc h
    by true false h = cc h
    by false y h = cc h
header-whole (Some (a, b, x ∷ c)) e = tt

-- and so has a row
pub row-whole : (n : ℕ) (kept : Option ThreeFields) (row : LoopRow) → Ok row ≡ row_of_fields n kept → AreWhole kept
row-whole n None row e = cc e
row-whole n (Some (a, b, [])) row e = by_line (line_of a) e
  where
    last : ℕ → Contact → Result LoopRow RowFault
    last line contact = or_fault (fault.Ms n) None (λ time. Ok (row_of line contact time))

    by_contact : (line : ℕ) (o : Option Contact) → Ok row ≡ or_fault (fault.Contact n) o (last line) → ⊥
    by_contact line None h = cc h
    by_contact line (Some contact) h = cc h

    by_line : (o : Option ℕ)
        → Ok row ≡ or_fault (fault.Line n) o (λ line. or_fault (fault.Contact n) (contact_of b) (last line)) → ⊥
    by_line None h = cc h
    by_line (Some line) h = by_contact line (contact_of b) h
row-whole n (Some (a, b, x ∷ c)) row e = tt
