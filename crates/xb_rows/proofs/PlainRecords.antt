-- Records of the plain form are read as `csv` reads them.
use Rattle.std.proofs.Common.{◌≡◌, ◌≤◌, ◌<◌, ℕ, List, [], ◌∷◌, ◌++◌, length, Option, Some, None, Bool, true, false, ◌&&◌, Result, Ok, refl, sym, ap, ◌∙◌, arith, append_assoc, append-nil, ne_eqb, leb-true, ◌≢◌}
use denote.Ref.{Bor}
use Rattle.std.specs.Option.{MatchOption}
use Rattle.std.specs.Prelude.{IfSome, codes, bytes_eq, nat_le, if◌then◌else◌, option_and_then}
use Rattle.std.specs.Str.Parse.{digits_value}
use Rattle.std.specs.Str.{all_ascii_digits}
use Rattle.std.proofs.lemmas.Slice.Eq.{bytes_eq-Decides}
use Rattle.csv.specs.Machine.{next_record}
use Rattle.csv.specs.Reading.{default_config, strip_bom}
use Rattle.csv.specs.Writing.{default_writer, fields_text, is_blank, needs_quotes, row_text}
use Rattle.csv.specs.declared.parser.State.TheVariants as st
use Rattle.csv.proofs.RoundTrip.{read-write}
use Rattle.xb_model.specs.Rows.{LoopRow, may_last, row_of}
use Rattle.xb_model.specs.declared.row.Contact.{Contact}
use Rattle.xb_model.specs.declared.row.Contact.TheVariants.{Make, Brk, Close}
use Rattle.xb_model.specs.declared.fault.RowFault.{RowFault}
use Rattle.xb_model.specs.declared.fault.RowFault.TheVariants as fault
use Rattle.xb_rows.specs.Plain.{BeginsWith, BeginsWithContact, BeginsWithNumber, IsPlainRow}
use Rattle.xb_model.specs.Fields.{field_number, line_of}
use Rattle.xb_rows.specs.RowTexts.{contact_of, ms_of, or_fault, row_of_fields}
use Rattle.xb_rows.specs.WrittenRows.{header}
use Rattle.xb_model.specs.declared.field.TheConstants.{LINE_DIGITS}
use Rattle.xb_rows.specs.declared.record.TheConstants.{MS_DIGITS}
use Rattle.xb_rows.proofs.CsvTexts.{plain_digit}

and-both : (a b : Bool) → (a && b) ≡ true → (a ≡ true) × (b ≡ true)
and-both true b e = (refl, e)
and-both false b e = cc e

-- a byte that is a digit
pub digit_is : (c : ℕ) → (nat_le 48 c && nat_le c 57) ≡ true → (48 ≤ c) × (c ≤ 57)
digit_is c e =
    let both = and-both (nat_le 48 c) (nat_le c 57) e in
    (leb-true 48 c both.0, leb-true c 57 both.1)

-- digits call for no quotes
plain_digits : (xs : List ℕ) → all_ascii_digits xs ≡ true → needs_quotes default_writer xs ≡ false
plain_digits [] e = refl
plain_digits (x ∷ xs) e =
    let both = and-both (nat_le 48 x && nat_le x 57) (all_ascii_digits xs) e in
    rw (plain_digit x (digit_is x both.0).0) (plain_digits xs both.1)

-- a field that is a number has digits, and one at least
abbrev IsNumber : List ℕ → Type 0
IsNumber field = (all_ascii_digits field ≡ true) × (1 ≤ length field)

number_is : (most : ℕ) (field : List ℕ) (n : ℕ) → field_number most field ≡ Some n → IsNumber field
number_is most field n e = by (nat_le 1 (length field)) (nat_le (length field) most) (all_ascii_digits field) refl refl e
  where
    by : (a b c : Bool) → nat_le 1 (length field) ≡ a → all_ascii_digits field ≡ c
        → (if a && b && c then Some (digits_value 10 field) else None) ≡ Some n → IsNumber field
    by true true true some digits e = (digits, leb-true 1 (length field) some)
    by false b c some digits e = cc e
    by true false c some digits e = cc e
    by true true false some digits e = cc e

-- a letter calls for no quotes
plain_state : (field : List ℕ) (contact : Contact) → contact_of field ≡ Some contact
    → needs_quotes default_writer field ≡ false
plain_state field contact e = by (bytes_eq field (codes "M")) (bytes_eq field (codes "B"))
    (bytes_eq field (codes "C")) refl refl refl e
  where
    same : (letter : List ℕ) → bytes_eq field letter ≡ true → needs_quotes default_writer letter ≡ false
        → needs_quotes default_writer field ≡ false
    same letter e plain = rw ((bytes_eq-Decides field letter).0 e) plain

    by : (m b c : Bool) → bytes_eq field (codes "M") ≡ m → bytes_eq field (codes "B") ≡ b
        → bytes_eq field (codes "C") ≡ c
        → (if m then Some Make else if b then Some Brk else if c then Some Close else None) ≡ Some contact
        → needs_quotes default_writer field ≡ false
    by true b c im ib ic e = same (codes "M") im refl
    by false true c im ib ic e = same (codes "B") ib refl
    by false false true im ib ic e = same (codes "C") ic refl
    by false false false im ib ic e = cc e

-- the time of a row is a number
time_is : (contact : Contact) (field : List ℕ) (ms : ℕ) → ms_of contact field ≡ Some ms → IsNumber field
time_is contact field ms em = by (field_number MS_DIGITS field) refl em
  where
    by : (o : Option ℕ) → field_number MS_DIGITS field ≡ o
        → option_and_then (λ x. if may_last contact x then Some x else None) o ≡ Some ms → IsNumber field
    by None e h = cc h
    by (Some x) e h = number_is MS_DIGITS field x e

-- three fields of a row
record AreFields (a b c : List ℕ) : Type 0 where
  pub line : IsNumber a
  pub state : needs_quotes default_writer b ≡ false
  pub ms : IsNumber c

-- what the fields of a row are, and that they are that row by any number
fields_of_row_are : (n : ℕ) (a b c : List ℕ) (row : LoopRow) → row_of_fields n (Some (a, b, c)) ≡ Ok row
    → AreFields a b c × ((k : ℕ) → row_of_fields k (Some (a, b, c)) ≡ Ok row)
fields_of_row_are n a b c row e = by_line (line_of a) refl e
  where
    next : ℕ → Contact → ℕ → Option ℕ → Result LoopRow RowFault
    next k contact line o = or_fault (fault.Ms k) o (λ ms. Ok (row_of line contact ms))

    by_ms : (line : ℕ) (contact : Contact) (o : Option ℕ) → line_of a ≡ Some line → contact_of b ≡ Some contact
        → ms_of contact c ≡ o → next n contact line o ≡ Ok row
        → AreFields a b c × ((k : ℕ) → row_of_fields k (Some (a, b, c)) ≡ Ok row)
    by_ms line contact None el ec em e = cc e
    by_ms line contact (Some ms) el ec em e = (
      record { line = number_is LINE_DIGITS a line el; state = plain_state b contact ec; ms = time_is contact c ms em },
      λ k. rw (el, ec, em) e,
    )

    by_contact : (line : ℕ) (o : Option Contact) → line_of a ≡ Some line → contact_of b ≡ o
        → or_fault (fault.Contact n) o (λ contact. next n contact line (ms_of contact c)) ≡ Ok row
        → AreFields a b c × ((k : ℕ) → row_of_fields k (Some (a, b, c)) ≡ Ok row)
    by_contact line None el ec e = cc e
    by_contact line (Some contact) el ec e = by_ms line contact (ms_of contact c) el ec refl e

    by_line : (o : Option ℕ) → line_of a ≡ o
        → or_fault (fault.Line n) o (λ line. or_fault (fault.Contact n) (contact_of b) (λ contact. next n contact line (ms_of contact c))) ≡ Ok row
        → AreFields a b c × ((k : ℕ) → row_of_fields k (Some (a, b, c)) ≡ Ok row)
    by_line None el e = cc e
    by_line (Some line) el e = by_contact line (contact_of b) el refl e

-- a text that begins with a byte of ASCII has no byte order mark
no_mark : (x : ℕ) (rest : List ℕ) → x < 128 → strip_bom (x ∷ rest) ≡ x ∷ rest
unfolding strip_bom
no_mark x [] low = refl
no_mark x (y ∷ []) low = refl
no_mark x (y ∷ z ∷ rest) low = rw (ne_eqb x 0xEF (λ e. omega (arith, e, low))) refl

-- the text of three plain fields
pub three_texts : (a b c : List ℕ) → needs_quotes default_writer a ≡ false → needs_quotes default_writer b ≡ false
    → needs_quotes default_writer c ≡ false → (rest : List ℕ)
    → row_text default_writer (a ∷ b ∷ c ∷ []) ++ rest ≡ a ++ 44 ∷ (b ++ 44 ∷ (c ++ 10 ∷ rest))
unfolding fields_text is_blank
three_texts a b c pa pb pc rest = rw (pa, pb, pc) (simp (append_assoc, append-nil) refl)

-- a record of the plain form
begins-plain : (a b c rest : List ℕ) → AreFields a b c
    → BeginsWith (a ++ 44 ∷ (b ++ 44 ∷ (c ++ 10 ∷ rest))) (a ∷ b ∷ c ∷ []) rest
begins-plain a b c rest are = (
  mark a are.line,
  ap (λ text. next_record default_config st.StartRecord [] [] text) (sym texts)
      ∙ read-write (a ∷ b ∷ c ∷ []) rest,
)
  where
    texts : row_text default_writer (a ∷ b ∷ c ∷ []) ++ rest ≡ a ++ 44 ∷ (b ++ 44 ∷ (c ++ 10 ∷ rest))
    texts = three_texts a b c (plain_digits a are.line.0) are.state (plain_digits c are.ms.0) rest

    mark : (line : List ℕ) → IsNumber line → strip_bom (line ++ 44 ∷ (b ++ 44 ∷ (c ++ 10 ∷ rest)))
        ≡ line ++ 44 ∷ (b ++ 44 ∷ (c ++ 10 ∷ rest))
    mark [] number = absurd (omega (arith, number.1))
    mark (x ∷ xs) number =
        let both = and-both (nat_le 48 x && nat_le x 57) (all_ascii_digits xs) number.0 in
        no_mark x _ (omega (arith, (digit_is x both.0).1))

-- fields that were read one by one are a row, whatever its number is
row_is : (a b c : List ℕ) (line ms : ℕ) (contact : Contact) → line_of a ≡ Some line → contact_of b ≡ Some contact
    → field_number MS_DIGITS c ≡ Some ms → may_last contact ms ≡ true
    → row_of_fields 0 (Some (a, b, c)) ≡ Ok (row_of line contact ms)
row_is a b c line ms contact el ec em may = rw (el, ec, em, may) refl

-- a row that was found is the first record of the text
pub plain_row-is : (text rest1 rest2 rest3 rest : List ℕ) (line ms : ℕ) (contact : Contact)
    → BeginsWithNumber LINE_DIGITS text line rest1 → BeginsWithContact rest1 contact rest2
    → BeginsWithNumber MS_DIGITS rest2 ms rest3 → rest3 ≡ 10 ∷ rest → may_last contact ms ≡ true
    → IsPlainRow text (row_of line contact ms) rest
plain_row-is text rest1 rest2 rest3 rest line ms contact (a, ea, el) (b, eb, ec) (c, e3, em) end may =
    let are = fields_of_row_are 0 a b c (row_of line contact ms) (row_is a b c line ms contact el ec em may) in
    rw (ea, eb, e3, end) ((a ∷ b ∷ c ∷ []), begins-plain a b c rest are.0, are.1)

-- a header of the plain form
pub plain_header : (text rest : List ℕ) → text ≡ codes "line,state,ms\n" ++ rest → BeginsWith text header rest
unfolding fields_text is_blank
plain_header text rest e = rw e (no_mark 108 _ (omega arith), read-write header rest)

-- what follows the header's text
pub header_after : (text : List ℕ) (found : Option (Bor (List ℕ)))
    → MatchOption found ((rest : List ℕ) → text ≢ codes "line,state,ms\n" ++ rest)
    (λ rest. text ≡ codes "line,state,ms\n" ++ rest.now)
    → IfSome found (λ rest. BeginsWith text header rest.now)
header_after text None e = tt
header_after text (Some rest) e = plain_header text rest.now e
