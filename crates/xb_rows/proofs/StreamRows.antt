-- What a stream gives beside its text.
use Rattle.std.proofs.Common.{◌≡◌, ◌≤◌, ◌<◌, ◌⊎◌, ◌+◌, ℕ, List, [], ◌∷◌, length, Bool, true, false, cond, ◌||◌, Option, Some, None, Result, Ok, Err, refl, sym, ap, ap₂, subst, ◌∙◌, inl, inr, ⊎_elim, arith}
use Rattle.std.specs.Prelude.{map, nat_lt, option_map, take}
use Rattle.std.specs.List.{All, list_any}
use Rattle.std.proofs.lemmas.Bool.{cases_Bool, ltb-true, ltb-false}
use Rattle.std.proofs.lemmas.List.Elements.{All-head, All-tail}
use Rattle.csv.specs.Reading.{default_config, records, strip_bom}
use Rattle.csv.specs.declared.parser.State.TheVariants as st
use Rattle.xb_model.specs.Rows.{LoopRow}
use Rattle.xb_model.specs.Sources.{Rest}
use Rattle.xb_model.specs.declared.fault.RowFault.{RowFault}
use Rattle.xb_model.specs.declared.fault.RowFault.TheVariants as fault
use Rattle.xb_rows.specs.declared.kept.TheConstants.{MOST_FIELD_BYTES}
use Rattle.xb_rows.specs.Kept.{StandFor}
use Rattle.xb_rows.specs.RowTexts.{Fields, fault_alone, is_header, rest_from, rest_of_records, row_and_rest, row_of_fields, three_fields}
use Rattle.xb_rows.specs.Scanning.{records_of_bytes}
use Rattle.xb_rows.specs.Streams.{IsPlainlyJudged, StreamsAreTexts, has_long, is_long, rest_of_stream, shown}
use Rattle.xb_rows.proofs.JudgedRecords.{first-stands, header-whole, row-whole, second-stands, shown-three, third-stands}

-- a new reader has all records of its stream to give
pub stream_left-start : (most : ℕ) (text : Option (List ℕ)) (left : Option (List Fields))
    → left ≡ option_map (map shown) (records_of_bytes st.StartRecord (option_map strip_bom text))
    → option_map (rest_of_records most) left ≡ option_map (rest_of_stream most) text
unfolding records_of_bytes
stream_left-start most text left e = ap (option_map (rest_of_records most)) e ∙ at text
  where
    at : (known : Option (List ℕ))
        → option_map (rest_of_records most) (option_map (map shown) (records_of_bytes st.StartRecord (option_map strip_bom known)))
        ≡ option_map (rest_of_stream most) known
    at None = refl
    at (Some bytes) = refl

-- ---- one record

-- without a long field
shown-short : (fields : Fields) → has_long fields ≡ false → shown fields ≡ fields
shown-short fields short = rw short refl

-- of three fields
shown-of_three : (fields : Fields) → length fields ≡ 3 → shown fields ≡ fields
shown-of_three [] n = absurd (omega arith)
shown-of_three (a ∷ []) n = absurd (omega arith)
shown-of_three (a ∷ b ∷ []) n = absurd (omega arith)
shown-of_three (a ∷ b ∷ c ∷ []) n = shown-three a b c
shown-of_three (a ∷ b ∷ c ∷ d ∷ rest) n = absurd (omega arith)

shown-same : (fields : Fields) → IsPlainlyJudged fields → shown fields ≡ fields
shown-same fields judged = ⊎_elim (shown-short fields) (shown-of_three fields) judged

-- a row has three fields
row-of_three : (n : ℕ) (fields : Fields) (row : LoopRow) → Ok row ≡ row_of_fields n (three_fields fields)
    → length fields ≡ 3
row-of_three n [] row e = cc e
row-of_three n (a ∷ []) row e = cc e
row-of_three n (a ∷ b ∷ []) row e = cc e
row-of_three n (a ∷ b ∷ c ∷ []) row e = refl
row-of_three n (a ∷ b ∷ c ∷ d ∷ rest) row e = cc e

-- and so has a header
header-of_three : (fields : Fields) → is_header (three_fields fields) ≡ true → length fields ≡ 3
header-of_three [] e = cc e
header-of_three (a ∷ []) e = cc e
header-of_three (a ∷ b ∷ []) e = cc e
header-of_three (a ∷ b ∷ c ∷ []) e = refl
header-of_three (a ∷ b ∷ c ∷ d ∷ rest) e = cc e

below-long : (field : List ℕ) → is_long field ≡ false → length field ≤ MOST_FIELD_BYTES
below-long field e = ltb-false MOST_FIELD_BYTES (length field) e

above-long : (field : List ℕ) → is_long field ≡ true → MOST_FIELD_BYTES < length field
above-long field e = ltb-true MOST_FIELD_BYTES (length field) e

-- ---- a record with a long field

-- what stands for one has no third field
abbrev StandsUnended : Fields → Type 0
StandsUnended fields = (a : List ℕ) × (b : List ℕ) × StandFor (Some (a, b, [])) (shown fields)

long-third : (a b : List ℕ) (rest : Fields) → length a ≤ MOST_FIELD_BYTES → length b ≤ MOST_FIELD_BYTES
    → list_any is_long (take 1 rest) ≡ true → StandsUnended (a ∷ b ∷ rest)
long-third a b [] sa sb long = cc long
long-third a b (c ∷ rest) sa sb long = by (is_long c) refl long
  where
    by : (x : Bool) → is_long c ≡ x → (x || list_any is_long (take 0 rest)) ≡ true → StandsUnended (a ∷ b ∷ c ∷ rest)
    by true is any = (a, b, third-stands a b c rest sa sb (above-long c is))
    by false is any = cc any

long-second : (a : List ℕ) (rest : Fields) → length a ≤ MOST_FIELD_BYTES → list_any is_long (take 2 rest) ≡ true
    → StandsUnended (a ∷ rest)
long-second a [] sa long = cc long
long-second a (b ∷ rest) sa long = by (is_long b) refl long
  where
    by : (x : Bool) → is_long b ≡ x → (x || list_any is_long (take 1 rest)) ≡ true → StandsUnended (a ∷ b ∷ rest)
    by true is any = (a, [], second-stands a b rest sa (above-long b is))
    by false is any = long-third a b rest sa (below-long b is) any

long-stands : (fields : Fields) → has_long fields ≡ true → StandsUnended fields
long-stands [] long = cc long
long-stands (a ∷ rest) long = by (is_long a) refl long
  where
    by : (x : Bool) → is_long a ≡ x → (x || list_any is_long (take 2 rest)) ≡ true → StandsUnended (a ∷ rest)
    by true is any = ([], [], first-stands a rest (above-long a is))
    by false is any = long-second a rest (below-long a is) any

-- so it is no row
long-no_row : (n : ℕ) (fields : Fields) (row : LoopRow) → has_long fields ≡ true
    → Ok row ≡ row_of_fields n (three_fields (shown fields)) → ⊥
long-no_row n fields row long e =
    let (a, b, stands) = long-stands fields long in
    row-whole n (Some (a, b, [])) row (e ∙ stands.row n)

-- and no header
long-no_header : (fields : Fields) → has_long fields ≡ true → is_header (three_fields (shown fields)) ≡ false
long-no_header fields long =
    let (a, b, stands) = long-stands fields long in
    stands.header ∙ ⊎_elim (λ is. absurd (header-whole (Some (a, b, [])) is)) (λ other. other) (cases_Bool (is_header (Some (a, b, []))))

-- ---- records of which all are rows

-- a record that is a row in a stream, or in a text, is the same in both
row-streamed : (n : ℕ) (fields : Fields) (row : LoopRow) → Ok row ≡ row_of_fields n (three_fields (shown fields))
    → row_of_fields n (three_fields (shown fields)) ≡ row_of_fields n (three_fields fields)
row-streamed n fields row e =
    ⊎_elim (λ long. absurd (long-no_row n fields row long e))
    (λ short. ap (λ fs. row_of_fields n (three_fields fs)) (shown-short fields short)) (cases_Bool (has_long fields))

row-written : (n : ℕ) (fields : Fields) (row : LoopRow) → Ok row ≡ row_of_fields n (three_fields fields)
    → row_of_fields n (three_fields (shown fields)) ≡ row_of_fields n (three_fields fields)
row-written n fields row e =
    ap (λ fs. row_of_fields n (three_fields fs)) (shown-of_three fields (row-of_three n fields row e))

-- and so is a header
header-same : (fields : Fields) → is_header (three_fields (shown fields)) ≡ is_header (three_fields fields)
header-same fields =
    ⊎_elim
    (λ long. ⊎_elim
    (λ is. ap (λ fs. is_header (three_fields fs)) (shown-of_three fields (header-of_three fields is)))
    (λ other. long-no_header fields long ∙ sym other)
    (cases_Bool (is_header (three_fields fields))))
    (λ short. ap (λ fs. is_header (three_fields fs)) (shown-short fields short))
    (cases_Bool (has_long fields))

-- one of two rests has no fault
abbrev OneEnds : Rest → Rest → Type 0
OneEnds a b = (a.stop ≡ None) ⊎ (b.stop ≡ None)

-- a record before rests that are the same where one has no fault
streamed-step : (r s : Result LoopRow RowFault) (one two : Rest) → ((row : LoopRow) → Ok row ≡ r → r ≡ s)
    → (one.stop ≡ None → one ≡ two) → (row_and_rest r one).stop ≡ None → row_and_rest r one ≡ row_and_rest s two
streamed-step (Err f) s one two rows same stop = absurd (cc stop)
streamed-step (Ok row) s one two rows same stop =
    subst (λ x. row_and_rest (Ok row) one ≡ row_and_rest x two) (rows row refl) (ap (row_and_rest (Ok row)) (same stop))

both-steps : (r s : Result LoopRow RowFault) (one two : Rest) → ((row : LoopRow) → Ok row ≡ r → r ≡ s)
    → ((row : LoopRow) → Ok row ≡ s → r ≡ s) → (OneEnds one two → one ≡ two)
    → OneEnds (row_and_rest r one) (row_and_rest s two) → row_and_rest r one ≡ row_and_rest s two
both-steps r s one two left right same (inl stop) =
    streamed-step r s one two left (λ ends. same (inl ends)) stop
both-steps r s one two left right same (inr stop) =
    sym (streamed-step s r two one (λ row e. sym (right row e)) (λ ends. sym (same (inr ends))) stop)

from-same : (most n : ℕ) (left : List Fields) → OneEnds (rest_from most n (map shown left)) (rest_from most n left)
    → rest_from most n (map shown left) ≡ rest_from most n left
unfolding rest_from
from-same most n [] ends = refl
from-same most n (fields ∷ later) ends = at (nat_lt most n) (λ rest. from-same most (n + 1) later rest) ends
  where
    one : Rest
    one = rest_from most (n + 1) (map shown later)

    two : Rest
    two = rest_from most (n + 1) later

    r : Result LoopRow RowFault
    r = row_of_fields n (three_fields (shown fields))

    s : Result LoopRow RowFault
    s = row_of_fields n (three_fields fields)

    at : (many : Bool) → (OneEnds one two → one ≡ two)
        → OneEnds (cond many (fault_alone fault.TooMany) (row_and_rest r one)) (cond many (fault_alone fault.TooMany) (row_and_rest s two))
        → cond many (fault_alone fault.TooMany) (row_and_rest r one) ≡ cond many (fault_alone fault.TooMany) (row_and_rest s two)
    at true same ends = refl
    at false same ends = both-steps r s one two (row-streamed n fields) (row-written n fields) same ends

records-same : (most : ℕ) (left : List Fields) → OneEnds (rest_of_records most (map shown left)) (rest_of_records most left)
    → rest_of_records most (map shown left) ≡ rest_of_records most left
records-same most [] ends = refl
records-same most (first ∷ later) ends =
    at (is_header (three_fields (shown first))) (is_header (three_fields first)) (header-same first) ends
  where
    one : Bool → Rest
    one is = cond is (rest_from most 1 (map shown later)) (fault_alone fault.Header)

    two : Bool → Rest
    two is = cond is (rest_from most 1 later) (fault_alone fault.Header)

    at : (x y : Bool) → x ≡ y → OneEnds (one x) (two y) → one x ≡ two y
    at true true e ends = from-same most 1 later ends
    at false false e ends = refl
    at true false e ends = cc e
    at false true e ends = cc e

-- ---- records without long fields

all-same : (left : List Fields) → All IsPlainlyJudged left → map shown left ≡ left
all-same [] judged = refl
all-same (fields ∷ later) judged =
    ap₂ (λ (f : Fields) (fs : List Fields). f ∷ fs) (shown-same fields (All-head IsPlainlyJudged fields later judged))
    (all-same later (All-tail IsPlainlyJudged fields later judged))

pub streams_are_texts : StreamsAreTexts
streams_are_texts = record {
  record_same = shown-same;
  text_same = λ most text judged.
      ap (rest_of_records most) (all-same (records default_config (strip_bom text)) judged);
  rows_same = λ most text ends. records-same most (records default_config (strip_bom text)) ends;
}
