-- Rows that are read of a text are rows.
use Rattle.std.proofs.Common.{◌≡◌, ◌<◌, ◌≤◌, ◌+◌, ◌^◌, ℕ, List, [], ◌∷◌, length, Option, Some, None, Result, Ok, Err, Bool, true, false, ◌&&◌, cond, refl, subst, arith, leb-true}
use Rattle.std.specs.Prelude.{nat_le, nat_lt, if◌then◌else◌, option_and_then}
use Rattle.std.specs.List.{AllByRecursion}
use Rattle.std.specs.Str.{all_ascii_digits}
use Rattle.std.specs.Str.Parse.{digits_value}
use Rattle.std.proofs.lemmas.List.Elements.{All-from_recursion}
use Rattle.std.proofs.lemmas.Str.Parse.{digits_value_short, numerals_by_value, tells_all_ascii_digits}
use Rattle.csv.specs.Reading.{default_config, records, strip_bom}
use Rattle.xb_model.specs.declared.field.TheConstants.{LINE_DIGITS}
use Rattle.xb_model.specs.declared.line.TheConstants.{LINES}
use Rattle.xb_model.specs.declared.row.Contact.{Contact}
use Rattle.xb_model.specs.declared.fault.RowFault.{RowFault}
use Rattle.xb_model.specs.declared.fault.RowFault.TheVariants as fault
use Rattle.xb_model.specs.Fields.{line_of}
use Rattle.xb_model.specs.Rows.{IsRow, LoopRow, may_last, row_of}
use Rattle.xb_model.specs.Sources.{Rest}
use Rattle.xb_rows.specs.RowTexts.{Fields, ThreeFields, contact_of, fault_alone, is_header, ms_of, or_fault, rest_from, rest_of_records, rest_within, row_and_rest, row_of_fields, three_fields}
use Rattle.xb_rows.specs.WrittenRows.{AreRows, IsLawfulRow}

-- a field of a line has one of the office
line_below : (field : List ℕ) (line : ℕ) → line_of field ≡ Some line → line < LINES
line_below field line e =
    by (nat_le 1 (length field)) (nat_le (length field) LINE_DIGITS) (all_ascii_digits field) refl refl e
  where
    by : (a b c : Bool) → nat_le (length field) LINE_DIGITS ≡ b → all_ascii_digits field ≡ c
        → (if a && b && c then Some (digits_value 10 field) else None) ≡ Some line → line < LINES
    by true true true short digits e =
        let few : length field ≤ LINE_DIGITS = leb-true (length field) LINE_DIGITS short in
        let below : digits_value 10 field < 10 ^ LINE_DIGITS
        = digits_value_short (numerals_by_value _ tells_all_ascii_digits) field LINE_DIGITS digits few in
        let is : digits_value 10 field ≡ line = cc in
        omega (arith, below, is)
    by false b c short digits e = cc e
    by true false c short digits e = cc e
    by true true false short digits e = cc e

-- a time of a row is one that it may last
time_may : (contact : Contact) (field : List ℕ) (ms : ℕ) → ms_of contact field ≡ Some ms → IsRow contact ms
time_may contact field ms e = by _ e
  where
    at : (x : ℕ) (b : Bool) → may_last contact x ≡ b → (if b then Some x else None) ≡ Some ms → IsRow contact ms
    at x true is e =
        let same : x ≡ ms = cc in
        subst (λ n. IsRow contact n) same is
    at x false is e = cc e

    by : (o : Option ℕ) → option_and_then (λ x. if may_last contact x then Some x else None) o ≡ Some ms → IsRow contact ms
    by None e = cc e
    by (Some x) e = at x (may_last contact x) refl e

-- the row of a record
row_lawful : (n : ℕ) (fields : Option ThreeFields) (row : LoopRow) → row_of_fields n fields ≡ Ok row → IsLawfulRow row
row_lawful n None row e = cc e
row_lawful n (Some t) row e = by_line (line_of t.0) refl e
  where
    by_ms : (line : ℕ) (contact : Contact) (o : Option ℕ) → line < LINES → ms_of contact t.2 ≡ o
        → or_fault (fault.Ms n) o (λ ms. Ok (row_of line contact ms)) ≡ Ok row → IsLawfulRow row
    by_ms line contact None below is e = cc e
    by_ms line contact (Some ms) below is e =
        let same : row_of line contact ms ≡ row = cc in
        subst IsLawfulRow same (below, time_may contact t.2 ms is)

    by_contact : (line : ℕ) (o : Option Contact) → line < LINES
        → or_fault (fault.Contact n) o (λ contact. or_fault (fault.Ms n) (ms_of contact t.2) (λ ms. Ok (row_of line contact ms))) ≡ Ok row
        → IsLawfulRow row
    by_contact line None below e = cc e
    by_contact line (Some contact) below e = by_ms line contact (ms_of contact t.2) below refl e

    by_line : (o : Option ℕ) → line_of t.0 ≡ o
        → or_fault (fault.Line n) o (λ line. or_fault (fault.Contact n) (contact_of t.1) (λ contact. or_fault (fault.Ms n) (ms_of contact t.2) (λ ms. Ok (row_of line contact ms)))) ≡ Ok row
        → IsLawfulRow row
    by_line None is e = cc e
    by_line (Some line) is e = by_contact line (contact_of t.1) (line_below t.0 line is) e

-- the rows from a record on
from_lawful : (most n : ℕ) (left : List Fields) → AllByRecursion IsLawfulRow (rest_from most n left).rows
unfolding rest_from
from_lawful most n [] = tt
from_lawful most n (fields ∷ later) =
    at (nat_lt most n) (row_of_fields n (three_fields fields)) refl (from_lawful most (n + 1) later)
  where
    next : Rest
    next = rest_from most (n + 1) later

    at : (many : Bool) (r : Result LoopRow RowFault) → row_of_fields n (three_fields fields) ≡ r
        → AllByRecursion IsLawfulRow next.rows
        → AllByRecursion IsLawfulRow (cond many (fault_alone fault.TooMany) (row_and_rest r next)).rows
    at true r is all = tt
    at false (Err f) is all = tt
    at false (Ok row) is all = (row_lawful n (three_fields fields) row is, all)

records_lawful : (most : ℕ) (left : List Fields) → AllByRecursion IsLawfulRow (rest_of_records most left).rows
records_lawful most [] = tt
records_lawful most (first ∷ later) = at (is_header (three_fields first))
  where
    at : (right : Bool)
        → AllByRecursion IsLawfulRow (cond right (rest_from most 1 later) (fault_alone fault.Header)).rows
    at true = from_lawful most 1 later
    at false = tt

-- the rows of a text
pub read_rows_are_rows : (most : ℕ) (text : List ℕ) → AreRows (rest_within most text).rows
read_rows_are_rows most text =
    All-from_recursion IsLawfulRow (rest_within most text).rows
    (records_lawful most (records default_config (strip_bom text)))
