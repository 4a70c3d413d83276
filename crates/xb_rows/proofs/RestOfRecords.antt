-- What records say, by their first.
use Rattle.std.proofs.Common.{◌≡◌, ◌≤◌, ◌<◌, ◌+◌, ℕ, List, [], ◌∷◌, length, None, Result, Ok, Err, Bool, true, false, cond, refl, arith}
use Rattle.std.specs.Prelude.{nat_lt}
use Rattle.std.proofs.lemmas.Bool.{le-ltb, lt-ltb, ltb-false}
use Rattle.xb_model.specs.Rows.{LoopRow}
use Rattle.xb_model.specs.Sources.{Rest}
use Rattle.xb_model.specs.declared.fault.RowFault.{RowFault}
use Rattle.xb_model.specs.declared.fault.RowFault.TheVariants as fault
use Rattle.xb_rows.specs.RowTexts.{Fields, fault_alone, is_header, rest_from, rest_of_records, row_and_rest, row_of_fields, stop_alone, three_fields}

-- no record
pub rest_from-none : (most n : ℕ) (left : List Fields) → left ≡ [] → rest_from most n left ≡ stop_alone None
unfolding rest_from
rest_from-none most n left e = rw e refl

-- a record too many
pub rest_from-many : (most n : ℕ) (left : List Fields) (f : Fields) (later : List Fields)
    → left ≡ f ∷ later → most < n → rest_from most n left ≡ fault_alone fault.TooMany
unfolding rest_from
rest_from-many most n left f later e h = rw (e, lt-ltb most n h) refl

-- one record more
pub rest_from-more : (most n : ℕ) (left : List Fields) (f : Fields) (later : List Fields)
    (r : Result LoopRow RowFault) → left ≡ f ∷ later → n ≤ most → r ≡ row_of_fields n (three_fields f)
    → rest_from most n left ≡ row_and_rest r (rest_from most (n + 1) later)
unfolding rest_from
rest_from-more most n left f later r e h is = rw (e, le-ltb most n h, is) refl

-- there are no more rows than records may follow the header
few_from : (most n : ℕ) (left : List Fields) → n ≤ most + 1 → length (rest_from most n left).rows + n ≤ most + 1
unfolding rest_from
few_from most n [] h = omega arith
few_from most n (fields ∷ later) h =
    at (nat_lt most n) refl (row_of_fields n (three_fields fields)) (λ below. few_from most (n + 1) later below)
  where
    next : Rest
    next = rest_from most (n + 1) later

    at : (many : Bool) → nat_lt most n ≡ many → (r : Result LoopRow RowFault)
        → (n + 1 ≤ most + 1 → length next.rows + (n + 1) ≤ most + 1)
        → length (cond many (fault_alone fault.TooMany) (row_and_rest r next)).rows + n ≤ most + 1
    at true is r few = omega arith
    at false is (Err f) few = omega arith
    at false is (Ok one) few = omega (arith, few (omega (arith, ltb-false most n is)))

pub few_rows : (most : ℕ) (left : List Fields) → length (rest_of_records most left).rows ≤ most
few_rows most [] = omega arith
few_rows most (first ∷ later) = at (is_header (three_fields first))
  where
    at : (right : Bool) → length (cond right (rest_from most 1 later) (fault_alone fault.Header)).rows ≤ most
    at true = omega (arith, few_from most 1 later (omega arith))
    at false = omega arith
