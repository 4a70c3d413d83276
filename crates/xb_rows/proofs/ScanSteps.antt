-- What a step of a reader of rows gives.
use Rattle.std.proofs.Common.{◌≡◌, ◌<◌, ◌^◌, ℕ, ◌+◌, List, [], ◌∷◌, Bool, true, false, cond, Option, Some, None, Result, Ok, Err, refl, sym, ap, ◌∙◌, inl, inr, ⊎_elim, arith}
use Rattle.std.specs.Prelude.{nat_lt, IfOk, IfSome, IsSome, option_map}
use Rattle.csv.specs.declared.reader.Reader.{Reader}
use Rattle.xb_model.specs.declared.fault.RowFault.{RowFault}
use Rattle.xb_model.specs.declared.fault.RowFault.TheVariants as fault
use Rattle.xb_model.specs.Rows.{LoopRow}
use Rattle.xb_model.specs.Sources.{Gives, Rest, told}
use Rattle.xb_rows.specs.RowTexts.{Fields, fault_alone, is_header, rest_from, rest_of_records, row_and_rest, row_of_fields, three_fields}
use Rattle.xb_rows.specs.Scanning.{CanCount, CanGo, GivesRead, IsGoing, TakesRow, of_slice, place_after, rest_at, rest_known}
use Rattle.xb_rows.specs.declared.scan.TheConstants.{MOST_RECORDS}

-- a row, and what follows it, may allocate
row_and_rest-allocates : (r : Result LoopRow RowFault) (rest : Rest)
    → (row_and_rest r rest).may_allocate ≡ true
row_and_rest-allocates (Ok row) rest = refl
row_and_rest-allocates (Err f) rest = refl

-- reading records may allocate
pub rest_from-allocates : (most n : ℕ) (records : List Fields) → (rest_from most n records).may_allocate ≡ true
unfolding rest_from
rest_from-allocates most n [] = refl
rest_from-allocates most n (fields ∷ later) = at (nat_lt most n)
  where
    next : Rest
    next = row_and_rest (row_of_fields n (three_fields fields)) (rest_from most (n + 1) later)

    at : (many : Bool) → (cond many (fault_alone fault.TooMany) next).may_allocate ≡ true
    at true = refl
    at false = row_and_rest-allocates (row_of_fields n (three_fields fields)) (rest_from most (n + 1) later)

-- and so may reading the header
rest_of_records-allocates : (most : ℕ) (records : List Fields) → (rest_of_records most records).may_allocate ≡ true
rest_of_records-allocates most [] = refl
rest_of_records-allocates most (first ∷ later) = at (is_header (three_fields first))
  where
    at : (right : Bool) → (cond right (rest_from most 1 later) (fault_alone fault.Header)).may_allocate ≡ true
    at true = rest_from-allocates most 1 later
    at false = refl

-- what reading a record gives
abbrev pub RowResult : Type 0
RowResult = Result (Option LoopRow) RowFault

-- a rest of records, of which some may be known
abbrev pub Allocates : Option Rest → Type 0
Allocates rest = IfSome rest (λ r. r.may_allocate ≡ true)

pub allocates-from : (most n : ℕ) (left : Option (List Fields)) → Allocates (option_map (rest_from most n) left)
allocates-from most n None = tt
allocates-from most n (Some records) = rest_from-allocates most n records

pub allocates-first : (most : ℕ) (left : Option (List Fields)) → Allocates (option_map (rest_of_records most) left)
allocates-first most None = tt
allocates-first most (Some records) = rest_of_records-allocates most records

abbrev rows_left : Rest → List LoopRow
rows_left rest = rest.rows

abbrev stop_of : Rest → Option RowFault
stop_of rest = rest.stop

-- a step gives what a reader of rows gives
pub step-gives : (most taken : ℕ) (old : Option Rest) (new : Option (List Fields)) (step : RowResult)
    → Allocates old → TakesRow most taken old new step
    → GivesRead old step (rest_at most (place_after taken step) new)
step-gives most taken None new (Ok (Some row)) may took = tt
step-gives most taken None new (Ok None) may took = refl
step-gives most taken None new (Err f) may took = refl
step-gives most taken (Some old) new (Ok (Some row)) may took =
    let (below, known) = took in
    let (later, is, e) = known in
    let still = rest_from-allocates most (taken + 1 + 1) later ∙ sym may in
    rw is (inl (ap rows_left e, sym (ap stop_of e), still))
step-gives most taken (Some old) new (Ok None) may took = inl (ap rows_left took, ap stop_of took, refl)
step-gives most taken (Some old) new (Err f) may took =
    ⊎_elim (λ e. inl (inl (ap rows_left e, ap stop_of e), refl))
    (⊎_elim (λ read. inr (may, ap Err read, ap (λ x. told (Some x)) read)) (λ memory. inl (inr (may, memory), refl))) took

-- a step that took a row can be counted
pub can_count : (most taken : ℕ) (old : Option Rest) (new : Option (List Fields)) (step : RowResult)
    → most < 2 ^ 64 → TakesRow most taken old new step → CanCount taken step
can_count most taken old new (Ok (Some row)) small took = omega (arith, took.0)
can_count most taken old new (Ok None) small took = tt
can_count most taken old new (Err f) small took = tt

-- after a step that took a row the reader goes on
pub step-goes_on : {R : Type 0} (r : Reader R) (taken : ℕ) (step : RowResult)
    → IfOk step (λ row. IsSome row → IsGoing r) → CanGo (place_after taken step) r
step-goes_on r taken (Ok (Some row)) goes = goes refl
step-goes_on r taken (Ok None) goes = tt
step-goes_on r taken (Err f) goes = tt

-- a step from a place where this rest was to come
abbrev pub Steps : ℕ → ℕ → Option Rest → Option (List Fields) → RowResult → Type 0
Steps most taken old new step = Allocates old × TakesRow most taken old new step

-- the step from the header
pub header-steps : (most : ℕ) (left : Option (List Fields)) (old : Option Rest) (new : Option (List Fields))
    (step : RowResult) → option_map (rest_of_records most) left ≡ old
    → TakesRow most 0 (option_map (rest_of_records most) left) new step → Steps most 0 old new step
header-steps most left old new step here took = rw (sym here) (allocates-first most left, took)

-- the step after so many records
pub record-steps : (most taken : ℕ) (left : Option (List Fields)) (old : Option Rest)
    (new : Option (List Fields)) (step : RowResult) → option_map (rest_from most (taken + 1)) left ≡ old
    → TakesRow most taken (option_map (rest_from most (taken + 1)) left) new step → Steps most taken old new step
record-steps most taken left old new step here took = rw (sym here) (allocates-from most (taken + 1) left, took)

-- what a step gives of a slice
takes-of_slice : (most taken : ℕ) (old : Rest) (new : Option (List Fields)) (step : RowResult)
    → TakesRow most taken (Some old) new step → TakesRow most taken (Some old) new (of_slice step)
takes-of_slice most taken old new (Ok row) took = took
takes-of_slice most taken old new (Err fault.Read) took = inr (inr refl)
takes-of_slice most taken old new (Err fault.Header) took = took
takes-of_slice most taken old new (Err (fault.Fields n)) took = took
takes-of_slice most taken old new (Err (fault.Line n)) took = took
takes-of_slice most taken old new (Err (fault.Contact n)) took = took
takes-of_slice most taken old new (Err (fault.Ms n)) took = took
takes-of_slice most taken old new (Err fault.TooMany) took = took
takes-of_slice most taken old new (Err fault.NoMemory) took = took

-- which is no failed read
never_fails : (step : RowResult) → of_slice step ≡ Err fault.Read → ⊥
never_fails (Ok row) e = cc e
never_fails (Err fault.Read) e = cc e
never_fails (Err fault.Header) e = cc e
never_fails (Err (fault.Fields n)) e = cc e
never_fails (Err (fault.Line n)) e = cc e
never_fails (Err (fault.Contact n)) e = cc e
never_fails (Err (fault.Ms n)) e = cc e
never_fails (Err fault.TooMany) e = cc e
never_fails (Err fault.NoMemory) e = cc e

-- what a scan gives, whose bytes are known
scan-gives : (taken : ℕ) (was : Option Rest) (old : Rest) (new : Option (List Fields)) (step : RowResult)
    → IsSome was → rest_known was ≡ old → Steps MOST_RECORDS taken was new step
    → Gives old (of_slice step) (rest_known (rest_at MOST_RECORDS (place_after taken (of_slice step)) new))
scan-gives taken None old new step known is steps = cc known
scan-gives taken (Some was) old new step known is steps =
    let taken_of = takes-of_slice MOST_RECORDS taken was new step steps.1 in
    let gives = step-gives MOST_RECORDS taken (Some was) new (of_slice step) steps.0 taken_of in
    rw (sym is) (by (rest_at MOST_RECORDS (place_after taken (of_slice step)) new) gives)
  where
    by : (after : Option Rest) → GivesRead (Some was) (of_slice step) after → Gives was (of_slice step) (rest_known after)
    by None gives = absurd gives
    by (Some rest) gives = ⊎_elim (λ g. g) (λ f. absurd (never_fails step f.1)) gives

-- the same, as the places have it
abbrev pub ScanGives : ℕ → Rest → Option (List Fields) → RowResult → Type 0
ScanGives taken old new step =
    Gives old (of_slice step) (rest_known (rest_at MOST_RECORDS (place_after taken (of_slice step)) new))

pub scan-header : (left : Option (List Fields)) (old : Rest) (new : Option (List Fields)) (step : RowResult)
    → IsSome (option_map (rest_of_records MOST_RECORDS) left)
    → rest_known (option_map (rest_of_records MOST_RECORDS) left) ≡ old
    → TakesRow MOST_RECORDS 0 (option_map (rest_of_records MOST_RECORDS) left) new step → ScanGives 0 old new step
scan-header left old new step known is took =
    scan-gives 0 _ old new step known is (allocates-first MOST_RECORDS left, took)

pub scan-record : (taken : ℕ) (left : Option (List Fields)) (old : Rest) (new : Option (List Fields))
    (step : RowResult) → IsSome (option_map (rest_from MOST_RECORDS (taken + 1)) left)
    → rest_known (option_map (rest_from MOST_RECORDS (taken + 1)) left) ≡ old
    → TakesRow MOST_RECORDS taken (option_map (rest_from MOST_RECORDS (taken + 1)) left) new step
    → ScanGives taken old new step
scan-record taken left old new step known is took =
    scan-gives taken _ old new step known is (allocates-from MOST_RECORDS (taken + 1) left, took)

-- after a step of a scan
pub scan-goes_on : {R : Type 0} (r : Reader R) (taken : ℕ) (was : Option Rest) (new : Option (List Fields))
    (step : RowResult) → IsSome was → IfOk step (λ row. IsSome row → IsGoing r)
    → TakesRow MOST_RECORDS taken was new step
    → CanGo (place_after taken (of_slice step)) r
    × IsSome (rest_at MOST_RECORDS (place_after taken (of_slice step)) new)
scan-goes_on r taken None new step known goes took = cc known
scan-goes_on r taken (Some was) new (Ok (Some row)) known goes took =
    (goes refl, rw took.1.1 refl)
scan-goes_on r taken (Some was) new (Ok None) known goes took = (tt, refl)
scan-goes_on r taken (Some was) new (Err f) known goes took = stops (of_slice (Err f)) (is_err f)
  where
    stops : (x : RowResult) → ((f : RowFault) × (x ≡ Err f)) → CanGo (place_after taken x) r
        × IsSome (rest_at MOST_RECORDS (place_after taken x) new)
    stops x (g, e) = rw e (tt, refl)

    is_err : (f : RowFault) → (g : RowFault) × (of_slice (Err f) ≡ Err g)
    is_err fault.Read = (_, refl)
    is_err fault.Header = (_, refl)
    is_err (fault.Fields n) = (_, refl)
    is_err (fault.Line n) = (_, refl)
    is_err (fault.Contact n) = (_, refl)
    is_err (fault.Ms n) = (_, refl)
    is_err fault.TooMany = (_, refl)
    is_err fault.NoMemory = (_, refl)
