-- What reading a record after so many gives, by what reading its fields gave.
use Rattle.std.proofs.Common.{◌≡◌, ◌≤◌, ◌<◌, ◌+◌, ℕ, List, Option, Some, None, Bool, true, false, Result, Ok, Err, inl, arith, sym, ◌∙◌, refl}
use Rattle.std.specs.Prelude.{option_map}
use Rattle.xb_model.specs.Rows.{LoopRow}
use Rattle.xb_model.specs.declared.fault.RowFault.{RowFault}
use Rattle.xb_model.specs.declared.fault.RowFault.TheVariants as fault
use Rattle.xb_rows.specs.RowTexts.{Fields, ThreeFields, rest_from, is_header, rest_of_records, row_of_fields, three_fields}
use Rattle.xb_rows.specs.Scanning.{TakesHeader, TakesRecord, TakesRow}
use Rattle.xb_rows.specs.StreamRecords.{TakesJudged}
use Rattle.xb_rows.proofs.JudgedRecords.{header-whole, row-whole}
use Rattle.xb_rows.proofs.RestOfRecords.{rest_from-none, rest_from-many, rest_from-more}

-- a record that was read whole is judged by its fields
pub read-whole : (old new : Option (List Fields)) (f : Fields) (found : Bool) → TakesRecord old new f (Ok found)
    → TakesJudged old new (three_fields f) (Ok found)
read-whole None new f true r = tt
read-whole None new f false r = tt
read-whole (Some left) new f true (later, is, e) =
    (f, later, e, record { header = refl; row = λ n. refl }, λ whole. is)
read-whole (Some left) new f false r = r

-- no record is left
pub no-row : (most taken : ℕ) (old new : Option (List Fields)) (kept : Option ThreeFields) → TakesJudged old new kept (Ok false)
    → TakesRow most taken (option_map (rest_from most (taken + 1)) old) new (Ok None)
no-row most taken None new kept r = tt
no-row most taken (Some left) new kept r = rest_from-none most (taken + 1) left r

-- a record too many
pub too-many : (most taken : ℕ) (old new : Option (List Fields)) (kept : Option ThreeFields) → TakesJudged old new kept (Ok true)
    → most ≤ taken → TakesRow most taken (option_map (rest_from most (taken + 1)) old) new (Err fault.TooMany)
too-many most taken None new kept r h = tt
too-many most taken (Some left) new kept (fields, later, e, stand, whole) h =
    inl (rest_from-many most (taken + 1) left fields later e (omega arith))

-- a record that is no row
pub wrong-row : (most taken : ℕ) (old new : Option (List Fields)) (kept : Option ThreeFields) (x : RowFault)
    → TakesJudged old new kept (Ok true) → taken < most → Err x ≡ row_of_fields (taken + 1) kept
    → TakesRow most taken (option_map (rest_from most (taken + 1)) old) new (Err x)
wrong-row most taken None new kept x r h w = tt
wrong-row most taken (Some left) new kept x (fields, later, e, stand, whole) h w =
    inl (rest_from-more most (taken + 1) left fields later (Err x) e (omega arith) (w ∙ sym (stand.row (taken + 1))))

-- a row
pub right-row : (most taken : ℕ) (old new : Option (List Fields)) (kept : Option ThreeFields) (row : LoopRow)
    → TakesJudged old new kept (Ok true) → taken < most → Ok row ≡ row_of_fields (taken + 1) kept
    → TakesRow most taken (option_map (rest_from most (taken + 1)) old) new (Ok (Some row))
right-row most taken None new kept row r h w = (h, tt)
right-row most taken (Some left) new kept row (fields, later, e, stand, whole) h w = (
  h,
  (
    later,
    whole (row-whole (taken + 1) kept row w),
    rest_from-more most (taken + 1) left fields later (Ok row) e (omega arith) (w ∙ sym (stand.row (taken + 1))),
  ),
)

-- a record that is the header
pub right-header : (most : ℕ) (old new : Option (List Fields)) (kept : Option ThreeFields)
    → TakesJudged old new kept (Ok true) → is_header kept ≡ true → TakesHeader most old new (Ok tt)
right-header most None new kept r h = tt
right-header most (Some left) new kept (fields, later, e, stand, whole) h =
    (later, whole (header-whole kept h), rw (e, stand.header, h) refl)

-- or is not
pub wrong-header : (most : ℕ) (old new : Option (List Fields)) (kept : Option ThreeFields)
    → TakesJudged old new kept (Ok true) → is_header kept ≡ false → TakesHeader most old new (Err fault.Header)
wrong-header most None new kept r h = tt
wrong-header most (Some left) new kept (fields, later, e, stand, whole) h = inl (rw (e, stand.header, h) refl)

-- no record is left, so no header
pub missing-header : (most : ℕ) (old new : Option (List Fields)) (kept : Option ThreeFields)
    → TakesJudged old new kept (Ok false) → TakesHeader most old new (Err fault.Header)
missing-header most None new kept r = tt
missing-header most (Some left) new kept r = inl (rw r refl)

-- the header is not there
pub no-header : (most : ℕ) (old new : Option (List Fields)) (x : RowFault) → TakesHeader most old new (Err x)
    → TakesRow most 0 (option_map (rest_of_records most) old) new (Err x)
no-header most None new x h = tt
no-header most (Some left) new x h = h

-- the header, and then a record
pub first-row : (most : ℕ) (old middle new : Option (List Fields)) (step : Result (Option LoopRow) RowFault)
    → TakesHeader most old middle (Ok tt) → TakesRow most 0 (option_map (rest_from most 1) middle) new step
    → TakesRow most 0 (option_map (rest_of_records most) old) new step
first-row most None middle new (Ok (Some row)) h r = (r.0, tt)
first-row most None middle new (Ok None) h r = tt
first-row most None middle new (Err x) h r = tt
first-row most (Some left) middle new (Ok (Some row)) (later, is, e) r = rw e (rw is at r)
first-row most (Some left) middle new (Ok None) (later, is, e) r = rw e (rw is at r)
first-row most (Some left) middle new (Err x) (later, is, e) r = rw e (rw is at r)
