-- What a scan gives of plain records, and where `csv` reads on.
use Rattle.std.proofs.Common.{◌≡◌, ◌<◌, ◌+◌, ℕ, List, ◌∷◌, drop, Option, Some, None, IsSome, Bool, true, false, Result, Ok, Err, refl, sym, ap, ap₂, ◌∙◌, inl, inr, ⊎_elim, arith}
use Rattle.csv.specs.Reading.{default_config, records, strip_bom}
use Rattle.csv.specs.declared.parser.State.{State}
use Rattle.csv.specs.declared.parser.State.TheVariants as st
use Rattle.csv.specs.declared.reader.Reader.{Reader}
use Rattle.xb_model.specs.Rows.{LoopRow}
use Rattle.xb_model.specs.Sources.{Gives, Rest}
use Rattle.xb_model.specs.declared.fault.RowFault.{RowFault}
use Rattle.xb_rows.specs.declared.scan.TheConstants.{MOST_RECORDS}
use Rattle.xb_rows.specs.Plain.{BeginsWith, IsPlainRow, IsScanAfter, rest_after, rest_of_bytes}
use Rattle.xb_rows.specs.RowTexts.{Fields, rest_from, rest_of_records, rest_of_text}
use Rattle.xb_rows.specs.Scanning.{CanGo, IsGoing, TakesRecord, place_resumed, records_of_bytes, rest_at, rest_known}
use Rattle.xb_rows.specs.WrittenRows.{header}
use Rattle.xb_rows.proofs.RecordCounts.{records-more}
use Rattle.xb_rows.proofs.RestOfRecords.{rest_from-more}
use Rattle.xb_rows.proofs.ScanSteps.{rest_from-allocates}

-- the records of a text that begins so
pub records-begin : (text : List ℕ) (fields : Fields) (rest : List ℕ) → BeginsWith text fields rest
    → records default_config text ≡ fields ∷ records default_config rest
records-begin text fields rest begins =
    records-more default_config st.StartRecord text (fields, st.StartRecord, rest) begins.1

-- a text that begins with the header is the rest after it
pub header-rest : (text rest : List ℕ) → BeginsWith text header rest → rest_of_bytes 0 rest ≡ rest_of_text text
header-rest text rest begins =
    sym (ap (λ bytes. rest_of_records MOST_RECORDS (records default_config bytes)) begins.0
    ∙ ap (rest_of_records MOST_RECORDS) (records-begin text header rest begins))

-- a plain row is what a source of the rest gives
pub plain-gives : (taken : ℕ) (text : List ℕ) (row : LoopRow) (rest : List ℕ) (csv : Option Rest) (old : Rest)
    → csv ≡ None → rest_after taken text csv ≡ old → taken < MOST_RECORDS → IsPlainRow text row rest
    → Gives old (Ok (Some row)) (rest_after (taken + 1) rest csv)
plain-gives taken text row rest csv old none is few (fields, begins, reads) =
    let here : rest_of_bytes taken text ≡ old = rw none at is in
    let next = rest_from-more MOST_RECORDS (taken + 1) (records default_config text) fields _ (Ok row)
    (records-begin text fields rest begins) (omega arith) (sym (reads (taken + 1))) in
    let all = sym here ∙ next in
    let may = rest_from-allocates MOST_RECORDS (taken + 1 + 1) (records default_config rest) in
    rw none (ap (λ (r : Rest). r.rows) all, sym (ap (λ (r : Rest). r.stop) all), may ∙ sym (ap (λ (r : Rest). r.may_allocate) all))

-- the records of a new reader over a text
pub records-start : (s : State) (source : Option (List ℕ)) (text : List ℕ) → source ≡ Some (strip_bom text)
    → s ≡ st.StartRecord → records_of_bytes s source ≡ Some (records default_config (strip_bom text))
unfolding records_of_bytes
records-start s source text e start = ap₂ (λ a b. records_of_bytes a b) start e

-- where a record was read again the reader goes on
pub resumed-going : {R : Type 0} (r : Reader R) (taken : ℕ) (again : Result Bool RowFault)
    (old new : Option (List Fields)) (f : Fields) → IsSome old → TakesRecord old new f again
    → (again ≡ Ok true → IsGoing r)
    → CanGo (place_resumed taken again) r × IsSome (rest_at MOST_RECORDS (place_resumed taken again) new)
resumed-going r taken (Ok true) None new f known took going = cc known
resumed-going r taken (Ok true) (Some left) new f known (later, is, e) going = (going refl, rw is refl)
resumed-going r taken (Ok false) old new f known took going = (tt, refl)
resumed-going r taken (Err x) old new f known took going = (tt, refl)

-- and has what follows the record to give
pub resumed-rest : (taken : ℕ) (again : Result Bool RowFault) (old new : Option (List Fields)) (f fields : Fields)
    (rest : List ℕ) → old ≡ Some (fields ∷ records default_config rest) → TakesRecord old new f again
    → IsScanAfter taken rest (rest_known (rest_at MOST_RECORDS (place_resumed taken again) new))
resumed-rest taken (Ok true) old new f fields rest known took =
    let (later, is, e) = rw known at took in
    let same : later ≡ records default_config rest = ap (drop 1) (sym e) in
    rw is (inl (ap (rest_from MOST_RECORDS (taken + 1)) same))
resumed-rest taken (Ok false) old new f fields rest known took = inr refl
resumed-rest taken (Err x) old new f fields rest known took = inr refl

-- what the first step of `csv` gives
pub handed : (taken : ℕ) (rest : List ℕ) (scan : Rest) (result : Result (Option LoopRow) RowFault) (new : Rest)
    → IsScanAfter taken rest scan → Gives scan result new → Gives (rest_of_bytes taken rest) result new
handed taken rest scan result new (inl e) gives = rw (sym e) gives
handed taken rest scan (Ok (Some row)) new (inr e) gives = let g = rw e at gives in cc g.0
handed taken rest scan (Ok None) new (inr e) gives = let g = rw e at gives in cc g.1
handed taken rest scan (Err x) new (inr e) gives =
    let g = rw e at gives in
    let may = rest_from-allocates MOST_RECORDS (taken + 1) (records default_config rest) in
    (⊎_elim (λ stopped. inr (may, cc stopped.1)) (λ out. absurd (cc out.0)) g.0, g.1)
