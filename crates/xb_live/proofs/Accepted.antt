-- Rows of which there are not too many are the same where more are allowed.
use Rattle.std.proofs.Common.{◌≡◌, ◌≤◌, ◌+◌, ◌-◌, ◌^◌, ℕ, ltb, false, cond, List, [], ◌∷◌, None, Ok, Err, Result, refl, inr, sym, ap, ◌∙◌, subst, ⊎_elim, arith}
use Rattle.std.proofs.lemmas.Bool.{cases_Bool, le-ltb, ltb-false}
use Rattle.xb_model.specs.declared.fault.RowFault.{RowFault}
use Rattle.xb_model.specs.declared.fault.RowFault.TheVariants.{Header, TooMany}
use Rattle.xb_model.specs.Rows.{LoopRow}
use Rattle.xb_model.specs.Sources.{Rest}
use Rattle.xb_rows.specs.declared.scan.TheConstants.{MOST_RECORDS}
use Rattle.xb_rows.specs.RowTexts.{Fields, fault_alone, is_header, rest_from, rest_of_records, row_and_rest, row_of_fields, three_fields}
use Rattle.csv.specs.Reading.{default_config, records, strip_bom}
use Rattle.xb_rows.proofs.StreamRows.{streams_are_texts}
use Rattle.xb_live.specs.Decks.{AcceptedRowsAreAll}

-- a row, or a fault, before what is the same
same-rest : (row : Result LoopRow RowFault) (few many : Rest) → (few.stop ≡ None → many ≡ few)
    → (row_and_rest row few).stop ≡ None → row_and_rest row many ≡ row_and_rest row few
same-rest (Ok row) few many same stop = ap (row_and_rest (Ok row)) (same stop)
same-rest (Err f) few many same stop = absurd (cc stop)

module _ (few many : ℕ) (more : few ≤ many) where
  same-from : (n : ℕ) (left : List Fields) → (rest_from few n left).stop ≡ None → rest_from many n left ≡ rest_from few n left
  unfolding rest_from
  same-from n [] stop = refl
  same-from n (fields ∷ later) stop =
      ⊎_elim
      (λ over.
      let none : (fault_alone TooMany).stop ≡ None = subst (λ b. (cond b (fault_alone TooMany) (row_and_rest (row_of_fields n (three_fields fields)) (rest_from few (n + 1) later))).stop ≡ None) over stop in
      absurd (cc none))
      (λ within.
      let stops : (row_and_rest (row_of_fields n (three_fields fields)) (rest_from few (n + 1) later)).stop ≡ None =
      subst (λ b. (cond b (fault_alone TooMany) (row_and_rest (row_of_fields n (three_fields fields)) (rest_from few (n + 1) later))).stop ≡ None) within stop in
      let wide : ltb many n ≡ false = le-ltb many n (let fits = ltb-false few n within in omega (arith, fits, more)) in
      ap (λ b. cond b (fault_alone TooMany) (row_and_rest (row_of_fields n (three_fields fields)) (rest_from many (n + 1) later))) wide
      ∙ same-rest (row_of_fields n (three_fields fields)) (rest_from few (n + 1) later) (rest_from many (n + 1) later) (same-from (n + 1) later) stops
      ∙ sym (ap (λ b. cond b (fault_alone TooMany) (row_and_rest (row_of_fields n (three_fields fields)) (rest_from few (n + 1) later))) within))
      (cases_Bool (ltb few n))

  same-records : (all : List Fields) → (rest_of_records few all).stop ≡ None → rest_of_records many all ≡ rest_of_records few all
  same-records [] stop = refl
  same-records (first ∷ later) stop =
      ⊎_elim
      (λ header.
      ap (λ b. cond b (rest_from many 1 later) (fault_alone Header)) header
      ∙ same-from 1 later (subst (λ b. (cond b (rest_from few 1 later) (fault_alone Header)).stop ≡ None) header stop)
      ∙ sym (ap (λ b. cond b (rest_from few 1 later) (fault_alone Header)) header))
      (λ other.
      ap (λ b. cond b (rest_from many 1 later) (fault_alone Header)) other
      ∙ sym (ap (λ b. cond b (rest_from few 1 later) (fault_alone Header)) other))
      (cases_Bool (is_header (three_fields first)))

pub accepted_rows_are_all : AcceptedRowsAreAll
accepted_rows_are_all text accepted =
    let all = same-records MOST_RECORDS (2 ^ 64 - 1) (omega arith) (records default_config (strip_bom text)) accepted in
    streams_are_texts.rows_same (2 ^ 64 - 1) text (inr (ap (λ (rest : Rest). rest.stop) all ∙ accepted)) ∙ all
