-- A text line without quotes, where it stands in a text.
use Rattle.std.proofs.Common.{◌≡◌, ◌≤◌, ◌++◌, ℕ, List, [], ◌∷◌, Option, Some, None, Result, Ok, Err, Bool, true, false, refl, sym, ap, ◌∙◌}
use Rattle.std.specs.Prelude.{◌==◌, if◌then◌else◌}
use Rattle.csv.specs.Machine.{Read, field_after, fields_after, is_end, next_record, step}
use Rattle.csv.specs.Reading.{default_config, records}
use Rattle.csv.specs.declared.parser.Action.{Action as CsvAction}
use Rattle.csv.specs.declared.parser.Action.TheVariants as csv_act
use Rattle.csv.specs.declared.parser.State.{State as CsvState}
use Rattle.csv.specs.declared.parser.State.TheVariants as csv_st
use Rattle.xb_model.specs.Rows.{LoopRow}
use Rattle.xb_model.specs.declared.fault.RowFault.{RowFault}
use Rattle.xb_rows.specs.RowTexts.{Fields, rest_from, row_of_fields, three_fields}
use Rattle.xb_rows.specs.TextLines.{IsPlainByte, IsPlainLine, LinesStandAlone, rest_by, row_of_read, some_row}
use Rattle.xb_rows.proofs.RecordCounts.{records-more, records-none}
use Rattle.xb_rows.proofs.RestOfRecords.{rest_from-more}

-- a byte, as the machine reads it
one-step : (s n : CsvState) (a : CsvAction) (c : ℕ) (fields : Fields) (field rest : List ℕ)
    → step default_config s c ≡ (n, a)
    → next_record default_config s fields field (c ∷ rest)
    ≡ (if is_end a then Some (fields_after a fields field, n, rest)
    else next_record default_config n (fields_after a fields field) (field_after a c field) rest)
unfolding next_record
one-step s n a c fields field rest is = rw is refl

-- a state before a field, or in one
abbrev open_state : Bool → CsvState
open_state true = csv_st.StartField
open_state false = csv_st.InField

module _ (c : ℕ) (plain : IsPlainByte c) where
  at-comma : (b : Bool) → (c == 44) ≡ true → step default_config (open_state b) c ≡ (csv_st.StartField, csv_act.EndField)
  at-comma true e = rw (plain.0, e) refl
  at-comma false e = rw e refl

  at-other : (b : Bool) → (c == 44) ≡ false → step default_config (open_state b) c ≡ (csv_st.InField, csv_act.Copy)
  at-other true e = rw (plain.0, e, plain.1, plain.2) refl
  at-other false e = rw (e, plain.1, plain.2) refl

  -- a record begins as a field does
  at-first : step default_config csv_st.StartRecord c ≡ step default_config csv_st.StartField c
  at-first = rw (plain.1, plain.2) refl

-- a record that ends with a text ends so where an LF and more follow it
abbrev EndsAlike : Option Read → Option Read → List ℕ → Type 0
EndsAlike alone longer later = (fields : Fields)
    × (alone ≡ Some (fields, csv_st.StartRecord, [])) × (longer ≡ Some (fields, csv_st.StartRecord, later))

alike : (b : Bool) (line later field : List ℕ) (fields : Fields) → IsPlainLine line
    → EndsAlike (next_record default_config (open_state b) fields field line)
    (next_record default_config (open_state b) fields field (line ++ 10 ∷ later)) later
unfolding next_record
alike true [] later field fields plain = (fields ++ field ∷ [], refl, refl)
alike false [] later field fields plain = (fields ++ field ∷ [], refl, refl)
alike b (c ∷ line) later field fields (plain, more) =
    by (c == 44) refl (alike true line later [] (fields ++ field ∷ []) more) (alike false line later (field ++ c ∷ []) fields more)
  where
    by : (comma : Bool) → (c == 44) ≡ comma
        → EndsAlike (next_record default_config csv_st.StartField (fields ++ field ∷ []) [] line)
        (next_record default_config csv_st.StartField (fields ++ field ∷ []) [] (line ++ 10 ∷ later)) later
        → EndsAlike (next_record default_config csv_st.InField fields (field ++ c ∷ []) line)
        (next_record default_config csv_st.InField fields (field ++ c ∷ []) (line ++ 10 ∷ later)) later
        → EndsAlike (next_record default_config (open_state b) fields field (c ∷ line))
        (next_record default_config (open_state b) fields field (c ∷ (line ++ 10 ∷ later))) later
    by true e start inside =
        let is = at-comma c plain b e in (
          start.0,
          one-step _ _ csv_act.EndField c fields field line is ∙ start.1,
          one-step _ _ csv_act.EndField c fields field (line ++ 10 ∷ later) is ∙ start.2,
        )
    by false e start inside =
        let is = at-other c plain b e in (
          inside.0,
          one-step _ _ csv_act.Copy c fields field line is ∙ inside.1,
          one-step _ _ csv_act.Copy c fields field (line ++ 10 ∷ later) is ∙ inside.2,
        )

-- a record begins as its first field does
begins : (c : ℕ) (rest : List ℕ) → IsPlainByte c
    → next_record default_config csv_st.StartRecord [] [] (c ∷ rest)
    ≡ next_record default_config csv_st.StartField [] [] (c ∷ rest)
unfolding next_record
begins c rest plain = rw (at-first c plain) refl

skips-lf : (later : List ℕ) → next_record default_config csv_st.StartRecord [] [] (10 ∷ later)
    ≡ next_record default_config csv_st.StartRecord [] [] later
unfolding next_record
skips-lf later = refl

-- an LF alone is no record
no-record : (later : List ℕ) → records default_config (10 ∷ later) ≡ records default_config later
no-record later = by (next_record default_config csv_st.StartRecord [] [] later) refl
  where
    same : next_record default_config csv_st.StartRecord [] [] (10 ∷ later)
        ≡ next_record default_config csv_st.StartRecord [] [] later
    same = skips-lf later

    by : (read : Option Read) → next_record default_config csv_st.StartRecord [] [] later ≡ read
        → records default_config (10 ∷ later) ≡ records default_config later
    by None e =
        records-none default_config csv_st.StartRecord (10 ∷ later) (same ∙ e)
        ∙ sym (records-none default_config csv_st.StartRecord later e)
    by (Some q) e =
        records-more default_config csv_st.StartRecord (10 ∷ later) q (same ∙ e)
        ∙ sym (records-more default_config csv_st.StartRecord later q e)

-- what a record gives
by-row : (most n : ℕ) (fields : Fields) (left later : List Fields) (r : Result LoopRow RowFault)
    → left ≡ fields ∷ later → n ≤ most → r ≡ row_of_fields n (three_fields fields)
    → rest_from most n left ≡ rest_by most n (some_row r) later
by-row most n fields left later (Ok row) e few is = rest_from-more most n left fields later (Ok row) e few is
by-row most n fields left later (Err f) e few is = rest_from-more most n left fields later (Err f) e few is

pub lines_stand_alone : LinesStandAlone
unfolding next_record
lines_stand_alone most n [] later plain few = ap (rest_from most n) (no-record later)
lines_stand_alone most n (c ∷ line) later (plain, more) few =
    let whole = alike true (c ∷ line) later [] [] (plain, more) in
    let fields = whole.0 in
    let alone = begins c line plain ∙ whole.1 in
    let longer = begins c (line ++ 10 ∷ later) plain ∙ whole.2 in
    by-row most n fields _ _ _
    (records-more default_config csv_st.StartRecord (c ∷ (line ++ 10 ∷ later)) (fields, csv_st.StartRecord, later) longer) few refl
    ∙ ap (λ given. rest_by most n given (records default_config later)) (sym (ap (row_of_read n) alone))
