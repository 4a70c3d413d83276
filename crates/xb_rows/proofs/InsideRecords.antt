-- Inside a record there is always a record, and its fields begin with those that were read.
use Rattle.std.proofs.Common.{◌≡◌, ℕ, List, [], ◌∷◌, ◌++◌, Option, Some, Bool, true, false, ◌||◌, refl, sym, ap, ◌∙◌, append_assoc, append-nil}
use Rattle.std.specs.Prelude.{if◌then◌else◌, ◌==◌}
use Rattle.csv.specs.Machine.{Read, ends_at_end, field_after, fields_after, in_field, is_end, next_record, start_field, start_record, step}
use Rattle.csv.specs.Reading.{default_config}
use Rattle.csv.specs.declared.parser.Action.{Action}
use Rattle.csv.specs.declared.parser.Action.TheVariants as act
use Rattle.csv.specs.declared.parser.State.{State}
use Rattle.csv.specs.declared.parser.State.TheVariants as st
use Rattle.xb_rows.specs.ByteSteps.{IsStep, csv_action, csv_state}
use Rattle.xb_rows.specs.declared.machine.Action.{Action as OwnAction}
use Rattle.xb_rows.specs.declared.machine.State.{State as OwnState}
use Rattle.xb_rows.specs.declared.machine.State.TheVariants as own
use Rattle.xb_rows.specs.RowTexts.{Fields}
use Rattle.xb_rows.specs.TakenFields.{IsInside}

-- the end of a text ends a record
pub inside-ends : (s : State) → IsInside s → ends_at_end s ≡ true
inside-ends st.StartField h = refl
inside-ends st.InField h = refl
inside-ends st.InQuoted h = refl
inside-ends st.AfterQuote h = refl
inside-ends st.StartRecord h = absurd h
inside-ends st.InEscape h = absurd h
inside-ends st.InComment h = absurd h
inside-ends st.AfterCr h = absurd h

-- the record goes on after a step that does not end it
abbrev GoesOn : State × Action → Type 0
GoesOn stepped = is_end stepped.1 ≡ false → IsInside stepped.0

in_field-goes : (c : ℕ) → GoesOn (in_field default_config c)
in_field-goes c = by (c == 44) ((c == 13) || (c == 10)) (c == 13)
  where
    by : (comma line cr : Bool) → GoesOn (if comma then (st.StartField, act.EndField)
        else if line then ((if cr then st.AfterCr else st.StartRecord), act.EndRecord) else (st.InField, act.Copy))
    by true line cr e = tt
    by false true cr e = cc e
    by false false cr e = tt

start_field-goes : (c : ℕ) → GoesOn (start_field default_config c)
start_field-goes c = by (c == 34)
  where
    by : (quote : Bool) → GoesOn (if quote then (st.InQuoted, act.Skip) else in_field default_config c)
    by true e = tt
    by false e = in_field-goes c e

step-goes : (s : State) → IsInside s → (c : ℕ) → GoesOn (step default_config s c)
step-goes st.StartField h c = start_field-goes c
step-goes st.InField h c = in_field-goes c
step-goes st.InQuoted h c = by (c == 34)
  where
    by : (quote : Bool) → GoesOn (if quote then (st.AfterQuote, act.Skip) else (st.InQuoted, act.Copy))
    by true e = tt
    by false e = tt
step-goes st.AfterQuote h c = by (c == 34)
  where
    by : (quote : Bool) → GoesOn (if quote then (st.InQuoted, act.Copy) else in_field default_config c)
    by true e = tt
    by false e = in_field-goes c e
step-goes st.StartRecord h c = absurd h
step-goes st.InEscape h c = absurd h
step-goes st.InComment h c = absurd h
step-goes st.AfterCr h c = absurd h

-- an action that a record is needed for, and does not end
abbrev pub AddsTo : Action → Type 0
AddsTo act.Copy = Unit {0}
AddsTo act.EndField = Unit {0}
AddsTo act.Skip = ⊥
AddsTo act.EndRecord = ⊥

adds-no_end : (a : Action) → AddsTo a → is_end a ≡ false
adds-no_end act.Copy h = refl
adds-no_end act.EndField h = refl
adds-no_end act.Skip h = absurd h
adds-no_end act.EndRecord h = absurd h

start_record-adds : (c : ℕ) → AddsTo (start_record default_config c).1 → IsInside (start_record default_config c).0
start_record-adds c = by ((c == 13) || (c == 10))
  where
    stepped : Bool → State × Action
    stepped line = if line then (st.StartRecord, act.Skip) else start_field default_config c

    by : (line : Bool) → AddsTo (stepped line).1 → IsInside (stepped line).0
    by true h = absurd h
    by false h = start_field-goes c (adds-no_end (start_field default_config c).1 h)

-- such an action leads into a record, or on in it
csv-adds : (s : OwnState) (c : ℕ) → AddsTo (step default_config (csv_state s) c).1
    → IsInside (step default_config (csv_state s) c).0
csv-adds own.StartRecord c h = start_record-adds c h
csv-adds own.StartField c h = step-goes st.StartField tt c (adds-no_end _ h)
csv-adds own.InField c h = step-goes st.InField tt c (adds-no_end _ h)
csv-adds own.InQuoted c h = step-goes st.InQuoted tt c (adds-no_end _ h)
csv-adds own.AfterQuote c h = step-goes st.AfterQuote tt c (adds-no_end _ h)
csv-adds own.AfterCr c h = by (c == 10) h
  where
    stepped : Bool → State × Action
    stepped line = if line then (st.StartRecord, act.Skip) else start_record default_config c

    by : (line : Bool) → AddsTo (stepped line).1 → IsInside (stepped line).0
    by true h = absurd h
    by false h = start_record-adds c h

pub adds-inside : (s n : OwnState) (a : OwnAction) (c : ℕ) → IsStep (n, a) s c → AddsTo (csv_action a)
    → IsInside (csv_state n)
adds-inside s n a c is h = rw is.0 (csv-adds s c (rw is.1 at h))

-- the fields of a record begin with these, and the next with this
abbrev pub BeginWith : Fields → List ℕ → Fields → Type 0
BeginWith fields field all = (more : List ℕ) × (rest : Fields) × (all ≡ fields ++ (field ++ more) ∷ rest)

-- there is a record, whose fields begin so
abbrev pub GivesRecord : Fields → List ℕ → Option Read → Type 0
GivesRecord fields field read = (q : Read) × (read ≡ Some q) × BeginWith fields field q.0

-- after an action
after : (a : Action) (s : State) (c : ℕ) (fields : Fields) (field rest : List ℕ)
    → (is_end a ≡ false
    → GivesRecord (fields_after a fields field) (field_after a c field)
    (next_record default_config s (fields_after a fields field) (field_after a c field) rest))
    → GivesRecord fields field (if is_end a then Some (fields_after a fields field, s, rest)
    else next_record default_config s (fields_after a fields field) (field_after a c field) rest)
after act.Skip s c fields field rest more = more refl
after act.Copy s c fields field rest more =
    let (q, is, begins) = more refl in
    let (bytes, others, e) = begins in
    (q, is, (c ∷ bytes, others, e ∙ ap (λ one. fields ++ one ∷ others) (append_assoc field (c ∷ []) bytes)))
after act.EndField s c fields field rest more =
    let (q, is, begins) = more refl in
    let (bytes, others, e) = begins in (
      q,
      is,
      (
        [],
        bytes ∷ others,
        e ∙ append_assoc fields (field ∷ []) (bytes ∷ others)
            ∙ ap (λ one. fields ++ one ∷ bytes ∷ others) (sym (append-nil field)),
      ),
    )
after act.EndRecord s c fields field rest more =
    ((fields ++ field ∷ [], s, rest), refl, ([], [], ap (λ one. fields ++ one ∷ []) (sym (append-nil field))))

-- inside a record
pub inside-record : (s : State) → IsInside s → (fields : Fields) (field text : List ℕ)
    → GivesRecord fields field (next_record default_config s fields field text)
unfolding next_record
inside-record s h fields field [] =
    rw (inside-ends s h) ((fields ++ field ∷ [], st.StartRecord, []), refl, ([], [], ap (λ one. fields ++ one ∷ []) (sym (append-nil field))))
inside-record s h fields field (c ∷ rest) =
    after (step default_config s c).1 (step default_config s c).0 c fields field rest
    (λ goes. inside-record (step default_config s c).0 (step-goes s h c goes) _ _ rest)
