-- What a byte does to the field that is read.
use Rattle.std.proofs.Common.{◌≡◌, ◌≤◌, ℕ, List, [], ◌∷◌, ◌++◌, Option, Some, None, length, true, false, refl, ◌∙◌}
use Rattle.std.specs.Prelude.{if◌then◌else◌, ◌<◌}
use Rattle.std.specs.Io.KnownBytes.{Consumes, IsAtEnd, Keeps}
use Rattle.csv.specs.Machine.{ends_at_end, field_after, fields_after, is_end, next_record}
use Rattle.csv.specs.Reading.{default_config}
use Rattle.xb_rows.specs.declared.kept.TheConstants.{MOST_FIELD_BYTES}
use Rattle.xb_rows.specs.declared.fields.FieldEnd.TheVariants as end
use Rattle.xb_rows.specs.declared.machine.Action.{Action}
use Rattle.xb_rows.specs.declared.machine.Action.TheVariants as act
use Rattle.xb_rows.specs.declared.machine.State.{State}
use Rattle.xb_rows.specs.declared.machine.State.TheVariants as st
use Rattle.xb_rows.specs.ByteSteps.{IsStep, csv_action, csv_state}
use Rattle.xb_rows.specs.RowTexts.{Fields}
use Rattle.xb_rows.specs.TakenFields.{ReadsOn, TakesField, WhereKnown}
use Rattle.xb_rows.proofs.InsideRecords.{adds-inside}

-- the record so far, where the bytes are known
abbrev pub HasRead : State → Option (List ℕ) → State → List ℕ → Option (List ℕ) → Type 0
HasRead s old s2 field new = WhereKnown old new (λ text rest. ReadsOn s text s2 field rest)

pub reads-none : (s : State) (old : Option (List ℕ)) → HasRead s old s [] old
reads-none s None = tt
reads-none s (Some text) = λ fields. refl

-- a byte, as the machine reads it
pub one-byte : (s n : State) (a : Action) (c : ℕ) (fields : Fields) (field rest : List ℕ) → IsStep (n, a) s c
    → next_record default_config (csv_state s) fields field (c ∷ rest)
    ≡ (if is_end (csv_action a) then Some (fields_after (csv_action a) fields field, csv_state n, rest)
    else next_record default_config (csv_state n) (fields_after (csv_action a) fields field) (field_after (csv_action a) c field) rest)
unfolding next_record
one-byte s n a c fields field rest is = rw (is.0, is.1) refl

-- a byte that says nothing
pub reads-skip : (s0 s n : State) (c : ℕ) (field : List ℕ) (old mid new : Option (List ℕ)) → IsStep (n, act.Skip) s c
    → Consumes mid new (c ∷ []) → HasRead s0 old s field mid → HasRead s0 old n field new
reads-skip s0 s n c field None mid new is took read = tt
reads-skip s0 s n c field (Some text) None new is took read = absurd read
reads-skip s0 s n c field (Some text) (Some bytes) None is took read = absurd took
reads-skip s0 s n c field (Some text) (Some bytes) (Some rest) is took read =
    λ fields. (rw took at read) fields ∙ one-byte s n act.Skip c fields field rest is

-- a byte of the field
pub reads-copy : (s0 s n : State) (c : ℕ) (field : List ℕ) (old mid new : Option (List ℕ)) → IsStep (n, act.Copy) s c
    → Consumes mid new (c ∷ []) → HasRead s0 old s field mid → HasRead s0 old n (field ++ c ∷ []) new
reads-copy s0 s n c field None mid new is took read = tt
reads-copy s0 s n c field (Some text) None new is took read = absurd read
reads-copy s0 s n c field (Some text) (Some bytes) None is took read = absurd took
reads-copy s0 s n c field (Some text) (Some bytes) (Some rest) is took read =
    λ fields. (rw took at read) fields ∙ one-byte s n act.Copy c fields field rest is

-- the comma after the field
pub takes-comma : (s0 s n : State) (c : ℕ) (field : List ℕ) (old mid new : Option (List ℕ))
    → IsStep (n, act.EndField) s c → Consumes mid new (c ∷ []) → length field ≤ MOST_FIELD_BYTES
    → HasRead s0 old s field mid
    → WhereKnown old new (λ text rest. TakesField s0 n field end.Comma text rest)
takes-comma s0 s n c field None mid new is took short read = tt
takes-comma s0 s n c field (Some text) None new is took short read = absurd read
takes-comma s0 s n c field (Some text) (Some bytes) None is took short read = absurd took
takes-comma s0 s n c field (Some text) (Some bytes) (Some rest) is took short read = (
  short,
  adds-inside s n act.EndField c is tt,
  λ fields. (rw took at read) fields ∙ one-byte s n act.EndField c fields field rest is,
)

-- the end of the record
pub takes-record : (s0 s n : State) (c : ℕ) (field : List ℕ) (old mid new : Option (List ℕ))
    → IsStep (n, act.EndRecord) s c → Consumes mid new (c ∷ []) → length field ≤ MOST_FIELD_BYTES
    → HasRead s0 old s field mid
    → WhereKnown old new (λ text rest. TakesField s0 n field end.Record text rest)
takes-record s0 s n c field None mid new is took short read = tt
takes-record s0 s n c field (Some text) None new is took short read = absurd read
takes-record s0 s n c field (Some text) (Some bytes) None is took short read = absurd took
takes-record s0 s n c field (Some text) (Some bytes) (Some rest) is took short read =
    (short, λ fields. (rw took at read) fields ∙ one-byte s n act.EndRecord c fields field rest is)

-- a byte too many
pub takes-long : (s0 s n : State) (c : ℕ) (field : List ℕ) (old mid new : Option (List ℕ))
    → IsStep (n, act.Copy) s c → Consumes mid new (c ∷ []) → MOST_FIELD_BYTES < length (field ++ c ∷ [])
    → HasRead s0 old s field mid
    → WhereKnown old new (λ text rest. TakesField s0 n [] end.Long text rest)
takes-long s0 s n c field None mid new is took long read = tt
takes-long s0 s n c field (Some text) None new is took long read = absurd read
takes-long s0 s n c field (Some text) (Some bytes) None is took long read = absurd took
takes-long s0 s n c field (Some text) (Some bytes) (Some rest) is took long read = (
  refl,
  adds-inside s n act.Copy c is tt,
  (field ++ c ∷ []),
  long,
  λ fields. (rw took at read) fields ∙ one-byte s n act.Copy c fields field rest is,
)

-- the end of the text ends the record
pub takes-last : (s0 s : State) (field : List ℕ) (old mid new : Option (List ℕ)) → ends_at_end (csv_state s) ≡ true
    → IsAtEnd mid → Keeps mid new → length field ≤ MOST_FIELD_BYTES → HasRead s0 old s field mid
    → WhereKnown old new (λ text rest. TakesField s0 st.StartRecord field end.Record text rest)
unfolding next_record
takes-last s0 s field None mid new ends none kept short read = tt
takes-last s0 s field (Some text) None new ends none kept short read = absurd read
takes-last s0 s field (Some text) (Some bytes) None ends none kept short read = absurd kept
takes-last s0 s field (Some text) (Some bytes) (Some rest) ends none kept short read =
    (short, λ fields. (rw none at read) fields ∙ rw (kept ∙ none, ends) refl)

-- or there is none
pub takes-none : (s0 s s2 : State) (field : List ℕ) (old mid new : Option (List ℕ)) → ends_at_end (csv_state s) ≡ false
    → IsAtEnd mid → Keeps mid new → HasRead s0 old s field mid
    → WhereKnown old new (λ text rest. TakesField s0 s2 field end.Nowhere text rest)
unfolding next_record
takes-none s0 s s2 field None mid new ends none kept read = tt
takes-none s0 s s2 field (Some text) None new ends none kept read = absurd read
takes-none s0 s s2 field (Some text) (Some bytes) None ends none kept read = absurd kept
takes-none s0 s s2 field (Some text) (Some bytes) (Some rest) ends none kept read =
    (rw none at read) [] ∙ rw ends refl
