-- The records that a reader has left: at the beginning of its text, and after one read.
use Rattle.std.proofs.Common.{◌≡◌, ℕ, List, [], Option, Some, None, Bool, true, false, Ok, refl, ap₂, subst, ◌∙◌, sym}
use Rattle.std.specs.Prelude.{option_map}
use Rattle.csv.specs.Machine.{Read, next_record}
use Rattle.csv.specs.Reading.{NextIs, ReadRecord, ReadsNext, Ready, default_config, is_flexible, pending_of, source_of, strip_bom}
use Rattle.csv.specs.declared.parser.State.{State}
use Rattle.csv.specs.declared.parser.State.TheVariants as st
use Rattle.csv.specs.declared.reader.Reader.{Reader}
use Rattle.xb_rows.specs.Scanning.{IsGoing, TakesRecord, records_left, records_of_bytes}
use Rattle.xb_model.specs.Sources.{Rest}
use Rattle.xb_rows.proofs.RecordCounts.{records-more, records-none}
use Rattle.xb_rows.specs.RowTexts.{Fields, rest_of_records, rest_within}

-- a new reader has all records of its text to give
pub records_left-start : (most : ℕ) (text source : Option (List ℕ)) (s : State)
    → source ≡ option_map strip_bom text → s ≡ st.StartRecord
    → option_map (rest_of_records most) (records_of_bytes s source) ≡ option_map (rest_within most) text
unfolding records_of_bytes
records_left-start most text source s e start = ap₂ given start e ∙ at text
  where
    given : State → Option (List ℕ) → Option Rest
    given state bytes = option_map (rest_of_records most) (records_of_bytes state bytes)

    at : (known : Option (List ℕ)) → given st.StartRecord (option_map strip_bom known) ≡ option_map (rest_within most) known
    at None = refl
    at (Some bytes) = refl

-- a record came: these fields, and what is left
next-is : (o : Option Read) (f : Fields) (s2 : State) (z : List ℕ) → NextIs o true f s2 z
    → o ≡ Some (f, s2, z)
next-is None f s2 z n = cc n
next-is (Some p) f s2 z n = rw (n.1, n.2, n.3) refl

-- no record came
next-none : (o : Option Read) (f : Fields) (s2 : State) (z : List ℕ) → NextIs o false f s2 z → o ≡ None
next-none None f s2 z n = refl
next-none (Some p) f s2 z n = cc n.0

-- what a read gives of the records that were left
more : (s s2 : State) (old new : Option (List ℕ)) (found : Bool) (f : Fields)
    → ReadsNext default_config s old new found f s2
    → TakesRecord (records_of_bytes s old) (records_of_bytes s2 new) f (Ok found)
unfolding records_of_bytes
more s s2 None new true f r = tt
more s s2 None new false f r = tt
more s s2 (Some x) None true f r = absurd r
more s s2 (Some x) None false f r = absurd r
more s s2 (Some x) (Some z) true f r =
    (_, refl, records-more default_config s x (f, s2, z) (next-is (next_record default_config s [] [] x) f s2 z r))
more s s2 (Some x) (Some z) false f r =
    records-none default_config s x (next-none (next_record default_config s [] [] x) f s2 z r)

-- what a read gives, whether it found a record or none
pub takes : {R : Type 0} (remaining : R → Option (List ℕ)) (old new : Reader R) (f : Fields) (found : Bool)
    → IsGoing old → ReadRecord remaining old new found f
    → TakesRecord (records_left remaining old) (records_left remaining new) f (Ok found)
takes remaining old new f found g r =
    let now = source_of remaining old in
    let left = pending_of (remaining new.rdr) new in
    let next : ReadsNext default_config old.state now left found f new.state = rw g.1 at r.0 in
    let same : source_of remaining new ≡ left = rw r.1 refl in
    subst (λ k. TakesRecord (records_left remaining old) (records_of_bytes new.state k) f (Ok found)) (sym same)
    (more old.state new.state now left found f next)

-- after a read that found a record the reader goes on
pub goes_on : {R : Type 0} (remaining : R → Option (List ℕ)) (old new : Reader R) (f : Fields) (found : Bool)
    → IsGoing old → ReadRecord remaining old new found f
    → is_flexible new ≡ is_flexible old → Ready new → IsGoing new
goes_on remaining old new f found g r flexible ready = (r.3 ∙ g.0, r.2 ∙ g.1, flexible ∙ g.2, ready)
