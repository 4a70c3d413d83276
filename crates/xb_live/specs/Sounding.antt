-- The sound of a line's trunk, row by row.
use Rattle.std.specs.Prelude.{◌≡◌, ℕ, List, [], Option, Some, None, Result, Ok, Err}
use Rattle.std.specs.Io.KnownBytes.{Appends}
use Rattle.xb_model.specs.Rows.{LoopRow}
use Rattle.xb_routes.specs.Table.{Table}
use Rattle.xb_sound.specs.declared.cadence.Cadence.{Cadence}
use Rattle.xb_sound.specs.Wavs.{pcm_of}
use Rattle.xb_trunk.specs.Starts.{dial_after}
use Rattle.xb_text.specs.Writing.{AppendsBeginning}
use Rattle.xb_trunk.specs.declared.fault.TrunkFault.{TrunkFault}
use Rattle.xb_trunk.specs.Sounded.{Waits, sounded, waiting_after, whole_sound}
use Rattle.xb_live.specs.Counting.{Counted, HasCounted}
use Rattle.xb_live.specs.Starting.{Asked, Started, events_of, given_up_in, steps_asked}

-- the samples that rows write, and those with what waits after them
abbrev pub sound_of_rows : Asked → Cadence → Table → List LoopRow → List ℕ
sound_of_rows asked cadence table rows = pcm_of (sounded cadence [] (steps_asked table asked rows))

abbrev pub whole_of_rows : Asked → Cadence → Table → List LoopRow → List ℕ
whole_of_rows asked cadence table rows = pcm_of (whole_sound cadence [] (steps_asked table asked rows))

-- the keyings have waited as these rows say
abbrev pub HasStarted : Table → ℕ → Option ℕ → Started → List LoopRow → Type 0
HasStarted table line None started rows = started.given_up ≡ 0
HasStarted table line (Some start) started rows = (started.dial ≡ dial_after (events_of table line start rows))
    × (started.given_up ≡ given_up_in (events_of table line start rows))

-- an office and a trunk have taken these rows, and a writer that had `start` got exactly their samples
pub record HasSounded (asked : Asked) (cadence : Cadence) (office : Counted) (started : Started) (trunk : Waits)
    (rows : List LoopRow) (start out : Option (List ℕ)) : Type 0 where
  pub counted : HasCounted office rows
  pub asked_is : started.start ≡ asked.start
  pub waited : HasStarted office.live.table asked.line asked.start started rows
  pub cadence_is : trunk.cadence ≡ cadence
  pub waits : trunk.waiting ≡ waiting_after cadence [] (steps_asked office.live.table asked rows)
  pub written : Appends start out (sound_of_rows asked cadence office.live.table rows)

-- what came of rows of which the last was to be taken: on a fault the beginning of their samples was written
abbrev pub Sounds : Asked → Cadence → Counted → Started → Waits → List LoopRow → Result (Unit {0}) TrunkFault
    → Option (List ℕ) → Option (List ℕ) → Type 0
Sounds asked cadence office started trunk rows (Ok u) start out =
    HasSounded asked cadence office started trunk rows start out
Sounds asked cadence office started trunk rows (Err f) start out =
    AppendsBeginning start out (sound_of_rows asked cadence office.live.table rows)
