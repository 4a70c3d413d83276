-- What is told of a whole record, settled run by settled run.
use Rattle.std.specs.Prelude.{ℕ, ◌+◌, max, List, [], ◌∷◌, ◌++◌, Option, Some, None, if◌then◌else◌}
use Rattle.xb_model.specs.declared.limits.Limits.{Limits}
use Rattle.xb_contact.specs.declared.hold.Hold.{Hold}
use Rattle.xb_contact.specs.declared.level.Level.{Level}
use Rattle.xb_contact.specs.declared.scale.Scale.{Scale}
use Rattle.xb_contact.specs.Holds.{hold_of, same_level}
use Rattle.xb_turns.specs.declared.dial.Place.{Place}
use Rattle.xb_turns.specs.declared.dial.Said.{Said}
use Rattle.xb_turns.specs.declared.train.Timed.{Timed}
use Rattle.xb_turns.specs.Dials.{ms_between, place_after, said_of}

-- a settled run, the longest bounce before it settled, and the longest of all
pub record Run : Type 0 where
  pub hold : Hold
  pub edge : ℕ
  pub bounce : ℕ

abbrev pub run_by : Level → ℕ → ℕ → ℕ → Run
run_by level ticks edge bounce = record { hold = hold_of level ticks; edge = edge; bounce = bounce }

-- a run in front: neighbours of one level are one run
abbrev pub merged : Run → Run → Run
merged run next =
    run_by run.hold.level (run.hold.ticks + next.hold.ticks) run.edge (max run.bounce next.bounce)

abbrev pub onto_runs : Run → List Run → List Run
onto_runs run [] = run ∷ []
onto_runs run (next ∷ rest) =
    if same_level run.hold.level next.hold.level then merged run next ∷ rest else run ∷ next ∷ rest

abbrev pub joined_runs : List Run → List Run
joined_runs [] = []
joined_runs (run ∷ rest) = onto_runs run (joined_runs rest)

-- a run that begins at a tick
abbrev pub timed_run : Scale → ℕ → Run → Timed
timed_run scale from run = record {
  from = from;
  ticks = run.hold.ticks;
  ms = ms_between scale from (from + run.hold.ticks);
  bounce = run.bounce;
}

abbrev pub said_list : Option Said → List Said
said_list None = []
said_list (Some said) = said ∷ []

-- what is told of runs, of a line that is at a place, from a tick on
abbrev pub told_of_runs : Limits → Scale → Place → ℕ → List Run → List Said
told_of_runs limits scale place from [] = []
told_of_runs limits scale place from (run ∷ rest) =
    said_list (said_of limits place run.hold.level (timed_run scale from run) run.edge)
    ++ told_of_runs limits scale (place_after limits place run.hold.level (timed_run scale from run))
    (from + run.hold.ticks) rest
