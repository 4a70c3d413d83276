-- Runs that are cut into parts.
use Rattle.std.specs.Prelude.{List, [], ◌∷◌, Bool, true, false, if◌then◌else◌, Option, Some, None}
use Rattle.xb_model.specs.declared.limits.Limits.{Limits}
use Rattle.xb_model.specs.Records.{is_release, ends_train, is_break, reaches_timeout}
use Rattle.xb_heard.specs.declared.run.PlacedRun.{PlacedRun}
use Rattle.xb_heard.specs.declared.parts.Cut.{Cut}
use Rattle.xb_heard.specs.declared.parts.Cut.TheVariants.{AtReleases, AtPauses}
use Rattle.xb_heard.specs.declared.parts.Part.{Part}
use Rattle.xb_heard.specs.PlacedRuns.{run_in}

-- runs, and the one that ends them, if there is one
pub record RunsPart : Type 0 where
  pub inner : List PlacedRun
  pub last : Option PlacedRun

abbrev pub part_of : List PlacedRun → Option PlacedRun → RunsPart
part_of inner last = record { inner = inner; last = last }

-- what a part in the code says
abbrev pub part_in : Part → RunsPart
part_in part = part_of part.inner.now part.last

-- a break of `release` or more; a make of `pause` or more
abbrev pub cuts : Limits → Cut → PlacedRun → Bool
cuts limits AtReleases run = is_release limits (run_in run)
cuts limits AtPauses run = ends_train limits (run_in run)

-- a run before the first part
abbrev pub onto_part : PlacedRun → List RunsPart → List RunsPart
onto_part run [] = part_of (run ∷ []) None ∷ []
onto_part run (part ∷ parts) = part_of (run ∷ part.inner) part.last ∷ parts

-- the parts that are left when runs are cut at every run that passes the test; what follows the last
-- such run is a part too, if there is something
abbrev pub parts_by : (PlacedRun → Bool) → List PlacedRun → List RunsPart
parts_by test [] = []
parts_by test (run ∷ rest) =
    if test run then part_of [] (Some run) ∷ parts_by test rest else onto_part run (parts_by test rest)

abbrev pub parts_of : Limits → Cut → List PlacedRun → List RunsPart
parts_of limits cut runs = parts_by (cuts limits cut) runs

-- a make that times out
abbrev pub times_out : Limits → PlacedRun → Bool
times_out limits run = reaches_timeout limits (run_in run)

-- the runs up to and with the first that times out
abbrev pub heard_placed : Limits → List PlacedRun → List PlacedRun
heard_placed limits [] = []
heard_placed limits (run ∷ rest) = run ∷ (if times_out limits run then [] else heard_placed limits rest)

abbrev pub without_idle : List PlacedRun → List PlacedRun
without_idle [] = []
without_idle (run ∷ rest) = if is_break (run_in run) then rest else run ∷ rest

abbrev pub without_front : List PlacedRun → List PlacedRun
without_front [] = []
without_front (run ∷ rest) = rest

abbrev pub has_placed : List PlacedRun → Bool
has_placed [] = false
has_placed (run ∷ rest) = true
