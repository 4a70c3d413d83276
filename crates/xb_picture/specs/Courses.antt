-- How long runs are drawn.
use Rattle.std.specs.Prelude.{ℕ, ◌-◌, min, nat_lt, if◌then◌else◌, List, [], ◌∷◌}
use Rattle.xb_heard.specs.declared.run.PlacedRun.{PlacedRun}
use Rattle.xb_picture.specs.declared.course.TheConstants.{SHOWN}

-- a longer run is drawn with a tear
abbrev pub drawn : PlacedRun → ℕ
drawn run = min run.ms SHOWN

-- the first runs, as many as fit so many ms
abbrev pub fitting : ℕ → List PlacedRun → List PlacedRun
fitting room [] = []
fitting room (run ∷ rest) = if nat_lt room (drawn run) then [] else run ∷ fitting (room - drawn run) rest
