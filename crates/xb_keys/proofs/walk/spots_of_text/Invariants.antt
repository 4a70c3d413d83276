use Rattle.std.proofs.Common.{◌≡◌, ◌-◌, ◌*◌, length}
use denote.Text.{Utf8}
use denote.Shadow.{shadow}
use Rattle.xb_keys.specs.Spots.{begun, walked}
use Rattle.xb_keys.specs.Walks.{walk_of}
use Rattle.xb_keys.proofs.walk.spots_of_text.Given as goal

abbrev pub invariant-loop-turn : goal.invariant-loop-turn
invariant-loop-turn l =
    shadow (Utf8 l.rest)
    × (walked (2 * length l.text) l.total begun l.text
    ≡ walked (2 * length l.text - l._turn) l.total (walk_of l.walk) l.rest)
