use Rattle.std.specs.Prelude.{◌≡◌, length, take, true, ◌-◌}
use Rattle.std.specs.Io.KnownBytes.{Consumes}
use Rattle.xb_recording.specs.Beginnings.{tells_nothing_yet}
use Rattle.xb_feed.specs.declared.beginning.TheConstants.{MOST_BEGINNING_BYTES}
use Rattle.xb_feed.proofs.beginning.told_beginning.Given as goal

abbrev pub invariant-loop-buffer : goal.invariant-loop-buffer
invariant-loop-buffer g l =
    Consumes (g.R.Read.remaining l.initial.input) (g.R.Read.remaining l.input) l.bytes.items
    × (tells_nothing_yet (take MOST_BEGINNING_BYTES l.bytes.items) ≡ true)

abbrev pub decreases-loop-buffer : goal.decreases-loop-buffer
decreases-loop-buffer g l = MOST_BEGINNING_BYTES - length l.bytes.items
