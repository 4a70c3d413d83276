use Rattle.std.proofs.Common.{◌≡◌, ◌++◌, drop}
use Rattle.std.specs.List.{flat_map}
use Rattle.xb_clock.specs.Clocks.{text_in}
use Rattle.xb_live.specs.EventObjects.{line_at, object_by}
use Rattle.xb_live.proofs.events.event_lines.Given as goal

abbrev pub invariant-loop-signal : goal.invariant-loop-signal
invariant-loop-signal l =
    l.lines.items ++ flat_map (λ signal. line_at (text_in l.time) (object_by l.line l.heard.at l.heard.dialled signal)) (drop l.signal-index l.signals)
    ≡ flat_map (λ signal. line_at (text_in l.time) (object_by l.line l.heard.at l.heard.dialled signal)) l.signals
