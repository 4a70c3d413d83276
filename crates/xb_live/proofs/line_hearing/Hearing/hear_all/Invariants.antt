use Rattle.std.proofs.Common.{◌≡◌, drop}
use Rattle.xb_live.specs.Hearings.{after_signals}
use Rattle.xb_live.proofs.line_hearing.Hearing.hear_all.Given as goal

abbrev pub invariant-loop-signal : goal.invariant-loop-signal
invariant-loop-signal l =
    after_signals l.register l.self (drop l.signal-index l.signals) ≡ after_signals l.register l.initial.self l.signals
