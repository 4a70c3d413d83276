use Rattle.xb_rx.specs.Samples.{IsForm}
use Rattle.test_sounds.proofs.rx.forms.check_sound.Given as goal

abbrev pub invariant-loop-sample : goal.invariant-loop-sample
invariant-loop-sample l = IsForm l.source.form
