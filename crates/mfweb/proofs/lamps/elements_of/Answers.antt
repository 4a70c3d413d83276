use Rattle.std.proofs.Common.{ℕ, false, ap, ◌∙◌}
use Rattle.xb_model.specs.TwoOfFive.{pattern_of_count}
use Rattle.xb_structs.specs.Signals.{bits_of}
use Rattle.mfweb.proofs.lamps.elements_of.Goals as goal

pub returns : goal.returns
returns c =
    c.train_elements.ensures ∙ ap (λ (pulses : ℕ). bits_of (pattern_of_count pulses false)) c.pulses_of.ensures
