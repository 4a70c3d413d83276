-- Each state of the pulse stage comes back from its plain numbers.
use Rattle.std.proofs.Common.{◌≡◌, ◌≤◌, ℕ, min, refl, ap, ◌∙◌, arith}
use Rattle.xb_model.specs.declared.limits.TheConstants.{GREATEST_LIMIT}
use Rattle.xb_model.specs.declared.signal.TheConstants.{MANY_BREAKS}
use Rattle.xb_pulse.specs.declared.state.Phase.TheVariants.{OnHook, BetweenTrains, InBreak, InMake, TimedOut, Closed}
use Rattle.xb_pulse.specs.declared.state.Tally.{Tally}
use Rattle.xb_pulse.specs.Plain.{StatesComeBack}

min_is : (n most : ℕ) → n ≤ most → min n most ≡ n
min_is n most h = omega arith

tally_with : Tally → ℕ → Tally
tally_with tally breaks = record { breaks = breaks; bad = tally.bad }

pub states_come_back : StatesComeBack
unfolding tally_with
states_come_back OnHook h = refl
states_come_back (BetweenTrains total) h = ap BetweenTrains (min_is total GREATEST_LIMIT h)
states_come_back (InBreak total tally) h = ap (λ n. InBreak n (tally_with tally (min tally.breaks MANY_BREAKS))) (min_is total GREATEST_LIMIT h.0) ∙ ap (λ n. InBreak total (tally_with tally n)) (min_is tally.breaks MANY_BREAKS h.1)
states_come_back (InMake total tally) h = ap (λ n. InMake n (tally_with tally (min tally.breaks MANY_BREAKS))) (min_is total GREATEST_LIMIT h.0) ∙ ap (λ n. InMake total (tally_with tally n)) (min_is tally.breaks MANY_BREAKS h.1)
states_come_back (TimedOut total) h = ap TimedOut (min_is total GREATEST_LIMIT h)
states_come_back Closed h = refl
