-- A sound upon a steady voltage (direct current).
use Rattle.std.specs.Prelude.{◌≡◌, List, map, ℤ, ◌+ℤ◌}
use Rattle.xb_ear.specs.Receivers.{keys_of_sound}

-- of any sound just the same keys are heard, with the same figures, whatever steady voltage is added to it
abbrev pub VoltagesChangeNothing : Type 0
VoltagesChangeNothing = (voltage : ℤ) (samples : List ℤ)
    → keys_of_sound (map (λ x. x +ℤ voltage) samples) ≡ keys_of_sound samples
