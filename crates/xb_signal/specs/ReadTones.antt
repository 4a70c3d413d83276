-- Frequencies as they are read, one after the other.
use Rattle.std.specs.Prelude.{ℕ, ◌+◌, List, ◌++◌, Option, None, if◌then◌else◌, length, map, nat_le, option_map}
use Rattle.xb_signal.specs.declared.segment.TheConstants.{MOST_TONES}
use Rattle.xb_signal.specs.declared.word.TheConstants.{MOST_HZ}
use Rattle.xb_signal.specs.Words.{all_given, number_within}

-- the frequencies that were read, and those of the pieces that are left
abbrev pub given_after : List ℕ → List (List ℕ) → Option (List ℕ)
given_after tones left =
    if nat_le (length tones + length left) MOST_TONES
    then option_map (λ more. tones ++ more) (all_given (map (number_within MOST_HZ) left)) else None
