-- What is told of a block of each digit, and of each pair of MF keys.
use Rattle.std.specs.Prelude.{◌≡◌, ℕ, List, true, false, map, ◌+ℤ◌, ℤ}
use Rattle.std.specs.List.{list_all, list_any, range_with_len}
use Rattle.xb_model.specs.declared.key.Tone.{Tone as Pair}
use Rattle.xb_ear.specs.Pairs.{mf_pairs}
use Rattle.xb_signal.specs.Waves.{wave_sample}
use Rattle.xb_measured.specs.ButtonBlocks.{has_digit}
use Rattle.xb_measured.specs.declared.button_block.TheConstants.{HIGH, LOW}

-- a block in which two frequencies sound
abbrev pub sounding : ℕ → ℕ → List ℤ
sounding low high = map (λ n. wave_sample low n +ℤ wave_sample high n) (range_with_len 0 160)

abbrev pub DigitsAreTold : Type 0
DigitsAreTold = list_all (λ low. list_all (λ high. has_digit (sounding low high)) HIGH) LOW ≡ true

abbrev pub KeysAreNoDigits : Type 0
KeysAreNoDigits = list_any (λ (pair : Pair). has_digit (sounding pair.low pair.high)) mf_pairs ≡ false
