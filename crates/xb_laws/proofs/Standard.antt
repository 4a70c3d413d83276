-- The level and the twist of keys with no option.
use Rattle.std.proofs.Common.{List, [], ◌∷◌, arith, refl, pos, neg_ℤ}
use Rattle.std.specs.List.{AllByRecursion}
use Rattle.std.proofs.lemmas.Int.{ints}
use Rattle.xb_ear.specs.Pairs.{mf_pairs}
use Rattle.xb_model.specs.declared.key.Tone.{Tone as Pair}
use Rattle.xb_signal.specs.Levels.{amplitudes}
use Rattle.xb_signal.specs.Settings.{standard_setting}
use Rattle.xb_signal.specs.SignalLaws.{IsPlain}
use Rattle.xb_laws.specs.Tuned.{IsAsked, KeyIsTold, StandardIsTold, StandardKeysAreTold}
use Rattle.xb_laws.proofs.TunedTold.{keys_are_told}

standard-plain : IsPlain standard_setting.shape
standard-plain = record { pitch = refl; low = refl; high = refl; hole = refl; start = refl }

standard-asked : IsAsked standard_setting (neg_ℤ (pos 72)) (pos 0)
unfolding amplitudes
standard-asked = record {
  low = refl;
  high = refl;
  low_least = omega (arith, ints);
  high_least = omega (arith, ints);
}

-- of each of some pairs
each : (pairs : List Pair) → AllByRecursion KeyIsTold pairs → AllByRecursion StandardIsTold pairs
each [] all = tt
each (pair ∷ more) all =
    (λ state n. all.0 standard_setting state (neg_ℤ (pos 72)) (pos 0) n standard-plain standard-asked, each more all.1)

pub standard_keys_are_told : StandardKeysAreTold
standard_keys_are_told = each mf_pairs keys_are_told
