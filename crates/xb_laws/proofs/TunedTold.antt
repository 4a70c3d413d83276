-- The level and the twist that are told are those that were asked for.
use Rattle.std.proofs.Common.{◌≡◌, ◌∙◌, ℕ, ◌+◌, ◌*◌, ◌/◌, ◌%◌, ◌≤◌, Bool, true, false, cond, List, [], ◌∷◌, map, Some, None, sym, ap, ap₂, arith, refl, ℤ, pos, negsuc, neg_ℤ, ◌+ℤ◌, ◌-ℤ◌}
use Rattle.std.specs.Prelude.{nat_le, ◌≤ℤ◌}
use Rattle.std.specs.List.{AllByRecursion, range_with_len}
use Rattle.std.proofs.Math.Nat.{mul-div_cancel}
use Rattle.std.proofs.lemmas.Bool.{leb-true}
use Rattle.std.proofs.lemmas.Int.{ints}
use Rattle.xb_model.specs.MfPairs.{pair}
use Rattle.xb_sound.specs.Sines.{sine_at}
use Rattle.xb_ear.specs.Pairs.{pairs_among}
use Rattle.xb_measured.specs.Levels.{tenths_of}
use Rattle.xb_measured.specs.Tones.{tone_of}
use Rattle.xb_signal.specs.declared.segment.Sound.TheVariants.{Keyed}
use Rattle.xb_signal.specs.declared.setting.Setting.{Setting}
use Rattle.xb_signal.specs.Levels.{amplitude_at, table_at}
use Rattle.xb_signal.specs.OneSample.{clean_sample}
use Rattle.xb_signal.specs.SignalLaws.{IsPlain}
use Rattle.xb_signal.specs.Waves.{scaled, wave_sample}
use Rattle.xb_signal.proofs.PlainKeys.{plain_keys_are_written}
use Rattle.xb_signal.proofs.Sines.{waves_are_sines}
use Rattle.xb_laws.specs.Tuned.{KeyIsTold, KeysAreTold, told}
use Rattle.xb_laws.proofs.Known.{IsKnown, known7, known9, known11, known13, known15, known17}
use Rattle.xb_laws.proofs.Leaks.{GivesLittle, leak7-9, leak7-11, leak7-13, leak7-15, leak9-7, leak9-11, leak9-13, leak9-15, leak9-17, leak11-7, leak11-9, leak11-13, leak11-15, leak11-17, leak13-7, leak13-9, leak13-11, leak13-15, leak13-17, leak15-7, leak15-9, leak15-11, leak15-13, leak15-17, leak17-9, leak17-11, leak17-13, leak17-15}
use Rattle.xb_laws.proofs.Leaks7.{leak7-17, leak17-7}
use Rattle.xb_laws.proofs.Loud.{loud}
use Rattle.xb_laws.proofs.Measured.{measured}

-- the place in the table of a level that was asked for
record IsPlaced (level : ℤ) (amplitude place : ℕ) : Type 0 where
  at : level +ℤ pos 400 ≡ pos place
  least : 100 ≤ place
  most : place ≤ 400
  amplitude_is : amplitude ≡ table_at place

same-amplitude : (a b : ℕ) → Some a ≡ Some b → b ≡ a
same-amplitude a b is = cc

placed : (level : ℤ) (a : ℕ) → amplitude_at (level +ℤ pos 400) ≡ Some a → neg_ℤ (pos 300) ≤ℤ level
    → (place : ℕ) × IsPlaced level a place
placed level a known least = by (level +ℤ pos 400) refl known
  where
    tested : (k : ℕ) (inside : Bool) → level +ℤ pos 400 ≡ pos k → nat_le k 400 ≡ inside
        → cond inside (Some (table_at k)) None ≡ Some a → (place : ℕ) × IsPlaced level a place
    tested k true at inside known = (
      k,
      record {
        at = at;
        least = omega (arith, ints, at, least);
        most = leb-true _ _ inside;
        amplitude_is = same-amplitude (table_at k) a known;
      },
    )
    tested k false at inside known = absurd (cc)

    by : (z : ℤ) → level +ℤ pos 400 ≡ z → amplitude_at z ≡ Some a → (place : ℕ) × IsPlaced level a place
    by (pos k) at known = tested k (nat_le k 400) at refl known
    by (negsuc k) at known = absurd (cc)

-- a sample of a tone that is written
written : (a h n : ℕ) → scaled a (wave_sample (h * 100) n) ≡ loud a h n
written a h n =
    let all : h * 100 * n ≡ h * n * 100 = omega arith in
    ap (scaled a) (waves_are_sines h n
    ∙ ap (λ (p : ℕ). sine_at (p / 100 % 80)) all
    ∙ ap (λ (p : ℕ). sine_at (p % 80)) (mul-div_cancel (h * n) (omega arith)))

no-third : (x y u v : ℤ) → x ≡ u → y ≡ v → x +ℤ (y +ℤ pos 0) ≡ u +ℤ v
no-third x y u v one two = omega (arith, ints, one, two)

module _ (f g : ℕ) (setting : Setting) (state : ℕ) (plain : IsPlain setting.shape) where
  clean : (n : ℕ) → clean_sample setting state (Keyed (pair (f * 100) (g * 100))) n
      ≡ loud setting.low f n +ℤ loud setting.high g n
  clean n =
      plain_keys_are_written setting state (pair (f * 100) (g * 100)) n plain
      ∙ no-third (scaled setting.low (wave_sample (f * 100) n)) (scaled setting.high (wave_sample (g * 100) n))
      (loud setting.low f n) (loud setting.high g n) (written setting.low f n) (written setting.high g n)

turned : (x y z : ℤ) → z ≡ x +ℤ y → z ≡ y +ℤ x
turned x y z is = omega (arith, ints, is)

told-as : (level : ℤ) (place tenths : ℕ) → level +ℤ pos 400 ≡ pos place → tenths ≡ place + 472
    → pos tenths -ℤ pos 872 ≡ level
told-as level place tenths at is = omega (arith, ints, at, is)

difference : (low high level twist : ℤ) → low ≡ level → high ≡ level +ℤ twist → high -ℤ low ≡ twist
difference low high level twist one two = omega (arith, ints, one, two)

nothing-above : (level : ℤ) → (level +ℤ pos 0) +ℤ pos 400 ≡ level +ℤ pos 400
nothing-above level = omega (arith, ints)

key-told : (f g n x k y : ℕ) → IsKnown f n x → IsKnown g k y → GivesLittle g f x → GivesLittle f g y
    → KeyIsTold (pair (f * 100) (g * 100))
key-told f g n x k y low high to-low to-high setting state level twist m plain asked =
    let first = placed level setting.low
    (ap amplitude_at (sym (nothing-above level)) ∙ asked.low) asked.low_least in
    let second = placed (level +ℤ twist) setting.high asked.high asked.high_least in
    let one = first.1 in
    let two = second.1 in
    let z : ℕ → ℤ = clean_sample setting state (Keyed (pair (f * 100) (g * 100))) in
    let is : (i : ℕ) → z i ≡ loud (table_at first.0) f i +ℤ loud (table_at second.0) g i =
    λ i. clean f g setting state plain i
    ∙ ap₂ (λ (a b : ℕ). loud a f i +ℤ loud b g i) one.amplitude_is two.amplitude_is in
    let is-turned : (i : ℕ) → z i ≡ loud (table_at second.0) g i +ℤ loud (table_at first.0) f i =
    λ i. turned (loud (table_at first.0) f i) (loud (table_at second.0) g i) (z i) (is i) in
    let of-low = measured f g n x first.0 second.0 low to-low one.least one.most two.least two.most z is m in
    let of-high = measured g f k y second.0 first.0 high to-high two.least two.most one.least one.most z is-turned m in
    let samples : List ℤ = map z (range_with_len m 200) in
    let low-level : told (tone_of (f * 100) samples) ≡ level =
    told-as level first.0 (tenths_of (tone_of (f * 100) samples).level) one.at of-low.tenths_are in
    let high-level : told (tone_of (g * 100) samples) ≡ level +ℤ twist =
    told-as (level +ℤ twist) second.0 (tenths_of (tone_of (g * 100) samples).level) two.at of-high.tenths_are in
    record {
      low_hz = of-low.hz_is;
      high_hz = of-high.hz_is;
      level_is = low-level;
      twist_is = difference (told (tone_of (f * 100) samples)) (told (tone_of (g * 100) samples)) level twist
          low-level high-level;
    }

-- each pair of the six
pub keys_are_told : KeysAreTold
keys_are_told =
    let told7-9 = key-told _ _ _ _ _ _ known7 known9 leak9-7 leak7-9 in
    let told7-11 = key-told _ _ _ _ _ _ known7 known11 leak11-7 leak7-11 in
    let told9-11 = key-told _ _ _ _ _ _ known9 known11 leak11-9 leak9-11 in
    let told7-13 = key-told _ _ _ _ _ _ known7 known13 leak13-7 leak7-13 in
    let told9-13 = key-told _ _ _ _ _ _ known9 known13 leak13-9 leak9-13 in
    let told11-13 = key-told _ _ _ _ _ _ known11 known13 leak13-11 leak11-13 in
    let told7-15 = key-told _ _ _ _ _ _ known7 known15 leak15-7 leak7-15 in
    let told9-15 = key-told _ _ _ _ _ _ known9 known15 leak15-9 leak9-15 in
    let told11-15 = key-told _ _ _ _ _ _ known11 known15 leak15-11 leak11-15 in
    let told13-15 = key-told _ _ _ _ _ _ known13 known15 leak15-13 leak13-15 in
    let told7-17 = key-told _ _ _ _ _ _ known7 known17 leak17-7 leak7-17 in
    let told9-17 = key-told _ _ _ _ _ _ known9 known17 leak17-9 leak9-17 in
    let told11-17 = key-told _ _ _ _ _ _ known11 known17 leak17-11 leak11-17 in
    let told13-17 = key-told _ _ _ _ _ _ known13 known17 leak17-13 leak13-17 in
    let told15-17 = key-told _ _ _ _ _ _ known15 known17 leak17-15 leak15-17 in
    let from-17 : AllByRecursion KeyIsTold (pairs_among (700 ∷ 900 ∷ 1100 ∷ 1300 ∷ 1500 ∷ []) (1700 ∷ [])) =
    (told7-17, (told9-17, (told11-17, (told13-17, (told15-17, tt))))) in
    let from-15 : AllByRecursion KeyIsTold (pairs_among (700 ∷ 900 ∷ 1100 ∷ 1300 ∷ []) (1500 ∷ 1700 ∷ [])) =
    (told7-15, (told9-15, (told11-15, (told13-15, from-17)))) in
    let from-13 : AllByRecursion KeyIsTold (pairs_among (700 ∷ 900 ∷ 1100 ∷ []) (1300 ∷ 1500 ∷ 1700 ∷ [])) =
    (told7-13, (told9-13, (told11-13, from-15))) in
    (told7-9, (told7-11, (told9-11, from-13)))
