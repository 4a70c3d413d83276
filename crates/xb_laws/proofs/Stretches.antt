-- The tone of 200 samples that come again after 80.
use Rattle.std.proofs.Common.{◌≡◌, ◌∙◌, ℕ, zero, suc, ◌+◌, ◌*◌, ◌/◌, ◌%◌, ◌^◌, ◌<◌, ◌≤◌, Bool, true, false, ◌&&◌, List, [], ◌∷◌, ◌++◌, drop, take, length, map, reverse, sym, ap, ap₂, arith, refl, ℤ, pos, ◌+ℤ◌, ◌-ℤ◌, ◌*ℤ◌, unsigned_abs}
use lib.IntN.{*ℤ_comm}
use Rattle.std.specs.Prelude.{nat_le, slice_index_or}
use Rattle.std.specs.List.{range_with_len}
use Rattle.std.proofs.Math.Nat.{div-le_self, mul-div-mul_right, mul-div_cancel, pow-zero}
use Rattle.std.proofs.lemmas.Grind.{pow_more}
use Rattle.std.proofs.lemmas.Bool.{false≢true, leb-true}
use Rattle.std.proofs.lemmas.Int.{ints, unsigned_abs-mul}
use Rattle.std.proofs.lemmas.List.FromFn.{take-map-range_with_len}
use Rattle.xb_sound.specs.Sines.{sine_at}
use Rattle.xb_ear.proofs.Standing.{and-both}
use Rattle.xb_ear.proofs.Voltages.{distributes, distributes-right, square-is}
use Rattle.xb_measured.specs.declared.heard.MeasuredTone.{MeasuredTone}
use Rattle.xb_measured.specs.Levels.{count_up_to}
use Rattle.xb_measured.specs.Tones.{gains, hz_with, level_of, off_of, tangents, tone_by, tone_of}
use Rattle.xb_measured.specs.Waves.{rising, wave, weighed, weights}
use Rattle.xb_measured.proofs.ToneSteps.{off-is}
use Rattle.xb_laws.proofs.Beside.{level_at}
use Rattle.xb_laws.proofs.Dots.{dropped}
use Rattle.xb_laws.proofs.Inner.{inner, length²}
use Rattle.xb_laws.proofs.Loud.{given}
use Rattle.xb_ear.proofs.Products.{nothing-times, regroup}
use Rattle.xb_laws.proofs.Sums.{sum, sum-turn}
use Rattle.xb_laws.proofs.Tones.{cosine, cosine-turns, from, tone, tone-turns}

-- products, each with a weight
abbrev weighted : List ℕ → (ℕ → ℤ) → ℕ → ℤ
weighted [] p n = pos 0
weighted (a ∷ later) p n = pos a *ℤ p n +ℤ weighted later p (n + 1)

weighed-is : (w x : ℕ → ℤ) (d n : ℕ) (ws : List ℕ) (k : ℕ) → length ws ≡ k
    → weighed w n ws (map x (range_with_len (d + n) k)) ≡ weighted ws (λ i. x (d + i) *ℤ w i) n
unfolding weighed
weighed-is w x d n [] k long = refl
weighed-is w x d n (a ∷ later) zero long = absurd (omega (arith, long))
weighed-is w x d n (a ∷ later) (suc k) long =
    let next : d + n + 1 ≡ d + (n + 1) = omega arith in
    ap (λ (z : ℤ). z +ℤ weighed w (n + 1) later (map x (range_with_len (d + n + 1) k)))
    (regroup (pos a) (x (d + n)) (w n))
    ∙ ap (λ (m : ℕ). pos a *ℤ (x (d + n) *ℤ w n) +ℤ weighed w (n + 1) later (map x (range_with_len m k))) next
    ∙ ap (λ (z : ℤ). pos a *ℤ (x (d + n) *ℤ w n) +ℤ z) (weighed-is w x d (n + 1) later k (omega (arith, long)))

regrouped : (x y z u : ℤ) → y ≡ z +ℤ u → x +ℤ y ≡ (x +ℤ z) +ℤ u
regrouped x y z u is = omega (arith, ints)

weighted-joined : (us vs : List ℕ) (p : ℕ → ℤ) (n : ℕ)
    → weighted (us ++ vs) p n ≡ weighted us p n +ℤ weighted vs p (n + length us)
weighted-joined [] vs p n =
    let here : n ≡ n + 0 = omega arith in
    let all : weighted vs p n ≡ pos 0 +ℤ weighted vs p n = omega (arith, ints) in
    all ∙ ap (λ (m : ℕ). pos 0 +ℤ weighted vs p m) here
weighted-joined (a ∷ us) vs p n =
    let next : n + 1 + length us ≡ n + suc (length us) = omega arith in
    regrouped (pos a *ℤ p n) (weighted (us ++ vs) p (n + 1)) (weighted us p (n + 1)) (weighted vs p (n + 1 + length us))
    (weighted-joined us vs p (n + 1))
    ∙ ap (λ (m : ℕ). (pos a *ℤ p n +ℤ weighted us p (n + 1)) +ℤ weighted vs p m) next

weighted-turns : (us : List ℕ) (p : ℕ → ℤ) (n : ℕ) → ((i : ℕ) → p (i + 80) ≡ p i)
    → weighted us p (n + 80) ≡ weighted us p n
weighted-turns [] p n turns = refl
weighted-turns (a ∷ us) p n turns =
    let next : n + 80 + 1 ≡ n + 1 + 80 = omega arith in
    ap (λ (z : ℤ). pos a *ℤ z +ℤ weighted us p (n + 80 + 1)) (turns n)
    ∙ ap (λ (m : ℕ). pos a *ℤ p n +ℤ weighted us p m) next
    ∙ ap (λ (z : ℤ). pos a *ℤ p n +ℤ z) (weighted-turns us p (n + 1) turns)

-- each two weights are 2,000 together
abbrev are_even : List ℕ → List ℕ → Bool
are_even [] vs = true
are_even (a ∷ us) [] = false
are_even (a ∷ us) (b ∷ vs) = nat_le (a + b) 2000 && nat_le 2000 (a + b) && are_even us vs

even-step : (a b u v s t : ℤ) → a +ℤ b ≡ s → u +ℤ v ≡ t → (a +ℤ u) +ℤ (b +ℤ v) ≡ s +ℤ t
even-step a b u v s t one rest = omega (arith, ints, one, rest)

halves : (p : ℕ → ℤ) (us vs : List ℕ) (n : ℕ) → are_even us vs ≡ true → length us ≡ length vs
    → weighted us p n +ℤ weighted vs p n ≡ weighted (map (λ a. 2000) us) p n
halves p [] [] n even long = refl
halves p [] (b ∷ vs) n even long = absurd (omega (arith, long))
halves p (a ∷ us) [] n even long = absurd (false≢true even)
halves p (a ∷ us) (b ∷ vs) n even long =
    let tests = and-both _ _ even in
    let bounds = and-both _ _ tests.0 in
    let most : a + b ≤ 2000 = leb-true _ _ bounds.0 in
    let least : 2000 ≤ a + b = leb-true _ _ bounds.1 in
    let all : pos a +ℤ pos b ≡ pos 2000 = omega (arith, ints, most, least) in
    even-step (pos a *ℤ p n) (pos b *ℤ p n) (weighted us p (n + 1)) (weighted vs p (n + 1)) (pos 2000 *ℤ p n)
    (weighted (map (λ a. 2000) us) p (n + 1))
    (sym (distributes (pos a) (pos b) (p n)) ∙ ap (λ (z : ℤ). z *ℤ p n) all)
    (halves p us vs (n + 1) tests.1 (omega (arith, long)))

even-sum : (p : ℕ → ℤ) (us : List ℕ) (n : ℕ) → weighted (map (λ a. 2000) us) p n ≡ pos 2000 *ℤ sum p n (length us)
unfolding sum
even-sum p [] n = nothing-times (pos 2000)
even-sum p (a ∷ us) n =
    ap (λ (z : ℤ). pos 2000 *ℤ p n +ℤ z) (even-sum p us (n + 1))
    ∙ sym (distributes-right (pos 2000) (p n) (sum p (n + 1) (length us)))

rising-even : are_even rising (reverse rising) ≡ true
rising-even = refl

weights-long : length weights ≡ 160
unfolding weights
weights-long = refl

-- of products that come again after 80 the weights are 2,000 each
all-weighted : (p : ℕ → ℤ) (n : ℕ) → ((i : ℕ) → p (i + 80) ≡ p i) → weighted weights p n ≡ pos 2000 *ℤ sum p 0 80
unfolding weights
all-weighted p n turns =
    weighted-joined rising (reverse rising) p n
    ∙ ap (λ (z : ℤ). weighted rising p n +ℤ z) (weighted-turns (reverse rising) p n turns)
    ∙ halves p rising (reverse rising) n rising-even refl
    ∙ even-sum p rising n
    ∙ ap (λ (z : ℤ). pos 2000 *ℤ z) (sum-turn p 80 turns n)

-- a wave of the receiver's
wave-is : (h ahead i : ℕ) → wave (h * 100) ahead i ≡ sine_at ((h * i + ahead) % 80)
wave-is h ahead i =
    let all : h * 100 * i ≡ h * i * 100 = omega arith in
    ap (λ (p : ℕ). sine_at ((p / 100 + ahead) % 80)) all
    ∙ ap (λ (p : ℕ). sine_at ((p + ahead) % 80)) (mul-div_cancel (h * i) (omega arith))

sine-is : (h i : ℕ) → wave (h * 100) 0 i ≡ tone h i
sine-is h i =
    let same : h * i + 0 ≡ h * i = omega arith in
    wave-is h 0 i ∙ ap (λ (p : ℕ). sine_at (p % 80)) same

-- the sum of samples that come again after 80 with such a wave, from sample n of it on
weighed-turns : (h ahead d n : ℕ) (x v : ℕ → ℤ) → ((i : ℕ) → x (i + 80) ≡ x i) → ((i : ℕ) → v (i + 80) ≡ v i)
    → ((i : ℕ) → wave (h * 100) ahead i ≡ v i)
    → weighed (wave (h * 100) ahead) n weights (map x (range_with_len (d + n) 160)) ≡ pos 2000 *ℤ inner (from d x) v
weighed-turns h ahead d n x v x-turns v-turns is =
    let p : ℕ → ℤ = λ i. x (d + i) *ℤ v i in
    let turns : (i : ℕ) → p (i + 80) ≡ p i =
    λ i.
    let later : d + (i + 80) ≡ d + i + 80 = omega arith in
    ap (λ (z : ℤ). z *ℤ v (i + 80)) (ap x later ∙ x-turns (d + i)) ∙ ap (λ (z : ℤ). x (d + i) *ℤ z) (v-turns i) in
    weighed-is (wave (h * 100) ahead) x d n weights 160 weights-long
    ∙ weighted-agrees weights (λ i. x (d + i) *ℤ wave (h * 100) ahead i) p n
    (λ i. ap (λ (z : ℤ). x (d + i) *ℤ z) (is i))
    ∙ all-weighted p n turns
  where
    weighted-agrees : (us : List ℕ) (p q : ℕ → ℤ) (n : ℕ) → ((i : ℕ) → p i ≡ q i) → weighted us p n ≡ weighted us q n
    weighted-agrees [] p q n same = refl
    weighted-agrees (a ∷ us) p q n same =
        ap (λ (z : ℤ). pos a *ℤ z +ℤ weighted us p (n + 1)) (same n)
        ∙ ap (λ (z : ℤ). pos a *ℤ q n +ℤ z) (weighted-agrees us p q (n + 1) same)

-- the tone by the sums of both spans
abbrev tone_from : ℕ → ℤ → ℤ → ℤ → ℤ → MeasuredTone
tone_from hz c s later_c later_s =
    tone_by hz (record { cosine = c; sine = s }) (record { cosine = later_c; sine = later_s })

tone-from : (hz : ℕ) (xs : List ℤ)
    → tone_of hz xs
    ≡ tone_from hz (weighed (wave hz 20) 0 weights (take 160 xs)) (weighed (wave hz 0) 0 weights (take 160 xs))
    (weighed (wave hz 20) 40 weights (drop 40 xs)) (weighed (wave hz 0) 40 weights (drop 40 xs))
tone-from hz xs = refl

module _ (h m : ℕ) (x : ℕ → ℤ) (turns : (i : ℕ) → x (i + 80) ≡ x i) where
  abbrev c : ℤ
  c = pos 2000 *ℤ inner (from m x) (cosine h)

  abbrev s : ℤ
  s = pos 2000 *ℤ inner (from m x) (tone h)

  cosine-sum : (n : ℕ) → weighed (wave (h * 100) 20) n weights (map x (range_with_len (m + n) 160)) ≡ c
  cosine-sum n = weighed-turns h 20 m n x (cosine h) turns (cosine-turns h) (wave-is h 20)

  sine-sum : (n : ℕ) → weighed (wave (h * 100) 0) n weights (map x (range_with_len (m + n) 160)) ≡ s
  sine-sum n = weighed-turns h 0 m n x (tone h) turns (tone-turns h) (sine-is h)

  first-span : take 160 (map x (range_with_len m 200)) ≡ map x (range_with_len (m + 0) 160)
  first-span =
      let start : m ≡ m + 0 = omega arith in
      take-map-range_with_len {X = ℤ} x m 200 160 (omega arith) ∙ ap (λ (k : ℕ). map x (range_with_len k 160)) start

  later-span : drop 40 (map x (range_with_len m 200)) ≡ map x (range_with_len (m + 40) 160)
  later-span = dropped x 40 m 160 200 refl

  -- both spans of 200 samples have the same sums
  pub both-spans : tone_of (h * 100) (map x (range_with_len m 200)) ≡ tone_from (h * 100) c s c s
  both-spans =
      let hz : ℕ = h * 100 in
      tone-from hz (map x (range_with_len m 200))
      ∙ ap₂ (λ (xs ys : List ℤ). tone_from hz (weighed (wave hz 20) 0 weights xs) (weighed (wave hz 0) 0 weights xs)
      (weighed (wave hz 20) 40 weights ys) (weighed (wave hz 0) 40 weights ys)) first-span later-span
      ∙ ap₂ (λ (a b : ℤ). tone_from hz a b (weighed (wave hz 20) 40 weights (map x (range_with_len (m + 40) 160)))
      (weighed (wave hz 0) 40 weights (map x (range_with_len (m + 40) 160)))) (cosine-sum 0) (sine-sum 0)
      ∙ ap₂ (λ (a b : ℤ). tone_from hz c s a b) (cosine-sum 40) (sine-sum 40)

-- sums that do not turn
nothing-across : (c s : ℤ) → s *ℤ c -ℤ c *ℤ s ≡ pos 0
nothing-across c s =
    let same = *ℤ_comm s c in
    omega (arith, ints, same)

along-is : (c s : ℤ) → c *ℤ c +ℤ s *ℤ s ≡ pos (length² c s)
along-is c s =
    let one = square-is c in
    let two = square-is s in
    omega (arith, ints, one, two)

none-off : count_up_to 0 tangents ≡ 0
unfolding tangents
none-off = refl

not-off : (l : ℕ) → 0 < l → off_of (pos l) (pos 0) ≡ 0
not-off l some =
    let none : 0 / l ≡ 0 = omega (arith, div-le_self 0 l) in
    sym (off-is (pos l) (pos 0) (omega (arith, ints, some)))
    ∙ ap (λ (n : ℕ). count_up_to n tangents) none ∙ none-off

full-gain : slice_index_or gains 0 0 ≡ 1000
unfolding gains
full-gain = refl

squared : (n : ℕ) → n ^ 2 ≡ n * n
squared n =
    let two = pow_more n 1 in
    let one = pow_more n 0 in
    let none = pow-zero n in
    let first : n ^ 1 ≡ n = one ∙ ap (λ (k : ℕ). k * n) none ∙ omega arith in
    two ∙ ap (λ (k : ℕ). k * n) first

size-2000 : (z : ℤ) → unsigned_abs (pos 2000 *ℤ z) ^ 2 ≡ 4000000 * (unsigned_abs z * unsigned_abs z)
size-2000 z =
    let k : ℕ = unsigned_abs z in
    let size : unsigned_abs (pos 2000 *ℤ z) ≡ 2000 * k = unsigned_abs-mul (pos 2000) z in
    let square : 2000 * k * (2000 * k) ≡ 4000000 * (k * k) = omega arith in
    ap (λ (n : ℕ). n ^ 2) size ∙ squared (2000 * k) ∙ square

-- the level by the sums of both spans
abbrev level_from : ℤ → ℤ → ℕ → ℕ
level_from c s off = level_of (record { cosine = c; sine = s }) (record { cosine = c; sine = s }) off

level-is : (h m : ℕ) (x : ℕ → ℤ)
    → level_from (pos 2000 *ℤ inner (from m x) (cosine h)) (pos 2000 *ℤ inner (from m x) (tone h)) 0 ≡ level_at h m x
level-is h m x =
    let c : ℤ = inner (from m x) (cosine h) in
    let s : ℤ = inner (from m x) (tone h) in
    let p : ℕ = unsigned_abs c * unsigned_abs c in
    let q : ℕ = unsigned_abs s * unsigned_abs s in
    let level : ℕ → ℕ → ℕ → ℕ = λ a b gain. (a + b + (a + b)) * gain / 1280000000000000000000 in
    let full : (4000000 * p + 4000000 * q + (4000000 * p + 4000000 * q)) * 1000 ≡ (p + q) * 8000000000 = omega arith in
    ap₂ (λ (a b : ℕ). level a b (slice_index_or gains 0 0)) (size-2000 c) (size-2000 s)
    ∙ ap (λ (gain : ℕ). level (4000000 * p) (4000000 * q) gain) full-gain
    ∙ ap (λ (n : ℕ). n / 1280000000000000000000) full
    ∙ mul-div-mul_right {m = 8000000000} (p + q) 160000000000 (omega arith)

size-some : (p r : ℤ) → 0 < length² p r → 0 < length² (pos 2000 *ℤ p) (pos 2000 *ℤ r)
size-some p r some =
    let one : unsigned_abs (pos 2000 *ℤ p) ≡ 2000 * unsigned_abs p = unsigned_abs-mul (pos 2000) p in
    let two : unsigned_abs (pos 2000 *ℤ r) ≡ 2000 * unsigned_abs r = unsigned_abs-mul (pos 2000) r in
    let size : ℕ → ℕ → ℕ = λ a b. a * a + b * b in
    let all : length² (pos 2000 *ℤ p) (pos 2000 *ℤ r) ≡ size (2000 * unsigned_abs p) (2000 * unsigned_abs r) =
    ap₂ size one two in
    omega (arith, all, some)

abbrev pub made : ℕ → ℕ → MeasuredTone
made hz level = record { hz = hz; level = level }

turned-nowhere : (hz : ℕ) (c s : ℤ) → 0 < length² c s → tone_from hz c s c s ≡ made hz (level_from c s 0)
turned-nowhere hz c s some =
    let off : off_of (c *ℤ c +ℤ s *ℤ s) (s *ℤ c -ℤ c *ℤ s) ≡ 0 =
    ap₂ (λ (a b : ℤ). off_of a b) (along-is c s) (nothing-across c s) ∙ not-off (length² c s) some in
    let same : hz + 0 ≡ hz = omega arith in
    ap (λ (o : ℕ). made (hz_with hz (s *ℤ c -ℤ c *ℤ s) o) (level_from c s o)) off
    ∙ ap (λ (y : ℤ). made (hz_with hz y 0) (level_from c s 0)) (nothing-across c s)
    ∙ ap (λ (f : ℕ). made f (level_from c s 0)) same

-- the tone is its own frequency, at the level of its sums
pub tone-told : (h m : ℕ) (x : ℕ → ℤ) → ((i : ℕ) → x (i + 80) ≡ x i) → 0 < given h m x
    → tone_of (h * 100) (map x (range_with_len m 200)) ≡ made (h * 100) (level_at h m x)
tone-told h m x turns some =
    let c : ℤ = inner (from m x) (cosine h) in
    let s : ℤ = inner (from m x) (tone h) in
    both-spans h m x turns
    ∙ turned-nowhere (h * 100) (pos 2000 *ℤ c) (pos 2000 *ℤ s) (size-some c s some)
    ∙ ap (λ (l : ℕ). made (h * 100) l) (level-is h m x)
