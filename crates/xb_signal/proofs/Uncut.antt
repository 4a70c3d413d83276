-- What fits is not cut.
use Rattle.std.proofs.Common.{◌≡◌, ◌∙◌, ℕ, zero, suc, ◌+◌, ◌-◌, ◌*◌, ◌/◌, ◌%◌, ◌<◌, ◌≤◌, inl, inr, Bool, true, false, ◌&&◌, cond, List, [], ◌∷◌, ap, arith, refl, subst, sym, ℤ, pos, negsuc, neg_ℤ, ◌+ℤ◌, ◌-ℤ◌, unsigned_abs}
use Rattle.std.specs.Prelude.{◌==◌, max, nat_le, nat_lt}
use Rattle.std.specs.List.{range_with_len}
use Rattle.std.proofs.lemmas.Bool.{cases_lt, false≢true, le-leb, leb-true}
use Rattle.std.proofs.lemmas.Int.{ints}
use Rattle.std.proofs.lemmas.Nat.{div-add-mod', mod_below}
use Rattle.std.proofs.Math.Nat.{add-mul-mod_self_right, mul-le-mul_left}
use Rattle.xb_model.specs.declared.key.Tone.{Tone as Pair}
use Rattle.xb_sound.proofs.SineTables.{holds_below}
use Rattle.xb_signal.specs.declared.key_sample.Starts.{Starts}
use Rattle.xb_signal.specs.declared.segment.Sound.{Sound}
use Rattle.xb_signal.specs.declared.segment.Sound.TheVariants.{Keyed, Written}
use Rattle.xb_signal.specs.declared.setting.Setting.{Setting}
use Rattle.xb_signal.specs.declared.shape.Shape.{Shape}
use Rattle.xb_signal.specs.declared.steady.Steady.{Steady}
use Rattle.xb_chance.specs.Swings.{swing}
use Rattle.xb_chance.proofs.Swings.{swing_is_small}
use Rattle.xb_signal.specs.OneSample.{clean_sample, cut, fits, has_room, is_drawn, peak_of}
use Rattle.xb_signal.specs.Segments.{samples_fit}
use Rattle.xb_signal.specs.Shapes.{drawn, is_in_hole, keyed_sample, late_sample, starts_of, tuned, wave_from}
use Rattle.xb_signal.specs.SignalLaws.{NothingIsCut}
use Rattle.xb_signal.specs.Steadies.{harmonic, harmonics, hum_peak, hum_sample, mains_peak, mains_sample, peak_from, portion, steady_peak, steady_sample, tone_sample}
use Rattle.xb_signal.specs.Waves.{quarter_at, scaled, signed_as, wave_at, wave_sample}
use Rattle.xb_signal.proofs.Sums.{sum-small}
use Rattle.xb_signal.proofs.Waves.{quarter-small}

-- the size of a number, whose sign is that of another
size-signed : (x : ℤ) (size : ℕ) → unsigned_abs (signed_as x size) ≡ size
size-signed (pos x) size = refl
size-signed (negsuc x) size = omega (arith, ints)

-- a tone has at most its amplitude
scaled-small : (amplitude : ℕ) (x : ℤ) → unsigned_abs x ≤ 10000 → unsigned_abs (scaled amplitude x) ≤ amplitude
scaled-small amplitude x small =
    let product : ℕ = amplitude * unsigned_abs x in
    let size : ℕ = (product + 5000) / 10000 in
    let less : product ≤ amplitude * 10000 = mul-le-mul_left amplitude small in
    let whole : size * 10000 + (product + 5000) % 10000 ≡ product + 5000 = div-add-mod' (product + 5000) 10000 in
    let few : size ≤ amplitude = omega (arith, less, whole) in
    subst (λ (n : ℕ). n ≤ amplitude) (sym (size-signed x size)) few

below-zero : (n : ℕ) → n ≤ 10000 → unsigned_abs (neg_ℤ (pos n)) ≤ 10000
below-zero n small = omega (arith, ints, small)

wave-small : (place : ℕ) → unsigned_abs (wave_at place) ≤ 10000
wave-small place = by (nat_le place 2000) (nat_le place 4000) (nat_le place 6000)
  where
    by : (a b c : Bool) → unsigned_abs (cond a (pos (quarter_at place)) (cond b (pos (quarter_at (4000 - place)))
        (cond c (neg_ℤ (pos (quarter_at (place - 4000)))) (neg_ℤ (pos (quarter_at (8000 - place))))))) ≤ 10000
    by true b c = quarter-small place
    by false true c = quarter-small (4000 - place)
    by false false true = below-zero (quarter_at (place - 4000)) (quarter-small (place - 4000))
    by false false false = below-zero (quarter_at (8000 - place)) (quarter-small (8000 - place))

either-small : (b : Bool) (x : ℤ) (most : ℕ) → unsigned_abs x ≤ most → unsigned_abs (cond b (pos 0) x) ≤ most
either-small true x most small = omega arith
either-small false x most small = small

late-small : (late place hz n : ℕ) → unsigned_abs (late_sample late place hz n) ≤ 10000
late-small late place hz n =
    either-small (nat_lt n (late * 8)) (wave_from place hz (n - late * 8)) 10000
    (wave-small ((place + hz * (n - late * 8)) % 8000))

-- a key has at most both its amplitudes
keyed-small : (low high : ℕ) (shape : Shape) (state : ℕ) (pair : Pair) (n : ℕ)
    → unsigned_abs (keyed_sample low high shape state pair n) ≤ low + high
keyed-small low high shape state pair n =
    let x = late_sample shape.low_late_ms (starts_of shape state).low (tuned shape.pitch pair.low) n in
    let y = late_sample shape.high_late_ms (starts_of shape state).high (tuned shape.pitch pair.high) n in
    either-small (is_in_hole shape n) (scaled low x +ℤ scaled high y) (low + high)
    (sum-small (scaled low x) (scaled high y) low high
    (scaled-small low x
    (late-small shape.low_late_ms (starts_of shape state).low (tuned shape.pitch pair.low) n))
    (scaled-small high y
    (late-small shape.high_late_ms (starts_of shape state).high (tuned shape.pitch pair.high) n)))

-- a hum comes again after 400 samples
same-place : (number n : ℕ) → 60 * number * n % 8000 ≡ 60 * number * (n % 400) % 8000
same-place number n =
    let q : ℕ = n / 400 in
    let r : ℕ = n % 400 in
    let whole : q * 400 + r ≡ n = div-add-mod' n 400 in
    let parts : 60 * number * (q * 400 + r) ≡ 60 * number * r + 3 * number * q * 8000 = omega arith in
    ap (λ (k : ℕ). 60 * number * k % 8000) (sym whole)
    ∙ ap (λ (k : ℕ). k % 8000) parts
    ∙ add-mul-mod_self_right (60 * number * r) (3 * number * q) 8000

same-harmonics : (amplitude : ℕ) (numbers : List ℕ) (n : ℕ)
    → harmonics amplitude numbers n ≡ harmonics amplitude numbers (n % 400)
unfolding harmonics
same-harmonics amplitude [] n = refl
same-harmonics amplitude (number ∷ more) n =
    ap (λ (p : ℕ). scaled (portion amplitude number) (wave_at p) +ℤ harmonics amplitude more n) (same-place number n)
    ∙ ap (λ (x : ℤ). harmonic amplitude number (n % 400) +ℤ x) (same-harmonics amplitude more n)

in-peak : (amplitude count a n : ℕ) → a ≤ n → n < a + count
    → unsigned_abs (mains_sample amplitude n) ≤ peak_from amplitude a count
unfolding peak_from
in-peak amplitude zero a n low high = absurd (omega arith)
in-peak amplitude (suc count) a n low high =
    let first = unsigned_abs (mains_sample amplitude a) in
    let later = peak_from amplitude (a + 1) count in
    elim (cases_lt a n) [
      | inl above ↦
          let less = in-peak amplitude count (a + 1) n (omega arith) (omega arith) in
          let most : later ≤ max first later = omega arith in
          omega (arith, less, most)
      | inr here ↦
          let same : a ≡ n = omega arith in
          let most : first ≤ max first later = omega arith in
          subst (λ (m : ℕ). unsigned_abs (mains_sample amplitude m) ≤ max first later) same most
    ]

mains-small : (amplitude n : ℕ) → unsigned_abs (mains_sample amplitude n) ≤ mains_peak amplitude
mains-small amplitude n =
    subst (λ (x : ℤ). unsigned_abs x ≤ mains_peak amplitude) (sym (same-harmonics amplitude (range_with_len 1 8) n))
    (in-peak amplitude 400 0 (n % 400) (omega arith) (mod_below n 400 (omega arith)))

hum-small : (amplitude n : ℕ) → unsigned_abs (hum_sample amplitude n) ≤ hum_peak amplitude
hum-small amplitude n = by (amplitude == 0)
  where
    by : (none : Bool)
        → unsigned_abs (cond none (pos 0) (mains_sample amplitude n)) ≤ cond none 0 (mains_peak amplitude)
    by true = omega arith
    by false = mains-small amplitude n

steady-small : (steady : Steady) (n : ℕ) → unsigned_abs (steady_sample steady n) ≤ steady_peak steady
steady-small steady n =
    sum-small (tone_sample steady n) (hum_sample steady.hum n) steady.amplitude (hum_peak steady.hum)
    (either-small (steady.amplitude == 0) (scaled steady.amplitude (wave_sample steady.hz n)) steady.amplitude
    (scaled-small steady.amplitude (wave_sample steady.hz n) (wave-small (steady.hz * n % 8000))))
    (hum-small steady.hum n)

-- a sample of 16 bits
abbrev Has16Bits : ℤ → Type 0
Has16Bits x = (k : ℕ) × (x +ℤ pos 32768 ≡ pos k) × (k < 65536)

of-fits : (x : ℤ) → fits x ≡ true → Has16Bits x
of-fits (pos x) is = (x + 32768, omega (arith, ints), omega (arith, leb-true x 32767 is))
of-fits (negsuc x) is = (32767 - x, omega (arith, ints, leb-true x 32767 is), omega arith)

uncut : (x : ℤ) → Has16Bits x → cut x ≡ x
uncut (pos x) bits =
    let small : x ≤ 32767 = omega (arith, ints, bits.1, bits.2) in
    ap (λ (b : Bool). cond b (pos x) (pos 32767)) (le-leb x 32767 small)
uncut (negsuc x) bits =
    let small : x ≤ 32767 = omega (arith, ints, bits.1, bits.2) in
    ap (λ (b : Bool). cond b (negsuc x) (negsuc 32767)) (le-leb x 32767 small)

and-both : (b c : Bool) → (b && c) ≡ true → (b ≡ true) × (c ≡ true)
and-both true c e = (refl, e)
and-both false c e = absurd (false≢true e)

-- between two numbers of 16 bits
between : (x d : ℤ) (peak : ℕ) → unsigned_abs d ≤ peak → Has16Bits (x +ℤ pos peak) → Has16Bits (x -ℤ pos peak)
    → Has16Bits (x +ℤ d)
between x d peak small high low =
    let k : ℕ = unsigned_abs (x +ℤ d +ℤ pos 32768) in
    let is : x +ℤ d +ℤ pos 32768 ≡ pos k = omega (arith, ints, small, low.1) in
    (k, is, omega (arith, ints, small, is, high.1, high.2))

-- what has room is not cut
room : (x d : ℤ) (peak : ℕ) → has_room peak x ≡ true → unsigned_abs d ≤ peak → cut (x +ℤ d) ≡ x +ℤ d
room x d peak has small =
    let both = and-both (fits (x +ℤ pos peak)) (fits (x -ℤ pos peak)) has in
    uncut (x +ℤ d) (between x d peak small (of-fits (x +ℤ pos peak) both.0) (of-fits (x -ℤ pos peak) both.1))

-- nor is what is no greater
room-below : (x d : ℤ) (most peak : ℕ) → has_room peak (pos most) ≡ true → unsigned_abs x ≤ most
    → unsigned_abs d ≤ peak → cut (x +ℤ d) ≡ x +ℤ d
room-below x d most peak has less small =
    let high = of-fits (pos most +ℤ pos peak) (and-both (fits (pos most +ℤ pos peak)) (fits (pos most -ℤ pos peak)) has).0 in
    let k : ℕ = unsigned_abs (x +ℤ d +ℤ pos 32768) in
    let sum : most + peak ≤ 32767 = omega (arith, ints, high.1, high.2) in
    let is : x +ℤ d +ℤ pos 32768 ≡ pos k = omega (arith, ints, small, less, sum) in
    uncut (x +ℤ d) (k, is, omega (arith, ints, small, less, sum, is))

-- where no place is drawn the state counts for nothing
any-state : (setting : Setting) (state : ℕ) (sound : Sound) (n : ℕ) → is_drawn setting sound ≡ false
    → clean_sample setting 0 sound n ≡ clean_sample setting state sound n
any-state setting state (Written tones) n none = refl
any-state setting state (Keyed pair) n none =
    let shape = setting.shape in
    let low = tuned shape.pitch pair.low in
    let high = tuned shape.pitch pair.high in
    let at : Starts → ℤ =
    λ starts. cond (is_in_hole shape n) (pos 0) (scaled setting.low (late_sample shape.low_late_ms starts.low low n)
    +ℤ scaled setting.high (late_sample shape.high_late_ms starts.high high n)) in
    let here : ℕ → Bool → Starts =
    λ state b. cond b (record { low = drawn state 1; high = drawn state 2 }) (record { low = 0; high = 0 }) in
    ap (λ (b : Bool). at (here 0 b)) none ∙ sym (ap (λ (b : Bool). at (here state b)) none)

drawn-small : (setting : Setting) (state : ℕ) (sound : Sound) (n : ℕ) → is_drawn setting sound ≡ true
    → unsigned_abs (clean_sample setting state sound n) ≤ setting.low + setting.high
drawn-small setting state (Written tones) n is = absurd (false≢true is)
drawn-small setting state (Keyed pair) n is = keyed-small setting.low setting.high setting.shape state pair n

fits-by : (setting : Setting) (state : ℕ) (sound : Sound) (ms n : ℕ) (d : ℤ) (b : Bool) → is_drawn setting sound ≡ b
    → cond b (has_room (peak_of setting) (pos (setting.low + setting.high))) (samples_fit setting sound ms) ≡ true
    → n < ms * 8 → unsigned_abs d ≤ peak_of setting
    → cut (clean_sample setting state sound n +ℤ d) ≡ clean_sample setting state sound n +ℤ d
fits-by setting state sound ms n d true is fit below small =
    room-below (clean_sample setting state sound n) d (setting.low + setting.high) (peak_of setting) fit
    (drawn-small setting state sound n is) small
fits-by setting state sound ms n d false is fit below small =
    let has = holds_below (λ k. has_room (peak_of setting) (clean_sample setting 0 sound k)) (ms * 8) 0 fit n
    (omega arith) (omega (arith, below)) in
    subst (λ (x : ℤ). cut (x +ℤ d) ≡ x +ℤ d) (any-state setting state sound n is)
    (room (clean_sample setting 0 sound n) d (peak_of setting) has small)

sum-assoc : (a b c : ℤ) → (a +ℤ b) +ℤ c ≡ a +ℤ (b +ℤ c)
sum-assoc a b c = omega (arith, ints)

pub nothing_is_cut : NothingIsCut
nothing_is_cut setting moment segment n fit below =
    let clean = clean_sample setting moment.noise segment.sound n in
    let steady = steady_sample setting.steady (moment.place + n) in
    let heard = swing setting.noise_peak moment.noise n in
    let least = sum-small steady heard (steady_peak setting.steady) setting.noise_peak
    (steady-small setting.steady (moment.place + n)) (swing_is_small setting.noise_peak moment.noise n) in
    let small : unsigned_abs (steady +ℤ heard) ≤ peak_of setting = omega (arith, least) in
    ap cut (sum-assoc clean steady heard)
    ∙ fits-by setting moment.noise segment.sound segment.ms n (steady +ℤ heard) (is_drawn setting segment.sound) refl
    fit below small
    ∙ sym (sum-assoc clean steady heard)
