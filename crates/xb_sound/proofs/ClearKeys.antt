-- Each 10 ms of the tone of a key.
use Rattle.std.proofs.Common.{◌≡◌, ◌∙◌, ℕ, zero, suc, ◌+◌, ◌*◌, ◌/◌, ◌%◌, ◌<◌, Bool, true, List, ◌∷◌, map, sym, ap, arith, refl, ℤ, ◌++◌, ◌-◌, ◌≤◌, append_assoc, drop, length, take}
use Rattle.std.specs.List.{list_all, range_with_len}
use Rattle.std.proofs.lemmas.List.{drop-append-le, drop-drop, drop_at, length-drop, take-append-le}
use Rattle.std.proofs.lemmas.List.Concat.{flat_map-append}
use Rattle.std.proofs.lemmas.List.FromFn.{length-map-range_with_len, take-map-range_with_len}
use Rattle.std.proofs.lemmas.Nat.{div-add-mod', mod_below}
use Rattle.xb_model.specs.declared.key.Key.TheVariants.{Digit, Kp, St}
use Rattle.xb_model.specs.declared.key.Tone.{Tone as Pair}
use Rattle.xb_model.specs.declared.mark.Mark.TheVariants.{Tone}
use Rattle.xb_model.specs.MfPairs.{mf_pair, pair}
use Rattle.xb_sound.specs.HeardKeys.{KeysAreClear, TonesAreClear, is_clear, ten_ms}
use Rattle.xb_sound.specs.Cadences.{tone_ms}
use Rattle.xb_sound.specs.Sounds.{mark_sound, silence, sound_of, tone_sound}
use Rattle.xb_sound.specs.Receiver.{correlation, cosine_wave, sine_wave}
use Rattle.xb_sound.specs.Sines.{pair_sample, sine_table}
use Rattle.xb_sound.proofs.KeyWaves.{each_digit}
use Rattle.xb_sound.proofs.Places.{pair_sample-turns}
use Rattle.xb_sound.proofs.SineTables.{holds_below}

-- a wave that turns after 80 samples, from whole turns on
turned : (f : ℕ → ℤ) → ((turns n : ℕ) → f (turns * 80 + n) ≡ f n) → (m i turns n : ℕ) → i ≡ turns * 80 + n
    → map f (range_with_len i m) ≡ map f (range_with_len n m)
turned f turns_at zero i turns n at = refl
turned f turns_at (suc m) i turns n at =
    ap (λ (x : ℤ). x ∷ map f (range_with_len (i + 1) m)) (ap f at ∙ turns_at turns n)
    ∙ ap (λ (xs : List ℤ). f n ∷ xs) (turned f turns_at m (i + 1) turns (n + 1) (omega arith))

-- the 10 ms from sample n on are clear
abbrev clear_at : Pair → ℕ → Bool
clear_at pair n = is_clear pair (ten_ms pair n)

-- it is enough to look at one turn
clear_everywhere : (a b : ℕ)
    → list_all (λ n. clear_at (pair (a * 100) (b * 100)) n) (range_with_len 0 80) ≡ true
    → (n : ℕ) → clear_at (pair (a * 100) (b * 100)) n ≡ true
clear_everywhere a b all n =
    let p = pair (a * 100) (b * 100) in
    let rest : n % 80 < 80 = mod_below n 80 (omega arith) in
    let whole : n ≡ n / 80 * 80 + n % 80 = sym (div-add-mod' n 80) in
    ap (λ (samples : List ℤ). is_clear p samples)
    (turned (λ k. pair_sample p k) (pair_sample-turns a b) 80 n (n / 80) (n % 80) whole)
    ∙ holds_below (λ k. clear_at p k) 80 0 all (n % 80) (omega arith) (omega arith)

clear-kp : (n : ℕ) → clear_at (mf_pair Kp) n ≡ true
unfolding sine_table sine_wave cosine_wave correlation
clear-kp = clear_everywhere 11 17 refl

clear-st : (n : ℕ) → clear_at (mf_pair St) n ≡ true
unfolding sine_table sine_wave cosine_wave correlation
clear-st = clear_everywhere 15 17 refl

clear-0 : (n : ℕ) → clear_at (mf_pair (Digit 0)) n ≡ true
unfolding sine_table sine_wave cosine_wave correlation
clear-0 = clear_everywhere 13 15 refl

clear-1 : (n : ℕ) → clear_at (mf_pair (Digit 1)) n ≡ true
unfolding sine_table sine_wave cosine_wave correlation
clear-1 = clear_everywhere 7 9 refl

clear-2 : (n : ℕ) → clear_at (mf_pair (Digit 2)) n ≡ true
unfolding sine_table sine_wave cosine_wave correlation
clear-2 = clear_everywhere 7 11 refl

clear-3 : (n : ℕ) → clear_at (mf_pair (Digit 3)) n ≡ true
unfolding sine_table sine_wave cosine_wave correlation
clear-3 = clear_everywhere 9 11 refl

clear-4 : (n : ℕ) → clear_at (mf_pair (Digit 4)) n ≡ true
unfolding sine_table sine_wave cosine_wave correlation
clear-4 = clear_everywhere 7 13 refl

clear-5 : (n : ℕ) → clear_at (mf_pair (Digit 5)) n ≡ true
unfolding sine_table sine_wave cosine_wave correlation
clear-5 = clear_everywhere 9 13 refl

clear-6 : (n : ℕ) → clear_at (mf_pair (Digit 6)) n ≡ true
unfolding sine_table sine_wave cosine_wave correlation
clear-6 = clear_everywhere 11 13 refl

clear-7 : (n : ℕ) → clear_at (mf_pair (Digit 7)) n ≡ true
unfolding sine_table sine_wave cosine_wave correlation
clear-7 = clear_everywhere 7 15 refl

clear-8 : (n : ℕ) → clear_at (mf_pair (Digit 8)) n ≡ true
unfolding sine_table sine_wave cosine_wave correlation
clear-8 = clear_everywhere 9 15 refl

clear-9 : (n : ℕ) → clear_at (mf_pair (Digit 9)) n ≡ true
unfolding sine_table sine_wave cosine_wave correlation
clear-9 = clear_everywhere 11 15 refl

pub keys_are_clear : KeysAreClear
keys_are_clear Kp n is = clear-kp n
keys_are_clear St n is = clear-st n
keys_are_clear (Digit d) n is =
    each_digit (λ d. (n : ℕ) → clear_at (mf_pair (Digit d)) n ≡ true)
    clear-0 clear-1 clear-2 clear-3 clear-4 clear-5 clear-6 clear-7 clear-8 clear-9 d is n

-- the samples from one place of a tone on, which stands in the sound of marks
samples_at : (earlier tone later : List ℤ) (n : ℕ) → n + 80 ≤ length tone
    → take 80 (drop (length earlier + n) (earlier ++ (tone ++ later))) ≡ take 80 (drop n tone)
samples_at earlier tone later n within =
    ap (λ (xs : List ℤ). take 80 xs)
    (sym (drop-drop n (length earlier) (earlier ++ (tone ++ later)))
    ∙ ap (λ (xs : List ℤ). drop n xs) (drop_at earlier (tone ++ later) (length earlier) refl)
    ∙ drop-append-le n tone later (omega arith))
    ∙ take-append-le 80 (drop n tone) later (omega (arith, length-drop n tone))

pub drops : {A : Type 0} (f : ℕ → A) (n a all b m : ℕ) → b ≡ a + n → all ≡ n + m
    → drop n (map f (range_with_len a all)) ≡ map f (range_with_len b m)
drops f zero a all b m at covers =
    let start : a ≡ b = omega arith in
    let same : all ≡ m = omega arith in
    ap (λ (i : ℕ). map f (range_with_len i all)) start ∙ ap (λ (k : ℕ). map f (range_with_len b k)) same
drops f (suc n) a zero b m at covers = absurd (omega arith)
drops f (suc n) a (suc all) b m at covers = drops f n (a + 1) all b m (omega arith) (omega arith)

tones_at : (f : ℕ → ℤ) (all n : ℕ) → n + 80 ≤ all
    → take 80 (drop n (map f (range_with_len 0 all))) ≡ map f (range_with_len n 80)
tones_at f all n within =
    let at : n ≡ 0 + n = omega arith in
    let covers : all ≡ n + (all - n) = omega arith in
    let long : 80 ≤ all - n = omega arith in
    ap (λ (xs : List ℤ). take 80 xs) (drops f n 0 all n (all - n) at covers)
    ∙ take-map-range_with_len f n (all - n) 80 long

pub tones_are_clear : TonesAreClear
tones_are_clear cadence earlier later key n is within =
    let p = mf_pair key in
    let f : ℕ → ℤ = λ k. pair_sample p k in
    let all : ℕ = tone_ms cadence key * 8 in
    let tone = tone_sound p (tone_ms cadence key) in
    let rest = silence cadence.gap_ms ++ sound_of cadence later in
    let long : n + 80 ≤ length tone = omega (arith, length-map-range_with_len f 0 all) in
    let sound : sound_of cadence (earlier ++ Tone key p ∷ later) ≡ sound_of cadence earlier ++ (tone ++ rest) =
    flat_map-append (λ mark. mark_sound cadence mark) earlier (Tone key p ∷ later)
    ∙ ap (λ (xs : List ℤ). sound_of cadence earlier ++ xs)
    (append_assoc tone (silence cadence.gap_ms) (sound_of cadence later)) in
    let window : take 80 (drop (length (sound_of cadence earlier) + n)
    (sound_of cadence (earlier ++ Tone key p ∷ later))) ≡ ten_ms p n =
    ap (λ (xs : List ℤ). take 80 (drop (length (sound_of cadence earlier) + n) xs)) sound
    ∙ samples_at (sound_of cadence earlier) tone rest n long
    ∙ tones_at f all n within in
    ap (λ (xs : List ℤ). is_clear p xs) window ∙ keys_are_clear key n is
