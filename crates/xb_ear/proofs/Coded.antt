-- What is keyed is heard through mu-law: the nearest byte of each sample of a key is near enough.
use Rattle.std.proofs.Common.{◌≡◌, ◌∙◌, ℕ, zero, suc, ◌+◌, ◌*◌, ◌/◌, ◌%◌, ◌<◌, ◌≤◌, Bool, true, ◌&&◌, List, [], ◌∷◌, ◌++◌, map, replicate, sym, ap, subst, arith, refl, ℤ, pos, ◌-ℤ◌, unsigned_abs, inl, inr, append_assoc}
use Rattle.std.specs.Prelude.{nat_le, nat_lt}
use Rattle.std.specs.List.{list_all, list_any, range_with_len}
use Rattle.std.proofs.lemmas.Bool.{false≢true, leb-true, ltb-true}
use Rattle.std.proofs.lemmas.Nat.{div-add-mod', mod_below}
use Rattle.std.proofs.Math.Nat.{le_trans}
use Rattle.xb_model.specs.declared.key.Key.{Key}
use Rattle.xb_model.specs.declared.key.Key.TheVariants.{Digit, Kp, St}
use Rattle.xb_model.specs.declared.key.Tone.{Tone as Pair}
use Rattle.xb_model.specs.declared.mark.Mark.{Mark}
use Rattle.xb_model.specs.declared.mark.Mark.TheVariants.{Trunk, Tone, Refused}
use Rattle.xb_model.specs.MfPairs.{mf_pair, pair}
use Rattle.xb_sound.specs.declared.cadence.Cadence.{Cadence}
use Rattle.xb_sound.specs.Cadences.{tone_ms}
use Rattle.xb_sound.specs.HeardKeys.{AreKeyed, IsKey}
use Rattle.xb_sound.specs.Sines.{pair_sample, sine_table}
use Rattle.xb_sound.specs.Sounds.{silence, sound_of, tone_sound}
use Rattle.xb_sound.proofs.KeyWaves.{each_digit}
use Rattle.xb_sound.proofs.Places.{pair_sample-turns}
use Rattle.xb_sound.proofs.SineTables.{holds_below}
use Rattle.xb_ear.specs.Disturbed.{AreWithin, bounded}
use Rattle.xb_ear.specs.HeardKeys.{MOST_NOISE, MOST_NOISE_IN_TONES, disturbable}
use Rattle.xb_ear.specs.MuLaw.{MuLawIsHeard}
use Rattle.xb_riff.specs.Codings.{mu_law_sample}
use Rattle.xb_riff.specs.MuLawBytes.{AreCodedAs, IsCodedAs}
use Rattle.xb_ear.proofs.Standing.{and-both, or-cases}
use Rattle.xb_ear.proofs.WholeSounds.{disturbed_keys_are_heard}

-- bytes of which one is near to each sample up to 20,000
abbrev some_bytes : List ℕ
some_bytes =
    12 ∷ 13 ∷ 14 ∷ 16 ∷ 19 ∷ 22 ∷ 25 ∷ 28 ∷ 31 ∷ 37 ∷ 44 ∷ 54 ∷ 73 ∷ 219 ∷ 188 ∷ 175 ∷ 168 ∷ 161 ∷ 157 ∷ 154
    ∷ 151 ∷ 148 ∷ 145 ∷ 143 ∷ 142 ∷ 141 ∷ 140 ∷ []

abbrev is_close : ℤ → ℕ → Bool
is_close x byte = nat_le (unsigned_abs (mu_law_sample byte -ℤ x)) MOST_NOISE_IN_TONES && nat_lt byte 256

-- where some byte is near, the nearest one is
nearest-close : (x : ℤ) (bytes : List ℕ) → list_any (is_close x) bytes ≡ true → (byte : ℕ) → IsCodedAs x byte
    → unsigned_abs (mu_law_sample byte -ℤ x) ≤ MOST_NOISE_IN_TONES
nearest-close x [] any byte coded = absurd (false≢true any)
nearest-close x (c ∷ cs) any byte coded = elim (or-cases (is_close x c) (list_any (is_close x) cs) any) [
  | inl close ↦
      let parts = and-both (nat_le (unsigned_abs (mu_law_sample c -ℤ x)) MOST_NOISE_IN_TONES) (nat_lt c 256) close in
      le_trans (coded c (ltb-true _ _ parts.1)) (leb-true _ _ parts.0)
  | inr later ↦ nearest-close x cs later byte coded
]

-- the nearest byte of each sample of a key is near
abbrev IsClose : Pair → Type 0
IsClose p = (n byte : ℕ) → IsCodedAs (pair_sample p n) byte
    → unsigned_abs (mu_law_sample byte -ℤ pair_sample p n) ≤ MOST_NOISE_IN_TONES

abbrev close_at : Pair → ℕ → Bool
close_at p n = list_any (is_close (pair_sample p n)) some_bytes

close-everywhere : (a b : ℕ)
    → list_all (λ n. close_at (pair (a * 100) (b * 100)) n) (range_with_len 0 80) ≡ true
    → IsClose (pair (a * 100) (b * 100))
close-everywhere a b all n byte coded =
    let p = pair (a * 100) (b * 100) in
    let whole : n ≡ n / 80 * 80 + n % 80 = sym (div-add-mod' n 80) in
    let same : pair_sample p (n % 80) ≡ pair_sample p n =
    sym (ap (λ (k : ℕ). pair_sample p k) whole ∙ pair_sample-turns a b (n / 80) (n % 80)) in
    let rest : n % 80 < 80 = mod_below n 80 (omega arith) in
    nearest-close (pair_sample p n) some_bytes
    (subst (λ (x : ℤ). list_any (is_close x) some_bytes ≡ true) same
    (holds_below (λ k. close_at p k) 80 0 all (n % 80) (omega arith) (omega arith))) byte coded

close-kp : IsClose (mf_pair Kp)
unfolding sine_table
close-kp = close-everywhere 11 17 refl

close-st : IsClose (mf_pair St)
unfolding sine_table
close-st = close-everywhere 15 17 refl

abbrev IsDigitClose : ℕ → Type 0
IsDigitClose d = IsClose (mf_pair (Digit d))

close-digit : (d : ℕ) → IsKey (Digit d) → IsDigitClose d
unfolding sine_table
close-digit d is =
    each_digit IsDigitClose (close-everywhere 13 15 refl) (close-everywhere 7 9 refl) (close-everywhere 7 11 refl)
    (close-everywhere 9 11 refl) (close-everywhere 7 13 refl) (close-everywhere 9 13 refl) (close-everywhere 11 13 refl)
    (close-everywhere 7 15 refl) (close-everywhere 9 15 refl) (close-everywhere 11 15 refl) d is

close-key : (key : Key) → IsKey key → IsClose (mf_pair key)
close-key Kp is = close-kp
close-key St is = close-st
close-key (Digit d) is = close-digit d is

-- the bytes of a tone, and then of more
tone-within : (p : Pair) → IsClose p → (m i : ℕ) (rest : List (ℤ × ℕ)) (more : List ℤ) (bytes : List ℕ)
    → AreCodedAs (map (λ n. pair_sample p n) (range_with_len i m) ++ more) bytes
    → ((later : List ℕ) → AreCodedAs more later → AreWithin rest (map mu_law_sample later))
    → AreWithin (bounded MOST_NOISE_IN_TONES (map (λ n. pair_sample p n) (range_with_len i m)) ++ rest)
    (map mu_law_sample bytes)
tone-within p close zero i rest more bytes coded later = later bytes coded
tone-within p close (suc m) i rest more [] coded later = absurd coded
tone-within p close (suc m) i rest more (byte ∷ bytes) coded later =
    (close i byte coded.0, tone-within p close m (i + 1) rest more bytes coded.1 later)

silence-within : (n : ℕ) (rest : List (ℤ × ℕ)) (more : List ℤ) (bytes : List ℕ)
    → AreCodedAs (replicate n (pos 0) ++ more) bytes
    → ((later : List ℕ) → AreCodedAs more later → AreWithin rest (map mu_law_sample later))
    → AreWithin (bounded MOST_NOISE (replicate n (pos 0)) ++ rest) (map mu_law_sample bytes)
silence-within zero rest more bytes coded later = later bytes coded
silence-within (suc n) rest more [] coded later = absurd coded
silence-within (suc n) rest more (byte ∷ bytes) coded later =
    let best : unsigned_abs (mu_law_sample byte -ℤ pos 0) ≤ 0 = coded.0 255 (omega arith) in
    (omega (arith, best), silence-within n rest more bytes coded.1 later)

coded-within : (cadence : Cadence) (marks : List Mark) → AreKeyed marks → (bytes : List ℕ)
    → AreCodedAs (sound_of cadence marks) bytes → AreWithin (disturbable cadence marks) (map mu_law_sample bytes)
coded-within cadence [] keyed [] coded = tt
coded-within cadence [] keyed (byte ∷ bytes) coded = absurd coded
coded-within cadence (Trunk t ∷ marks) keyed bytes coded =
    silence-within (cadence.lead_ms * 8) (disturbable cadence marks) (sound_of cadence marks) bytes coded
    (λ later is. coded-within cadence marks keyed.1 later is)
coded-within cadence (Refused reason count ∷ marks) keyed bytes coded = coded-within cadence marks keyed.1 bytes coded
coded-within cadence (Tone key p ∷ marks) keyed bytes coded =
    let tone = tone_sound p (tone_ms cadence key) in
    let pause = silence cadence.gap_ms in
    let more = sound_of cadence marks in
    let rest = disturbable cadence marks in
    let close : IsClose p = subst (λ (q : Pair). IsClose q) (sym keyed.0.1) (close-key key keyed.0.0) in
    subst (λ (xs : List (ℤ × ℕ)). AreWithin xs (map mu_law_sample bytes))
    (sym (append_assoc (bounded MOST_NOISE_IN_TONES tone) (bounded MOST_NOISE pause) rest))
    (tone-within p close (tone_ms cadence key * 8) 0 (bounded MOST_NOISE pause ++ rest) (pause ++ more) bytes
    (subst (λ (xs : List ℤ). AreCodedAs xs bytes) (append_assoc tone pause more) coded)
    (λ later is. silence-within (cadence.gap_ms * 8) rest more later is
    (λ last ends. coded-within cadence marks keyed.1 last ends)))

pub mu_law_is_heard : MuLawIsHeard
mu_law_is_heard cadence marks bytes lawful keyed coded =
    disturbed_keys_are_heard cadence marks (map mu_law_sample bytes) lawful keyed
    (coded-within cadence marks keyed bytes coded)
