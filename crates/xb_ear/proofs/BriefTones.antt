-- Of a tone that begins and ends nothing is heard.
use Rattle.std.proofs.Common.{◌≡◌, ◌∙◌, ℕ, zero, suc, ◌+◌, ◌-◌, ◌*◌, ◌/◌, ◌<◌, ◌≤◌, true, List, [], ◌++◌, map, take, drop, length, sym, ap, subst, arith, refl, ℤ, Option, None, inl, inr, ◌⊎◌, append_assoc, append-nil, length-append, length-drop}
use Rattle.std.specs.List.{list_all, range_with_len}
use Rattle.std.proofs.lemmas.Bool.{cases_lt}
use Rattle.std.proofs.lemmas.List.{drop-append-le, drop-drop, drop_at, take-append-le}
use Rattle.std.proofs.lemmas.List.FromFn.{take-map-range_with_len}
use Rattle.xb_model.specs.declared.key.Tone.{Tone as Pair}
use Rattle.xb_sound.specs.Sines.{sine_table}
use Rattle.xb_ear.specs.Disturbed.{AreWithin}
use Rattle.xb_ear.specs.Ears.{least_before, windows_in}
use Rattle.xb_ear.specs.HeardKeys.{MOST_NOISE}
use Rattle.xb_ear.specs.Hearings.{silent}
use Rattle.xb_ear.specs.Levels.{correlated}
use Rattle.xb_ear.specs.LongRuns.{label}
use Rattle.xb_ear.specs.Pairs.{seen}
use Rattle.xb_ear.specs.Receivers.{keys_of_sound}
use Rattle.xb_ear.specs.SingleTones.{IsNoKey, IsQuiet, IsToneOf, SingleTonesAreNoKeys}
use Rattle.xb_ear.proofs.Fading.{sees-silence}
use Rattle.xb_ear.proofs.Near.{one-bound, within-drop, within-take}
use Rattle.xb_ear.proofs.OneTone.{one-tone-is-no-key, sees-none-in, weak_at}
use Rattle.xb_ear.proofs.Received.{nothing-sounds}
use Rattle.xb_ear.proofs.Runs.{IsLoose, loose-step, none-resets}
use Rattle.xb_ear.proofs.Segments.{between, sees}
use Rattle.xb_sound.proofs.ClearKeys.{drops}
use Rattle.xb_ear.proofs.Shown.{silence-shows, still}
use Rattle.xb_ear.proofs.Steps.{Known, after, after_all, gives, gives_all, known}
use Rattle.xb_ear.proofs.WholeSounds.{quiet-within}

-- 80 samples that lie in one part of samples
piece-of : (past part rest : List ℤ) (k n : ℕ) → k ≡ length past + n → n + 80 ≤ length part
    → take 80 (drop k (past ++ (part ++ rest))) ≡ take 80 (drop n part)
piece-of past part rest k n at long =
    ap (λ (i : ℕ). take 80 (drop i (past ++ (part ++ rest)))) at
    ∙ ap (λ (xs : List ℤ). take 80 xs)
    (sym (drop-drop n (length past) (past ++ (part ++ rest)))
    ∙ ap (λ (xs : List ℤ). drop n xs) (drop_at past (part ++ rest) (length past) refl)
    ∙ drop-append-le n part rest (omega (arith, long)))
    ∙ take-append-le 80 (drop n part) rest (omega (arith, long, length-drop n part))

-- what is quiet shows nothing, anywhere
quiet-sees : (least : ℕ) (xs : List ℤ) → IsQuiet xs → (n : ℕ) → n + 80 ≤ length xs
    → label (seen least (take 80 (drop n xs))) ≡ None
quiet-sees least xs quiet n fits =
    let m : ℕ = length xs in
    let q : ℕ → ℤ × ℕ = λ k. (still k, MOST_NOISE) in
    let start : n ≡ 0 + n = omega arith in
    let covers : m ≡ n + (m - n) = omega (arith, fits) in
    let cut : take 80 (drop n (map q (range_with_len 0 m))) ≡ map q (range_with_len n 80) =
    ap (λ (zs : List (ℤ × ℕ)). take 80 zs) (drops q n 0 m n (m - n) start covers)
    ∙ take-map-range_with_len q n (m - n) 80 (omega (arith, fits)) in
    (silence-shows least n (take 80 (drop n xs))
    (one-bound still MOST_NOISE 80 n (take 80 (drop n xs))
    (subst (λ (zs : List (ℤ × ℕ)). AreWithin zs (take 80 (drop n xs))) cut
    (within-take 80 (drop n (map q (range_with_len 0 m))) (drop n xs)
    (within-drop n (map q (range_with_len 0 m)) xs (quiet-within xs quiet 0)))))).pair

-- nothing is given, and no pair sounds
record IsStill (k : Known) (ls : List (Option Pair)) : Type 0 where
  given : gives_all k ls ≡ []
  sounds : (after_all k ls).sounding ≡ None

-- the next window that sees nothing is so near
record IsSoon (j : ℕ → Option Pair) (n w d : ℕ) : Type 0 where
  soon : d ≤ 4
  sees : (j (w + d) ≡ None) ⊎ (n ≤ w + d)

-- windows of which one in five sees nothing
module _ (j : ℕ → Option Pair) (n : ℕ) (next : (w : ℕ) → w < n → (d : ℕ) × IsSoon j n w d) where
  after-none : (m w : ℕ) → w + suc m ≡ n → ((d : ℕ) → IsSoon j n (w + 1) d → (k : Known) → IsLoose None 0 k
      → IsStill k (map j (range_with_len (w + 1) m))) → (k : Known) → IsLoose None 0 k
      → IsStill k (map j (range_with_len (w + 1) m))
  after-none zero w all rest k loose = record { given = refl; sounds = loose.sounds }
  after-none (suc m) w all rest k loose =
      let soon = next (w + 1) (omega (arith, all)) in rest soon.0 soon.1 k loose

  still-from : (m w c d : ℕ) (k : Known) → IsLoose None c k → c + d ≤ 4 → ((j (w + d) ≡ None) ⊎ (n ≤ w + d))
      → w + m ≡ n → IsStill k (map j (range_with_len w m))
  still-from zero w c d k loose few sees all = record { given = refl; sounds = loose.sounds }
  still-from (suc m) w c zero k loose few sees all = elim sees [
    | inr ends ↦ absurd (omega (arith, ends, all))
    | inl none ↦
        let here : w + 0 ≡ w = omega arith in
        let this : j w ≡ None = ap j (sym here) ∙ none in
        let goes : IsLoose None 0 (after k (j w)) × (gives k (j w) ≡ []) =
        subst (λ (l : Option Pair). IsLoose None 0 (after k l) × (gives k l ≡ [])) (sym this)
        (none-resets c k loose (omega (arith, few))) in
        let later = after-none m w all
        (λ d soon k loose. still-from m (w + 1) 0 d k loose (omega (arith, soon.soon)) soon.sees (omega (arith, all)))
        (after k (j w)) goes.0 in
        record {
          given = ap (λ ps. ps ++ gives_all (after k (j w)) (map j (range_with_len (w + 1) m))) goes.1 ∙ later.given;
          sounds = later.sounds;
        }
  ]
  still-from (suc m) w c (suc d) k loose few sees all =
      let step = loose-step None (j w) c k loose (omega (arith, few)) in
      let place : w + suc d ≡ w + 1 + d = omega arith in
      let same : (j (w + 1 + d) ≡ None) ⊎ (n ≤ w + 1 + d) =
      subst (λ (i : ℕ). (j i ≡ None) ⊎ (n ≤ i)) place sees in
      let later = still-from m (w + 1) (c + 1) d (after k (j w)) step.0 (omega (arith, few)) same (omega (arith, all)) in
      record {
        given = ap (λ ps. ps ++ gives_all (after k (j w)) (map j (range_with_len (w + 1) m))) step.1 ∙ later.given;
        sounds = later.sounds;
      }

  still-all : (k : Known) → IsLoose None 0 k → IsStill k (map j (range_with_len 0 n))
  still-all k loose = elim (cases_lt 0 n) [
    | inl some ↦
        let soon = next 0 some in
        still-from n 0 0 soon.0 k loose (omega (arith, soon.1.soon)) soon.1.sees (omega arith)
    | inr none ↦
        let empty : n ≡ 0 = omega (arith, none) in
        subst (λ (m : ℕ). IsStill k (map j (range_with_len 0 m))) (sym empty) (record { given = refl; sounds = loose.sounds })
  ]

module _ (h : ℕ) (weak : list_all (λ n. weak_at (h * 100) n) (range_with_len 0 80) ≡ true) (amplitude : ℕ)
    (most : amplitude ≤ 40000) (before tone after : List ℤ) (is : IsToneOf (h * 100) amplitude tone)
    (long : 100 ≤ length tone) (quiet_before : IsQuiet before) (quiet_after : IsQuiet after) where
  abbrev all : List ℤ
  all = before ++ (tone ++ after)

  in-before : (w : ℕ) → 20 * w + 80 ≤ length before → sees all w ≡ None
  in-before w fits =
      let at : 20 * w ≡ 0 + 20 * w = omega arith in
      sees-silence all w
      (ap (λ (xs : List ℤ). label (seen (least_before all w) xs)) (piece-of [] before (tone ++ after) (20 * w) (20 * w) at fits)
      ∙ quiet-sees (least_before all w) before quiet_before (20 * w) fits)

  in-tone : (w : ℕ) → length before ≤ 20 * w → 20 * w + 80 ≤ length before + length tone → sees all w ≡ None
  in-tone w low high =
      let n : ℕ = 20 * w - length before in
      let at : 20 * w ≡ length before + n = omega (arith, low) in
      let fits : n + 80 ≤ length tone = omega (arith, low, high) in
      sees-silence all w
      (ap (λ (xs : List ℤ). label (seen (least_before all w) xs)) (piece-of before tone after (20 * w) n at fits)
      ∙ sees-none-in h weak amplitude most tone is (least_before all w) n fits)

  in-after : (w : ℕ) → length before + length tone ≤ 20 * w → 20 * w + 80 ≤ length all → sees all w ≡ None
  in-after w low high =
      let past : List ℤ = before ++ tone in
      let long_past : length past ≡ length before + length tone = length-append before tone in
      let n : ℕ = 20 * w - length past in
      let at : 20 * w ≡ length past + n = omega (arith, low, long_past) in
      let total : length all ≡ length before + (length tone + length after) =
      length-append before (tone ++ after) ∙ ap (λ (k : ℕ). length before + k) (length-append tone after) in
      let fits : n + 80 ≤ length after = omega (arith, at, long_past, total, high) in
      let same : all ≡ past ++ (after ++ []) =
      sym (append_assoc before tone after) ∙ ap (λ (xs : List ℤ). past ++ xs) (sym (append-nil after)) in
      sees-silence all w
      (ap (λ (xs : List ℤ). label (seen (least_before all w) (take 80 (drop (20 * w) xs)))) same
      ∙ ap (λ (xs : List ℤ). label (seen (least_before all w) xs)) (piece-of past after [] (20 * w) n at fits)
      ∙ quiet-sees (least_before all w) after quiet_after n fits)

  -- after each window, one of the next four lies in the tone or in a silence, or there is none
  soon-none : (w : ℕ) → w < windows_in (length all) → (d : ℕ) × IsSoon (sees all) (windows_in (length all)) w d
  soon-none w below =
      let past : ℕ = length before in
      let end : ℕ = past + length tone in
      let whole : 20 * w + 80 ≤ length all = omega (arith, below) in
      let here : w + 0 ≡ w = omega arith in
      elim (cases_lt (20 * w + 79) past) [
        | inl inside ↦ (0, record { soon = omega arith; sees = inl (ap (sees all) here ∙ in-before w (omega (arith, inside))) })
        | inr past_before ↦ elim (cases_lt (20 * w) past) [
          | inl crosses ↦
              let d : ℕ = (past + 19) / 20 - w in
              let later : w + d ≡ (past + 19) / 20 = omega (arith, crosses) in (
                d,
                record {
                  soon = omega (arith, past_before);
                  sees = inl (in-tone (w + d) (omega (arith, later)) (omega (arith, later, long)));
                },
              )
          | inr in_tone ↦ elim (cases_lt (20 * w + 79) end) [
            | inl inside ↦ (0, record { soon = omega arith; sees = inl (ap (sees all) here ∙ in-tone w in_tone (omega (arith, inside))) })
            | inr past_tone ↦ elim (cases_lt (20 * w) end) [
              | inl crosses ↦
                  let d : ℕ = (end + 19) / 20 - w in
                  let later : w + d ≡ (end + 19) / 20 = omega (arith, crosses) in (
                    d,
                    record {
                      soon = omega (arith, past_tone);
                      sees = elim (cases_lt (w + d) (windows_in (length all))) [
                        | inl there ↦ inl (in-after (w + d) (omega (arith, later)) (omega (arith, there)))
                        | inr none ↦ inr none
                      ];
                    },
                  )
              | inr in_after ↦ (0, record { soon = omega arith; sees = inl (ap (sees all) here ∙ in-after w in_after whole) })
            ]
          ]
        ]
      ]

  brief-tone-is-no-key : keys_of_sound all ≡ []
  brief-tone-is-no-key =
      let n : ℕ = windows_in (length all) in
      let same : n ≡ n - 0 = omega arith in
      let quiet : IsStill (known silent) (between (sees all) 0 (length all)) =
      subst (λ (m : ℕ). IsStill (known silent) (map (sees all) (range_with_len 0 m))) same
      (still-all (sees all) n soon-none (known silent) (record { sounds = refl; sees = inl refl; near = inl refl })) in
      nothing-sounds all quiet.given quiet.sounds

no-key : (h : ℕ) → list_all (λ n. weak_at (h * 100) n) (range_with_len 0 80) ≡ true → IsNoKey (h * 100)
no-key h weak = record {
  alone = λ amplitude samples most tone. one-tone-is-no-key h weak amplitude most samples tone;
  between = λ amplitude before tone after most is long quiet_before quiet_after.
      brief-tone-is-no-key h weak amplitude most before tone after is long quiet_before quiet_after;
}

pub single_tones_are_no_keys : SingleTonesAreNoKeys
unfolding correlated sine_table
single_tones_are_no_keys = record {
  of700 = no-key 7 refl;
  of900 = no-key 9 refl;
  of1100 = no-key 11 refl;
  of1300 = no-key 13 refl;
  of1500 = no-key 15 refl;
  of1700 = no-key 17 refl;
}
