-- The windows of the clean sound of marks: silence, a tone, or one of them up to an edge and then the other.
use Rattle.std.proofs.Common.{◌≡◌, ◌∙◌, ℕ, zero, suc, ◌+◌, ◌-◌, ◌*◌, ◌≤◌, List, [], ◌∷◌, ◌++◌, map, take, drop, length, sym, ap, subst, arith, refl, ℤ, Some, inl, inr, append_assoc, append-nil, length-append}
use Rattle.std.specs.List.{range_with_len}
use Rattle.std.proofs.lemmas.Bool.{cases_lt}
use Rattle.std.proofs.lemmas.List.{drop-append-le, drop-drop, drop_at, map-append, take-append-le}
use Rattle.std.proofs.lemmas.List.FromFn.{length-map-range_with_len, take-map-range_with_len}
use Rattle.std.proofs.lemmas.Simd.{map-map}
use Rattle.xb_model.specs.declared.key.Key.{Key}
use Rattle.xb_model.specs.declared.key.Tone.{Tone as Pair}
use Rattle.xb_model.specs.declared.mark.Mark.{Mark}
use Rattle.xb_model.specs.declared.mark.Mark.TheVariants.{Trunk, Tone, Refused}
use Rattle.xb_model.specs.MfPairs.{mf_pair}
use Rattle.xb_sound.specs.declared.cadence.Cadence.{Cadence}
use Rattle.xb_sound.specs.Cadences.{tone_ms}
use Rattle.xb_sound.specs.HeardKeys.{AreKeyed, IsKey}
use Rattle.xb_sound.specs.Sines.{pair_sample}
use Rattle.xb_ear.specs.HeardKeys.{IsHearableUnlike, MOST_NOISE, MOST_NOISE_IN_TONES, disturbable, mark_disturbable}
use Rattle.xb_ear.specs.LongRuns.{needed_of}
use Rattle.xb_ear.proofs.HeardKeys.{lead-goes-on, long-enough, part-long, tone-parts}
use Rattle.xb_ear.proofs.Runs.{needed-range}
use Rattle.xb_ear.proofs.Segments.{inside, part_of}
use Rattle.xb_sound.proofs.ClearKeys.{drops}
use Rattle.xb_ear.proofs.Shown.{still, still-anywhere}
use Rattle.xb_ear.proofs.Mixes.{cleans}

take-past : {A : Type 0} (xs more : List A) (k r : ℕ) → k ≡ length xs + r → take k (xs ++ more) ≡ xs ++ take r more
take-past [] more k r is =
    let same : k ≡ r = omega (arith, is) in
    ap (λ (n : ℕ). take n more) same
take-past (x ∷ xs) more zero r is = absurd (omega (arith, is))
take-past {A} (x ∷ xs) more (suc k) r is = ap (λ (ys : List A). x ∷ ys) (take-past xs more k r (omega (arith, is)))

-- 80 items that begin in one part of a list and end in the next
across : {A : Type 0} (f g : ℕ → A) (past rest : List A) (m m2 k n i : ℕ) → k ≡ length past + n → m ≡ n + i → i ≤ 80 → 80 ≤ m2
    → take 80 (drop k (past ++ (map f (range_with_len 0 m) ++ (map g (range_with_len 0 m2) ++ rest))))
    ≡ map f (range_with_len n i) ++ map g (range_with_len 0 (80 - i))
across {A} f g past rest m m2 k n i at is short wide =
    let part = map f (range_with_len 0 m) in
    let next = map g (range_with_len 0 m2) in
    let more = next ++ rest in
    let start : n ≡ 0 + n = omega arith in
    let first : length part ≡ m = length-map-range_with_len {X = A} f 0 m in
    let second : length next ≡ m2 = length-map-range_with_len {X = A} g 0 m2 in
    let xs = map f (range_with_len n i) in
    let long : length xs ≡ i = length-map-range_with_len {X = A} f n i in
    let count : 80 ≡ length xs + (80 - i) = omega (arith, long, short) in
    ap (λ (j : ℕ). take 80 (drop j (past ++ (part ++ more)))) at
    ∙ ap (λ (ys : List A). take 80 ys)
    (sym (drop-drop n (length past) (past ++ (part ++ more)))
    ∙ ap (λ (ys : List A). drop n ys) (drop_at past (part ++ more) (length past) refl)
    ∙ drop-append-le n part more (omega (arith, first, is))
    ∙ ap (λ (ys : List A). ys ++ more) (drops f n 0 m n i start is))
    ∙ take-past xs more 80 (80 - i) count
    ∙ ap (λ (ys : List A). xs ++ ys)
    (take-append-le (80 - i) next rest (omega (arith, second, wide)) ∙ take-map-range_with_len g 0 m2 (80 - i) (omega (arith, wide)))

clean-part : (f : ℕ → ℤ) (noise n m : ℕ) → cleans (map (λ k. (f k, noise)) (range_with_len n m)) ≡ map f (range_with_len n m)
clean-part f noise n m = map-map (λ (x : ℤ × ℕ). x.0) (λ k. (f k, noise)) (range_with_len n m)

clean-across : (f g : ℕ → ℤ) (p q n i j m : ℕ)
    → cleans (map (λ k. (f k, p)) (range_with_len n i) ++ map (λ k. (g k, q)) (range_with_len j m))
    ≡ map f (range_with_len n i) ++ map g (range_with_len j m)
clean-across f g p q n i j m =
    map-append (λ (x : ℤ × ℕ). x.0) (map (λ k. (f k, p)) (range_with_len n i)) (map (λ k. (g k, q)) (range_with_len j m))
    ∙ ap (λ (xs : List ℤ). xs ++ cleans (map (λ k. (g k, q)) (range_with_len j m))) (clean-part f p n i)
    ∙ ap (λ (xs : List ℤ). map f (range_with_len n i) ++ xs) (clean-part g q j m)

-- what is so of 80 samples of silence, and of those across each edge of the tone of a key
pub record HoldsOfEdges (P : List ℤ → Type 0) : Type 0 where
  pub quiet : P (map still (range_with_len 0 80))
  pub begins : (key : Key) → IsKey key → (i : ℕ) → i ≤ 80
      → P (map still (range_with_len 0 i) ++ map (λ k. pair_sample (mf_pair key) k) (range_with_len 0 (80 - i)))
  pub ends : (key : Key) → IsKey key → (n m : ℕ) → m ≤ 80
      → P (map (λ k. pair_sample (mf_pair key) k) (range_with_len n m) ++ map still (range_with_len 0 (80 - m)))

-- is so of each window
module _ (P : List ℤ → Type 0) (holds : HoldsOfEdges P) (cadence : Cadence) (lawful : IsHearableUnlike cadence) where
  quiet-window : (past rest : List (ℤ × ℕ)) (z w : ℕ) → length past ≤ 20 * w → 20 * w + 80 ≤ length past + z
      → P (cleans (take 80 (drop (20 * w) (past ++ (part_of still MOST_NOISE z ++ rest)))))
  quiet-window past rest z w from to =
      let n : ℕ = 20 * w - length past in
      let at : 20 * w ≡ length past + n = omega (arith, from) in
      let is = ap (λ xs. cleans xs) (inside (λ k. (still k, MOST_NOISE)) past rest z w n at (omega (arith, from, to)))
      ∙ clean-part still MOST_NOISE n 80 ∙ still-anywhere 80 n 0 in
      subst P (sym is) holds.quiet

  each-window : (marks : List Mark) → AreKeyed marks → (past : List (ℤ × ℕ)) (z w : ℕ) → length past ≤ 20 * w
      → 20 * w + 80 ≤ length (past ++ (part_of still MOST_NOISE z ++ disturbable cadence marks))
      → P (cleans (take 80 (drop (20 * w) (past ++ (part_of still MOST_NOISE z ++ disturbable cadence marks)))))
  each-window [] keyed past z w from to =
      let quiet = part_of still MOST_NOISE z in
      let quiet-long : length quiet ≡ z = part-long still MOST_NOISE z in
      quiet-window past [] z w from
      (omega (arith, to, quiet-long, length-append past (quiet ++ []), length-append quiet []))
  each-window (Trunk t ∷ marks) keyed past z w from to =
      let same = lead-goes-on cadence z (disturbable cadence marks) in
      subst (λ (xs : List (ℤ × ℕ)). P (cleans (take 80 (drop (20 * w) (past ++ xs))))) (sym same)
      (each-window marks keyed.1 past (z + cadence.lead_ms * 8) w from
      (subst (λ (xs : List (ℤ × ℕ)). 20 * w + 80 ≤ length (past ++ xs)) same to))
  each-window (Refused reason count ∷ marks) keyed past z w from to = each-window marks keyed.1 past z w from to
  each-window (Tone key p ∷ marks) keyed past z w from to =
      let q : Pair = mf_pair key in
      let f : ℕ → ℤ = λ n. pair_sample q n in
      let m : ℕ = tone_ms cadence key * 8 in
      let gap : ℕ = cadence.gap_ms * 8 in
      let quiet = part_of still MOST_NOISE z in
      let tone = part_of f MOST_NOISE_IN_TONES m in
      let pause = part_of still MOST_NOISE gap in
      let later = disturbable cadence marks in
      let quiet-long : length quiet ≡ z = part-long still MOST_NOISE z in
      let tone-long : length tone ≡ m = part-long f MOST_NOISE_IN_TONES m in
      let begin : ℕ = length past + z in
      let end : ℕ = begin + m in
      let parts : mark_disturbable cadence (Tone key p) ≡ tone ++ pause =
      ap (λ (r : Pair). mark_disturbable cadence (Tone key r)) keyed.0.1 ∙ tone-parts cadence key q in
      let needed : needed_of (Some q) * 20 + 80 ≤ m = long-enough cadence lawful key keyed.0.0 in
      let long : 240 ≤ m = omega (arith, needed, (needed-range (Some q)).0) in
      let past2 = past ++ quiet in
      let at2 : length past2 ≡ begin = omega (arith, length-append past quiet, quiet-long) in
      let past3 = past2 ++ tone in
      let at3 : length past3 ≡ end = omega (arith, length-append past2 tone, at2, tone-long) in
      let one : mark_disturbable cadence (Tone key p) ++ later ≡ tone ++ (pause ++ later) =
      ap (λ (xs : List (ℤ × ℕ)). xs ++ later) parts ∙ append_assoc tone pause later in
      let first : past ++ (quiet ++ (mark_disturbable cadence (Tone key p) ++ later)) ≡ past ++ (quiet ++ (tone ++ (pause ++ later))) =
      ap (λ (xs : List (ℤ × ℕ)). past ++ (quiet ++ xs)) one in
      let second : past ++ (quiet ++ (tone ++ (pause ++ later))) ≡ past2 ++ (tone ++ (pause ++ later)) =
      sym (append_assoc past quiet (tone ++ (pause ++ later))) in
      let third : past2 ++ (tone ++ (pause ++ later)) ≡ past3 ++ (pause ++ later) = sym (append_assoc past2 tone (pause ++ later)) in
      elim (cases_lt (20 * w) begin) [
        | inl in_quiet ↦ elim (cases_lt begin (20 * w + 80)) [
          | inr inside_quiet ↦
              subst (λ (xs : List (ℤ × ℕ)). P (cleans (take 80 (drop (20 * w) xs)))) (sym first)
              (quiet-window past (tone ++ (pause ++ later)) z w from (omega (arith, inside_quiet)))
          | inl crosses ↦
              let n : ℕ = 20 * w - length past in
              let i : ℕ = begin - 20 * w in
              let at : 20 * w ≡ length past + n = omega (arith, from) in
              let count : z ≡ n + i = omega (arith, from, in_quiet) in
              let short : i ≤ 80 = omega (arith, crosses) in
              let is = ap (λ (xs : List (ℤ × ℕ)). cleans (take 80 (drop (20 * w) xs))) first
              ∙ ap (λ (xs : List (ℤ × ℕ)). cleans xs)
              (across (λ k. (still k, MOST_NOISE)) (λ k. (f k, MOST_NOISE_IN_TONES)) past (pause ++ later) z m (20 * w) n i at count short (omega (arith, long)))
              ∙ clean-across still f MOST_NOISE MOST_NOISE_IN_TONES n i 0 (80 - i)
              ∙ ap (λ (xs : List ℤ). xs ++ map f (range_with_len 0 (80 - i))) (still-anywhere i n 0) in
              subst P (sym is) (holds.begins key keyed.0.0 i short)
        ]
        | inr past_quiet ↦ elim (cases_lt (20 * w) end) [
          | inr past_tone ↦
              subst (λ (xs : List (ℤ × ℕ)). P (cleans (take 80 (drop (20 * w) xs)))) (sym (first ∙ second ∙ third))
              (each-window marks keyed.1 past3 gap w (omega (arith, at3, past_tone))
              (subst (λ (xs : List (ℤ × ℕ)). 20 * w + 80 ≤ length xs) (first ∙ second ∙ third) to))
          | inl in_tone ↦ elim (cases_lt end (20 * w + 80)) [
            | inr inside_tone ↦
                let n : ℕ = 20 * w - begin in
                let at : 20 * w ≡ length past2 + n = omega (arith, at2, past_quiet) in
                let is = ap (λ (xs : List (ℤ × ℕ)). cleans (take 80 (drop (20 * w) xs))) (first ∙ second)
                ∙ ap (λ (xs : List (ℤ × ℕ)). cleans xs)
                (inside (λ k. (f k, MOST_NOISE_IN_TONES)) past2 (pause ++ later) m w n at (omega (arith, inside_tone, past_quiet)))
                ∙ clean-part f MOST_NOISE_IN_TONES n 80
                ∙ sym (append-nil (map f (range_with_len n 80))) in
                subst P (sym is) (holds.ends key keyed.0.0 n 80 (omega arith))
            | inl crosses ↦
                let n : ℕ = 20 * w - begin in
                let i : ℕ = end - 20 * w in
                let at : 20 * w ≡ length past2 + n = omega (arith, at2, past_quiet) in
                let count : m ≡ n + i = omega (arith, past_quiet, in_tone) in
                let short : i ≤ 80 = omega (arith, crosses) in
                let is = ap (λ (xs : List (ℤ × ℕ)). cleans (take 80 (drop (20 * w) xs))) (first ∙ second)
                ∙ ap (λ (xs : List (ℤ × ℕ)). cleans xs)
                (across (λ k. (f k, MOST_NOISE_IN_TONES)) (λ k. (still k, MOST_NOISE)) past2 later m gap (20 * w) n i at count short (omega (arith, lawful.gap)))
                ∙ clean-across f still MOST_NOISE_IN_TONES MOST_NOISE n i 0 (80 - i) in
                subst P (sym is) (holds.ends key keyed.0.0 n i short)
          ]
        ]
      ]

pub windows-hold : (P : List ℤ → Type 0) → HoldsOfEdges P → (cadence : Cadence) → IsHearableUnlike cadence → (marks : List Mark)
    → AreKeyed marks → (w : ℕ) → 20 * w + 80 ≤ length (disturbable cadence marks)
    → P (cleans (take 80 (drop (20 * w) (disturbable cadence marks))))
windows-hold P holds cadence lawful marks keyed w fits = each-window P holds cadence lawful marks keyed [] 0 w (omega arith) fits
