-- A tape, with one sample more.
use Rattle.std.proofs.Common.{◌≡◌, ◌∙◌, ℕ, ◌+◌, ◌-◌, ◌*◌, ◌^◌, ◌<◌, ◌≤◌, List, [], ◌∷◌, ◌++◌, drop, length, min, set, sym, take, ap, arith, ℤ, length-append, length-drop, length-take}
use Rattle.std.proofs.lemmas.List.{drop-append-le, drop-drop, drop-take, take-append-le, take_all, take_more_set}
use Rattle.xb_measured.specs.Tapes.{IsTapeOf, Taped, windows_gone}

-- what is kept is written one after the other
pub kept-more : (all : List ℤ) (b f : ℕ) (x : ℤ) → b ≤ f → f < length all
    → drop b (take (f + 1) (set all f x)) ≡ drop b (take f all) ++ x ∷ []
kept-more all b f x from below =
    ap (λ (zs : List ℤ). drop b zs) (take_more_set all f x below)
    ∙ drop-append-le b (take f all) (x ∷ []) (omega (arith, from, below, length-take f all))

pub kept-length : (all : List ℤ) (b f : ℕ) → f ≤ length all → length (drop b (take f all)) ≡ f - b
kept-length all b f within = omega (arith, within, length-drop b (take f all), length-take f all)

-- and moves back as it is
pub kept-back : (all : List ℤ) (b f : ℕ) → b ≤ f → f ≤ length all
    → take (f - b) (take (f - b) (drop b all) ++ drop (0 + (f - b)) all) ≡ drop b (take f all)
kept-back all b f from within =
    let size : length (take (f - b) (drop b all)) ≡ f - b =
    omega (arith, from, within, length-take (f - b) (drop b all), length-drop b all) in
    let end : b + (f - b) ≡ f = omega (arith, from) in
    take-append-le (f - b) (take (f - b) (drop b all)) (drop (0 + (f - b)) all) (omega (arith, size))
    ∙ take_all (f - b) (take (f - b) (drop b all)) (omega (arith, size))
    ∙ sym (drop-take b (f - b) all)
    ∙ ap (λ (k : ℕ). drop b (take k all)) end

longer : (samples : List ℤ) (x : ℤ) → length (samples ++ x ∷ []) ≡ length samples + 1
longer samples x = length-append samples (x ∷ [])

-- as many samples are kept as the windows that are gone leave
left : (tape : Taped) (samples : List ℤ) → IsTapeOf tape samples
    → length tape.kept ≡ length samples - 20 * windows_gone (length samples)
left tape samples is =
    ap (λ (zs : List ℤ). length zs) is.kept ∙ length-drop (20 * windows_gone (length samples)) samples

same-windows : (n k : ℕ) → k ≡ n - 20 * windows_gone n → k + 1 < 1420 → windows_gone (n + 1) ≡ windows_gone n
same-windows n k kept few = omega (arith, kept, few)

more-windows : (n k : ℕ) → k ≡ n - 20 * windows_gone n → k + 1 ≡ 1420 → windows_gone (n + 1) ≡ windows_gone n + 1
more-windows n k kept full = omega (arith, kept, full)

early : (n : ℕ) → 20 * windows_gone n ≤ n
early n = omega arith

-- the samples that are kept go on by one
pub tape-same : (old new : Taped) (samples : List ℤ) (x : ℤ) → IsTapeOf old samples → length old.kept + 1 < 1420
    → new.kept ≡ old.kept ++ x ∷ [] → new.gone ≡ old.gone → IsTapeOf new (samples ++ x ∷ [])
tape-same old new samples x is few kept gone =
    let n : ℕ = length samples in
    let same : windows_gone (length (samples ++ x ∷ [])) ≡ windows_gone n =
    ap windows_gone (longer samples x) ∙ same-windows n (length old.kept) (left old samples is) few in record {
      kept = kept
          ∙ ap (λ (zs : List ℤ). zs ++ x ∷ []) is.kept
          ∙ sym (drop-append-le (20 * windows_gone n) samples (x ∷ []) (early n))
          ∙ ap (λ (w : ℕ). drop (20 * w) (samples ++ x ∷ [])) (sym same);
      gone = gone ∙ is.gone ∙ ap (λ (w : ℕ). min w (2 ^ 64 - 1)) (sym same);
    }

-- they are enough, and one window goes
pub tape-more : (old new : Taped) (samples : List ℤ) (x : ℤ) → IsTapeOf old samples → length old.kept + 1 ≡ 1420
    → new.kept ≡ drop 20 (old.kept ++ x ∷ []) → new.gone ≡ min (old.gone + 1) (2 ^ 64 - 1)
    → IsTapeOf new (samples ++ x ∷ [])
tape-more old new samples x is full kept gone =
    let n : ℕ = length samples in
    let w : ℕ = windows_gone n in
    let more : windows_gone (length (samples ++ x ∷ [])) ≡ w + 1 =
    ap windows_gone (longer samples x) ∙ more-windows n (length old.kept) (left old samples is) full in
    let next : 20 * (w + 1) ≡ 20 * w + 20 = omega arith in record {
      kept = kept
          ∙ ap (λ (zs : List ℤ). drop 20 (zs ++ x ∷ [])) is.kept
          ∙ ap (λ (zs : List ℤ). drop 20 zs) (sym (drop-append-le (20 * w) samples (x ∷ []) (early n)))
          ∙ drop-drop 20 (20 * w) (samples ++ x ∷ [])
          ∙ sym (ap (λ (v : ℕ). drop (20 * v) (samples ++ x ∷ [])) more ∙ ap (λ (v : ℕ). drop v (samples ++ x ∷ [])) next);
      gone = gone ∙ counted old.gone w is.gone ∙ ap (λ (v : ℕ). min v (2 ^ 64 - 1)) (sym more);
    }
  where
    counted : (g w : ℕ) → g ≡ min w (2 ^ 64 - 1) → min (g + 1) (2 ^ 64 - 1) ≡ min (w + 1) (2 ^ 64 - 1)
    counted g w is = omega (arith, is)
