-- The windows of samples, as samples come.
use Rattle.std.proofs.Common.{◌≡◌, ◌∙◌, ℕ, zero, suc, ◌+◌, ◌-◌, ◌*◌, ◌<◌, ◌≤◌, Bool, true, false, List, [], ◌∷◌, ◌++◌, map, take, drop, length, sym, ap, arith, refl, ℤ, length-drop, length-append, Option, None}
use Rattle.std.specs.Prelude.{if◌then◌else◌, nat_lt}
use Rattle.std.specs.List.{range_with_len}
use Rattle.std.proofs.lemmas.Bool.{le-ltb, ltb-false}
use Rattle.std.proofs.lemmas.List.{drop-append-le, take-append-le, take_all, drop-drop}
use Rattle.std.proofs.lemmas.List.FromFn.{map-range_with_len_more}
use Rattle.xb_ear.specs.declared.sight.Sight.{Sight}
use Rattle.xb_ear.specs.declared.echo_tails.TheConstants.{TAIL_WINDOWS}
use Rattle.xb_ear.specs.Pairs.{seen}
use Rattle.xb_ear.specs.Levels.{levels_of}
use Rattle.xb_ear.specs.Steady.{beside, lessened}
use Rattle.xb_ear.specs.Ears.{held, held_before, least_before, recent_of, seen_at, sight_at, sights, window, windows_in}
use Rattle.xb_ear.specs.Tails.{without_tail}

-- two functions that agree on a range
pub map-agrees : {A : Type 0} (f g : ℕ → A) (a n : ℕ) → ((k : ℕ) → k < a + n → f k ≡ g k)
    → map f (range_with_len a n) ≡ map g (range_with_len a n)
map-agrees f g a zero same = refl
map-agrees f g a (suc n) same =
    ap (λ x. x ∷ map f (range_with_len (a + 1) n)) (same a (omega arith))
    ∙ ap (λ xs. g a ∷ xs) (map-agrees f g (a + 1) n (λ k below. same k (omega (arith, below))))

-- a window that lies in the first samples is the same, whatever comes later
pub window-early : (xs ys : List ℤ) (w : ℕ) → 20 * w + 80 ≤ length xs → window (xs ++ ys) w ≡ window xs w
window-early xs ys w fits =
    let long : 80 ≤ length (drop (20 * w) xs) = omega (arith, length-drop (20 * w) xs) in
    ap (λ (zs : List ℤ). take 80 zs) (drop-append-le (20 * w) xs ys (omega arith))
    ∙ take-append-le 80 (drop (20 * w) xs) ys long

-- a window that is whole fits
pub window-fits : (n w : ℕ) → w < windows_in n → 20 * w + 80 ≤ n
window-fits n w below = omega arith

-- what lay beside in the first samples
least-early : (xs ys : List ℤ) (w : ℕ) → w ≤ windows_in (length xs) → least_before (xs ++ ys) w ≡ least_before xs w
least-early xs ys zero below = refl
least-early xs ys (suc w) below =
    ap (λ (zs : List ℤ). lessened (least_before (xs ++ ys) w) (beside (levels_of zs)))
    (window-early xs ys w (window-fits (length xs) w (omega (arith, below))))
    ∙ ap (λ (least : ℕ). lessened least (beside (levels_of (window xs w)))) (least-early xs ys w (omega (arith, below)))

-- what stands out in a window of the first samples
sight-early : (xs ys : List ℤ) (w : ℕ) → w < windows_in (length xs) → sight_at (xs ++ ys) w ≡ sight_at xs w
sight-early xs ys w below =
    ap (λ (zs : List ℤ). seen (least_before (xs ++ ys) w) zs)
    (window-early xs ys w (window-fits (length xs) w (omega (arith, below))))
    ∙ ap (λ (least : ℕ). seen least (window xs w)) (least-early xs ys w (omega (arith, below)))

held-early : (xs ys : List ℤ) (n : ℕ) → n < windows_in (length xs) + 64 → held (xs ++ ys) n ≡ held xs n
held-early xs ys n below = by (nat_lt n TAIL_WINDOWS) refl
  where
    by : (b : Bool) → nat_lt n TAIL_WINDOWS ≡ b
        → (if b then None else sight_at (xs ++ ys) (n - TAIL_WINDOWS)) ≡ (if b then None else sight_at xs (n - TAIL_WINDOWS))
    by true e = refl
    by false e =
        let past : 64 ≤ n = ltb-false _ _ e in
        sight-early xs ys (n - TAIL_WINDOWS) (omega (arith, past, below))

held-before-early : (xs ys : List ℤ) (w : ℕ) → w ≤ windows_in (length xs)
    → held_before (xs ++ ys) w ≡ held_before xs w
held-before-early xs ys w most =
    map-agrees (held (xs ++ ys)) (held xs) w 64 (λ n below. held-early xs ys n (omega (arith, below, most)))

seen-early : (xs ys : List ℤ) (w : ℕ) → w < windows_in (length xs) → seen_at (xs ++ ys) w ≡ seen_at xs w
seen-early xs ys w below =
    ap (λ (before : List (Option Sight)). without_tail before (sight_at (xs ++ ys) w)) (held-before-early xs ys w (omega (arith, below)))
    ∙ ap (λ (s : Option Sight). without_tail (held_before xs w) s) (sight-early xs ys w below)

-- the windows of the first samples
pub sights-early : (xs ys : List ℤ) → map (seen_at (xs ++ ys)) (range_with_len 0 (windows_in (length xs))) ≡ sights xs
sights-early xs ys =
    map-agrees (seen_at (xs ++ ys)) (seen_at xs) 0 (windows_in (length xs))
    (λ w below. seen-early xs ys w (omega (arith, below)))

pub count-same : (n : ℕ) → n + 1 < 20 * windows_in n + 80 → windows_in (n + 1) ≡ windows_in n
count-same n few = omega arith

pub count-more : (n : ℕ) → n + 1 ≡ 20 * windows_in n + 80 → windows_in (n + 1) ≡ windows_in n + 1
count-more n full = omega arith

longer : (xs : List ℤ) (x : ℤ) → length (xs ++ x ∷ []) ≡ length xs + 1
longer xs x = length-append xs (x ∷ [])

-- a sample that completes no window
pub sights-same : (xs : List ℤ) (x : ℤ) → length xs + 1 < 20 * windows_in (length xs) + 80
    → sights (xs ++ x ∷ []) ≡ sights xs
sights-same xs x few =
    ap (λ (n : ℕ). map (seen_at (xs ++ x ∷ [])) (range_with_len 0 n))
    (ap (λ (n : ℕ). windows_in n) (longer xs x) ∙ count-same (length xs) few)
    ∙ sights-early xs (x ∷ [])

pub recent-same : (xs : List ℤ) (x : ℤ) → length xs + 1 < 20 * windows_in (length xs) + 80
    → recent_of (xs ++ x ∷ []) ≡ recent_of xs ++ x ∷ []
recent-same xs x few =
    ap (λ (n : ℕ). drop (20 * n) (xs ++ x ∷ []))
    (ap (λ (n : ℕ). windows_in n) (longer xs x) ∙ count-same (length xs) few)
    ∙ drop-append-le (20 * windows_in (length xs)) xs (x ∷ []) (omega arith)

pub held-same : (xs : List ℤ) (x : ℤ) → length xs + 1 < 20 * windows_in (length xs) + 80
    → held_before (xs ++ x ∷ []) (windows_in (length (xs ++ x ∷ []))) ≡ held_before xs (windows_in (length xs))
held-same xs x few =
    ap (λ (n : ℕ). held_before (xs ++ x ∷ []) n)
    (ap (λ (n : ℕ). windows_in n) (longer xs x) ∙ count-same (length xs) few)
    ∙ held-before-early xs (x ∷ []) (windows_in (length xs)) (omega arith)

pub least-same : (xs : List ℤ) (x : ℤ) → length xs + 1 < 20 * windows_in (length xs) + 80
    → least_before (xs ++ x ∷ []) (windows_in (length (xs ++ x ∷ []))) ≡ least_before xs (windows_in (length xs))
least-same xs x few =
    ap (λ (n : ℕ). least_before (xs ++ x ∷ []) n)
    (ap (λ (n : ℕ). windows_in n) (longer xs x) ∙ count-same (length xs) few)
    ∙ least-early xs (x ∷ []) (windows_in (length xs)) (omega arith)

-- a sample that completes one
window-more : (xs : List ℤ) (x : ℤ) → length xs + 1 ≡ 20 * windows_in (length xs) + 80
    → window (xs ++ x ∷ []) (windows_in (length xs)) ≡ recent_of xs ++ x ∷ []
window-more xs x full =
    let w = windows_in (length xs) in
    ap (λ (zs : List ℤ). take 80 zs) (drop-append-le (20 * w) xs (x ∷ []) (omega arith))
    ∙ take_all 80 (recent_of xs ++ x ∷ [])
    (omega (arith, length-append (recent_of xs) (x ∷ []), length-drop (20 * w) xs))

pub least-more : (xs : List ℤ) (x : ℤ) → length xs + 1 ≡ 20 * windows_in (length xs) + 80
    → least_before (xs ++ x ∷ []) (windows_in (length (xs ++ x ∷ [])))
    ≡ lessened (least_before xs (windows_in (length xs))) (beside (levels_of (recent_of xs ++ x ∷ [])))
least-more xs x full =
    let w = windows_in (length xs) in
    let all = xs ++ x ∷ [] in
    let next : w + 1 ≡ suc w = omega arith in
    ap (λ (n : ℕ). least_before all n)
    (ap (λ (n : ℕ). windows_in n) (longer xs x) ∙ count-more (length xs) full ∙ next)
    ∙ ap (λ (least : ℕ). lessened least (beside (levels_of (window all w)))) (least-early xs (x ∷ []) w (omega arith))
    ∙ ap (λ (zs : List ℤ). lessened (least_before xs w) (beside (levels_of zs))) (window-more xs x full)

sight-more : (xs : List ℤ) (x : ℤ) → length xs + 1 ≡ 20 * windows_in (length xs) + 80
    → sight_at (xs ++ x ∷ []) (windows_in (length xs))
    ≡ seen (least_before xs (windows_in (length xs))) (recent_of xs ++ x ∷ [])
sight-more xs x full =
    let w = windows_in (length xs) in
    ap (λ (zs : List ℤ). seen (least_before (xs ++ x ∷ []) w) zs) (window-more xs x full)
    ∙ ap (λ (least : ℕ). seen least (recent_of xs ++ x ∷ [])) (least-early xs (x ∷ []) w (omega arith))

pub sights-more : (xs : List ℤ) (x : ℤ) → length xs + 1 ≡ 20 * windows_in (length xs) + 80
    → sights (xs ++ x ∷ [])
    ≡ sights xs
    ++ without_tail (held_before xs (windows_in (length xs)))
    (seen (least_before xs (windows_in (length xs))) (recent_of xs ++ x ∷ [])) ∷ []
sights-more xs x full =
    let w = windows_in (length xs) in
    let f = seen_at (xs ++ x ∷ []) in
    let this : f w ≡ without_tail (held_before xs w) (seen (least_before xs w) (recent_of xs ++ x ∷ [])) =
    ap (λ (before : List (Option Sight)). without_tail before (sight_at (xs ++ x ∷ []) w))
    (held-before-early xs (x ∷ []) w (omega arith))
    ∙ ap (λ (s : Option Sight). without_tail (held_before xs w) s) (sight-more xs x full) in
    ap (λ (n : ℕ). map f (range_with_len 0 n)) (ap (λ (n : ℕ). windows_in n) (longer xs x) ∙ count-more (length xs) full)
    ∙ map-range_with_len_more f 0 w w (omega arith)
    ∙ ap (λ (zs : List (Option Sight)). zs ++ f w ∷ []) (sights-early xs (x ∷ []))
    ∙ ap (λ (s : Option Sight). sights xs ++ s ∷ []) this

-- a range that begins one later
range-moved : (f : ℕ → Option Sight) (a n : ℕ)
    → map f (range_with_len (a + 1) (suc n)) ≡ drop 1 (map f (range_with_len a (suc n))) ++ f (a + suc n) ∷ []
range-moved f a n =
    let one : suc n ≡ n + 1 = omega arith in
    ap (λ (k : ℕ). map f (range_with_len (a + 1) k)) one ∙ map-range_with_len_more f (a + 1) n (a + suc n) (omega arith)

pub held-last : (xs : List ℤ) (w : ℕ) → held xs (w + 64) ≡ sight_at xs w
held-last xs w =
    let late : nat_lt (w + 64) TAIL_WINDOWS ≡ false = le-ltb (w + 64) TAIL_WINDOWS (omega arith) in
    let back : w + 64 - TAIL_WINDOWS ≡ w = omega arith in
    ap (λ (b : Bool). if b then None else sight_at xs (w + 64 - TAIL_WINDOWS)) late ∙ ap (λ (n : ℕ). sight_at xs n) back

pub held-more : (xs : List ℤ) (x : ℤ) → length xs + 1 ≡ 20 * windows_in (length xs) + 80
    → held_before (xs ++ x ∷ []) (windows_in (length (xs ++ x ∷ [])))
    ≡ drop 1 (held_before xs (windows_in (length xs)))
    ++ seen (least_before xs (windows_in (length xs))) (recent_of xs ++ x ∷ []) ∷ []
held-more xs x full =
    let w = windows_in (length xs) in
    let all = xs ++ x ∷ [] in
    ap (λ (n : ℕ). held_before all n) (ap (λ (n : ℕ). windows_in n) (longer xs x) ∙ count-more (length xs) full)
    ∙ range-moved (held all) w 63
    ∙ ap (λ (before : List (Option Sight)). drop 1 before ++ held all (w + 64) ∷ []) (held-before-early xs (x ∷ []) w (omega arith))
    ∙ ap (λ (s : Option Sight). drop 1 (held_before xs w) ++ s ∷ []) (held-last all w ∙ sight-more xs x full)

pub recent-more : (xs : List ℤ) (x : ℤ) → length xs + 1 ≡ 20 * windows_in (length xs) + 80
    → recent_of (xs ++ x ∷ []) ≡ drop 20 (recent_of xs ++ x ∷ [])
recent-more xs x full =
    let w = windows_in (length xs) in
    let next : 20 * (w + 1) ≡ 20 * w + 20 = omega arith in
    ap (λ (n : ℕ). drop (20 * n) (xs ++ x ∷ []))
    (ap (λ (n : ℕ). windows_in n) (longer xs x) ∙ count-more (length xs) full)
    ∙ ap (λ (n : ℕ). drop n (xs ++ x ∷ [])) next
    ∙ sym (drop-drop 20 (20 * w) (xs ++ x ∷ []))
    ∙ ap (λ (zs : List ℤ). drop 20 zs) (drop-append-le (20 * w) xs (x ∷ []) (omega arith))
