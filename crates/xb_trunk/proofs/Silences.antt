-- Silence that is written in blocks, and after other samples.
use Rattle.std.proofs.Common.{◌≡◌, ℕ, ◌+◌, ◌*◌, ◌-◌, min, List, ◌++◌, length, drop, take, sym, ap, ◌∙◌, arith, replicate, ℤ, pos, OnOk, Result, Ok, Err}
use Rattle.std.proofs.lemmas.List.{replicate-append-replicate, take_min}
use Rattle.std.proofs.lemmas.List.Concat.{flat_map-append}
use Rattle.xb_sound.specs.Wavs.{pcm_of, sample_bytes}
use Rattle.xb_trunk.specs.Sounded.{fitted}

-- the bytes of n samples of silence, and of m more
pub silence-parts : (n m all : ℕ) → n + m ≡ all
    → pcm_of (replicate n (pos 0)) ++ pcm_of (replicate m (pos 0)) ≡ pcm_of (replicate all (pos 0))
silence-parts n m all is =
    sym (flat_map-append sample_bytes (replicate n (pos 0)) (replicate m (pos 0)))
    ∙ ap pcm_of (replicate-append-replicate n m (pos 0) ∙ ap (λ (k : ℕ). replicate k (pos 0)) is)

-- so many samples are the first ones, and silence after them
pub fitted-parts : (n part : ℕ) (samples : List ℤ) → part ≡ min n (length samples)
    → pcm_of (take part samples) ++ pcm_of (replicate (n - part) (pos 0)) ≡ pcm_of (fitted n samples)
fitted-parts n part samples is =
    let left : n - part ≡ n - length samples = omega (arith, is) in
    ap (λ (xs : List ℤ). pcm_of xs ++ pcm_of (replicate (n - part) (pos 0))) (ap (λ (k : ℕ). take k samples) is ∙ take_min n samples)
    ∙ ap (λ (k : ℕ). pcm_of (take n samples) ++ pcm_of (replicate k (pos 0))) left
    ∙ sym (flat_map-append sample_bytes (take n samples) (replicate (n - length samples) (pos 0)))

-- what holds on success gives what follows from it
pub on_ok-map : {T E P Q : Type 0} (r : Result T E) → (P → Q) → OnOk r P → OnOk r Q
on_ok-map (Ok x) gives holds = gives holds
on_ok-map (Err e) gives holds = holds

-- the same of a part that stands after what was written, and of what waits
pub written-parts : (w part n ms : ℕ) (first second items waiting : List ℤ) → first ≡ items → second ≡ items → n ≡ ms
    → drop w items ≡ waiting → part ≡ min (n * 8) (length (drop w first))
    → pcm_of (take (w + part - w) (drop w second)) ++ pcm_of (replicate (n * 8 - part) (pos 0)) ≡ pcm_of (fitted (ms * 8) waiting)
written-parts w part n ms first second items waiting a b same waits is =
    let so_many : w + part - w ≡ part = omega arith in
    ap (λ (k : ℕ). pcm_of (take k (drop w second)) ++ pcm_of (replicate (n * 8 - part) (pos 0))) so_many
    ∙ ap (λ (xs : List ℤ). pcm_of (take part xs) ++ pcm_of (replicate (n * 8 - part) (pos 0))) (ap (drop w) b ∙ waits)
    ∙ fitted-parts (n * 8) part waiting (is ∙ ap (λ (xs : List ℤ). min (n * 8) (length xs)) (ap (drop w) a ∙ waits))
    ∙ ap (λ (k : ℕ). pcm_of (fitted (k * 8) waiting)) same
