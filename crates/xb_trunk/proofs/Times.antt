-- How many samples rows write, and that they are never taken back.
use Rattle.std.proofs.Common.{◌≡◌, ℕ, ◌+◌, ◌*◌, ◌-◌, min, List, [], ◌∷◌, ◌++◌, length, length-append, take, refl, sym, ap, ◌∙◌, append_assoc, arith, zero-add, replicate, ℤ, pos}
use Rattle.std.proofs.lemmas.List.{length-replicate, length-take}
use Rattle.std.proofs.lemmas.List.Sums.{sum_by-append}
use Rattle.xb_sound.specs.declared.cadence.Cadence.{Cadence}
use Rattle.xb_trunk.specs.Sounded.{Step, fitted, left_by, sounded, waiting_after, whole_sound}
use Rattle.xb_trunk.specs.Laws.{NothingIsTakenBack, TimeIsKept, ms_of}

length-fitted : (n : ℕ) (samples : List ℤ) → length (fitted n samples) ≡ n
length-fitted n samples =
    let both = length-append (take n samples) (replicate (n - length samples) (pos 0)) in
    let first : length (take n samples) ≡ min n (length samples) = length-take n samples in
    let second : length (replicate (n - length samples) (pos 0)) ≡ n - length samples = length-replicate (n - length samples) (pos 0) in
    omega (arith, both, first, second)

pub time_is_kept : TimeIsKept
time_is_kept cadence waiting [] = refl
time_is_kept cadence waiting (step ∷ steps) =
    let both = length-append (fitted (step.ms * 8) waiting) (sounded cadence (left_by cadence waiting step) steps) in
    let sum : ms_of (step ∷ steps) ≡ step.ms + ms_of steps = sum_by-append (λ (s : Step). s.ms) (step ∷ []) steps ∙ ap (λ (n : ℕ). n + ms_of steps) (zero-add step.ms) in
    omega (arith, both, length-fitted (step.ms * 8) waiting, time_is_kept cadence (left_by cadence waiting step) steps, sum)

-- rows write what the first ones write, and then the others
pub sounded-append : (cadence : Cadence) (waiting : List ℤ) (xs ys : List Step)
    → sounded cadence waiting (xs ++ ys) ≡ sounded cadence waiting xs ++ sounded cadence (waiting_after cadence waiting xs) ys
sounded-append cadence waiting [] ys = refl
sounded-append cadence waiting (x ∷ xs) ys =
    ap (λ (later : List ℤ). fitted (x.ms * 8) waiting ++ later) (sounded-append cadence (left_by cadence waiting x) xs ys)
    ∙ sym (append_assoc (fitted (x.ms * 8) waiting) (sounded cadence (left_by cadence waiting x) xs) (sounded cadence (waiting_after cadence waiting (x ∷ xs)) ys))

pub waiting-append : (cadence : Cadence) (waiting : List ℤ) (xs ys : List Step)
    → waiting_after cadence waiting (xs ++ ys) ≡ waiting_after cadence (waiting_after cadence waiting xs) ys
waiting-append cadence waiting [] ys = refl
waiting-append cadence waiting (x ∷ xs) ys = waiting-append cadence (left_by cadence waiting x) xs ys

pub whole-append : (cadence : Cadence) (waiting : List ℤ) (xs ys : List Step)
    → whole_sound cadence waiting (xs ++ ys) ≡ sounded cadence waiting xs ++ whole_sound cadence (waiting_after cadence waiting xs) ys
whole-append cadence waiting xs ys =
    let mid = waiting_after cadence waiting xs in
    ap (λ (front : List ℤ). front ++ waiting_after cadence waiting (xs ++ ys)) (sounded-append cadence waiting xs ys)
    ∙ ap (λ (rest : List ℤ). (sounded cadence waiting xs ++ sounded cadence mid ys) ++ rest) (waiting-append cadence waiting xs ys)
    ∙ append_assoc (sounded cadence waiting xs) (sounded cadence mid ys) (waiting_after cadence mid ys)

pub nothing_is_taken_back : NothingIsTakenBack
nothing_is_taken_back cadence waiting steps later = record {
  go_on = (sounded cadence (waiting_after cadence waiting steps) later, sym (sounded-append cadence waiting steps later));
  end = (whole_sound cadence (waiting_after cadence waiting steps) later, sym (whole-append cadence waiting steps later));
}
