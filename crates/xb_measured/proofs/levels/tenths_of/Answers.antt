use Rattle.std.proofs.Common.{◌≡◌, ◌∙◌, ◌+◌, ◌-◌, ◌*◌, ◌^◌, ℕ, List, length, true, ap, ap₂, arith, refl}
use Rattle.std.specs.Prelude.{filter}
use Rattle.std.specs.List.{range_with_len}
use Rattle.xb_measured.specs.declared.levels.TheConstants.{STEPS}
use Rattle.xb_measured.specs.Levels.{count_up_to, has_reached, powers_of_ten, tenths_of}
use Rattle.xb_measured.proofs.Steps.{are_least, counts}
use Rattle.xb_measured.proofs.levels.tenths_of.Goals as goal

-- the tenths by the powers that are reached, and the steps
by-parts : (level wide powers factor over : ℕ) (steps : List ℕ) → wide ≡ level → powers ≡ count_up_to wide powers_of_ten
    → factor ≡ 10 ^ (12 - powers) → over ≡ count_up_to (wide * factor) steps → length steps ≡ 100
    → are_least 1 steps ≡ true → 100 * powers + over ≡ tenths_of level
by-parts level wide powers factor over steps same reached is counted all least =
    let of : powers ≡ count_up_to level powers_of_ten = reached ∙ ap (λ (n : ℕ). count_up_to n powers_of_ten) same in
    ap₂ (λ (a b : ℕ). 100 * a + b) of
    (counted
    ∙ ap₂ (λ (n x : ℕ). count_up_to (n * x) steps) same (is ∙ ap (λ (n : ℕ). 10 ^ (12 - n)) of)
    ∙ counts _ 1 steps least
    ∙ ap (λ (n : ℕ). length (filter (has_reached (level * 10 ^ (12 - count_up_to level powers_of_ten))) (range_with_len 1 n))) all)

-- the table is right, by computation
pub returns : goal.returns
unfolding has_reached
returns c =
    by-parts c.args.level c.from-level.result c.count_up_to-powers.result c.pow.result
    c.count_up_to-steps.result STEPS (omega arith) c.count_up_to-powers.ensures.value c.pow.ensures
    c.count_up_to-steps.ensures.value refl refl
