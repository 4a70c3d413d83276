use Rattle.std.proofs.Common.{◌≡◌, ◌∙◌, ◌-◌, List, ap, ap₂, arith, drop, length, take, rules, ℕ, ℤ, length-drop, length-take, FitsSigned}
use mir.Syntax.{w128}
use Rattle.std.proofs.lemmas.Int.{to_z-of_z}
use Rattle.std.proofs.lemmas.List.{take_all}
use Rattle.xb_measured.specs.declared.wave_sums.Sums.{Sums}
use Rattle.xb_measured.specs.Waves.{sums_of}
use Rattle.xb_measured.specs.Tones.{hz_with, off_of, tone_by}
use Rattle.xb_measured.proofs.ToneSteps.{tone-is}
use Rattle.xb_measured.proofs.tones.tone_of.Goals as goal

pub slice_bounds-sums_of-end : goal.slice_bounds-sums_of-end
slice_bounds-sums_of-end c = omega (arith, c.requires, length-take 160 c.args.stretch.now)

pub returns : goal.returns
returns c =
    let hz : ℕ = c.args.hz in
    let all : List ℤ = c.args.stretch.now in
    let rest : take (length all - 40) (drop 40 all) ≡ drop 40 all =
    take_all (length all - 40) (drop 40 all) (omega (arith, length-drop 40 all)) in
    let first : Sums = c.sums_of-first.result in
    let later : Sums = c.sums_of-later.result in
    let x : ℤ = c.along.result in
    let y : ℤ = c.across-across.result in
    let x-fits : FitsSigned w128 x = search rules in
    let y-fits : FitsSigned w128 y = search rules in
    let x-same = to_z-of_z w128 x x-fits in
    let y-same = to_z-of_z w128 y y-fits in
    tone-is hz first later x y c.off_of-off.result c.hz_with.result c.level_of.result c.along.ensures.value
    c.across-across.ensures.value
    (c.off_of-off.ensures.value ∙ ap₂ (λ (a b : ℤ). off_of a b) x-same y-same)
    (c.hz_with.ensures ∙ ap (λ (a : ℤ). hz_with hz a c.off_of-off.result) y-same)
    c.level_of.ensures
    ∙ ap₂ (λ (f l : Sums). tone_by hz f l) c.sums_of-first.ensures.value
    (c.sums_of-later.ensures.value ∙ ap (λ (zs : List ℤ). sums_of hz 40 zs) rest)
