use Rattle.std.proofs.Common.{◌≡◌, ◌∙◌, ◌++◌, ◌+◌, ◌-◌, ◌∷◌, [], List, Option, take, drop, length, set, sym, ap, arith, rules, length-append, length-drop, length-set}
use Rattle.std.specs.List.{copy_within}
use Rattle.std.proofs.lemmas.List.{take-append-le, take_all, take_more_set}
use Rattle.xb_ear.specs.declared.sight.Sight.{Sight}
use Rattle.xb_ear.proofs.echo_tails.move_on.Goals as goal

-- all but the first of 64 windows, and a new one
shift : (w : List (Option Sight)) (s : Option Sight) → length w ≡ 64
    → set (copy_within w 1 (length w) 0) 63 s ≡ drop 1 w ++ s ∷ []
shift w s all =
    let v = copy_within w 1 (length w) 0 in
    let size : length (drop 1 w) ≡ 63 = omega (arith, all, length-drop 1 w) in
    let n : length w - 1 ≡ 63 = omega (arith, all) in
    let moved : v ≡ drop 1 w ++ drop 63 w =
    ap (λ k. take k (drop 1 w) ++ drop (0 + k) w) n
    ∙ ap (λ zs. zs ++ drop 63 w) (take_all 63 (drop 1 w) (omega (arith, size))) in
    let parts : length v ≡ length (drop 1 w ++ drop 63 w) = ap (λ (zs : List (Option Sight)). length zs) moved in
    let long : length v ≡ 64 =
    omega (arith, parts, all, size, length-append (drop 1 w) (drop 63 w), length-drop 63 w) in
    let first : take 63 v ≡ drop 1 w =
    ap (λ zs. take 63 zs) moved
    ∙ take-append-le 63 (drop 1 w) (drop 63 w) (omega (arith, size))
    ∙ take_all 63 (drop 1 w) (omega (arith, size)) in
    sym (take_all 64 (set v 63 s) (omega (arith, long, length-set v 63 s)))
    ∙ take_more_set v 63 s (omega (arith, long))
    ∙ ap (λ zs. zs ++ s ∷ []) first

pub returns : goal.returns
returns c =
    let before : List (Option Sight) = c.args.before.now in
    let all : length before ≡ 64 = search rules in
    ap (λ (w : List (Option Sight)). set w 63 c.args.seen) c.copy_within.ensures.after ∙ shift before c.args.seen all
