use Rattle.std.proofs.Common.{◌≡◌, ℕ, List, Option, None, length, map, replicate, ap, ◌∙◌, arith}
use Rattle.std.proofs.lemmas.List.{length-map}
use Rattle.std.specs.Borrow.{Bor}
use Rattle.xb_vcd.specs.VcdTexts.{begun_vcd}
use Rattle.xb_vcd.proofs.vcd.Vcd.new.Goals as goal

pub returns-clause-begun : goal.returns-clause-begun
returns-clause-begun c =
    let names : List (List ℕ) = map (λ (name : Bor (List ℕ)). name.now) c.args.names.now in
    let all : c.loop-name._name-index ≡ length names =
    omega (arith, length-map c.args.names.now (λ (name : Bor (List ℕ)). name.now)) in
    ap (λ (found : List (Option ℕ)). record (begun_vcd names) { codes = found })
    (c.loop-name.invariant ∙ ap (λ (n : ℕ). replicate n None) all)
