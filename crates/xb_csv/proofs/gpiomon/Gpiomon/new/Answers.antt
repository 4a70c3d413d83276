use Rattle.std.proofs.Common.{◌≡◌, ℕ, List, Option, None, length, map, replicate, ap, ◌∙◌, arith}
use Rattle.std.proofs.lemmas.List.{length-map}
use Rattle.std.specs.Borrow.{Bor}
use Rattle.xb_contact.specs.declared.level.Level.{Level}
use Rattle.xb_csv.specs.Gpiomons.{gpiomon_by}
use Rattle.xb_csv.proofs.gpiomon.Gpiomon.new.Goals as goal

pub returns-clause-begun : goal.returns-clause-begun
returns-clause-begun c =
    let names : List (List ℕ) = map (λ (name : Bor (List ℕ)). name.now) c.args.names.now in
    let all : c.loop-name._name-index ≡ length names =
    omega (arith, length-map c.args.names.now (λ (name : Bor (List ℕ)). name.now)) in
    ap (λ (levels : List (Option Level)). gpiomon_by c.args.lossy names levels None)
    (c.loop-name.invariant ∙ ap (λ (n : ℕ). replicate n None) all)
