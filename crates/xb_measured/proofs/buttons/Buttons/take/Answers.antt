use Rattle.std.proofs.Common.{◌≡◌, ◌∙◌, ◌+◌, List, [], ◌∷◌, ◌++◌, length, ap, arith, refl, rules, subst, sym, ℤ, FitsSigned}
use Rattle.std.specs.Int.{w16}
use Rattle.std.proofs.lemmas.Int.{to_z-of_z}
use Rattle.xb_measured.specs.ButtonBlocks.{HasTaken, has_digit}
use Rattle.xb_measured.specs.declared.buttons.Buttons.TheInside.{Inside}
use Rattle.xb_measured.proofs.TakenBlocks.{counted-more, counted-same, taken-last, taken-within}
use Rattle.xb_measured.proofs.buttons.Buttons.take.Goals as goal
use Rattle.xb_measured.proofs.buttons.Buttons.take.Goals.{then-has_digit, else-has_digit}

pub returns-then-len-lt-BLOCK : goal.returns-then-len-lt-BLOCK
returns-then-len-lt-BLOCK c = λ samples taken.
    let before = subst (λ pressed. HasTaken pressed samples) (sym c.self.view_is) taken in
    let fits : FitsSigned w16 c.args.sample = search rules in
    let pushed = c.push.ensures.items ∙ ap (λ (x : ℤ). c.self.inside.rest.items ++ x ∷ []) (to_z-of_z w16 c.args.sample fits) in
    taken-within _ _ samples c.args.sample before
    (omega (arith, c.push.ensures.len, c.len.ensures.value, c.if-len-lt-BLOCK.true)) pushed refl

pub returns : goal.returns
returns c = λ samples taken.
    let before = subst (λ pressed. HasTaken pressed samples) (sym c.self.view_is) taken in
    let fits : FitsSigned w16 c.args.sample = search rules in
    let pushed = c.push.ensures.items ∙ ap (λ (x : ℤ). c.self.inside.rest.items ++ x ∷ []) (to_z-of_z w16 c.args.sample fits) in
    let block : c.deref.result.now ≡ c.self.inside.rest.items ++ c.args.sample ∷ [] = c.deref.ensures.0 ∙ pushed in
    let digit = sym (c.has_digit.ensures ∙ ap (λ (xs : List ℤ). has_digit xs) block) in
    let last : length c.self.inside.rest.items + 1 ≡ 160 =
    omega (arith, c.push.ensures.len, c.len.ensures.value, c.if-len-lt-BLOCK.false, c.self.invariant) in
    elim c.if-has_digit.branch [
      | then-has_digit w ↦ taken-last _ _ samples c.args.sample before last c.clear.ensures
          (counted-more _ _ _ (digit ∙ w.if-has_digit.true)
          (ap (λ (inside : Inside). inside.blocks) w.self-inside-is ∙ w.saturating_add-self-inside.ensures))
      | else-has_digit w ↦ taken-last _ _ samples c.args.sample before last c.clear.ensures
          (counted-same _ _ _ (digit ∙ w.if-has_digit.false)
          (ap (λ (inside : Inside). inside.blocks) w.self-inside-is) (search rules))
    ]
