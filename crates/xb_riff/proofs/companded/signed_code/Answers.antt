use Rattle.std.proofs.Common.{◌≡◌, ◌∙◌, true, false, ap, subst, ℤ, pos, int_lt, unsigned_abs, rules}
use Rattle.std.specs.Int.{w16}
use Rattle.std.proofs.lemmas.Int.{to_z-of_z}
use Rattle.xb_riff.proofs.SignedCodes.{byte_above, byte_below}
use Rattle.xb_riff.proofs.companded.signed_code.Goals as goal

pub returns-then-sample-lt0 : goal.returns-then-sample-lt0
returns-then-sample-lt0 c =
    let same = to_z-of_z w16 c.args.sample (search rules) in
    byte_below c.args.sample c.unsigned_abs.result c.nearest_code-code.result
    (subst (λ (z : ℤ). int_lt z (pos 0) ≡ true) same c.if-sample-lt0.true)
    (c.unsigned_abs.ensures.value ∙ ap (λ (z : ℤ). unsigned_abs z) same) c.nearest_code-code.ensures.value

pub returns-else-sample-lt0 : goal.returns-else-sample-lt0
returns-else-sample-lt0 c =
    let same = to_z-of_z w16 c.args.sample (search rules) in
    byte_above c.args.sample c.unsigned_abs.result c.nearest_code-code.result
    (subst (λ (z : ℤ). int_lt z (pos 0) ≡ false) same c.if-sample-lt0.false)
    (c.unsigned_abs.ensures.value ∙ ap (λ (z : ℤ). unsigned_abs z) same) c.nearest_code-code.ensures.value
