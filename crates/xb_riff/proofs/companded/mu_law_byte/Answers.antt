use Rattle.std.proofs.Common.{◌≡◌, ◌∙◌, ◌≤◌, ℕ, ap, subst, sym, arith, ℤ, unsigned_abs}
use Rattle.std.specs.Int.{w16}
use Rattle.std.proofs.lemmas.Int.{ints, to_z-of_z}
use Rattle.xb_riff.specs.MuLawBytes.{IsCodedAs, mu_law_byte}
use Rattle.xb_riff.proofs.SignedCodes.{samples_are_coded}
use Rattle.xb_riff.proofs.companded.mu_law_byte.Goals as goal

value_is : (c : goal.After-signed_code) → c.signed_code.result ≡ mu_law_byte c.args.sample
value_is c =
    c.signed_code.ensures ∙ ap (λ (z : ℤ). mu_law_byte z) (to_z-of_z w16 c.args.sample c.ranges.sample)

pub returns-clause-value : goal.returns-clause-value
returns-clause-value c = value_is c

pub returns-clause-nearest : goal.returns-clause-nearest
returns-clause-nearest c =
    let size : unsigned_abs c.args.sample ≤ 32768 = omega (arith, ints, c.ranges.sample) in
    subst (λ (byte : ℕ). IsCodedAs c.args.sample byte) (sym (value_is c))
    (samples_are_coded c.args.sample size)
