use Rattle.std.proofs.Common.{◌≡◌, ◌∙◌, ap}
use Rattle.xb_routes.specs.Places.{code_number}
use Rattle.xb_routes.proofs.Index.{index-has}
use Rattle.xb_routes.proofs.routes.Routes.has.Goals as goal

pub returns : goal.returns
returns c =
    let digits = rw c.digits.ensures.value at c.code_number.ensures.digits in
    let number : c.code_number.result ≡ code_number c.args.code.now = c.code_number.ensures.number ∙ ap code_number c.digits.ensures.value in
    rw (c.contains_key.ensures, number, ← c.self.view_is) (index-has c.self.inside.places _ c.self.invariant c.args.code.now digits)
