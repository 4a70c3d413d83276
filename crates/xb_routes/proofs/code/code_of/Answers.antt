use Rattle.std.proofs.Common.{◌∙◌, sym}
use Rattle.xb_routes.proofs.Codes.{code_of-none}
use Rattle.xb_routes.proofs.code.code_of.Goals as goal

pub returns-in_err-digits : goal.returns-in_err-digits
returns-in_err-digits c = c.from_residual.ensures ∙ sym (code_of-none c.args.plan c.args.text.now (sym c.digits_of.ensures ∙ c.in_err-digits.was))
