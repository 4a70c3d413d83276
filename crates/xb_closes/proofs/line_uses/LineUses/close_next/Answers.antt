use Rattle.std.proofs.Common.{◌≡◌, ◌<◌, [], ◌∷◌, None, set, List, sym, ap, ◌∙◌, subst, length}
use Rattle.xb_model.specs.declared.line.TheConstants.{LINES}
use Rattle.xb_model.specs.Rows.{close_row}
use Rattle.xb_closes.specs.declared.line_use.LineUse.{LineUse}
use Rattle.xb_closes.specs.declared.line_use.LineUse.TheVariants.{Closed}
use Rattle.xb_closes.specs.Left.{left}
use Rattle.xb_closes.proofs.Lefts.{left-close, left-end, left-fault}
use Rattle.xb_closes.proofs.line_uses.LineUses.close_next.Goals as goal

pub returns-in-Some-clause-none : goal.returns-in-Some-clause-none
returns-in-Some-clause-none c = ap (left c.args.self.now []) c.in-Some.is ∙ left-fault _ _

pub returns-in_err-line-clause-none : goal.returns-in_err-line-clause-none
returns-in_err-line-clause-none c =
    let uses : List LineUse = c.args.self.now in
    let e : left uses [] c.args.stop ≡ [] = ap (left uses []) c.in-None.is ∙ left-end uses c.in_err-line.ensures.none in
    rw c.from_residual.ensures e

pub returns-clause-some : goal.returns-clause-some
returns-clause-some c =
    let uses : List LineUse = c.args.self.now in
    let same : c.self.inside.uses ≡ uses = c.self.view_is in
    let l = c.in_ok-line.line in
    let t = c.in_ok-line.ensures.some in
    let within : l < length uses = subst (λ n. l < n) (sym (ap length (sym same) ∙ c.get_mut.ensures.lines)) t.0 in
    rw c.close.ensures (ap (left uses []) c.in-None.is
    ∙ left-close uses l t.2 t.1 t.0 within
    ∙ ap (λ us. close_row l ∷ left (set us l Closed) [] None) (sym same)
    ∙ ap (λ s. close_row l ∷ left (set c.self.inside.uses l Closed) [] s) (sym c.in-None.is))
