use Rattle.std.proofs.Common.{◌∙◌, sym}
use Rattle.std.proofs.lemmas.Result.{IfOk-weaker, IfErr-weaker}
use Rattle.xb_routes.proofs.Reading.{array-few, array-many}
use Rattle.xb_routes.proofs.table.read_array.Goals as goal

pub returns-then-is_too_many-clause-refused : goal.returns-then-is_too_many-clause-refused
returns-then-is_too_many-clause-refused c = λ other. array-many c.args.plan c.args.values.now (sym c.is_too_many.ensures ∙ c.if-is_too_many.true)

pub returns-clause-ok : goal.returns-clause-ok
returns-clause-ok c =
    let same = array-few c.args.plan c.args.values.now (sym c.is_too_many.ensures ∙ c.if-is_too_many.false) in
    IfOk-weaker c.read_routes.result _ _ (λ r e. same ∙ e) c.read_routes.ensures.ok

pub returns-clause-refused : goal.returns-clause-refused
returns-clause-refused c =
    let same = array-few c.args.plan c.args.values.now (sym c.is_too_many.ensures ∙ c.if-is_too_many.false) in
    IfErr-weaker c.read_routes.result _ _ (λ f e other. same ∙ e other) c.read_routes.ensures.refused
