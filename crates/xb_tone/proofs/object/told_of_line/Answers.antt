use Rattle.std.proofs.Common.{◌∙◌, inr, sym}
use Rattle.serde_json.specs.View.{view}
use Rattle.xb_tone.proofs.Readings.{line-refused, line-said, said-err, said-ok}
use Rattle.xb_tone.proofs.object.told_of_line.Goals as goal

pub returns-in-Err-2-clause-fault : goal.returns-in-Err-2-clause-fault
returns-in-Err-2-clause-fault c =
    inr (line-refused c.args.number c.args.line.now (c.in-Err.ensures.err (λ memory. cc (c.if-is_memory.ensures.1 memory))))

pub returns-clause-told : goal.returns-clause-told
returns-clause-told c =
    said-ok c.args.number c.args.line.now c.told_in.result
    (line-said c.args.number c.args.line.now (view c.in-Ok.object) c.in-Ok.ensures.ok.0 c.in-Ok.ensures.ok.1
    ∙ sym c.told_in.ensures)

pub returns-clause-fault : goal.returns-clause-fault
returns-clause-fault c =
    said-err c.args.number c.args.line.now c.told_in.result
    (line-said c.args.number c.args.line.now (view c.in-Ok.object) c.in-Ok.ensures.ok.0 c.in-Ok.ensures.ok.1
    ∙ sym c.told_in.ensures)
