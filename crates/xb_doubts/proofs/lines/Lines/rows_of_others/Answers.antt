use Rattle.xb_doubts.specs.Lines.{told_by}
use Rattle.xb_doubts.proofs.ToldLines.{kept_are_few}
use Rattle.xb_doubts.proofs.lines.Lines.rows_of_others.Goals as goal

pub returns-clause-few : goal.returns-clause-few
returns-clause-few c =
    kept_are_few (told_by c.args.self.now) c.args.rows.now c.loop-row.kept.items _ c.loop-row.invariant
