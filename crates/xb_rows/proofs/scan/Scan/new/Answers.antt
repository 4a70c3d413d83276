use Rattle.xb_rows.specs.WrittenRows.{header}
use Rattle.xb_rows.proofs.PlainSteps.{header-rest}
use Rattle.xb_rows.proofs.scan.Scan.new.Goals as goal
use Rattle.xb_rows.proofs.scan.Scan.new.Goals.{in-Some, in-None}

pub invariant_of-result : goal.invariant_of-result
invariant_of-result c =
    elim c.match-after_header.branch [
      | in-Some w ↦ rw w.csv-is (header, w.in-Some.ensures)
      | in-None w ↦ rw w.csv-is tt
    ]

pub returns : goal.returns
returns c =
    elim c.match-after_header.branch [
      | in-Some w ↦ rw w.csv-is (header-rest c.args.text.now _ w.in-Some.ensures)
      | in-None w ↦ rw w.csv-is w.new.ensures
    ]
