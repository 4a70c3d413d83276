use Rattle.xb_rows.specs.StreamRecords.{stream_left}
use Rattle.xb_rows.proofs.ScanSteps.{Steps, header-steps, record-steps, step-gives}
use Rattle.xb_rows.proofs.row_reader.RowReader.next_row.Goals as goal
use Rattle.xb_rows.proofs.row_reader.RowReader.next_row.Goals.{in-Header, in-After}

pub returns : goal.returns
returns g c =
    let left = stream_left g.R.Read.remaining c.self.inside.reader in
    let new = stream_left g.R.Read.remaining c.match-self.self-inside.reader in
    let most = c.self.inside.most in
    let step : Steps c.match-self.self-inside.most c.match-self.taken.0 c.args.self.now new c.match-self.taken.1 =
    elim c.match-self.branch [
      | in-Header w ↦
          let here = rw w.in-Header.is at c.self.view_is in
          let read = w.take_first_row in
          rw (w.taken-is, w.self-inside-is) (header-steps most left _ _ read.result here read.ensures)
      | in-After w ↦
          let here = rw w.in-After.is at c.self.view_is in
          let read = w.take_row in
          rw (w.taken-is, w.self-inside-is) (record-steps most w.in-After.taken left _ _ read.result here read.ensures)
    ] in
    rw c.place_after-self-inside.ensures
    (step-gives c.match-self.self-inside.most c.match-self.taken.0 c.args.self.now new c.match-self.taken.1 step.0 step.1)
