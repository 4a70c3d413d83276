use Rattle.xb_rows.specs.Scanning.{text_left}
use Rattle.xb_rows.proofs.ScanSteps.{ScanGives, scan-header, scan-record}
use Rattle.xb_rows.proofs.csv_scan.CsvScanRowSource.next_row.Goals as goal
use Rattle.xb_rows.proofs.csv_scan.CsvScanRowSource.next_row.Goals.{in-Header, in-After}

pub returns : goal.returns
returns c =
    let left = text_left c.self.inside.reader in
    let new = text_left c.match-self.self-inside.reader in
    let gives : ScanGives c.match-self.taken.0 c.args.self.now new c.match-self.taken.1 =
    elim c.match-self.branch [
      | in-Header w ↦
          let here = rw w.in-Header.is at c.self.view_is in
          let known = rw w.in-Header.is at c.self.invariant in
          let read = w.take_first_row in
          let took = rw c.from-most.ensures at read.ensures.row in
          rw (w.taken-is, w.self-inside-is) (scan-header left _ _ read.result known.1 here took)
      | in-After w ↦
          let here = rw w.in-After.is at c.self.view_is in
          let known = rw w.in-After.is at c.self.invariant in
          let read = w.take_row in
          let took = rw c.from-most.ensures at read.ensures.row in
          rw (w.taken-is, w.self-inside-is) (scan-record w.in-After.taken left _ _ read.result known.1 here took)
    ] in
    rw (c.place_after-self-inside.ensures, c.of_slice-given.ensures) gives
