use Rattle.std.proofs.Common.{arith}
use Rattle.xb_rows.proofs.PlainSteps.{plain-gives}
use Rattle.xb_rows.proofs.scan.ScanRowSource.next_row.Goals as goal

pub returns-in-Some-plain_row : goal.returns-in-Some-plain_row
returns-in-Some-plain_row c =
    let now = c.self.inside in
    let plain = c.in-Some-plain_row in
    plain-gives now.taken now.rest.now plain.plain.row plain.plain.rest.now now.csv c.args.self.now c.in_default.is
    c.self.view_is (omega (arith, c.if-self-from.true, c.from.ensures)) plain.ensures
