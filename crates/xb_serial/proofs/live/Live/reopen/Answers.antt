use Rattle.std.proofs.Common.{set, refl, sym, subst}
use Rattle.xb_serial.specs.Office.{Office, HasTaken}
use Rattle.xb_serial.proofs.OneRow.{taken-without}
use Rattle.xb_serial.proofs.live.Live.reopen.Goals as goal

pub returns-clause-taken : goal.returns-clause-taken
returns-clause-taken c = λ rows marks taken.
    let office : Office = record { table = c.self.inside.table; lines = c.self.inside.lines; given = c.self.inside.given.items } in
    let after : Office = record { table = c.self.inside.table; lines = set c.self.inside.lines c.args.line c.fresh.result; given = c.self.inside.given.items } in
    taken-without office after rows marks c.args.line c.fresh.result
    (subst (λ (o : Office). HasTaken o rows marks) (sym c.self.view_is) taken) refl refl
    c.get_mut.ensures.lines c.get_mut.ensures.below c.fresh.ensures
