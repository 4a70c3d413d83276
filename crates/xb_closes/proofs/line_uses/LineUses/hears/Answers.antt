use Rattle.std.proofs.Common.{◌≡◌, ◌<◌, sym, subst}
use Rattle.xb_closes.proofs.Lefts.{left-set}
use Rattle.xb_closes.proofs.line_uses.LineUses.hears.Goals as goal

pub returns : goal.returns
returns c =
    let t = c.get_mut-line_use.ensures in
    rw (← c.self.view_is) (left-set c.self.inside.uses c.args.row c.line.result c.get_mut-line_use.result.now c.after.result c.is_heard.result
    c.line.ensures (rw t.lines t.below) t.value (rw c.contact.ensures at c.after.ensures) c.is_heard.ensures)
