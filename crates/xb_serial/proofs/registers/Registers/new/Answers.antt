use Rattle.std.proofs.Common.{rules}
use Rattle.xb_serial.specs.Taken.{Dialling}
use Rattle.xb_serial.proofs.Taking.{dialled-none}
use Rattle.xb_serial.proofs.registers.Registers.new.Goals as goal

pub returns : goal.returns
returns c =
    let d : Dialling = record { plan = c.new-register.result; lines = c.in_ok-lines.lines; dialled = c.new-dialled.result.items } in
    dialled-none c.args.plan d c.new-register.ensures.plan c.in_ok-lines.ensures.lines
    (λ k default h. let made = c.in_ok-lines.ensures.made k default h in search rules)
    c.new-dialled.ensures.items
