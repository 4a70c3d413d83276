use Rattle.std.proofs.Common.{rules, codes}
use Rattle.xb_text.proofs.Beginnings.{AppendsBeginning-first, AppendsBeginning-second}
use Rattle.xb_command.proofs.telling.tell_no_memory.Goals as goal

pub returns-then-is_ok : goal.returns-then-is_ok
returns-then-is_ok g c =
    AppendsBeginning-second _ _ _ c.args.program.now (codes ": out of memory\n") (search rules)
    c.write_whole-then-is_ok.ensures.beginning

pub returns-else-is_ok : goal.returns-else-is_ok
returns-else-is_ok g c =
    AppendsBeginning-first _ _ c.args.program.now (codes ": out of memory\n")
    (rw c.as_bytes.ensures.value at c.write_whole.ensures.beginning)
