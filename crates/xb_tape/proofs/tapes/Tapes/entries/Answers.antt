use Rattle.std.proofs.Common.{arith, ap, length, inl}
use Rattle.xb_model.proofs.Entries.{length-entries_of}
use Rattle.xb_tape.proofs.tapes.Tapes.entries.Goals as goal

pub count-requires-clause-fits : goal.count-requires-clause-fits
count-requires-clause-fits c =
    inl (omega (arith, length-entries_of c.entries.result.marks.now, ap length c.entries.ensures, c.marks.type_inv.0))
