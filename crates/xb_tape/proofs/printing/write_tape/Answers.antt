use Rattle.std.proofs.Common.{◌≡◌, sym, arith, ap, length, ◌∙◌}
use Rattle.xb_model.specs.Tapes.{entries_of}
use Rattle.xb_model.proofs.Entries.{length-entries_of}
use Rattle.xb_tape.proofs.PageEntries.{IsWritten-start, IsWritten-keyed, IsWritten-refused, IsWritten-end}
use Rattle.xb_tape.proofs.printing.write_tape.Goals as goal

pub loop-entry-init : goal.loop-entry-init
loop-entry-init c =
    let same : entries_of c.into_iter-entry-iterator.result.marks.now ≡ entries_of c.args.marks.now
    = ap (λ each. entries_of each.marks.now) c.into_iter-entry-iterator.ensures.into_iter_gives
    ∙ ap entries_of c.entries-entry-items.ensures in
    record {
      can = tt;
      finite = tt;
      few = omega (arith, ap length same, length-entries_of c.args.marks.now, c.default-totals.ensures.0, c.default-totals.ensures.1);
      written = rw (same, c.default-totals.ensures.0, c.default-totals.ensures.1) (IsWritten-start _ _ _);
    }

pub loop-entry-preserved-then-is_refused : goal.loop-entry-preserved-then-is_refused
loop-entry-preserved-then-is_refused c =
    record {
      can = tt;
      finite = tt;
      few = omega (arith, ap length c.in-Some.ensures.steps, c.loop-entry.invariant.few);
      written =
          IsWritten-refused c.loop-entry.invariant.written c.in-Some.ensures.steps _
          (sym c.is_refused.ensures ∙ c.if-is_refused.true) c.in_ok-write_entry.ensures;
    }

pub loop-entry-preserved : goal.loop-entry-preserved
loop-entry-preserved c =
    record {
      can = tt;
      finite = tt;
      few = omega (arith, ap length c.in-Some.ensures.steps, c.loop-entry.invariant.few);
      written =
          IsWritten-keyed c.loop-entry.invariant.written c.in-Some.ensures.steps _
          (sym c.is_refused.ensures ∙ c.if-is_refused.false) c.in_ok-write_entry.ensures;
    }

pub returns-clause-text : goal.returns-clause-text
returns-clause-text c = IsWritten-end c.loop-entry.invariant.written c.in-None.ensures.steps.0
