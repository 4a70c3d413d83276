use Rattle.std.proofs.Common.{OnOk, Ok, Err, Result, arith}
use Rattle.xb_calls.proofs.Pulses.{pulse-more, pulse-last}
use Rattle.xb_calls.proofs.dialled_pulses.push_digit.Goals as goal

pub loop-pulse-preserved : goal.loop-pulse-preserved
loop-pulse-preserved c =
    record {
      within = omega arith;
      rows =
          pulse-more c.args.speed c.args.line _ c.loop-pulse._pulse c.args.rows.now.items
          c.loop-pulse.rows.items
          c.push_run.new.rows.items c.push_run-in-loop-pulse.new.rows.items
          c.loop-pulse.auto._pulse (omega arith) c.loop-pulse.invariant.rows c.in_ok-push_run.ensures
          c.in_ok-push_run-2.ensures;
    }

-- what follows from what a call ensures at Ok
on_ok : {T E : Type 0} {P Q : Type 0} (r : Result T E) → (P → Q) → OnOk r P → OnOk r Q
on_ok (Ok x) then h = then h
on_ok (Err e) then h = tt

pub returns-clause-rows : goal.returns-clause-rows
returns-clause-rows c =
    on_ok c.push_run-3.result
    (λ last. pulse-last c.args.speed c.args.line _ c.loop-pulse._pulse c.args.rows.now.items
    c.loop-pulse.rows.items
    c.push_run-2.new.rows.items c.push_run-3.new.rows.items c.loop-pulse.invariant.within (omega arith)
    c.loop-pulse.invariant.rows c.in_ok-push_run-3.ensures last)
    c.push_run-3.ensures
