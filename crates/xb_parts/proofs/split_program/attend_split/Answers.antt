use Rattle.std.proofs.Common.{arith, inl}
use Rattle.std.proofs.KnownBytes.{Keeps-refl}
use Rattle.xb_command.proofs.AnswersTold.{TellsAnswer-attends}
use Rattle.xb_parts.specs.SplitProgram.{by_split}
use Rattle.xb_parts.proofs.Refusals.{LeavesNone-refl}
use Rattle.xb_parts.proofs.split_program.attend_split.Goals as goal

pub returns-in-Ok-split-clause-attends : goal.returns-in-Ok-split-clause-attends
returns-in-Ok-split-clause-attends g c = λ folder. record {
  statuses = omega arith;
  done = λ e. inl (
    c.in-Ok.request,
    c.in-Ok.ensures.asks,
    record {
      split = c.in-Ok-split.ensures.split;
      output = Keeps-refl _;
      quiet = Keeps-refl _;
    },
  );
  fault = λ e. absurd (omega (arith, e));
  refused = λ e. absurd (omega (arith, e));
}

pub returns-in-Err-split-clause-attends : goal.returns-in-Err-split-clause-attends
returns-in-Err-split-clause-attends g c = λ folder.
    let status = c.tell.ensures.status in
    record {
      statuses = omega (arith, status);
      done = λ e. absurd (omega (arith, e, status));
      fault = λ e. inl (
        c.in-Ok.request,
        c.in-Ok.ensures.asks,
        inl (record {
          fault = c.in-Err-split.fault;
          split = c.in-Err-split.ensures.split;
          output = Keeps-refl _;
          line = c.tell.ensures.line;
        }),
      );
      refused = λ e. absurd (omega (arith, e, status));
    }

pub returns-in-Err-clause-attends : goal.returns-in-Err-clause-attends
returns-in-Err-clause-attends g c = λ folder.
    TellsAnswer-attends (by_split _) c.args.call.now (g.F.SplitFiles.bytes c.args.files.now) _ _ _ (Keeps-refl _)
    c.in-Err.answer c.in-Err.ensures.wrong c.tell_answer.ensures

pub returns-in-Err-clause-none_left : goal.returns-in-Err-clause-none_left
returns-in-Err-clause-none_left g c = LeavesNone-refl (g.F.SplitFiles.unfinished c.args.files.now)
