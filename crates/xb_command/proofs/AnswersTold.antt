-- Programs whose words choose nothing, and programs that did what was asked for.
use Rattle.std.proofs.Common.{ℕ, ◌∙◌, sym, Option, Some, None, inl, inr, arith}
use Rattle.std.proofs.lemmas.List.{append-nil}
use Rattle.std.specs.Io.KnownBytes.{Keeps}
use Rattle.clap.specs.Walk.{Text}
use Rattle.xb_text.specs.Writing.{AppendsBeginning}
use Rattle.xb_command.specs.Answering.{TellsAnswer, TellsWrong}
use Rattle.xb_command.specs.Files.{Bytes}
use Rattle.xb_command.specs.Programs.{Streams}
use Rattle.xb_command.specs.Works.{AttendsBy, IsWrong, PerformsBy, Rules}
use Rattle.xb_command.specs.declared.asking.Answer.{Answer}
use Rattle.xb_command.specs.declared.asking.Answer.TheVariants as answer
use Rattle.xb_command.specs.declared.table.Call.{Call}

-- what is kept has the beginning of any text, of no byte
pub Keeps-AppendsBeginning : (old new : Option Text) (text : Text) → Keeps old new → AppendsBeginning old new text
Keeps-AppendsBeginning None new text kept = (0, tt)
Keeps-AppendsBeginning (Some x) None text kept = absurd kept
Keeps-AppendsBeginning (Some x) (Some y) text kept = (0, kept ∙ sym (append-nil x))

module _ {Q : Type 0} (rules : Rules Q) (call : Call) (bytes : Bytes) (old new : Streams) (status : ℕ) where
  module _ (input : Keeps old.input new.input) where
    -- a program that told that words are wrong did what it says
    wrong-attends : (a : Answer) → IsWrong rules.Misfits call a → Keeps old.output new.output
        → TellsWrong call.program.now a old.errors new.errors status → AttendsBy rules call bytes old new status
    wrong-attends a is output (inl t) = record {
      statuses = omega (arith, t.0);
      done = λ e. absurd (omega (arith, t.0, e));
      fault = λ e. absurd (omega (arith, t.0, e));
      refused = λ e. record { answer = a; wrong = is; told = record { input = input; output = output; errors = t.1 } };
    }
    wrong-attends a is output (inr t) = record {
      statuses = omega (arith, t.0);
      done = λ e. absurd (omega (arith, t.0, e));
      fault = λ e. inr (record { input = input; output = inl (Keeps-AppendsBeginning _ _ _ output); errors = t.1 });
      refused = λ e. absurd (omega (arith, t.0, e));
    }

    -- a program that only told of an answer did what it says
    pub TellsAnswer-attends : (a : Answer) → IsWrong rules.Misfits call a
        → TellsAnswer call.program.now a old.output new.output old.errors new.errors status
        → AttendsBy rules call bytes old new status
    TellsAnswer-attends answer.Help is t = record {
      statuses = omega (arith, t.statuses);
      done = λ e. inr (inl (record { asked = is; input = input; output = (t.done e).0; errors = (t.done e).1 }));
      fault = λ e. inr (record { input = input; output = inl t.output; errors = t.errors });
      refused = λ e. absurd (omega (arith, t.statuses, e));
    }
    TellsAnswer-attends answer.Version is t = record {
      statuses = omega (arith, t.statuses);
      done = λ e. inr (inr (record { asked = is; input = input; output = (t.done e).0; errors = (t.done e).1 }));
      fault = λ e. inr (record { input = input; output = inr t.output; errors = t.errors });
      refused = λ e. absurd (omega (arith, t.statuses, e));
    }
    TellsAnswer-attends answer.NoMemory is t = record {
      statuses = omega (arith, t.0);
      done = λ e. absurd (omega (arith, t.0, e));
      fault = λ e. inr (record { input = input; output = inl (Keeps-AppendsBeginning _ _ _ t.1); errors = t.2 });
      refused = λ e. absurd (omega (arith, t.0, e));
    }
    TellsAnswer-attends (answer.Wrong kind reason) is t = wrong-attends (answer.Wrong kind reason) is t.0 t.1
    TellsAnswer-attends (answer.Against breach) is t = wrong-attends (answer.Against breach) is t.0 t.1
    TellsAnswer-attends (answer.Unfit misfit) is t = wrong-attends (answer.Unfit misfit) is t.0 t.1

  -- a program that did what its words ask for did what it says
  pub PerformsBy-attends : (request : Q) → rules.Asks call request
      → PerformsBy rules request call.program.now bytes old new status → AttendsBy rules call bytes old new status
  PerformsBy-attends request asks p = record {
    statuses = omega (arith, p.statuses);
    done = λ e. inl (request, asks, p.done e);
    fault = λ e. inl (request, asks, p.fault e);
    refused = λ e. absurd (omega (arith, p.statuses, e));
  }
