use Rattle.std.proofs.Common.{ap, refl, sym, ◌∙◌}
use Rattle.std.proofs.KnownBytes.{Keeps-refl}
use Rattle.clap.specs.Faults.{is_simple_and_free}
use Rattle.xb_command.proofs.AnswersTold.{TellsAnswer-attends}
use Rattle.xb_command.specs.Tables.{command_by}
use Rattle.xb_parts.specs.Program.{by_none, step_of}
use Rattle.xb_parts.proofs.Refusals.{LeavesNone-refl}
use Rattle.xb_parts.proofs.program.attend.Goals as goal

pub attend_split-requires : goal.attend_split-requires
attend_split-requires g c =
    ap (λ p. is_simple_and_free (command_by p.now)) c.call_by-call.ensures.program ∙ c.requires.split

pub attend_join-requires : goal.attend_join-requires
attend_join-requires g c =
    ap (λ p. is_simple_and_free (command_by p.now)) c.call_by-call-in-Join.ensures.program ∙ c.requires.join

pub why_none-requires : goal.why_none-requires
why_none-requires g c =
    ap (λ p. is_simple_and_free (command_by p.now)) c.call_by-begun.ensures.program ∙ c.requires.own

pub returns-in-Split-clause-attends : goal.returns-in-Split-clause-attends
returns-in-Split-clause-attends g c =
    rw (ap step_of (sym c.after_name-rest.ensures) ∙ sym c.in-Split.ensures) (
      Keeps-refl _,
      record {
        other = c.call_by-call.result;
        program_is = ap (λ p. p.now) c.call_by-call.ensures.program;
        words_are = ap (λ w. w.now) c.call_by-call.ensures.words ∙ c.after_name-rest.ensures;
        like = c.call_by-call.ensures.like;
        does = c.attend_split.ensures.attends;
      },
    )

pub returns-in-Join-clause-attends : goal.returns-in-Join-clause-attends
returns-in-Join-clause-attends g c =
    rw (ap step_of (sym c.after_name-rest.ensures) ∙ sym c.in-Join.ensures) (
      refl,
      record {
        other = c.call_by-call-in-Join.result;
        program_is = ap (λ p. p.now) c.call_by-call-in-Join.ensures.program;
        words_are = ap (λ w. w.now) c.call_by-call-in-Join.ensures.words ∙ c.after_name-rest.ensures;
        like = c.call_by-call-in-Join.ensures.like;
        does = c.attend_join.ensures;
      },
    )

pub returns-in-Neither-clause-attends : goal.returns-in-Neither-clause-attends
returns-in-Neither-clause-attends g c =
    rw (ap step_of (sym c.after_name-rest.ensures) ∙ sym c.in-Neither.ensures) (
      refl,
      record {
        other = c.call_by-begun.result;
        program_is = ap (λ p. p.now) c.call_by-begun.ensures.program;
        words_are = ap (λ w. w.now) c.call_by-begun.ensures.words ∙ c.first_two.ensures;
        like = c.call_by-begun.ensures.like;
        does = TellsAnswer-attends by_none c.call_by-begun.result (g.F.Files.bytes c.args.files.now) _ _ _ (Keeps-refl _)
            c.why_none.result c.why_none.ensures c.tell_answer.ensures;
      },
    )

pub returns-in-Join-clause-none_left : goal.returns-in-Join-clause-none_left
returns-in-Join-clause-none_left g c = LeavesNone-refl (g.S.SplitFiles.unfinished c.args.folders.now)

pub returns-in-Neither-clause-none_left : goal.returns-in-Neither-clause-none_left
returns-in-Neither-clause-none_left g c = LeavesNone-refl (g.S.SplitFiles.unfinished c.args.folders.now)
