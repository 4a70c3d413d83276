use Rattle.std.proofs.Common.{None, inl, refl, subst, sym, arith, ◌∙◌}
use Rattle.std.specs.Prelude.{codes}
use Rattle.std.proofs.KnownBytes.{Keeps-refl}
use Rattle.xb_command.specs.Commands.{texts_of}
use Rattle.xb_command.specs.Judging.{is_given}
use Rattle.xb_office.specs.Program.{AreRefused, Asks}
use Rattle.xb_office.proofs.Refused.{asked-options, no-breach, refused-options}
use Rattle.xb_office.proofs.program.attend_by.Goals as goal

pub returns-in-Ok : goal.returns-in-Ok
returns-in-Ok g c =
    let options = c.in-Ok.asked.options in
    let asks : Asks (texts_of c.args.words.items) options.senders options.ring =
    subst (λ words. Asks (texts_of words) options.senders options.ring) c.deref.ensures.value
    (asked-options _ refl c.in-Ok.asked c.in-Ok.ensures.asks) in
    record {
      statuses = omega (arith, c.work.ensures.statuses);
      done = λ e. record { options = options; asks = asks; written = c.work.ensures.done e };
      fault = λ e. inl (record { options = options; asks = asks; fault = c.work.ensures.fault e });
      refused = λ e. absurd (omega (arith, c.work.ensures.statuses, e));
    }

pub returns : goal.returns
returns g c =
    let refused : AreRefused (texts_of c.args.words.items) =
    subst (λ words. AreRefused (texts_of words)) c.deref.ensures.value
    (refused-options _ refl c.ask.result c.ask.ensures.asks
    (λ rows. no-breach (is_given rows (codes "senders")) (is_given rows (codes "ring")) None refl)
    c.in-Err.answer (sym c.is_no_memory.ensures ∙ c.if-is_no_memory.false) c.in-Err.ensures.wrong) in
    record {
      statuses = omega (arith, c.refuse.ensures.status);
      done = λ e. absurd (omega (arith, c.refuse.ensures.status, e));
      fault = λ e. absurd (omega (arith, c.refuse.ensures.status, e));
      refused = λ e.
          (refused, record { input = Keeps-refl _; output = Keeps-refl _; errors = c.refuse.ensures.usage });
    }
