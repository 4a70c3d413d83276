-- What the program's options ask for, and how they are refused.
use Rattle.std.proofs.Common.{◌≡◌, List, [], Bool, true, false, not, Option, Some, None, inl, inr, refl, ap, subst, sym, ◌∙◌}
use Rattle.std.specs.Prelude.{if◌then◌else◌, ◌≢◌, IfOk, Result}
use Rattle.clap.specs.Faults.{fault_of}
use Rattle.clap.specs.Simple.{matches_of}
use Rattle.clap.specs.Walk.{Row}
use Rattle.xb_command.specs.Commands.{texts_of}
use Rattle.xb_command.specs.Judging.{breach_in, or_next}
use Rattle.xb_command.specs.Tables.{command_by}
use Rattle.xb_command.specs.Works.{IsWrong}
use Rattle.xb_command.specs.declared.asking.Answer.{Answer}
use Rattle.xb_command.specs.declared.asking.Answer.TheVariants as answer
use Rattle.xb_command.specs.declared.judging.Breach.{Breach}
use Rattle.xb_command.specs.declared.table.Call.{Call}
use Rattle.xb_office.specs.declared.options.Asked.{Asked}
use Rattle.xb_office.specs.Options as asking
use Rattle.xb_office.specs.Program.{AreRefused, Asks, command_of_options, is_no_memory}

none_is : {A : Type 0} {x : A} → None ≡ Some x → ⊥
none_is e = cc

no_memory_is : true ≡ false → ⊥
no_memory_is e = cc

-- two options that want nothing beside them, and go with all, are in no breach
pub no-breach : (senders ring : Bool) → (next : Option Breach) → next ≡ None
    → or_next (or_next (if not senders then None else next) (or_next (if not ring then None else next) None)) None ≡ None
no-breach true true next is = rw is refl
no-breach true false next is = rw is refl
no-breach false true next is = rw is refl
no-breach false false next is = refl

module _ (call : Call) (same : command_by call.program.now ≡ command_of_options) where
  -- what is asked for is asked for of the options
  pub asked-options : (asked : Asked) → asking.Asks call asked
      → Asks (texts_of call.words.now) asked.options.senders asked.options.ring
  asked-options asked a = (
    asked.deck,
    subst (λ command. fault_of command (texts_of call.words.now) ≡ []) same a.takes.taken,
    (
      a.options,
      subst (λ rows. asking.Say rows a.options)
          (a.takes.rows_are ∙ ap (λ command. matches_of command (texts_of call.words.now)) same) a.says,
      a.asks,
    ),
  )

  -- words that clap refuses are refused
  by-clap : fault_of (command_by call.program.now) (texts_of call.words.now) ≢ [] → AreRefused (texts_of call.words.now)
  by-clap refuses = inl (subst (λ command. fault_of command (texts_of call.words.now) ≢ []) same refuses)

  -- the result shows which call it is of
  pub refused-options : (result : Result Asked Answer) → IfOk result (asking.Asks call)
      → ((rows : List Row) → breach_in rows call ≡ None) → (a : Answer) → is_no_memory a ≡ false
      → IsWrong (λ called misfit. asking.AskForNothing called) call a → AreRefused (texts_of call.words.now)
  refused-options result asks fits answer.NoMemory some is = absurd (no_memory_is some)
  refused-options result asks fits answer.Help some is = by-clap is.0
  refused-options result asks fits answer.Version some is = by-clap is.0
  refused-options result asks fits (answer.Wrong kind reason) some is = by-clap is.0
  refused-options result asks fits (answer.Against breach) some is = absurd (none_is (sym (fits _) ∙ is.1))
  refused-options result asks fits (answer.Unfit misfit) some is = inr (
    is.options,
    subst (λ rows. asking.Say rows is.options)
        (is.takes.rows_are ∙ ap (λ command. matches_of command (texts_of call.words.now)) same) is.says,
    is.asks,
  )
