-- The status of the program where all was written.
use Rattle.std.proofs.Common.{◌≡◌, ℕ, zero, suc, List, Option, Some, Ok, refl, sym, ap, arith, inl, inr}
use Rattle.xb_command.specs.Programs.{Streams}
use Rattle.xb_command.specs.Works.{Runs}
use Rattle.xb_command.specs.declared.table.Program.{Program}
use Rattle.xb_live.specs.declared.request.Request.{Request}
use Rattle.xb_live.specs.Program.{Delivers, Fails, TellsNote, WritesAsked, note_line, note_of, sounding_line}

pub noted : (request : Request) (program : Program) (given_up : ℕ) (old new : Streams) (status : ℕ)
    → Delivers request (Ok given_up) old.input old.output new.output
    → TellsNote program.name.now (sounding_line request) given_up old.errors new.errors status
    → Runs (WritesAsked request) (Fails request program) old new status
noted request program given_up old new status written (inl told) = record {
  statuses = omega (arith, told.0);
  done = λ e. record { given_up = given_up; written = written; note = told.1 };
  fault = λ e. absurd (omega (arith, e, told.0));
}
noted request program given_up old new status written (inr untold) = record {
  statuses = omega (arith, untold.0);
  done = λ e. absurd (omega (arith, e, untold.0));
  fault = λ e. inr (record { given_up = given_up; written = written; untold = untold.1 });
}

-- the text of a note, where there is one
pub noted-some : (line : Option ℕ) (number given_up : ℕ) → line ≡ Some number → (given_up ≡ 0 → ⊥) → note_line number given_up ≡ note_of line given_up
noted-some line number zero is more = absurd (more refl)
noted-some line number (suc k) is more = ap (λ (l : Option ℕ). note_of l (suc k)) (sym is)
