-- How a process ends.
use Rattle.std.specs.Prelude.{ℕ, ◌≡◌, ◌⊎◌, List, Option, None, String}
use Rattle.std.specs.declared.alloc.Global.{Global}
use Rattle.xb_command.specs.Programs.{Streams}
use Rattle.xb_command.specs.Works.{AttendsBy, Rules}
use Rattle.xb_command.specs.declared.pipe.TheConstants.{READER_GONE}
use Rattle.xb_command.specs.declared.table.Call.{Call}
use Rattle.xb_command.specs.declared.table.Program.{Program}

-- a call of this program by these words
pub record IsCallBy (program : Program) (words : List (String Global)) (call : Call) : Type 0 where
  pub program_is : call.program.now ≡ program
  pub words_are : call.words.now ≡ words

-- the status of a process: this one, or that of a process whose reader went away
abbrev pub EndsWith : ℕ → ℕ → Type 0
EndsWith status code = (code ≡ status) ⊎ (code ≡ READER_GONE)

-- a program did with a call what its rules say, with some streams, and files that nobody knows
pub record Attends {Q : Type 0} (rules : Rules Q) (call : Call) (status : ℕ) : Type 0 where
  pub old : Streams
  pub new : Streams
  pub attends : AttendsBy rules call (λ _. None) old new status

-- a process ended as its program did
pub record Serves {Q : Type 0} (rules : Rules Q) (program : Program) (words : List (String Global)) (code : ℕ)
    : Type 0 where
  pub call : Call
  pub called : IsCallBy program words call
  pub status : ℕ
  pub attends : Attends rules call status
  pub ends : EndsWith status code
