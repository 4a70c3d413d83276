-- What the program does by its first word.
use Rattle.std.specs.Prelude.{ℕ, ◌≡◌, List, [], ◌∷◌, String, codes, drop, if◌then◌else◌, string_bytes, take, unwrap_or}
use Rattle.std.specs.Io.KnownBytes.{Keeps}
use Rattle.std.specs.Str.{bytes_eq}
use Rattle.std.specs.declared.alloc.Global.{Global}
use Rattle.clap.specs.Walk.{Row, first_of}
use Rattle.xb_command.specs.Answers.{Takes}
use Rattle.xb_command.specs.Files.{Bytes}
use Rattle.xb_command.specs.Programs.{Streams}
use Rattle.xb_command.specs.Works.{AttendsBy, Rules}
use Rattle.xb_command.specs.declared.asking.Misfit.{Misfit}
use Rattle.xb_command.specs.declared.table.Call.{Call}
use Rattle.xb_command.specs.declared.table.Program.{Program}
use Rattle.xb_command.specs.declared.work.Source.TheVariants as source
use Rattle.xb_parts.specs.JoinProgram.{by_join}
use Rattle.xb_parts.specs.SplitProgram.{Folders, by_split}
use Rattle.xb_parts.specs.declared.words.Step.{Step}
use Rattle.xb_parts.specs.declared.words.Step.TheVariants as step

-- what the first of these words names
abbrev pub step_of : List (String Global) → Step
step_of [] = step.Neither
step_of (first ∷ rest) = if bytes_eq (string_bytes first) (codes "split") then step.Split
    else (if bytes_eq (string_bytes first) (codes "join") then step.Join else step.Neither)

-- a call has the terminals of another one
pub record IsLike (call other : Call) : Type 0 where
  pub typed : other.is_typed ≡ call.is_typed
  pub shown : other.is_shown ≡ call.is_shown

-- a program does this by these words
pub record DoesBy (call : Call) (program : Program) (words : List (String Global)) (Does : Call → Type 0)
    : Type 0 where
  pub other : Call
  pub program_is : other.program.now ≡ program
  pub words_are : other.words.now ≡ words
  pub like : IsLike call other
  pub does : Does other

-- it names this word in place of a step, or none
pub record IsNoStep (rows : List Row) (misfit : Misfit) : Type 0 where
  pub option : misfit.option.now ≡ codes "COMMAND"
  pub value : misfit.value.now ≡ unwrap_or (first_of (codes "COMMAND") rows) []

abbrev pub NamesNoStep : Call → Misfit → Type 0
NamesNoStep call misfit = (rows : List Row) × Takes call rows × IsNoStep rows misfit

-- no words ask for anything but help or the version
abbrev pub by_none : Rules ⊥
by_none = record {
  Asks = λ call nothing. ⊥;
  Misfits = NamesNoStep;
  source = λ nothing. source.Input;
  Done = λ nothing program bytes old new. ⊥;
  Fails = λ nothing program bytes old new. ⊥;
}

-- what a step does, which is all that is done: a split or a join by the words after the name, and else what is told of the
-- first word alone
abbrev pub AttendsStep : Step → Call → Program → Program → Folders → Bytes → Bytes → Streams → Streams → ℕ → Type 0
AttendsStep step.Split call split join folders decks pages old new status = Keeps old.input new.input
    × DoesBy call split (drop 1 call.words.now) (λ rest. (folder : List ℕ)
    → AttendsBy (by_split folders) rest decks (record old { input = folders.before folder })
    (record new { input = folders.after folder }) status)
AttendsStep step.Join call split join folders decks pages old new status = (folders.before ≡ folders.after)
    × DoesBy call join (drop 1 call.words.now) (λ rest. AttendsBy by_join rest pages old new status)
AttendsStep step.Neither call split join folders decks pages old new status = (folders.before ≡ folders.after)
    × DoesBy call call.program.now (take 2 call.words.now) (λ begun. AttendsBy by_none begun pages old new status)

abbrev pub AttendsOffice : Call → Program → Program → Folders → Bytes → Bytes → Streams → Streams → ℕ → Type 0
AttendsOffice call split join folders decks pages old new status =
    AttendsStep (step_of (drop 1 call.words.now)) call split join folders decks pages old new status
