-- The line of an entry, by the plain numbers of its marks.
use Rattle.std.specs.Prelude.{ℕ, ◌+◌, ◌<◌, ◌≤◌, ◌==◌, if◌then◌else◌, List, length, map}
use Rattle.std.specs.List.{AllByRecursion}
use Rattle.xb_model.specs.declared.key.Key.TheVariants.{Digit, Kp, St}
use Rattle.xb_model.specs.declared.key.Tone.{Tone}
use Rattle.xb_model.specs.declared.mark.Mark.{Mark}
use Rattle.xb_model.specs.declared.mark.Mark.TheVariants.{Trunk, Tone as Sounds, Refused}
use Rattle.xb_model.specs.declared.mark.TheConstants.{KEYING_MARKS}
use Rattle.xb_model.specs.declared.reason.Reason.{Reason}
use Rattle.xb_model.specs.declared.reason.Reason.TheVariants.{Mutilated, Unknown, Abandoned, TimedOut}
use Rattle.xb_model.specs.Page.{entry_text, tape_text}
use Rattle.xb_structs.specs.declared.mark.PlainMark.{PlainMark}
use Rattle.xb_structs.specs.declared.printing.PrintFault.{PrintFault}
use Rattle.xb_structs.specs.declared.printing.PrintFault.TheVariants as fault

abbrev pub pair_in : PlainMark → Tone
pair_in mark = record { low = mark.low; high = mark.high }

-- the reason of a refusal's kind
abbrev pub reason_in : ℕ → Reason
reason_in kind =
    if kind == 4 then Mutilated else if kind == 5 then Unknown else if kind == 6 then Abandoned else TimedOut

-- the mark that plain numbers say
abbrev pub mark_in : PlainMark → Mark
mark_in mark =
    if mark.kind == 0 then Trunk mark.value
    else if mark.kind == 1 then Sounds (Digit mark.value) (pair_in mark)
    else if mark.kind == 2 then Sounds Kp (pair_in mark)
    else if mark.kind == 3 then Sounds St (pair_in mark)
    else Refused (reason_in mark.kind) mark.value

-- a kind that a mark has
abbrev pub IsKind : PlainMark → Type 0
IsKind mark = mark.kind ≤ 7

-- no more marks than an entry may have, each of a kind that a mark has
pub record MayBeEntry (marks : List PlainMark) : Type 0 where
  pub few : length marks ≤ KEYING_MARKS
  pub kinds : AllByRecursion IsKind marks

-- the line of entry n that plain numbers say
abbrev pub line_in : ℕ → ℕ → List PlainMark → List ℕ
line_in line n marks = entry_text line n (map mark_in marks)

-- when each fault comes: a line is printed without its LF
abbrev pub IsNotPrinted : PrintFault → ℕ → ℕ → List PlainMark → ℕ → Type 0
IsNotPrinted fault.Marks line n marks room = MayBeEntry marks → ⊥
IsNotPrinted fault.Room line n marks room = MayBeEntry marks × (room + 1 < length (line_in line n marks))

-- the tape of a line as it is printed, by the plain numbers of its marks
abbrev pub tape_in : ℕ → List PlainMark → List ℕ
tape_in line marks = tape_text line (map mark_in marks)
