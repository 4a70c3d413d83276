-- The table of a file.
use Rattle.std.specs.Prelude.{ℕ, ◌≡◌, List, IfSome, Some, Ok, Err, codes, if◌then◌else◌}
use Rattle.std.specs.Str.{bytes_eq}
use Rattle.xb_command.specs.Files.{Bytes, no_text}
use Rattle.xb_command.specs.declared.opening.OpenFault.{OpenFault}
use Rattle.xb_command.specs.declared.opening.OpenFault.TheVariants.{NoText, System}
use Rattle.xb_outgoing.specs.declared.fault.TableFault.{TableFault}
use Rattle.xb_outgoing.specs.declared.fault.TableFault.TheVariants as fault
use Rattle.xb_outgoing.specs.Tables.{Outgoing, outgoing_of_text}

-- the file that a name is of: `-` is of standard input
abbrev pub table_file : List ℕ → List ℕ
table_file name = if bytes_eq name (codes "-") then codes "/dev/stdin" else name

-- the file of this name has this table, if its bytes are known
abbrev pub HasTable : Bytes → List ℕ → Outgoing → Type 0
HasTable bytes name table = IfSome (bytes (table_file name)) (λ text. outgoing_of_text text ≡ Ok table)

-- the fault names the file, which could not be read, or is no text, if its bytes are known
abbrev pub IsUnread : Bytes → List ℕ → OpenFault → Type 0
IsUnread bytes name (System named error) = named.now ≡ name
IsUnread bytes name (NoText named what) =
    (named.now ≡ name) × IfSome (bytes (table_file name)) (λ text. no_text text ≡ Some what)

-- memory ran out, or this is the fault of a text
abbrev pub IsFaultOfText : List ℕ → TableFault → Type 0
IsFaultOfText text (fault.File f) = ⊥
IsFaultOfText text fault.NoMemory = Unit {0}
IsFaultOfText text (fault.Text f) = outgoing_of_text text ≡ Err f

-- the file could not be read, or memory ran out, or this is the fault of its text
abbrev pub IsFaultOfTable : Bytes → List ℕ → TableFault → Type 0
IsFaultOfTable bytes name (fault.File f) = IsUnread bytes name f
IsFaultOfTable bytes name fault.NoMemory = Unit {0}
IsFaultOfTable bytes name (fault.Text f) = IfSome (bytes (table_file name)) (λ text. outgoing_of_text text ≡ Err f)
