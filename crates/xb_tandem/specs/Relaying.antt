-- What is written of the keys of a text.
use Rattle.std.specs.Prelude.{ℕ, ◌≡◌, ◌⊎◌, ◌≤◌, ◌^◌, List, [], ◌++◌, length, Option, Some, None, IfSome, Result, Ok, Err}
use Rattle.std.specs.Io.KnownBytes.{Appends, Keeps}
use Rattle.std.specs.Option.{option_to_list}
use Rattle.xb_command.specs.Files.{Bytes}
use Rattle.xb_incoming.specs.declared.key.TimedKey.{TimedKey}
use Rattle.xb_incoming.specs.Machine.{HasTaken}
use Rattle.xb_outgoing.specs.declared.fault.TableFault.TheVariants as file
use Rattle.xb_outgoing.specs.Files.{HasTable, IsFaultOfTable}
use Rattle.xb_outgoing.specs.Tables.{Outgoing}
use Rattle.xb_text.specs.Writing.{AppendsBeginning}
use Rattle.xb_tandem.specs.declared.fault.TandemFault.{TandemFault}
use Rattle.xb_tandem.specs.declared.fault.TandemFault.TheVariants as fault
use Rattle.xb_tandem.specs.declared.office.Office.{Office}
use Rattle.xb_tandem.specs.declared.request.Form.{Form}
use Rattle.xb_tandem.specs.declared.request.Request.{Request}
use Rattle.xb_tandem.specs.Entries.{left_out, orders_of_keys, page_of_keys, told_of_keys}
use Rattle.xb_tandem.specs.KeyLines.{key_of_line}
use Rattle.xb_tandem.specs.TextLines.{keys_of_text, keys_read, key_read, text_lines}
use Rattle.xb_tandem.specs.Written.{HasWritten}

-- an office that has taken no key, and written nothing
pub record IsFresh (office : Office) : Type 0 where
  pub taken : HasTaken office.register.timeout_ms office.register [] []
  pub keyed : office.keyed ≡ 0
  pub refused : office.refused ≡ 0
  pub dialled : office.dialled ≡ 0

-- the entry that the key of a line makes certain was begun
pub record BeganLine (limit : ℕ) (office : Office) (keys : List TimedKey) (line : List ℕ) (start out : Option (List ℕ))
    : Type 0 where
  pub first : List TimedKey
  pub more : List TimedKey
  pub are : key_read (key_of_line line) [] ≡ first ++ more
  pub begun : AppendsBeginning start out (told_of_keys office.form office.line limit office.table (keys ++ first))

-- the key of a line was taken, if it says one; or the line is wrong, and nothing was; or what is to be written was begun
abbrev pub TakesLine : ℕ → Office → List TimedKey → ℕ → List ℕ → Result (Unit {0}) TandemFault
    → Option (List ℕ) → Option (List ℕ) → Type 0
TakesLine limit office keys n line (Ok u) start out =
    (key : Option TimedKey) × (key_of_line line ≡ Ok key) × HasWritten limit office (keys ++ option_to_list key) start out
TakesLine limit office keys n line (Err (fault.TextLine m f)) start out =
    (m ≡ n) × (key_of_line line ≡ Err f) × HasWritten limit office keys start out
TakesLine limit office keys n line (Err fault.NoMemory) start out = BeganLine limit office keys line start out
TakesLine limit office keys n line (Err fault.Write) start out = BeganLine limit office keys line start out
TakesLine limit office keys n line (Err f) start out = ⊥

-- of the first keys of a text, before its first line that is wrong, the beginning of the page was written
pub record BeganPage (form : Form) (line limit : ℕ) (table : Outgoing) (text : List ℕ) (old new : Option (List ℕ)) : Type 0 where
  pub first : List TimedKey
  pub later : List TimedKey
  pub are : keys_read (text_lines text) ≡ first ++ later
  pub begun : AppendsBeginning old new (page_of_keys form line limit table first)

-- the page of all keys of a text was written, and so many of their orders are not in it; or the text has a line that is
-- wrong, and just what is told of the keys before it was; or it has 2^63 lines, or a read, memory or a write failed, and
-- the beginning of the page of its first keys was
abbrev pub WritesPage : Form → ℕ → ℕ → Outgoing → List ℕ → Result ℕ TandemFault
    → Option (List ℕ) → Option (List ℕ) → Type 0
WritesPage form line limit table text (Ok left) old new =
    (keys : List TimedKey) × (keys_of_text text ≡ Ok keys)
    × (left ≡ left_out form table.pulsed (orders_of_keys limit table keys))
    × Appends old new (page_of_keys form line limit table keys)
WritesPage form line limit table text (Err (fault.TextLine n f)) old new =
    (keys_of_text text ≡ Err (n, f))
    × Appends old new (told_of_keys form line limit table (keys_read (text_lines text)))
WritesPage form line limit table text (Err fault.TooMany) old new =
    (2 ^ 63 ≤ length (text_lines text)) × BeganPage form line limit table text old new
WritesPage form line limit table text (Err (fault.Read unread)) old new = BeganPage form line limit table text old new
WritesPage form line limit table text (Err fault.NoMemory) old new = BeganPage form line limit table text old new
WritesPage form line limit table text (Err fault.Write) old new = BeganPage form line limit table text old new
WritesPage form line limit table text (Err f) old new = ⊥

-- a fault of the keys or of the output, and not of the table
abbrev pub IsOfKeys : TandemFault → Type 0
IsOfKeys (fault.File error) = ⊥
IsOfKeys (fault.Table f) = ⊥
IsOfKeys f = Unit {0}

-- the same of a text that may be known
abbrev pub Relays : Office → Option (List ℕ) → Result ℕ TandemFault → Option (List ℕ) → Option (List ℕ) → Type 0
Relays office None result old new = Unit {0}
Relays office (Some text) result old new =
    WritesPage office.form office.line office.register.timeout_ms office.table text result old new

-- the keys are taken by the table of the file; or that has none, and nothing was written
pub record TakesBy (bytes : Bytes) (name : List ℕ) (request : Request) (input : Option (List ℕ))
    (result : Result ℕ TandemFault) (old new : Option (List ℕ)) : Type 0 where
  pub table : Outgoing
  pub is_read : HasTable bytes name table
  pub page : IfSome input (λ text. WritesPage request.form request.line request.timeout_ms table text result old new)

abbrev pub Delivers : Bytes → List ℕ → Request → Option (List ℕ) → Result ℕ TandemFault
    → Option (List ℕ) → Option (List ℕ) → Type 0
Delivers bytes name request input (Err (fault.File f)) old new =
    IsFaultOfTable bytes name (file.File f) × Keeps old new
Delivers bytes name request input (Err (fault.Table f)) old new =
    IsFaultOfTable bytes name (file.Text f) × Keeps old new
Delivers bytes name request input (Err fault.NoMemory) old new =
    Keeps old new ⊎ TakesBy bytes name request input (Err fault.NoMemory) old new
Delivers bytes name request input result old new = TakesBy bytes name request input result old new
