-- What an office has written.
use Rattle.std.specs.Prelude.{ℕ, ◌≡◌, ◌+◌, List, length, if◌then◌else◌, Option, Result, Ok, Err}
use Rattle.std.specs.Io.KnownBytes.{Appends}
use Rattle.xb_incoming.specs.declared.key.TimedKey.{TimedKey}
use Rattle.xb_incoming.specs.Attempts.{outcomes}
use Rattle.xb_incoming.specs.Machine.{HasTaken, told_by}
use Rattle.xb_model.specs.declared.order.Order.{Order}
use Rattle.xb_outgoing.specs.Tables.{is_dialled}
use Rattle.xb_text.specs.Writing.{AppendsBeginning}
use Rattle.xb_tandem.specs.declared.fault.WritingFault.{WritingFault}
use Rattle.xb_tandem.specs.declared.office.Office.{Office}
use Rattle.xb_tandem.specs.declared.request.Form.{Form}
use Rattle.xb_tandem.specs.declared.request.Form.TheVariants as forms
use Rattle.xb_tandem.specs.Entries.{dialled_numbers, is_refusal, keyed_in, left_out, on_page, orders_of, orders_of_keys, page_of_keys, refused_in, told_of_keys, told_orders}

-- one order more is counted
pub record CountsOne (old new : Office) (order : Order) : Type 0 where
  pub keyed : new.keyed
      ≡ old.keyed + (if is_dialled old.table.pulsed order then 0 else (if is_refusal order then 0 else 1))
  pub refused : new.refused
      ≡ old.refused + (if is_dialled old.table.pulsed order then 0 else (if is_refusal order then 1 else 0))
  pub dialled : new.dialled ≡ old.dialled + (if is_dialled old.table.pulsed order then 1 else 0)

-- nothing else has changed
pub record IsWithCounts (old new : Office) : Type 0 where
  pub form : new.form ≡ old.form
  pub line : new.line ≡ old.line
  pub table : new.table ≡ old.table
  pub register : new.register ≡ old.register

-- how many orders are not in what an office has written, by its counts
abbrev pub left_by : Form → ℕ → ℕ → ℕ
left_by forms.Page entries dialled = dialled
left_by forms.Json entries dialled = 0
left_by forms.Rows entries dialled = entries

abbrev pub left_of : Office → ℕ
left_of office = left_by office.form (office.keyed + office.refused) office.dialled

-- a writer that had `start` got exactly what is told of these orders, which are counted
pub record HasTold (office : Office) (orders : List Order) (start out : Option (List ℕ)) : Type 0 where
  pub number : office.keyed + office.refused ≡ length (on_page office.table.pulsed orders)
  pub keyed : office.keyed ≡ keyed_in office.table.pulsed orders
  pub refused : office.refused ≡ refused_in office.table.pulsed orders
  pub dialled : office.dialled ≡ length (dialled_numbers office.table.pulsed orders)
  pub text : Appends start out (told_orders office.form office.line office.table.pulsed orders)

-- or it got their beginning
abbrev pub Tells : Office → List Order → Result (Unit {0}) WritingFault → Option (List ℕ) → Option (List ℕ) → Type 0
Tells office orders (Ok u) start out = HasTold office orders start out
Tells office orders (Err f) start out = AppendsBeginning start out (told_orders office.form office.line office.table.pulsed orders)

-- the register has taken these keys, and the entries that they make certain were written
pub record HasWritten (limit : ℕ) (office : Office) (keys : List TimedKey) (start out : Option (List ℕ)) : Type 0 where
  pub taken : HasTaken limit office.register keys (told_by limit keys)
  pub told : HasTold office (orders_of office.table (told_by limit keys)) start out

-- or their beginning
abbrev pub Takes : ℕ → Office → List TimedKey → Result (Unit {0}) WritingFault → Option (List ℕ) → Option (List ℕ)
    → Type 0
Takes limit office keys (Ok u) start out = HasWritten limit office keys start out
Takes limit office keys (Err f) start out =
    AppendsBeginning start out (told_of_keys office.form office.line limit office.table keys)

-- all entries of keys that end were written, or their beginning
abbrev pub Finishes : ℕ → Office → List TimedKey → Result (Unit {0}) WritingFault → Option (List ℕ) → Option (List ℕ)
    → Type 0
Finishes limit office keys result start out =
    Tells office (orders_of office.table (outcomes limit keys)) result start out

-- and so was the page of the keys, of which this has nothing of so many orders
abbrev pub Ends : ℕ → Office → List TimedKey → Result ℕ WritingFault → Option (List ℕ) → Option (List ℕ)
    → Type 0
Ends limit office keys (Ok left) start out =
    (left ≡ left_out office.form office.table.pulsed (orders_of_keys limit office.table keys))
    × Appends start out (page_of_keys office.form office.line limit office.table keys)
Ends limit office keys (Err f) start out =
    AppendsBeginning start out (page_of_keys office.form office.line limit office.table keys)
