-- What is written of orders: entries of a line, objects, or the rows that dial them; and the totals.
use Rattle.std.specs.Prelude.{ℕ, zero, suc, ◌<◌, ◌≡◌, ◌≢◌, ◌+◌, List, [], ◌∷◌, ◌++◌, length, map, Bool, not, if◌then◌else◌, count_by}
use Rattle.std.specs.List.{AllByRecursion, filter, flat_map}
use Rattle.xb_calls.specs.Calls.{AreDigits, DialledCall, call_of}
use Rattle.xb_calls.specs.Dialling.{call_runs, line_runs, on_line}
use Rattle.xb_calls.specs.Heard.{AreDialled, IsHeard}
use Rattle.xb_calls.specs.Speeds.{ten_pulses_a_second}
use Rattle.xb_incoming.specs.declared.key.TimedKey.{TimedKey}
use Rattle.xb_incoming.specs.Attempts.{outcomes, tape_of}
use Rattle.xb_incoming.specs.Machine.{told_by}
use Rattle.xb_model.specs.declared.dialled.Dialled.{Dialled}
use Rattle.xb_model.specs.declared.line.TheConstants.{LINES}
use Rattle.xb_model.specs.declared.mark.Mark.{Mark}
use Rattle.xb_model.specs.declared.order.Order.{Order}
use Rattle.xb_model.specs.declared.order.Order.TheVariants as orders
use Rattle.xb_model.specs.Keyings.{marks_of}
use Rattle.xb_model.specs.Page.{entries_text, entry_text, is_keyed, is_refused, totals_text}
use Rattle.xb_model.specs.Records.{Run, break}
use Rattle.xb_model.specs.Rows.{LoopRow}
use Rattle.xb_outgoing.specs.Tables.{Outgoing, is_dialled, outgoing, outgoing_order}
use Rattle.xb_routes.specs.Table.{Table}
use Rattle.xb_rows.specs.WrittenRows.{record_text, text_of_rows}
use Rattle.xb_tandem.specs.declared.request.Form.{Form}
use Rattle.xb_tandem.specs.declared.request.Form.TheVariants as forms
use Rattle.xb_tandem.specs.Objects.{object_line, pulses_line, totals_object_line}

-- the orders that are keyed or refused, by the trunk groups that take dial pulses
abbrev pub on_page : List ℕ → List Order → List Order
on_page pulsed orders = filter (λ order. not (is_dialled pulsed order)) orders

-- the numbers that go out by dial pulses
abbrev pub sent_of : Order → List ℕ
sent_of (orders.Key trunk sent) = sent
sent_of (orders.Refused reason heard) = []

abbrev pub dialled_numbers : List ℕ → List Order → List (List ℕ)
dialled_numbers pulsed orders = map sent_of (filter (is_dialled pulsed) orders)

-- the rows of one line that dials these numbers, ten pulses a second
abbrev pub rows_of_numbers : ℕ → List (List ℕ) → List LoopRow
rows_of_numbers line numbers = on_line line (line_runs ten_pulses_a_second numbers)

-- orders as objects, of which the next entry is entry n: one that is dialled has no number
unfoldable pub object_lines : ℕ → List ℕ → ℕ → List Order → List ℕ
object_lines line pulsed n [] = []
object_lines line pulsed n (order ∷ orders) =
    if is_dialled pulsed order then pulses_line line order ++ object_lines line pulsed n orders
    else object_line line n order ++ object_lines line pulsed (n + 1) orders

-- orders as they are told: entries counted from 1, objects, or rows
abbrev pub told_orders : Form → ℕ → List ℕ → List Order → List ℕ
told_orders forms.Page line pulsed orders = entries_text line 1 (map marks_of (on_page pulsed orders))
told_orders forms.Json line pulsed orders = object_lines line pulsed 1 orders
told_orders forms.Rows line pulsed orders = text_of_rows (rows_of_numbers line (dialled_numbers pulsed orders))

-- the totals of the entries; rows have none
abbrev pub totals_line : Form → ℕ → ℕ → List ℕ
totals_line forms.Page keyed refused = totals_text keyed refused
totals_line forms.Json keyed refused = totals_object_line keyed refused
totals_line forms.Rows keyed refused = []

-- the entry of an order is a refused call, or a keyed one
abbrev pub is_refusal : Order → Bool
is_refusal order = is_refused (marks_of order)

abbrev pub is_keying : Order → Bool
is_keying order = is_keyed (marks_of order)

-- how many entries are keyed, and how many refused
abbrev pub keyed_in : List ℕ → List Order → ℕ
keyed_in pulsed orders = count_by is_keying (on_page pulsed orders)

abbrev pub refused_in : List ℕ → List Order → ℕ
refused_in pulsed orders = count_by is_refusal (on_page pulsed orders)

-- the page of orders, and the totals
abbrev pub page_of : Form → ℕ → List ℕ → List Order → List ℕ
page_of form line pulsed orders =
    told_orders form line pulsed orders ++ totals_line form (keyed_in pulsed orders) (refused_in pulsed orders)

-- the orders of which it has nothing
abbrev pub left_out : Form → List ℕ → List Order → ℕ
left_out forms.Page pulsed orders = length (dialled_numbers pulsed orders)
left_out forms.Json pulsed orders = 0
left_out forms.Rows pulsed orders = length (on_page pulsed orders)

-- the orders of outcomes, by a table
abbrev pub orders_of : Outgoing → List Dialled → List Order
orders_of table found = map (outgoing_order table) found

-- the page of keys; and what is told of those that they make certain, before they have ended
abbrev pub orders_of_keys : ℕ → Outgoing → List TimedKey → List Order
orders_of_keys limit table keys = orders_of table (outcomes limit keys)

abbrev pub page_of_keys : Form → ℕ → ℕ → Outgoing → List TimedKey → List ℕ
page_of_keys form line limit table keys = page_of form line table.pulsed (orders_of_keys limit table keys)

abbrev pub told_of_keys : Form → ℕ → ℕ → Outgoing → List TimedKey → List ℕ
told_of_keys form line limit table keys =
    told_orders form line table.pulsed (orders_of table (told_by limit keys))

-- the text of an order as it is told, after so many entries and so many calls by dial pulses
abbrev pub hang_up_after : ℕ → List Run
hang_up_after zero = []
hang_up_after (suc before) = break ten_pulses_a_second.hang_up_ms ∷ []

abbrev pub rows_of_call : ℕ → ℕ → List ℕ → List LoopRow
rows_of_call line before sent = on_line line (hang_up_after before ++ call_runs ten_pulses_a_second sent)

abbrev pub entry_line : Form → ℕ → ℕ → Order → List ℕ
entry_line forms.Page line n order = entry_text line n (marks_of order)
entry_line forms.Json line n order = object_line line n order
entry_line forms.Rows line n order = []

abbrev pub dialled_line : Form → ℕ → ℕ → Order → List ℕ
dialled_line forms.Page line before order = []
dialled_line forms.Json line before order = pulses_line line order
dialled_line forms.Rows line before order = flat_map record_text (rows_of_call line before (sent_of order))

abbrev pub order_line : Form → ℕ → List ℕ → ℕ → ℕ → Order → List ℕ
order_line form line pulsed entries before order =
    if is_dialled pulsed order then dialled_line form line before order else entry_line form line (entries + 1) order

-- the page of a line's entries, as `mfbank` prints it
abbrev pub page_of_entries : ℕ → List (List Mark) → List ℕ
page_of_entries line entries =
    entries_text line 1 entries ++ totals_text (count_by is_keyed entries) (count_by is_refused entries)

-- the page is that of the entries of the orders that are keyed or refused; where no trunk group takes dial pulses, it
-- is that of the tape of the keys
pub record PagesAreTapes : Type 0 where
  pub entries : (line limit : ℕ) (table : Outgoing) (keys : List TimedKey)
      → page_of_keys forms.Page line limit table keys
      ≡ page_of_entries line (map marks_of (on_page table.pulsed (orders_of_keys limit table keys)))
  pub tape : (line limit : ℕ) (table : Table) (keys : List TimedKey)
      → page_of_keys forms.Page line limit (outgoing table []) keys
      ≡ page_of_entries line (tape_of limit table.routes keys)

-- the calls of numbers on a line
abbrev pub calls_on : ℕ → List (List ℕ) → List DialledCall
calls_on line numbers = map (call_of line) numbers

-- the rows of keys dial the numbers of the orders that take dial pulses, each of which has a digit: by every plan by
-- which these are complete, and all lawful limits that ten pulses a second fit, exactly these numbers are heard, in
-- order
pub record PulsesAreHeard : Type 0 where
  pub text : (line limit : ℕ) (table : Outgoing) (keys : List TimedKey)
      → page_of_keys forms.Rows line limit table keys
      ≡ text_of_rows (rows_of_numbers line (dialled_numbers table.pulsed (orders_of_keys limit table keys)))
  pub some_digits : (limit : ℕ) (table : Outgoing) (keys : List TimedKey)
      → AllByRecursion (λ number. number ≢ []) (dialled_numbers table.pulsed (orders_of_keys limit table keys))
  pub dialled : (line : ℕ) (numbers : List (List ℕ))
      → AreDialled ten_pulses_a_second (calls_on line numbers) (rows_of_numbers line numbers)
  pub heard : (line : ℕ) (numbers : List (List ℕ)) → line < LINES → AllByRecursion AreDigits numbers
      → IsHeard ten_pulses_a_second (calls_on line numbers) (rows_of_numbers line numbers)
