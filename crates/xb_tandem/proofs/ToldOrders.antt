-- What is told of orders, and then of one more.
use Rattle.std.proofs.Common.{◌≡◌, ◌∙◌, ℕ, suc, ◌+◌, Bool, true, false, List, [], ◌∷◌, ◌++◌, length, map, ap, refl, sym, arith, append_assoc, append-nil}
use Rattle.std.specs.Prelude.{codes, not}
use Rattle.std.specs.List.{filter, flat_map}
use Rattle.std.proofs.lemmas.Grind.{flat_map-append}
use Rattle.std.proofs.lemmas.List.{length-map, map-append}
use Rattle.std.proofs.lemmas.List.Elements.{filter-append}
use Rattle.xb_calls.specs.declared.speed.Speed.{Speed}
use Rattle.xb_calls.specs.Dialling.{call_runs, line_runs, on_line}
use Rattle.xb_calls.specs.Speeds.{ten_pulses_a_second}
use Rattle.xb_model.specs.declared.mark.Mark.{Mark}
use Rattle.xb_model.specs.declared.order.Order.{Order}
use Rattle.xb_model.specs.Keyings.{marks_of}
use Rattle.xb_model.specs.Page.{entries_text, entry_text}
use Rattle.xb_model.specs.Records.{break}
use Rattle.xb_outgoing.specs.Tables.{is_dialled}
use Rattle.xb_rows.specs.WrittenRows.{record_text, text_of_rows}
use Rattle.xb_tandem.specs.declared.request.Form.{Form}
use Rattle.xb_tandem.specs.declared.request.Form.TheVariants as forms
use Rattle.xb_tandem.specs.Entries.{dialled_numbers, hang_up_after, object_lines, on_page, order_line, rows_of_call, rows_of_numbers, sent_of, told_orders}
use Rattle.xb_tandem.specs.Objects.{object_line, pulses_line}

-- what one order is
module _ (pulsed : List ℕ) (order : Order) where
  pub page-none : is_dialled pulsed order ≡ true → on_page pulsed (order ∷ []) ≡ []
  page-none is = rw is refl

  pub page-one : is_dialled pulsed order ≡ false → on_page pulsed (order ∷ []) ≡ order ∷ []
  page-one is = rw is refl

  pub numbers-one : is_dialled pulsed order ≡ true → dialled_numbers pulsed (order ∷ []) ≡ sent_of order ∷ []
  numbers-one is = rw is refl

  pub numbers-none : is_dialled pulsed order ≡ false → dialled_numbers pulsed (order ∷ []) ≡ []
  numbers-none is = rw is refl

pub page-append : (pulsed : List ℕ) (first later : List Order)
    → on_page pulsed (first ++ later) ≡ on_page pulsed first ++ on_page pulsed later
page-append pulsed first later = filter-append (λ order. not (is_dialled pulsed order)) first later

pub numbers-append : (pulsed : List ℕ) (first later : List Order)
    → dialled_numbers pulsed (first ++ later) ≡ dialled_numbers pulsed first ++ dialled_numbers pulsed later
numbers-append pulsed first later =
    ap (map sent_of) (filter-append (is_dialled pulsed) first later)
    ∙ map-append sent_of (filter (is_dialled pulsed) first) (filter (is_dialled pulsed) later)

-- entries, and then others
entries-append : (line n : ℕ) (first later : List (List Mark))
    → entries_text line n (first ++ later) ≡ entries_text line n first ++ entries_text line (n + length first) later
unfolding entries_text
entries-append line n [] later = ap (λ m. entries_text line m later) (omega (arith))
entries-append line n (entry ∷ first) later =
    ap (λ rest. entry_text line n entry ++ rest) (entries-append line (n + 1) first later)
    ∙ sym (append_assoc (entry_text line n entry) (entries_text line (n + 1) first)
    (entries_text line (n + 1 + length first) later))
    ∙ ap (λ m. (entry_text line n entry ++ entries_text line (n + 1) first) ++ entries_text line m later) (omega (arith))

one-entry : (line n : ℕ) (entry : List Mark) → entries_text line n (entry ∷ []) ≡ entry_text line n entry
unfolding entries_text
one-entry line n entry = append-nil (entry_text line n entry)

no-entry : (line n : ℕ) → entries_text line n [] ≡ []
unfolding entries_text
no-entry line n = refl

-- objects, and then others
objects-append : (line : ℕ) (pulsed : List ℕ) (n : ℕ) (first later : List Order)
    → object_lines line pulsed n (first ++ later)
    ≡ object_lines line pulsed n first ++ object_lines line pulsed (n + length (on_page pulsed first)) later
unfolding object_lines
objects-append line pulsed n [] later = ap (λ m. object_lines line pulsed m later) (omega (arith))
objects-append line pulsed n (order ∷ first) later =
    at (λ m. objects-append line pulsed m first later) (is_dialled pulsed order) refl
  where
    at : ((m : ℕ) → object_lines line pulsed m (first ++ later)
        ≡ object_lines line pulsed m first ++ object_lines line pulsed (m + length (on_page pulsed first)) later)
        → (d : Bool) → is_dialled pulsed order ≡ d
        → object_lines line pulsed n (order ∷ first ++ later)
        ≡ object_lines line pulsed n (order ∷ first)
        ++ object_lines line pulsed (n + length (on_page pulsed (order ∷ first))) later
    at earlier true e =
        rw e (ap (λ rest. pulses_line line order ++ rest) (earlier n)
        ∙ sym (append_assoc (pulses_line line order) (object_lines line pulsed n first)
        (object_lines line pulsed (n + length (on_page pulsed first)) later)))
    at earlier false e =
        let m : n + 1 + length (on_page pulsed first) ≡ n + suc (length (on_page pulsed first)) = omega (arith) in
        rw e (ap (λ rest. object_line line n order ++ rest) (earlier (n + 1))
        ∙ sym (append_assoc (object_line line n order) (object_lines line pulsed (n + 1) first)
        (object_lines line pulsed (n + 1 + length (on_page pulsed first)) later))
        ∙ ap (λ m. (object_line line n order ++ object_lines line pulsed (n + 1) first) ++ object_lines line pulsed m later) m)

object-dialled : (line : ℕ) (pulsed : List ℕ) (n : ℕ) (order : Order) → is_dialled pulsed order ≡ true
    → object_lines line pulsed n (order ∷ []) ≡ pulses_line line order
unfolding object_lines
object-dialled line pulsed n order is = rw is (append-nil (pulses_line line order))

object-entry : (line : ℕ) (pulsed : List ℕ) (n : ℕ) (order : Order) → is_dialled pulsed order ≡ false
    → object_lines line pulsed n (order ∷ []) ≡ object_line line n order
unfolding object_lines
object-entry line pulsed n order is = rw is (append-nil (object_line line n order))

-- a call more of a line
pub runs-more : (speed : Speed) (numbers : List (List ℕ)) (number : List ℕ) → speed ≡ ten_pulses_a_second
    → line_runs speed (numbers ++ number ∷ [])
    ≡ line_runs speed numbers ++ (hang_up_after (length numbers) ++ call_runs speed number)
runs-more speed [] number is = refl
runs-more speed (first ∷ []) number is = rw is refl
runs-more speed (first ∷ second ∷ numbers) number is =
    ap (λ rest. call_runs speed first ++ break speed.hang_up_ms ∷ rest) (runs-more speed (second ∷ numbers) number is)
    ∙ sym (append_assoc (call_runs speed first) (break speed.hang_up_ms ∷ line_runs speed (second ∷ numbers))
    (hang_up_after (length (second ∷ numbers)) ++ call_runs speed number))

rows-more : (line : ℕ) (numbers : List (List ℕ)) (number : List ℕ)
    → text_of_rows (rows_of_numbers line (numbers ++ number ∷ []))
    ≡ text_of_rows (rows_of_numbers line numbers) ++ flat_map record_text (rows_of_call line (length numbers) number)
rows-more line numbers number =
    ap (λ runs. text_of_rows (on_line line runs)) (runs-more ten_pulses_a_second numbers number refl)
    ∙ ap text_of_rows (map-append _ (line_runs ten_pulses_a_second numbers) _)
    ∙ ap (λ rest. codes "line,state,ms\n" ++ rest)
    (flat_map-append record_text (rows_of_numbers line numbers) (rows_of_call line (length numbers) number))
    ∙ sym (append_assoc (codes "line,state,ms\n") (flat_map record_text (rows_of_numbers line numbers))
    (flat_map record_text (rows_of_call line (length numbers) number)))

-- an order more
module _ (line : ℕ) (pulsed : List ℕ) (orders : List Order) (order : Order) (entries before : ℕ)
    (numbered : entries ≡ length (on_page pulsed orders)) (counted : before ≡ length (dialled_numbers pulsed orders)) where
  abbrev Tells : Form → Type 0
  Tells form = told_orders form line pulsed (orders ++ order ∷ [])
      ≡ told_orders form line pulsed orders ++ order_line form line pulsed entries before order

  number-is : 1 + length (map marks_of (on_page pulsed orders)) ≡ entries + 1
  number-is = omega (arith, numbered, length-map (on_page pulsed orders) marks_of)

  page-split : told_orders forms.Page line pulsed (orders ++ order ∷ [])
      ≡ told_orders forms.Page line pulsed orders
      ++ entries_text line (entries + 1) (map marks_of (on_page pulsed (order ∷ [])))
  page-split =
      ap (λ os. entries_text line 1 (map marks_of os)) (page-append pulsed orders (order ∷ []))
      ∙ ap (entries_text line 1) (map-append marks_of (on_page pulsed orders) (on_page pulsed (order ∷ [])))
      ∙ entries-append line 1 (map marks_of (on_page pulsed orders)) (map marks_of (on_page pulsed (order ∷ [])))
      ∙ ap (λ n. told_orders forms.Page line pulsed orders
      ++ entries_text line n (map marks_of (on_page pulsed (order ∷ [])))) number-is

  objects-split : told_orders forms.Json line pulsed (orders ++ order ∷ [])
      ≡ told_orders forms.Json line pulsed orders ++ object_lines line pulsed (entries + 1) (order ∷ [])
  objects-split =
      objects-append line pulsed 1 orders (order ∷ [])
      ∙ ap (λ n. told_orders forms.Json line pulsed orders ++ object_lines line pulsed n (order ∷ []))
      (omega (arith, numbered))

  rows-split : told_orders forms.Rows line pulsed (orders ++ order ∷ [])
      ≡ text_of_rows (rows_of_numbers line (dialled_numbers pulsed orders ++ dialled_numbers pulsed (order ∷ [])))
  rows-split = ap (λ numbers. text_of_rows (rows_of_numbers line numbers)) (numbers-append pulsed orders (order ∷ []))

  dialled-more : is_dialled pulsed order ≡ true → (form : Form) → Tells form
  dialled-more is forms.Page =
      page-split
      ∙ ap (λ os. told_orders forms.Page line pulsed orders ++ entries_text line (entries + 1) (map marks_of os))
      (page-none pulsed order is)
      ∙ ap (λ rest. told_orders forms.Page line pulsed orders ++ rest) (no-entry line (entries + 1) ∙ rw is refl)
  dialled-more is forms.Json =
      objects-split
      ∙ ap (λ rest. told_orders forms.Json line pulsed orders ++ rest)
      (object-dialled line pulsed (entries + 1) order is ∙ rw is refl)
  dialled-more is forms.Rows =
      rows-split
      ∙ ap (λ more. text_of_rows (rows_of_numbers line (dialled_numbers pulsed orders ++ more))) (numbers-one pulsed order is)
      ∙ rows-more line (dialled_numbers pulsed orders) (sent_of order)
      ∙ ap (λ n. told_orders forms.Rows line pulsed orders ++ flat_map record_text (rows_of_call line n (sent_of order)))
      (sym counted)
      ∙ ap (λ rest. told_orders forms.Rows line pulsed orders ++ rest) (rw is refl)

  entry-more : is_dialled pulsed order ≡ false → (form : Form) → Tells form
  entry-more is forms.Page =
      page-split
      ∙ ap (λ os. told_orders forms.Page line pulsed orders ++ entries_text line (entries + 1) (map marks_of os))
      (page-one pulsed order is)
      ∙ ap (λ rest. told_orders forms.Page line pulsed orders ++ rest)
      (one-entry line (entries + 1) (marks_of order) ∙ rw is refl)
  entry-more is forms.Json =
      objects-split
      ∙ ap (λ rest. told_orders forms.Json line pulsed orders ++ rest)
      (object-entry line pulsed (entries + 1) order is ∙ rw is refl)
  entry-more is forms.Rows =
      rows-split
      ∙ ap (λ more. text_of_rows (rows_of_numbers line (dialled_numbers pulsed orders ++ more))) (numbers-none pulsed order is)
      ∙ ap (λ numbers. text_of_rows (rows_of_numbers line numbers)) (append-nil (dialled_numbers pulsed orders))
      ∙ sym (append-nil (told_orders forms.Rows line pulsed orders))
      ∙ ap (λ rest. told_orders forms.Rows line pulsed orders ++ rest) (rw is refl)

  pub told-order : (form : Form) → Tells form
  told-order form = at (is_dialled pulsed order) refl
    where
      at : (d : Bool) → is_dialled pulsed order ≡ d → Tells form
      at true e = dialled-more e form
      at false e = entry-more e form

-- what is told of no orders
pub nothing-told-page : (line : ℕ) (pulsed : List ℕ) → told_orders forms.Page line pulsed [] ≡ []
nothing-told-page line pulsed = no-entry line 1

pub nothing-told-json : (line : ℕ) (pulsed : List ℕ) → told_orders forms.Json line pulsed [] ≡ []
unfolding object_lines
nothing-told-json line pulsed = refl
