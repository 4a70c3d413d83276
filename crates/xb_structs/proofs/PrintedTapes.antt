-- The tape of a line grows by the line of each entry.
use Rattle.std.proofs.Common.{◌≡◌, ◌≢◌, ◌<◌, ◌≤◌, ◌+◌, ◌-◌, ◌^◌, ℕ, List, [], ◌∷◌, ◌++◌, fold, length, map, refl, sym, ap, ◌∙◌, append_assoc, append-nil, arith}
use Rattle.std.specs.List.{flat_map}
use Rattle.std.proofs.lemmas.List.{append_cancel_left, length-append, length-map, map-append}
use Rattle.std.proofs.lemmas.List.Concat.{flat_map-append}
use Rattle.xb_model.specs.declared.dialled.Dialled.{Dialled}
use Rattle.xb_model.specs.declared.mark.Mark.{Mark}
use Rattle.xb_model.specs.declared.on.On.{On}
use Rattle.xb_model.specs.declared.order.Order.{Order}
use Rattle.xb_model.specs.Image.{image_from, image_on}
use Rattle.xb_model.specs.Keyings.{marks_of}
use Rattle.xb_model.specs.OnLines.{on_line}
use Rattle.xb_model.specs.Page.{entries_text, entry_text}
use Rattle.xb_model.specs.Routing.{order_of}
use Rattle.xb_model.specs.Rows.{LoopRow}
use Rattle.xb_model.specs.Tapes.{entries_of}
use Rattle.xb_model.proofs.Entries.{entries_of-flat_map}
use Rattle.xb_register.proofs.Outcomes.{outcomes_from}
use Rattle.xb_pulse.specs.Machine.{signals_by}
use Rattle.xb_routes.specs.Table.{Table}
use Rattle.xb_serial.specs.declared.line.Line.{Line}
use Rattle.xb_serial.specs.Chain.{keyed, live_machine, marks_of_row, outcomes_of_row}
use Rattle.xb_model.proofs.Images.{image_from-append}
use Rattle.xb_serial.proofs.OneOutcome.{one_at_most, row_outcomes}
use Rattle.xb_structs.specs.declared.line.PlainLine.{PlainLine}
use Rattle.xb_structs.specs.declared.mark.PlainMark.{PlainMark}
use Rattle.xb_structs.specs.EntryLines.{line_in, mark_in, tape_in}
use Rattle.xb_structs.specs.Marks.{plain_mark}
use Rattle.xb_structs.specs.Taking.{entries_among, HasTaken}
use Rattle.xb_structs.proofs.Counting.{among-append, among-order}
use Rattle.xb_structs.proofs.EntryLines.{all-read-back}

-- what stands on the lines
abbrev whats : List (On Mark) → List Mark
whats marks = map (λ (mark : On Mark). mark.what) marks

whats-on_line : (l : ℕ) (marks : List Mark) → whats (on_line l marks) ≡ marks
whats-on_line l [] = refl
whats-on_line l (mark ∷ marks) = ap (λ ms. mark ∷ ms) (whats-on_line l marks)

-- marks are those of some orders, each of them one entry
record AreEntries (marks : List (On Mark)) : Type 0 where
  orders : List Order
  are : whats marks ≡ flat_map marks_of orders
  count : entries_among marks ≡ length orders

no-entries : AreEntries []
no-entries = record { orders = []; are = refl; count = refl }

both-entries : (xs ys : List (On Mark)) → AreEntries xs → AreEntries ys → AreEntries (xs ++ ys)
both-entries xs ys a b = record {
  orders = a.orders ++ b.orders;
  are = map-append (λ (mark : On Mark). mark.what) xs ys ∙ ap (λ ms. ms ++ whats ys) a.are ∙ ap (λ ms. flat_map marks_of a.orders ++ ms) b.are
      ∙ sym (flat_map-append marks_of a.orders b.orders);
  count = omega (arith, among-append xs ys, a.count, b.count, length-append a.orders b.orders);
}

order-entries : (l : ℕ) (order : Order) → AreEntries (on_line l (marks_of order))
order-entries l order = record {
  orders = order ∷ [];
  are = whats-on_line l (marks_of order) ∙ sym (append-nil (marks_of order));
  count = omega (arith, among-order l order);
}

module _ (table : Table) where
  outcomes-entries : (outcomes : List (On Dialled)) → AreEntries (flat_map (keyed table) outcomes)
  outcomes-entries [] = no-entries
  outcomes-entries (outcome ∷ outcomes) =
      both-entries (keyed table outcome) (flat_map (keyed table) outcomes) (order-entries outcome.line (order_of table.routes outcome.what)) (outcomes-entries outcomes)

  rows-entries : (s : Line) (rows : List LoopRow) → AreEntries (image_from (live_machine table) s rows)
  rows-entries s [] = no-entries
  rows-entries s (row ∷ rows) =
      both-entries (marks_of_row table s row) (image_from (live_machine table) ((live_machine table).next s row) rows)
      (outcomes-entries (outcomes_of_row table s row)) (rows-entries ((live_machine table).next s row) rows)

  -- marks that there are of one outcome at most are those of one order
  one-outcome : (l : ℕ) (given : List (On Mark)) → given ≢ [] → (outcomes : List Dialled) → length outcomes ≤ 1
      → given ≡ flat_map (keyed table) (on_line l outcomes) → (order : Order) × (given ≡ on_line l (marks_of order))
  one-outcome l given some [] few is = absurd (some is)
  one-outcome l given some (outcome ∷ []) few is = (order_of table.routes outcome, is ∙ append-nil _)
  one-outcome l given some (outcome ∷ other ∷ outcomes) few is = absurd (omega (arith, few))

  -- the one order whose marks a row gives, if it gives any
  one-order : (s : Line) (row : LoopRow) → marks_of_row table s row ≢ []
      → (order : Order) × (marks_of_row table s row ≡ on_line row.line (marks_of order))
  one-order s row some =
      one-outcome row.line (marks_of_row table s row) some (outcomes_from table.plan s.register (signals_by table.limits s.pulse row))
      (one_at_most table s row) (ap (flat_map (keyed table)) (row_outcomes table s row))

entries_text-push : (l n : ℕ) (entries : List (List Mark)) (entry : List Mark)
    → entries_text l n (entries ++ entry ∷ []) ≡ entries_text l n entries ++ entry_text l (n + length entries) entry
unfolding entries_text
entries_text-push l n [] entry =
    let same : n ≡ n + 0 = omega arith in
    append-nil (entry_text l n entry) ∙ ap (λ (k : ℕ). entry_text l k entry) same
entries_text-push l n (first ∷ entries) entry =
    let same : n + 1 + length entries ≡ n + length (first ∷ entries) = omega arith in
    ap (λ text. entry_text l n first ++ text) (entries_text-push l (n + 1) entries entry)
    ∙ sym (append_assoc (entry_text l n first) (entries_text l (n + 1) entries) (entry_text l (n + 1 + length entries) entry))
    ∙ ap (λ (k : ℕ). (entry_text l n first ++ entries_text l (n + 1) entries) ++ entry_text l k entry) same

-- the entries of orders, and of one more
orders-text : (l : ℕ) (orders : List Order) (order : Order)
    → entries_text l 1 (entries_of (flat_map marks_of orders ++ marks_of order)) ≡ entries_text l 1 (entries_of (flat_map marks_of orders)) ++ entry_text l (length orders + 1) (marks_of order)
orders-text l orders order =
    let same : 1 + length (map marks_of orders) ≡ length orders + 1 = omega (arith, length-map orders marks_of) in
    ap (λ ms. entries_text l 1 (entries_of ms)) (ap (λ ms. flat_map marks_of orders ++ ms) (sym (append-nil (marks_of order))) ∙ sym (flat_map-append marks_of orders (order ∷ [])))
    ∙ ap (entries_text l 1) (entries_of-flat_map (orders ++ order ∷ []) ∙ map-append marks_of orders (order ∷ []))
    ∙ entries_text-push l 1 (map marks_of orders) (marks_of order)
    ∙ ap (λ es. entries_text l 1 es ++ entry_text l (1 + length (map marks_of orders)) (marks_of order)) (sym (entries_of-flat_map orders))
    ∙ ap (λ (k : ℕ). entries_text l 1 (entries_of (flat_map marks_of orders)) ++ entry_text l k (marks_of order)) same

-- a row that gives marks gives one entry, and the tape is longer by its line
pub prints-the-tape : (table : Table) (old new : PlainLine) (row : LoopRow) (rows : List LoopRow) (marks given : List PlainMark) (line : ℕ)
    → HasTaken table old rows marks → HasTaken table new (rows ++ row ∷ []) (marks ++ given) → given ≢ [] → new.entries < 2 ^ 32 - 1
    → tape_in line (marks ++ given) ≡ tape_in line marks ++ line_in line new.entries given
prints-the-tape table old new row rows marks given line before after some few =
    let m = live_machine table in
    let state = fold m.next m.start rows in
    let earlier = image_on m rows in
    let now = marks_of_row table state row in
    let all : image_on m (rows ++ row ∷ []) ≡ earlier ++ now = image_from-append m m.start rows (row ∷ []) ∙ ap (λ ms. earlier ++ ms) (append-nil now) in
    let gives : given ≡ map plain_mark now =
    append_cancel_left marks given (map plain_mark now)
    (after.given ∙ ap (map plain_mark) all ∙ map-append plain_mark earlier now ∙ ap (λ ms. ms ++ map plain_mark now) (sym before.given)) in
    let one = one-order table state row (λ none. some (gives ∙ ap (map plain_mark) none)) in
    let are = rows-entries table m.start rows in
    let read : map mark_in marks ≡ flat_map marks_of are.orders = ap (map mark_in) before.given ∙ all-read-back earlier ∙ are.are in
    let more : map mark_in given ≡ marks_of one.0 = ap (map mark_in) gives ∙ all-read-back now ∙ ap whats one.1 ∙ whats-on_line row.line (marks_of one.0) in
    let among : entries_among (image_on m (rows ++ row ∷ [])) ≡ length are.orders + 1 =
    ap entries_among all ∙ among-append earlier now ∙ ap (λ k. k + entries_among now) are.count
    ∙ ap (λ k. length are.orders + k) (ap entries_among one.1 ∙ among-order row.line one.0) in
    let number : length are.orders + 1 ≡ new.entries = omega (arith, after.entries, among, few) in
    ap (λ ms. entries_text line 1 (entries_of ms)) (map-append mark_in marks given ∙ ap (λ ms. ms ++ map mark_in given) read ∙ ap (λ ms. flat_map marks_of are.orders ++ ms) more)
    ∙ orders-text line are.orders one.0
    ∙ ap (λ ms. entries_text line 1 (entries_of ms) ++ entry_text line (length are.orders + 1) (marks_of one.0)) (sym read)
    ∙ ap (λ ms. tape_in line marks ++ entry_text line (length are.orders + 1) ms) (sym more)
    ∙ ap (λ k. tape_in line marks ++ line_in line k given) number
