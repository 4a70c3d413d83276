-- The page of keys is that of their entries.
use Rattle.std.proofs.Common.{◌≡◌, ◌∙◌, ℕ, ◌+◌, Bool, false, List, [], ◌∷◌, ◌++◌, length, map, ap, ap₂, refl, sym}
use Rattle.std.specs.Prelude.{count_by, if◌then◌else◌}
use Rattle.std.proofs.lemmas.List.Sums.{sum_by-cons}
use Rattle.xb_incoming.specs.Attempts.{entry_of, outcomes}
use Rattle.xb_model.specs.declared.dialled.Dialled.{Dialled}
use Rattle.xb_model.specs.declared.dialled.Dialled.TheVariants as dialled
use Rattle.xb_model.specs.declared.mark.Mark.{Mark}
use Rattle.xb_model.specs.declared.order.Order.{Order}
use Rattle.xb_model.specs.declared.order.Order.TheVariants as orders
use Rattle.xb_outgoing.specs.Tables.{is_dialled, outgoing, outgoing_order, refused_without_digits}
use Rattle.xb_routes.specs.Table.{Table}
use Rattle.xb_tandem.specs.declared.request.Form.TheVariants as forms
use Rattle.xb_model.specs.Keyings.{marks_of}
use Rattle.xb_model.specs.Page.{entries_text, is_keyed, is_refused, totals_text}
use Rattle.xb_model.specs.Routing.{order_of, routed}
use Rattle.xb_tandem.specs.Entries.{PagesAreTapes, on_page, orders_of, orders_of_keys, page_of, page_of_entries}

counts-map : (test : List Mark → Bool) (orders : List Order)
    → count_by (λ order. test (marks_of order)) orders ≡ count_by test (map marks_of orders)
counts-map test [] = refl
counts-map test (order ∷ orders) =
    sum_by-cons (λ (o : Order). if test (marks_of o) then 1 else 0) order orders
    ∙ ap (λ n. (if test (marks_of order) then 1 else 0) + n) (counts-map test orders)
    ∙ sym (sum_by-cons (λ marks. if test marks then 1 else 0) (marks_of order) (map marks_of orders))

-- where no trunk group takes dial pulses, no call is refused for want of digits
none-refused : (heard : ℕ) (order : Order) → refused_without_digits [] heard order ≡ order
none-refused heard (orders.Key trunk []) = refl
none-refused heard (orders.Key trunk (digit ∷ sent)) = refl
none-refused heard (orders.Refused reason n) = refl

order-none : (table : Table) (outcome : Dialled) → outgoing_order (outgoing table []) outcome ≡ order_of table.routes outcome
order-none table (dialled.Number number) = none-refused (length number) (routed table.routes number)
order-none table (dialled.Refused reason heard) = refl

marks-orders : (table : Table) (found : List Dialled)
    → map marks_of (orders_of (outgoing table []) found) ≡ map (entry_of table.routes) found
marks-orders table [] = refl
marks-orders table (outcome ∷ found) =
    ap₂ (λ order rest. marks_of order ∷ rest) (order-none table outcome) (marks-orders table found)

-- where no trunk group takes dial pulses, all orders are on the page
none-dialled : (order : Order) → is_dialled [] order ≡ false
none-dialled (orders.Key trunk sent) = refl
none-dialled (orders.Refused reason heard) = refl

all-on-page : (found : List Order) → on_page [] found ≡ found
all-on-page [] = refl
all-on-page (order ∷ found) = rw (none-dialled order) (ap (λ rest. order ∷ rest) (all-on-page found))

page-entries : (line : ℕ) (pulsed : List ℕ) (found : List Order)
    → page_of forms.Page line pulsed found ≡ page_of_entries line (map marks_of (on_page pulsed found))
page-entries line pulsed found =
    ap (λ totals. entries_text line 1 (map marks_of (on_page pulsed found)) ++ totals)
    (ap₂ totals_text (counts-map is_keyed (on_page pulsed found)) (counts-map is_refused (on_page pulsed found)))

pub pages_are_tapes : PagesAreTapes
pages_are_tapes = record {
  entries = λ line limit table keys. page-entries line table.pulsed (orders_of_keys limit table keys);
  tape = λ line limit table keys.
      page-entries line [] (orders_of (outgoing table []) (outcomes limit keys))
      ∙ ap (λ found. page_of_entries line (map marks_of found)) (all-on-page (orders_of (outgoing table []) (outcomes limit keys)))
      ∙ ap (page_of_entries line) (marks-orders table (outcomes limit keys));
}
