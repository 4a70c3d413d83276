-- What is done with a number is what the page says, or what goes out by dial pulses.
use Rattle.std.proofs.Common.{◌≡◌, inl, inr, ℕ, Bool, true, false, List, [], ◌∷◌, length, Some, refl, subst}
use Rattle.std.specs.Prelude.{◌≢◌}
use Rattle.xb_model.specs.declared.order.Order.{Order}
use Rattle.xb_model.specs.declared.order.Order.TheVariants as orders
use Rattle.xb_model.specs.Keyings.{marks_of}
use Rattle.xb_model.specs.Numbers.{shortest_complete}
use Rattle.xb_model.specs.Routing.{routed}
use Rattle.xb_outgoing.specs.Groups.{has_group}
use Rattle.xb_outgoing.specs.Tables.{Outgoing, outgoing_routed, refused_without_digits}
use Rattle.xb_route.specs.Answers.{sent_as}
use Rattle.xb_route.specs.Pages.{AgreesWithPage, IsOnPage, StaysOnPage}
use Rattle.xb_route.proofs.Keyed.{is_on_page}

cons-not-nil : {digit : ℕ} {digits : List ℕ} → digit ∷ digits ≢ []
cons-not-nil is = cc

-- what is keyed is what the page says
stays : (table : Outgoing) (digits number : List ℕ) (trunk : ℕ) (sent : List ℕ)
    → shortest_complete table.table.plan digits ≡ Some number → routed table.table.routes number ≡ orders.Key trunk sent
    → has_group table.pulsed trunk ≡ false → StaysOnPage table number (orders.Key trunk sent)
stays table digits number trunk sent is routes e = record {
  on_page = subst (λ o. IsOnPage table.table number (marks_of o)) routes (is_on_page table.table digits number is);
  keyed = e;
}

by-order : (table : Outgoing) (digits number : List ℕ) (order : Order)
    → shortest_complete table.table.plan digits ≡ Some number → routed table.table.routes number ≡ order
    → AgreesWithPage table (sent_as table.pulsed number (refused_without_digits table.pulsed (length number) order))
by-order table digits number (orders.Refused reason heard) is routes = inl (record {
  on_page = subst (λ o. IsOnPage table.table number (marks_of o)) routes (is_on_page table.table digits number is);
  keyed = refl;
})
by-order table digits number (orders.Key trunk []) is routes = at (has_group table.pulsed trunk) refl
  where
    at : (pulsed : Bool) → has_group table.pulsed trunk ≡ pulsed
        → AgreesWithPage table (sent_as table.pulsed number
        (refused_without_digits table.pulsed (length number) (orders.Key trunk [])))
    at true e = rw e (inr (record { trunk = trunk; keys_none = routes; takes_pulses = e; refused = refl }))
    at false e = rw (e, e) (inl (stays table digits number trunk [] is routes e))
by-order table digits number (orders.Key trunk (digit ∷ sent)) is routes = at (has_group table.pulsed trunk) refl
  where
    at : (pulsed : Bool) → has_group table.pulsed trunk ≡ pulsed
        → AgreesWithPage table (sent_as table.pulsed number (orders.Key trunk (digit ∷ sent)))
    at true e = rw e (record { order_is = routes; dialled = e; some_digits = λ none. cons-not-nil none })
    at false e = rw e (inl (stays table digits number trunk (digit ∷ sent) is routes e))

pub agrees : (table : Outgoing) (digits number : List ℕ) → shortest_complete table.table.plan digits ≡ Some number
    → AgreesWithPage table (sent_as table.pulsed number (outgoing_routed table number))
agrees table digits number is = by-order table digits number (routed table.table.routes number) is refl
