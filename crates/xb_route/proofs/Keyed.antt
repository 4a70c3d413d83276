-- What is done with a number is what the page says of a line that dials just this number.
use Rattle.std.proofs.Common.{◌≡◌, ℕ, Bool, true, false, List, [], ◌∷◌, map, Some, None, refl, sym, ap, ◌∙◌}
use Rattle.std.specs.Prelude.{◌==◌, if◌then◌else◌, unwrap_or}
use Rattle.std.specs.List.{find}
use Rattle.std.proofs.lemmas.List.Elements.{All-cons, All-nil}
use Rattle.xb_model.specs.Keyings.{marks_of}
use Rattle.xb_model.specs.Numbers.{fronts, is_complete, shortest_complete}
use Rattle.xb_model.specs.Routing.{CodedRoute, routed}
use Rattle.xb_calls.specs.Calls.{AreCalls, DialledCall, IsCall, call_of}
use Rattle.xb_calls.specs.Dialling.{dialled, numbers_on}
use Rattle.xb_calls.specs.Heard.{entry_of}
use Rattle.xb_calls.proofs.HeardNumbers.{dialled_is_heard}
use Rattle.xb_calls.proofs.RowsOfLines.{orders_are_dialled}
use Rattle.xb_routes.specs.Table.{Table}
use Rattle.xb_route.specs.Pages.{IsOnPage}

some_is : {A : Type 0} {x y : A} → Some x ≡ Some y → x ≡ y
some_is {A} {x} {y} e = ap (λ o. unwrap_or o x) e

none_is : {A : Type 0} {x : A} → None ≡ Some x → ⊥
none_is e = cc

-- what is found passes
find-passes : (test : List ℕ → Bool) (xs : List (List ℕ)) (x : List ℕ) → find test xs ≡ Some x → test x ≡ true
find-passes test [] x is = absurd (none_is is)
find-passes test (y ∷ ys) x is = at (find-passes test ys x) (test y) refl
  where
    at : (find test ys ≡ Some x → test x ≡ true) → (passes : Bool) → test y ≡ passes → test x ≡ true
    at later true e =
        let same : Some y ≡ Some x = rw e at is in
        ap test (sym (some_is same)) ∙ e
    at later false e = later (rw e at is)

-- the entries of one call
entries-of-one : (routes : List CodedRoute) (line l : ℕ) (number : List ℕ)
    → map (entry_of routes) (numbers_on l (call_of line number ∷ []))
    ≡ (if line == l then marks_of (routed routes number) ∷ [] else [])
entries-of-one routes line l number = at (line == l) refl
  where
    at : (same : Bool) → (line == l) ≡ same
        → map (entry_of routes) (numbers_on l (call_of line number ∷ []))
        ≡ (if line == l then marks_of (routed routes number) ∷ [] else [])
    at true e = rw e refl
    at false e = rw e refl

pub is_on_page : (table : Table) (digits number : List ℕ) → shortest_complete table.plan digits ≡ Some number
    → IsOnPage table number (marks_of (routed table.routes number))
is_on_page table digits number is line speed order below lawful fits are l =
    let calls : List DialledCall = call_of line number ∷ [] in
    let is_call : IsCall (call_of line number) = record { line = below; digits = are } in
    let are_calls : AreCalls calls = All-cons IsCall (call_of line number) [] is_call (All-nil IsCall) in
    let complete : is_complete table.plan number ≡ true
    = find-passes (is_complete table.plan) (fronts digits) number is in
    let heard = dialled_is_heard speed calls (dialled order speed calls) are_calls
    (orders_are_dialled order speed calls are_calls) in
    heard.keyed table.plan table.limits (complete, tt) lawful fits table.routes l
    ∙ entries-of-one table.routes line l number
