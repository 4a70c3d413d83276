-- The levels of wires that rise and fall in turn.
use Rattle.std.proofs.Common.{◌≡◌, ℕ, zero, suc, List, [], ◌∷◌, ◌++◌, Bool, true, false, cond, Option, Some, None, length, get_or, replicate, refl, ap, sym, ◌∙◌, eq-eqb, eqb-true, ne_eqb, not}
use Rattle.std.proofs.lemmas.Bool.{and_parts}
use Rattle.std.specs.Prelude.{Ok, Err, ◌==◌, ◌&&◌}
use Rattle.std.specs.Option.{unwrap_or}
use Rattle.xb_contact.specs.declared.event.Refusal.TheVariants as refusals
use Rattle.xb_contact.specs.declared.level.Level.{Level}
use Rattle.xb_contact.specs.Changes.{Change}
use Rattle.xb_contact.specs.Holds.{same_level}
use Rattle.xb_csv.specs.Gpiomons.{edge_taken}
use Rattle.xb_csv.specs.Written.{are_edges, next_differs}

-- the items of a list of which one is another
item-there :
    (firsts : List (Option Level)) (own : Option Level) (lasts : List (Option Level))
    → get_or (firsts ++ own ∷ lasts) (length firsts) None ≡ own
item-there [] own lasts = refl
item-there (one ∷ firsts) own lasts = item-there firsts own lasts

item-elsewhere :
    (firsts : List (Option Level)) (new old : Option Level) (lasts : List (Option Level)) (i : ℕ) → (i ≡ length firsts → ⊥)
    → get_or (firsts ++ new ∷ lasts) i None ≡ get_or (firsts ++ old ∷ lasts) i None
item-elsewhere [] new old lasts zero other = absurd (other refl)
item-elsewhere [] new old lasts (suc i) other = refl
item-elsewhere (one ∷ firsts) new old lasts zero other = refl
item-elsewhere (one ∷ firsts) new old lasts (suc i) other =
    item-elsewhere firsts new old lasts i (λ e. other (ap suc e))

-- the next change of each wire whose level is known is to the other one
abbrev pub AreFollowed : List (Option Level) → List Change → Type 0
AreFollowed levels edges =
    (wire : ℕ) (level : Level) → get_or levels wire None ≡ Some level → next_differs wire level edges ≡ true

nothing-known : (wires wire : ℕ) → ◌≡◌ {A = Option Level} (get_or (replicate wires None) wire None) None
nothing-known zero wire = refl
nothing-known (suc wires) zero = refl
nothing-known (suc wires) (suc wire) = nothing-known wires wire

pub none_followed : (wires : ℕ) (edges : List Change) → AreFollowed (replicate wires None) edges
none_followed wires edges wire level known =
    let none : Some level ≡ None = sym known ∙ nothing-known wires wire in
    cc

not-true : (test : Bool) → not test ≡ true → test ≡ false
not-true true e = cc
not-true false e = refl

-- a change of another wire, and one of its own
differs-later :
    (change : Change) (rest : List Change) (wire : ℕ) (level : Level) → (wire ≡ change.wire → ⊥)
    → next_differs wire level (change ∷ rest) ≡ true → next_differs wire level rest ≡ true
differs-later change rest wire level other follows =
    let there : (change.wire == wire) ≡ false = ne_eqb change.wire wire (λ e. other (sym e)) in
    sym (ap (λ t. cond t (not (same_level level change.level)) (next_differs wire level rest)) there) ∙ follows

differs-here :
    (change : Change) (rest : List Change) (level : Level) → next_differs change.wire level (change ∷ rest) ≡ true
    → same_level level change.level ≡ false
differs-here change rest level follows =
    let here : (change.wire == change.wire) ≡ true = eq-eqb change.wire change.wire refl in
    not-true (same_level level change.level)
    (sym (ap (λ t. cond t (not (same_level level change.level)) (next_differs change.wire level rest)) here) ∙ follows)

-- so it is taken
pub turn_taken :
    (lossy : Bool) (change : Change) (rest : List Change) (own : Option Level)
    → ((level : Level) → own ≡ Some level → next_differs change.wire level (change ∷ rest) ≡ true)
    → edge_taken lossy own change.level ≡ Ok (Some change.level)
turn_taken lossy change rest None follows = refl
turn_taken lossy change rest (Some level) follows =
    ap (λ t. cond (t && not lossy) (Err refusals.LostEdge) (Ok (Some change.level)))
    (differs-here change rest level (follows level refl))

-- and the levels after it are followed by the rest
known-after :
    (firsts lasts : List (Option Level)) (old : Option Level) (change : Change) (rest : List Change)
    → change.wire ≡ length firsts → next_differs change.wire change.level rest ≡ true
    → AreFollowed (firsts ++ old ∷ lasts) (change ∷ rest)
    → (wire : ℕ) (level : Level) (is : Bool) → (wire == length firsts) ≡ is
    → get_or (firsts ++ Some change.level ∷ lasts) wire None ≡ Some level → next_differs wire level rest ≡ true
known-after firsts lasts old change rest at differs follows wire level true e known =
    let same : wire ≡ length firsts = eqb-true wire (length firsts) e in
    let there : get_or (firsts ++ Some change.level ∷ lasts) wire None ≡ Some change.level =
    ap (λ i. get_or (firsts ++ Some change.level ∷ lasts) i None) same ∙ item-there firsts (Some change.level) lasts in
    let now : change.level ≡ level = ap (λ o. unwrap_or o level) (sym there ∙ known) in
    ap (λ w. next_differs w level rest) (same ∙ sym at)
    ∙ ap (λ l. next_differs change.wire l rest) (sym now)
    ∙ differs
known-after firsts lasts old change rest at differs follows wire level false e known =
    let other : wire ≡ length firsts → ⊥ =
    λ same. let both : true ≡ false = sym (eq-eqb wire (length firsts) same) ∙ e in cc in
    differs-later change rest wire level (λ same. other (same ∙ at))
    (follows wire level (sym (item-elsewhere firsts (Some change.level) old lasts wire other) ∙ known))

pub turn_followed :
    (firsts lasts : List (Option Level)) (old : Option Level) (change : Change) (rest : List Change)
    → change.wire ≡ length firsts → are_edges (change ∷ rest) ≡ true → AreFollowed (firsts ++ old ∷ lasts) (change ∷ rest)
    → AreFollowed (firsts ++ Some change.level ∷ lasts) rest
turn_followed firsts lasts old change rest at turns follows wire level known =
    let parts = and_parts (next_differs change.wire change.level rest) (are_edges rest) turns in
    known-after firsts lasts old change rest at parts.0 follows wire level (wire == length firsts) refl known
