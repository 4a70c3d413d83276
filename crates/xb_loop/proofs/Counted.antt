-- What is counted of wires, one level after the other.
use Rattle.std.proofs.Common.{◌≡◌, ℕ, zero, suc, ◌+◌, ◌-◌, ◌^◌, ◌<◌, ◌≤◌, min, List, [], ◌∷◌, Bool, true, false, cond, Option, Some, None, length, drop, get_or, add-one, refl, ap, sym, ◌∙◌, arith, eq-eqb, eqb-true}
use Rattle.std.specs.Prelude.{option_map, slice_get, slice_set, ◌==◌}
use Rattle.std.specs.Option.{option_map_or}
use Rattle.std.proofs.Math.Seq.{drop-cons}
use Rattle.std.proofs.lemmas.List.{drop_all}
use Rattle.xb_contact.specs.declared.event.Event.{Event}
use Rattle.xb_contact.specs.declared.event.Event.TheVariants as events
use Rattle.xb_contact.specs.declared.level.Level.{Level}
use Rattle.xb_loop.specs.declared.counts.Seen.{Seen}
use Rattle.xb_loop.specs.Counts.{edges_after, edges_in, event_counted, is_edge, level_seen, levels_seen, nothing_seen, said_of, seen_of, wire_counted}

-- a wire is set, and another one
set-here :
    (seen : List Seen) (wire : ℕ) (own new : Seen) → slice_get seen wire ≡ Some own
    → slice_get (slice_set seen wire new) wire ≡ Some new
set-here [] wire own new there = cc
set-here (first ∷ rest) zero own new there = refl
set-here (first ∷ rest) (suc wire) own new there = set-here rest wire own new there

set-there :
    (seen : List Seen) (wire other : ℕ) (new : Seen) → (other ≡ wire → ⊥)
    → slice_get (slice_set seen other new) wire ≡ slice_get seen wire
set-there [] wire other new apart = refl
set-there (first ∷ rest) zero zero new apart = absurd (apart refl)
set-there (first ∷ rest) zero (suc other) new apart = refl
set-there (first ∷ rest) (suc wire) zero new apart = refl
set-there (first ∷ rest) (suc wire) (suc other) new apart = set-there rest wire other new (λ e. apart (ap suc e))

-- what is left to be seen of a wire after an event
abbrev LeftToSee : ℕ → List Event → Option Seen → Option Seen
LeftToSee wire said seen = option_map (λ own. levels_seen own (said_of wire said)) seen

level-counted :
    (now : List Seen) (other : ℕ) (level : Bool × Level) (rest : List Event) (wire : ℕ) (found : Option Seen) (here : Bool)
    → slice_get now other ≡ found → (other == wire) ≡ here
    → option_map (λ own. levels_seen own (cond here (level ∷ said_of wire rest) (said_of wire rest))) (slice_get now wire)
    ≡ LeftToSee wire rest (slice_get (option_map_or (λ own. slice_set now other (level_seen own level)) found now) wire)
level-counted now other level rest wire None true e at =
    let there : slice_get now wire ≡ None = ap (slice_get now) (sym (eqb-true other wire at)) ∙ e in
    ap (option_map (λ own. levels_seen own (level ∷ said_of wire rest))) there
    ∙ sym (ap (LeftToSee wire rest) there)
level-counted now other level rest wire None false e at = refl
level-counted now other level rest wire (Some own) true e at =
    let same : other ≡ wire = eqb-true other wire at in
    let new : Seen = level_seen own level in
    let there : slice_get now wire ≡ Some own = ap (slice_get now) (sym same) ∙ e in
    ap (option_map (λ own. levels_seen own (level ∷ said_of wire rest))) there
    ∙ sym (ap (λ w. LeftToSee wire rest (slice_get (slice_set now w new) wire)) same
    ∙ ap (LeftToSee wire rest) (set-here now wire own new there))
level-counted now other level rest wire (Some own) false e at =
    let apart : other ≡ wire → ⊥ = λ same. let both : true ≡ false = sym (eq-eqb other wire same) ∙ at in cc in
    sym (ap (LeftToSee wire rest) (set-there now wire other (level_seen own level) apart))

pub event_is_counted :
    (now : List Seen) (event : Event) (rest : List Event) (wire : ℕ)
    → option_map (λ own. levels_seen own (said_of wire (event ∷ rest))) (slice_get now wire)
    ≡ option_map (λ own. levels_seen own (said_of wire rest)) (slice_get (event_counted now event) wire)
event_is_counted now (events.Ticks scale) rest wire = refl
event_is_counted now (events.At tick) rest wire = refl
event_is_counted now (events.Level other level) rest wire =
    level-counted now other (false, level) rest wire (slice_get now other) (other == wire) refl refl
event_is_counted now (events.Edge other level) rest wire =
    level-counted now other (true, level) rest wire (slice_get now other) (other == wire) refl refl

-- what is left after so many events
pub counted_next :
    (said : List Event) (i : ℕ) (d : Event) (now next : List Seen) (wire : ℕ) (all : Option Seen)
    → i < length said → next ≡ event_counted now (get_or said i d)
    → option_map (λ own. levels_seen own (said_of wire (drop i said))) (slice_get now wire) ≡ all
    → option_map (λ own. levels_seen own (said_of wire (drop (i + 1) said))) (slice_get next wire) ≡ all
counted_next said i d now next wire all within counted before =
    let event : Event = get_or said i d in
    let rest : List Event = drop (i + 1) said in
    let here : drop i said ≡ event ∷ rest =
    drop-cons said i d within ∙ ap (λ n. event ∷ drop n said) (sym (add-one i)) in
    ap (λ seen. LeftToSee wire rest (slice_get seen wire)) counted
    ∙ sym (event_is_counted now event rest wire)
    ∙ ap (λ left. LeftToSee wire left (slice_get now wire)) (sym here)
    ∙ before

pub counted_all :
    (said : List Event) (i wire : ℕ) (seen : Option Seen) → length said ≤ i
    → option_map (λ own. levels_seen own (said_of wire (drop i said))) seen ≡ seen
counted_all said i wire seen all =
    ap (λ left. LeftToSee wire left seen) (drop_all i said all) ∙ nothing seen
  where
    nothing : (seen : Option Seen) → LeftToSee wire [] seen ≡ seen
    nothing None = refl
    nothing (Some own) = refl

-- what is seen of levels are their edges
edges-seen :
    (own : Option Level) (edges : ℕ) (levels : List (Bool × Level)) → edges ≤ 2 ^ 64 - 1
    → (levels_seen (seen_of own edges) levels).edges ≡ min (edges + edges_after own levels) (2 ^ 64 - 1)
edges-seen own edges [] few = omega arith
edges-seen own edges ((said, level) ∷ levels) few =
    by (is_edge said own level) (λ more less. edges-seen (Some level) more levels less)
  where
    by :
        (edge : Bool)
        → ((more : ℕ) → more ≤ 2 ^ 64 - 1
        → (levels_seen (seen_of (Some level) more) levels).edges ≡ min (more + edges_after (Some level) levels) (2 ^ 64 - 1))
        → (levels_seen (seen_of (Some level) (cond edge (min (edges + 1) (2 ^ 64 - 1)) edges)) levels).edges
        ≡ min (edges + (cond edge 1 0 + edges_after (Some level) levels)) (2 ^ 64 - 1)
    by true later = later (min (edges + 1) (2 ^ 64 - 1)) (omega arith) ∙ omega arith
    by false later = later edges few ∙ omega arith

pub edges_are_seen :
    (levels : List (Bool × Level)) → (levels_seen nothing_seen levels).edges ≡ min (edges_in levels) (2 ^ 64 - 1)
edges_are_seen levels = edges-seen None 0 levels (omega arith) ∙ omega arith
