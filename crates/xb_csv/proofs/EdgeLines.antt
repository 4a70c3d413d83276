-- The lines of gpiomon that were said.
use Rattle.std.proofs.Common.{◌≡◌, ℕ, zero, suc, ◌+◌, ◌<◌, List, [], ◌∷◌, ◌++◌, Bool, true, false, cond, Option, Some, None, length, refl, ap, sym, ◌∙◌, arith, eq-eqb, ne_eqb, eqb-true, zero-add}
use Rattle.std.specs.Prelude.{Result, Ok, Err, slice_get, ◌==◌, ◌⊎◌}
use Rattle.std.proofs.Common.{inl, inr}
use Rattle.std.specs.Option.{ok_or}
use Rattle.xb_contact.specs.declared.event.Event.{Event}
use Rattle.xb_contact.specs.declared.event.Event.TheVariants as events
use Rattle.xb_contact.specs.declared.event.Refusal.{Refusal}
use Rattle.xb_contact.specs.declared.event.Refusal.TheVariants as refusals
use Rattle.xb_contact.specs.declared.level.Level.{Level}
use Rattle.xb_contact.specs.Repeats.{levels_of}
use Rattle.xb_contact.specs.Steps.{Said, is_before, result_and_then, result_map, then_later}
use Rattle.xb_csv.specs.Cells.{trimmed}
use Rattle.xb_csv.specs.Gpiomons.{EdgeSaid, GpiomonState, edge_of, edge_says, first_kind, first_word, gpiomon_by, gpiomon_line_says, gpiomon_says, levels_after, named_edges, names_wire, second_kind, time_said}
use Rattle.xb_csv.specs.LostEdges.{edge_levels, levels_by}
use Rattle.xb_csv.specs.Seconds.{nanoseconds_of}

-- what is said of a wire by the wires that a text names: of one before them nothing, and else that of its own name
named-later :
    (wire i : ℕ) (text : List ℕ) (level : Level) (names : List (List ℕ)) → wire < i
    → levels_of wire (named_edges i text level names) ≡ []
named-later wire i text level [] below = refl
named-later wire i text level (name ∷ rest) below =
    let more : List Event = named_edges (i + 1) text level rest in
    let later : levels_of wire more ≡ [] = named-later wire (i + 1) text level rest (omega arith) in
    let other : (i == wire) ≡ false = ne_eqb i wire (λ e. absurd (omega arith)) in
    elim (names_wire name text) as (λ t. levels_of wire (cond t (events.Edge i level ∷ more) more) ≡ []) [
      | true ↦ ap (λ t. cond t (level ∷ levels_of wire more) (levels_of wire more)) other ∙ later
      | false ↦ later
    ]

named-own :
    (wire i : ℕ) (text : List ℕ) (level : Level) (names : List (List ℕ)) (name : List ℕ)
    → slice_get names wire ≡ Some name
    → levels_of (i + wire) (named_edges i text level names) ≡ cond (names_wire name text) (level ∷ []) []
named-own wire i text level [] name there = cc
named-own zero i text level (own ∷ rest) name there =
    let more : List Event = named_edges (i + 1) text level rest in
    let is : own ≡ name = cc in
    let at : i + 0 ≡ i = omega arith in
    let here : (i == i) ≡ true = eq-eqb i i refl in
    let later : levels_of i more ≡ [] = named-later i (i + 1) text level rest (omega arith) in
    ap (λ w. levels_of w (named_edges i text level (own ∷ rest))) at
    ∙ elim (names_wire own text) as (λ t. levels_of i (cond t (events.Edge i level ∷ more) more) ≡ cond t (level ∷ []) []) [
      | true ↦ ap (λ t. cond t (level ∷ levels_of i more) (levels_of i more)) here ∙ ap (λ l. level ∷ l) later
      | false ↦ later
    ]
    ∙ ap (λ n. cond (names_wire n text) (level ∷ []) []) is
named-own (suc wire) i text level (own ∷ rest) name there =
    let more : List Event = named_edges (i + 1) text level rest in
    let at : i + 1 + wire ≡ i + suc wire = omega arith in
    let later : levels_of (i + suc wire) more ≡ cond (names_wire name text) (level ∷ []) [] =
    ap (λ w. levels_of w more) (sym at) ∙ named-own wire (i + 1) text level rest name there in
    let other : (i == (i + suc wire)) ≡ false = ne_eqb i (i + suc wire) (λ e. absurd (omega arith)) in
    elim (names_wire own text) as (λ t. levels_of (i + suc wire) (cond t (events.Edge i level ∷ more) more) ≡ cond (names_wire name text) (level ∷ []) []) [
      | true ↦ ap (λ t. cond t (level ∷ levels_of (i + suc wire) more) (levels_of (i + suc wire) more)) other ∙ later
      | false ↦ later
    ]

-- what is said of a wire one after the other
one-more :
    (wire other : ℕ) (level : Level) (said later : List Event)
    → levels_of wire (said ++ later) ≡ levels_of wire said ++ levels_of wire later
    → cond (other == wire) (level ∷ levels_of wire (said ++ later)) (levels_of wire (said ++ later))
    ≡ cond (other == wire) (level ∷ levels_of wire said) (levels_of wire said) ++ levels_of wire later
one-more wire other level said later rest = by (other == wire)
  where
    by :
        (b : Bool)
        → cond b (level ∷ levels_of wire (said ++ later)) (levels_of wire (said ++ later))
        ≡ cond b (level ∷ levels_of wire said) (levels_of wire said) ++ levels_of wire later
    by true = ap (λ l. level ∷ l) rest
    by false = rest

levels-append :
    (wire : ℕ) (said later : List Event) → levels_of wire (said ++ later) ≡ levels_of wire said ++ levels_of wire later
levels-append wire [] later = refl
levels-append wire (events.Ticks scale ∷ said) later = levels-append wire said later
levels-append wire (events.At tick ∷ said) later = levels-append wire said later
levels-append wire (events.Level other level ∷ said) later = one-more wire other level said later (levels-append wire said later)
levels-append wire (events.Edge other level ∷ said) later = one-more wire other level said later (levels-append wire said later)

time-quiet :
    (wire : ℕ) (last : Option ℕ) (time : ℕ) (said : List Event) → levels_of wire (time_said last time ++ said) ≡ levels_of wire said
time-quiet wire None time said = refl
time-quiet wire (Some last) time said = refl

-- an edge that was said
pub record IsEdge
    (lossy : Bool) (names : List (List ℕ)) (levels : List (Option Level)) (last : Option ℕ) (edge : EdgeSaid) (time : ℕ)
    (said : List Event × GpiomonState) : Type 0 where
  pub new : List (Option Level)
  pub order : is_before time last ≡ false
  pub taken : levels_after lossy edge.wire edge.level names levels ≡ Ok new
  pub is : said ≡ (time_said last time ++ named_edges 0 edge.wire edge.level names, gpiomon_by lossy names new (Some time))

edge-is :
    (lossy : Bool) (names : List (List ℕ)) (levels : List (Option Level)) (last : Option ℕ) (edge : EdgeSaid) (time : ℕ)
    (said : List Event × GpiomonState)
    → edge_says (gpiomon_by lossy names levels last) edge time ≡ Ok said → IsEdge lossy names levels last edge time said
edge-is lossy names levels last edge time said e =
    at (is_before time last) (levels_after lossy edge.wire edge.level names levels) refl refl e
  where
    at :
        (before : Bool) (after : Result (List (Option Level)) Refusal) → is_before time last ≡ before
        → levels_after lossy edge.wire edge.level names levels ≡ after
        → cond before (Err refusals.Backwards) (result_map (λ new. (time_said last time ++ named_edges 0 edge.wire edge.level names, gpiomon_by lossy names new (Some time))) after) ≡ Ok said
        → IsEdge lossy names levels last edge time said
    at true after order taken e = cc
    at false (Err refusal) order taken e = cc
    at false (Ok new) order taken e =
        let is : (time_said last time ++ named_edges 0 edge.wire edge.level names, gpiomon_by lossy names new (Some time)) ≡ said = cc in
        record { new = new; order = order; taken = taken; is = sym is }

-- a line that was said: it is empty, or an edge
pub record IsEdgeLine
    (lossy : Bool) (names : List (List ℕ)) (levels : List (Option Level)) (last : Option ℕ) (line : List ℕ)
    (said : List Event × GpiomonState) : Type 0 where
  pub edge : EdgeSaid
  pub time : ℕ
  pub some : (length (trimmed line) == 0) ≡ false
  pub found : edge_of (trimmed line) ≡ Some edge
  pub clock : nanoseconds_of edge.time ≡ Some time
  pub is : IsEdge lossy names levels last edge time said

abbrev pub IsEmpty :
    Bool → List (List ℕ) → List (Option Level) → Option ℕ → List ℕ → List Event × GpiomonState → Type 0
IsEmpty lossy names levels last line said =
    ((length (trimmed line) == 0) ≡ true) × (said ≡ ([], gpiomon_by lossy names levels last))

pub line_is :
    (lossy : Bool) (names : List (List ℕ)) (levels : List (Option Level)) (last : Option ℕ) (line : List ℕ)
    (said : List Event × GpiomonState)
    → gpiomon_line_says (gpiomon_by lossy names levels last) line ≡ Ok said
    → IsEmpty lossy names levels last line said ⊎ IsEdgeLine lossy names levels last line said
line_is lossy names levels last line said e = at (length (trimmed line) == 0) (edge_of (trimmed line)) refl refl e
  where
    by :
        (edge : EdgeSaid) (clock : Option ℕ) → (length (trimmed line) == 0) ≡ false → edge_of (trimmed line) ≡ Some edge
        → nanoseconds_of edge.time ≡ clock
        → result_and_then (λ time. edge_says (gpiomon_by lossy names levels last) edge time) (ok_or clock refusals.Time) ≡ Ok said
        → IsEdgeLine lossy names levels last line said
    by edge None some found clock e = cc
    by edge (Some time) some found clock e =
        record { edge = edge; time = time; some = some; found = found; clock = clock; is = edge-is lossy names levels last edge time said e }

    at :
        (empty : Bool) (found : Option EdgeSaid) → (length (trimmed line) == 0) ≡ empty → edge_of (trimmed line) ≡ found
        → cond empty (Ok ([], gpiomon_by lossy names levels last)) (result_and_then (λ edge. result_and_then (λ time. edge_says (gpiomon_by lossy names levels last) edge time) (ok_or (nanoseconds_of edge.time) refusals.Time)) (ok_or found refusals.Edge)) ≡ Ok said
        → IsEmpty lossy names levels last line said ⊎ IsEdgeLine lossy names levels last line said
    at true found empty is e = inl (empty, (let nothing : said ≡ ([], gpiomon_by lossy names levels last) = cc in nothing))
    at false None empty is e = cc
    at false (Some edge) empty is e = inr (by edge (nanoseconds_of edge.time) empty is refl e)

-- what lines say: the first, and then the rest
pub record AreSaid (state : GpiomonState) (line : List ℕ) (rest : List (List ℕ)) (events : List Event) : Type 0 where
  pub said : List Event × GpiomonState
  pub later : List Event
  pub first : gpiomon_line_says state line ≡ Ok said
  pub then : gpiomon_says said.1 rest ≡ Ok later
  pub are : events ≡ said.0 ++ later

pub lines_are :
    (state : GpiomonState) (line : List ℕ) (rest : List (List ℕ)) (events : List Event)
    → gpiomon_says state (line ∷ rest) ≡ Ok events → AreSaid state line rest events
lines_are state line rest events e = at (gpiomon_line_says state line) refl e
  where
    by :
        (said : List Event × GpiomonState) (later : Result (List Event) Refusal) → gpiomon_line_says state line ≡ Ok said
        → gpiomon_says said.1 rest ≡ later → then_later said.0 later ≡ Ok events → AreSaid state line rest events
    by said (Err refusal) first after e = cc
    by said (Ok later) first after e =
        let are : said.0 ++ later ≡ events = cc in
        record { said = said; later = later; first = first; then = after; are = sym are }

    at :
        (first : Said GpiomonState) → gpiomon_line_says state line ≡ first
        → result_and_then (λ said. then_later said.0 (gpiomon_says said.1 rest)) first ≡ Ok events
        → AreSaid state line rest events
    at (Err refusal) is e = cc
    at (Ok said) is e = by said (gpiomon_says said.1 rest) is refl e

-- an empty line is no edge
pub is_empty : (text : List ℕ) → (length text == 0) ≡ true → text ≡ []
is_empty [] e = refl
is_empty (byte ∷ text) e = absurd (omega (arith, eqb-true (length (byte ∷ text)) 0 e))

pub no_edge : edge_of [] ≡ None
unfolding first_kind first_word second_kind trimmed
no_edge = refl

-- what a line says of a wire
line-levels :
    (lossy : Bool) (names : List (List ℕ)) (levels : List (Option Level)) (last : Option ℕ) (line : List ℕ)
    (said : List Event × GpiomonState) (wire : ℕ) (name : List ℕ) → slice_get names wire ≡ Some name
    → IsEmpty lossy names levels last line said ⊎ IsEdgeLine lossy names levels last line said
    → levels_of wire said.0 ≡ levels_by name (edge_of (trimmed line))
line-levels lossy names levels last line said wire name there (inl empty) =
    ap (λ s. levels_of wire s.0) empty.1
    ∙ sym (ap (λ t. levels_by name (edge_of t)) (is_empty (trimmed line) empty.0) ∙ ap (levels_by name) no_edge)
line-levels lossy names levels last line said wire name there (inr it) =
    ap (λ s. levels_of wire s.0) it.is.is
    ∙ time-quiet wire last it.time (named_edges 0 it.edge.wire it.edge.level names)
    ∙ ap (λ w. levels_of w (named_edges 0 it.edge.wire it.edge.level names)) (sym (zero-add wire))
    ∙ named-own wire 0 it.edge.wire it.edge.level names name there
    ∙ sym (ap (levels_by name) it.found)

-- the state after a line
abbrev pub IsOf : Bool → List (List ℕ) → GpiomonState → Type 0
IsOf lossy names state = (levels : List (Option Level)) × (last : Option ℕ) × (state ≡ gpiomon_by lossy names levels last)

pub state_after :
    (lossy : Bool) (names : List (List ℕ)) (levels : List (Option Level)) (last : Option ℕ) (line : List ℕ)
    (said : List Event × GpiomonState)
    → IsEmpty lossy names levels last line said ⊎ IsEdgeLine lossy names levels last line said
    → IsOf lossy names said.1
state_after lossy names levels last line said (inl empty) = (levels, last, ap (λ s. s.1) empty.1)
state_after lossy names levels last line said (inr it) = (it.is.new, Some it.time, ap (λ s. s.1) it.is.is)

-- so what is said of a wire are its edges
pub edges_said :
    (lossy : Bool) (names : List (List ℕ)) (wire : ℕ) (name : List ℕ) → slice_get names wire ≡ Some name
    → (lines : List (List ℕ)) (levels : List (Option Level)) (last : Option ℕ) (events : List Event)
    → gpiomon_says (gpiomon_by lossy names levels last) lines ≡ Ok events
    → levels_of wire events ≡ edge_levels name lines
edges_said lossy names wire name there [] levels last events e =
    let none : [] ≡ events = cc in
    ap (levels_of wire) (sym none)
edges_said lossy names wire name there (line ∷ rest) levels last events e =
    let them = lines_are (gpiomon_by lossy names levels last) line rest events e in
    let first = line_is lossy names levels last line them.said them.first in
    let now = state_after lossy names levels last line them.said first in
    let later : gpiomon_says (gpiomon_by lossy names now.0 now.1) rest ≡ Ok them.later =
    ap (λ s. gpiomon_says s rest) (sym now.2) ∙ them.then in
    ap (levels_of wire) them.are
    ∙ levels-append wire them.said.0 them.later
    ∙ ap (λ l. l ++ levels_of wire them.later) (line-levels lossy names levels last line them.said wire name there first)
    ∙ ap (λ l. levels_by name (edge_of (trimmed line)) ++ l) (edges_said lossy names wire name there rest now.0 now.1 them.later later)
