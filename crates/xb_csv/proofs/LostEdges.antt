-- Edges that are lost.
use Rattle.std.proofs.Common.{◌≡◌, ◌≢◌, ℕ, zero, suc, ◌+◌, List, [], ◌∷◌, ◌++◌, Bool, true, false, cond, Option, Some, None, length, replicate, refl, ap, sym, ◌∙◌, not, zero-add}
use Rattle.std.specs.Prelude.{Result, Ok, Err, slice_get, ◌==◌, ◌&&◌, ◌⊎◌}
use Rattle.std.proofs.Common.{inl, inr}
use Rattle.std.specs.Option.{ok_or}
use Rattle.xb_contact.specs.declared.event.Event.{Event}
use Rattle.xb_contact.specs.declared.event.Refusal.{Refusal}
use Rattle.xb_contact.specs.declared.event.Refusal.TheVariants as refusals
use Rattle.xb_contact.specs.declared.level.Level.{Level}
use Rattle.xb_contact.specs.Holds.{same_level}
use Rattle.xb_contact.specs.Repeats.{repeats_after, repeats_in}
use Rattle.xb_contact.specs.Steps.{Said, is_before, result_and_then, result_map, then_later}
use Rattle.xb_contact.proofs.StepLemmas.{line_says}
use Rattle.xb_csv.specs.Cells.{trimmed}
use Rattle.xb_csv.specs.Gpiomons.{EdgeSaid, GpiomonState, edge_line_says, edge_of, edge_says, edge_taken, gpiomon_by, gpiomon_ends, gpiomon_line_says, gpiomon_says, level_taken, levels_after, named_edges, names_wire, time_said}
use Rattle.xb_csv.specs.LostEdges.{LostEdgesAreSaid, edge_levels, levels_by}
use Rattle.xb_csv.specs.Seconds.{nanoseconds_of}
use Rattle.xb_csv.proofs.EdgeLines.{AreSaid, IsEdgeLine, IsEmpty, edges_said, is_empty, line_is, lines_are, no_edge, state_after}

-- the levels after an edge: of the first wire, and of the others
record AreTaken
    (lossy : Bool) (text : List ℕ) (level : Level) (name : List ℕ) (names : List (List ℕ)) (own : Option Level)
    (levels new : List (Option Level)) : Type 0 where
  now : Option Level
  later : List (Option Level)
  first : level_taken lossy text level name own ≡ Ok now
  others : levels_after lossy text level names levels ≡ Ok later
  are : new ≡ now ∷ later

levels-are :
    (lossy : Bool) (text : List ℕ) (level : Level) (name : List ℕ) (names : List (List ℕ)) (own : Option Level)
    (levels new : List (Option Level))
    → levels_after lossy text level (name ∷ names) (own ∷ levels) ≡ Ok new
    → AreTaken lossy text level name names own levels new
levels-are lossy text level name names own levels new e =
    at (level_taken lossy text level name own) (levels_after lossy text level names levels) refl refl e
  where
    at :
        (first : Result (Option Level) Refusal) (others : Result (List (Option Level)) Refusal)
        → level_taken lossy text level name own ≡ first → levels_after lossy text level names levels ≡ others
        → result_and_then (λ now. result_map (λ later. now ∷ later) others) first ≡ Ok new
        → AreTaken lossy text level name names own levels new
    at (Err refusal) others first after e = cc
    at (Ok now) (Err refusal) first after e = cc
    at (Ok now) (Ok later) first after e =
        let are : now ∷ later ≡ new = cc in
        record { now = now; later = later; first = first; others = after; are = sym are }

-- that of each wire
abbrev IsTaken : Bool → List ℕ → Level → List ℕ → Option Level → Option (Option Level) → Type 0
IsTaken lossy text level name own new =
    (now : Option Level) × (level_taken lossy text level name own ≡ Ok now) × (new ≡ Some now)

taken-at :
    (lossy : Bool) (text : List ℕ) (level : Level) (names : List (List ℕ)) (levels new : List (Option Level)) (wire : ℕ)
    (name : List ℕ) (own : Option Level) → levels_after lossy text level names levels ≡ Ok new
    → slice_get names wire ≡ Some name → slice_get levels wire ≡ Some own
    → IsTaken lossy text level name own (slice_get new wire)
taken-at lossy text level names [] new wire name own e there known = cc
taken-at lossy text level [] (one ∷ levels) new wire name own e there known = cc
taken-at lossy text level (first ∷ names) (one ∷ levels) new zero name own e there known =
    let them = levels-are lossy text level first names one levels new e in
    let is : first ≡ name = cc in
    let same : one ≡ own = cc in (
      them.now,
      ap (λ n. level_taken lossy text level n own) (sym is) ∙ ap (level_taken lossy text level first) (sym same) ∙ them.first,
      ap (λ l. slice_get l 0) them.are,
    )
taken-at lossy text level (first ∷ names) (one ∷ levels) new (suc wire) name own e there known =
    let them = levels-are lossy text level first names one levels new e in
    let more = taken-at lossy text level names levels them.later wire name own them.others there known in
    (more.0, more.1, ap (λ l. slice_get l (suc wire)) them.are ∙ more.2)

-- levels after the one that is known, if one is
abbrev repeats_from : Option Level → List Level → ℕ
repeats_from None levels = repeats_in levels
repeats_from (Some own) levels = repeats_after own levels

none-repeated :
    (text : List ℕ) (level : Level) (name : List ℕ) (own now : Option Level) (rest : List Level)
    → level_taken false text level name own ≡ Ok now
    → repeats_from own (cond (names_wire name text) (level ∷ []) [] ++ rest) ≡ repeats_from now rest
none-repeated text level name own now rest e = at (names_wire name text) own e
  where
    by :
        (last : Level) (same : Bool) → same_level last level ≡ same
        → cond (same && not false) (Err refusals.LostEdge) (Ok (Some level)) ≡ Ok now
        → cond same 1 0 + repeats_after level rest ≡ repeats_from now rest
    by last true is e = cc
    by last false is e =
        let known : Some level ≡ now = cc in
        zero-add (repeats_after level rest) ∙ ap (λ o. repeats_from o rest) known

    at :
        (named : Bool) (own : Option Level) → cond named (edge_taken false own level) (Ok own) ≡ Ok now
        → repeats_from own (cond named (level ∷ []) [] ++ rest) ≡ repeats_from now rest
    at false own e =
        let same : own ≡ now = cc in
        ap (λ o. repeats_from o rest) same
    at true None e =
        let known : Some level ≡ now = cc in
        ap (λ o. repeats_from o rest) known
    at true (Some last) e = by last (same_level last level) refl e

no-repeat : (own : Option Level) → repeats_from own [] ≡ 0
no-repeat None = refl
no-repeat (Some level) = refl

-- unless edges may be lost, none is
none-lost :
    (names : List (List ℕ)) (wire : ℕ) (name : List ℕ) → slice_get names wire ≡ Some name
    → (lines : List (List ℕ)) (levels : List (Option Level)) (last : Option ℕ) (events : List Event) (own : Option Level)
    → slice_get levels wire ≡ Some own → gpiomon_says (gpiomon_by false names levels last) lines ≡ Ok events
    → repeats_from own (edge_levels name lines) ≡ 0
none-lost names wire name there [] levels last events own known e = no-repeat own
none-lost names wire name there (line ∷ rest) levels last events own known e =
    let them = lines_are (gpiomon_by false names levels last) line rest events e in
    at them (line_is false names levels last line them.said them.first)
    (λ now. none-lost names wire name there rest now)
  where
    at :
        (them : AreSaid (gpiomon_by false names levels last) line rest events)
        → IsEmpty false names levels last line them.said ⊎ IsEdgeLine false names levels last line them.said
        → ((now : List (Option Level)) (last : Option ℕ) (events : List Event) (own : Option Level)
        → slice_get now wire ≡ Some own → gpiomon_says (gpiomon_by false names now last) rest ≡ Ok events
        → repeats_from own (edge_levels name rest) ≡ 0)
        → repeats_from own (edge_levels name (line ∷ rest)) ≡ 0
    at them (inl empty) later =
        let nothing : edge_of (trimmed line) ≡ None = ap edge_of (is_empty (trimmed line) empty.0) ∙ no_edge in
        ap (λ found. repeats_from own (levels_by name found ++ edge_levels name rest)) nothing
        ∙ later levels last them.later own known (ap (λ s. gpiomon_says s.1 rest) (sym empty.1) ∙ them.then)
    at them (inr it) later =
        let now = taken-at false it.edge.wire it.edge.level names levels it.is.new wire name own it.is.taken there known in
        ap (λ found. repeats_from own (levels_by name found ++ edge_levels name rest)) it.found
        ∙ none-repeated it.edge.wire it.edge.level name own now.0 (edge_levels name rest) now.1
        ∙ later it.is.new (Some it.time) them.later now.0 now.2 (ap (λ s. gpiomon_says s.1 rest) (sym it.is.is) ∙ them.then)

nothing-known :
    (names : List (List ℕ)) (wire : ℕ) (name : List ℕ) → slice_get names wire ≡ Some name
    → ◌≡◌ {A = Option (Option Level)} (slice_get (replicate (length names) None) wire) (Some None)
nothing-known [] wire name there = cc
nothing-known (first ∷ names) zero name there = refl
nothing-known (first ∷ names) (suc wire) name there = nothing-known names wire name there

-- what is read without lost edges is read the same where they may be lost
lossy-level :
    (text : List ℕ) (level : Level) (name : List ℕ) (own now : Option Level)
    → level_taken false text level name own ≡ Ok now → level_taken true text level name own ≡ Ok now
lossy-level text level name own now e = at (names_wire name text) own e
  where
    by :
        (same : Bool) → cond (same && not false) (Err refusals.LostEdge) (Ok (Some level)) ≡ Ok now
        → cond (same && not true) (Err refusals.LostEdge) (Ok (Some level)) ≡ Ok now
    by true e = cc
    by false e = e

    at :
        (named : Bool) (own : Option Level) → cond named (edge_taken false own level) (Ok own) ≡ Ok now
        → cond named (edge_taken true own level) (Ok own) ≡ Ok now
    at false own e = e
    at true None e = e
    at true (Some last) e = by (same_level last level) e

lossy-levels :
    (text : List ℕ) (level : Level) (names : List (List ℕ)) (levels new : List (Option Level))
    → levels_after false text level names levels ≡ Ok new → levels_after true text level names levels ≡ Ok new
lossy-levels text level names [] new e = e
lossy-levels text level [] (own ∷ levels) new e = e
lossy-levels text level (name ∷ names) (own ∷ levels) new e =
    let them = levels-are false text level name names own levels new e in
    ap (result_and_then (λ now. result_map (λ later. now ∷ later) (levels_after true text level names levels)))
    (lossy-level text level name own them.now them.first)
    ∙ ap (result_map (λ later. them.now ∷ later)) (lossy-levels text level names levels them.later them.others)
    ∙ ap (λ l. Ok l) (sym them.are)

-- a line
lossy-edge :
    (names : List (List ℕ)) (levels : List (Option Level)) (last : Option ℕ) (line : List ℕ)
    (said : List Event × GpiomonState) → (it : IsEdgeLine false names levels last line said)
    → gpiomon_line_says (gpiomon_by true names levels last) line
    ≡ Ok (said.0, gpiomon_by true names it.is.new (Some it.time))
lossy-edge names levels last line said it =
    let state : GpiomonState = gpiomon_by true names levels last in
    let all : List Event = time_said last it.time ++ named_edges 0 it.edge.wire it.edge.level names in
    ap (λ t. cond t (Ok ([], state)) (edge_line_says state (trimmed line))) it.some
    ∙ ap (λ found. result_and_then (λ edge. result_and_then (λ time. edge_says state edge time) (ok_or (nanoseconds_of edge.time) refusals.Time)) (ok_or found refusals.Edge)) it.found
    ∙ ap (λ clock. result_and_then (λ time. edge_says state it.edge time) (ok_or clock refusals.Time)) it.clock
    ∙ ap (λ t. cond t (Err refusals.Backwards) (result_map (λ new. (all, gpiomon_by true names new (Some it.time))) (levels_after true it.edge.wire it.edge.level names levels))) it.is.order
    ∙ ap (result_map (λ new. (all, gpiomon_by true names new (Some it.time))))
    (lossy-levels it.edge.wire it.edge.level names levels it.is.new it.is.taken)
    ∙ ap (λ them. Ok (them, gpiomon_by true names it.is.new (Some it.time))) (sym (ap (λ s. s.0) it.is.is))

reads-same :
    (names lines : List (List ℕ)) (levels : List (Option Level)) (last : Option ℕ) (events : List Event)
    → gpiomon_says (gpiomon_by false names levels last) lines ≡ Ok events
    → gpiomon_says (gpiomon_by true names levels last) lines ≡ Ok events
reads-same names [] levels last events e = e
reads-same names (line ∷ rest) levels last events e =
    let them = lines_are (gpiomon_by false names levels last) line rest events e in
    at them (line_is false names levels last line them.said them.first) (λ now. reads-same names rest now)
  where
    at :
        (them : AreSaid (gpiomon_by false names levels last) line rest events)
        → IsEmpty false names levels last line them.said ⊎ IsEdgeLine false names levels last line them.said
        → ((now : List (Option Level)) (last : Option ℕ) (events : List Event)
        → gpiomon_says (gpiomon_by false names now last) rest ≡ Ok events
        → gpiomon_says (gpiomon_by true names now last) rest ≡ Ok events)
        → gpiomon_says (gpiomon_by true names levels last) (line ∷ rest) ≡ Ok events
    at them (inl empty) later =
        line_says gpiomon_line_says gpiomon_ends (gpiomon_by true names levels last) (gpiomon_by true names levels last) line
        rest [] (ap (λ t. cond t (Ok ([], gpiomon_by true names levels last)) (edge_line_says (gpiomon_by true names levels last) (trimmed line))) empty.0)
        ∙ ap (then_later [])
        (later levels last them.later (ap (λ s. gpiomon_says s.1 rest) (sym empty.1) ∙ them.then))
        ∙ ap (λ l. Ok (l ++ them.later)) (sym (ap (λ s. s.0) empty.1))
        ∙ ap (λ l. Ok l) (sym them.are)
    at them (inr it) later =
        line_says gpiomon_line_says gpiomon_ends (gpiomon_by true names levels last)
        (gpiomon_by true names it.is.new (Some it.time)) line rest them.said.0
        (lossy-edge names levels last line them.said it)
        ∙ ap (then_later them.said.0)
        (later it.is.new (Some it.time) them.later (ap (λ s. gpiomon_says s.1 rest) (sym it.is.is) ∙ them.then))
        ∙ ap (λ l. Ok l) (sym them.are)

-- where edges may be lost, none is refused as lost
lossy-takes :
    (text : List ℕ) (level : Level) (name : List ℕ) (own : Option Level)
    → (now : Option Level) × (level_taken true text level name own ≡ Ok now)
lossy-takes text level name own = at (names_wire name text) own
  where
    by :
        (same : Bool)
        → (now : Option Level) × (cond (same && not true) (Err refusals.LostEdge) (Ok (Some level)) ≡ Ok now)
    by true = (Some level, refl)
    by false = (Some level, refl)

    at :
        (named : Bool) (own : Option Level)
        → (now : Option Level) × (cond named (edge_taken true own level) (Ok own) ≡ Ok now)
    at false own = (own, refl)
    at true None = (Some level, refl)
    at true (Some last) = by (same_level last level)

lossy-takes-all :
    (text : List ℕ) (level : Level) (names : List (List ℕ)) (levels : List (Option Level))
    → (new : List (Option Level)) × (levels_after true text level names levels ≡ Ok new)
lossy-takes-all text level names [] = ([], refl)
lossy-takes-all text level [] (own ∷ levels) = (own ∷ levels, refl)
lossy-takes-all text level (name ∷ names) (own ∷ levels) =
    let first = lossy-takes text level name own in
    let others = lossy-takes-all text level names levels in (
      first.0 ∷ others.0,
      ap (result_and_then (λ now. result_map (λ later. now ∷ later) (levels_after true text level names levels))) first.1
          ∙ ap (result_map (λ later. first.0 ∷ later)) others.1,
    )

abbrev IsOther : Refusal → Type 0
IsOther refusal = refusal ≢ refusals.LostEdge

other-edge :
    (names : List (List ℕ)) (levels : List (Option Level)) (last : Option ℕ) (edge : EdgeSaid) (time : ℕ) (refusal : Refusal)
    → edge_says (gpiomon_by true names levels last) edge time ≡ Err refusal → IsOther refusal
other-edge names levels last edge time refusal e =
    let taken = lossy-takes-all edge.wire edge.level names levels in
    at (is_before time last) (levels_after true edge.wire edge.level names levels) taken.0 taken.1 e
  where
    at :
        (before : Bool) (after : Result (List (Option Level)) Refusal) (new : List (Option Level)) → after ≡ Ok new
        → cond {A = Said GpiomonState} before (Err refusals.Backwards) (result_map (λ new. (time_said last time ++ named_edges 0 edge.wire edge.level names, gpiomon_by true names new (Some time))) after) ≡ Err refusal
        → IsOther refusal
    at true after new taken e lost = cc
    at false (Err own) new taken e lost = cc
    at false (Ok own) new taken e lost = cc

other-line :
    (names : List (List ℕ)) (levels : List (Option Level)) (last : Option ℕ) (line : List ℕ) (refusal : Refusal)
    → gpiomon_line_says (gpiomon_by true names levels last) line ≡ Err refusal → IsOther refusal
other-line names levels last line refusal e = at (length (trimmed line) == 0) (edge_of (trimmed line)) e
  where
    by :
        (edge : EdgeSaid) (clock : Option ℕ)
        → result_and_then (λ time. edge_says (gpiomon_by true names levels last) edge time) (ok_or clock refusals.Time) ≡ Err refusal
        → IsOther refusal
    by edge None e lost = cc
    by edge (Some time) e lost = other-edge names levels last edge time refusal e lost

    at :
        (empty : Bool) (found : Option EdgeSaid)
        → cond empty (Ok ([], gpiomon_by true names levels last)) (result_and_then (λ edge. result_and_then (λ time. edge_says (gpiomon_by true names levels last) edge time) (ok_or (nanoseconds_of edge.time) refusals.Time)) (ok_or found refusals.Edge)) ≡ Err refusal
        → IsOther refusal
    at true found e lost = cc
    at false None e lost = cc
    at false (Some edge) e lost = by edge (nanoseconds_of edge.time) e lost

never-lost :
    (names lines : List (List ℕ)) (levels : List (Option Level)) (last : Option ℕ) (refusal : Refusal)
    → gpiomon_says (gpiomon_by true names levels last) lines ≡ Err refusal → IsOther refusal
never-lost names [] levels last refusal e = λ lost. absurd cc
never-lost names (line ∷ rest) levels last refusal e =
    at (gpiomon_line_says (gpiomon_by true names levels last) line) refl e (λ now. never-lost names rest now)
  where
    by : (said : List Event) (later : Result (List Event) Refusal) → then_later said later ≡ Err refusal → later ≡ Err refusal
    by said (Err own) e = cc
    by said (Ok later) e = cc

    at :
        (first : Said GpiomonState) → gpiomon_line_says (gpiomon_by true names levels last) line ≡ first
        → result_and_then (λ said. then_later said.0 (gpiomon_says said.1 rest)) first ≡ Err refusal
        → ((now : List (Option Level)) (last : Option ℕ) (refusal : Refusal)
        → gpiomon_says (gpiomon_by true names now last) rest ≡ Err refusal → IsOther refusal)
        → IsOther refusal
    at (Err own) is e later =
        let same : own ≡ refusal = cc in
        other-line names levels last line refusal (is ∙ ap (λ r. Err r) same)
    at (Ok said) is e later =
        let now = state_after true names levels last line said (line_is true names levels last line said is) in
        later now.0 now.1 refusal
        (ap (λ s. gpiomon_says s rest) (sym now.2) ∙ by said.0 (gpiomon_says said.1 rest) e)

pub lost_edges_are_said : LostEdgesAreSaid
lost_edges_are_said = record {
  levels = λ lossy names lines events wire name e there.
      edges_said lossy names wire name there lines (replicate (length names) None) None events e;
  none = λ names lines events wire name e there.
      none-lost names wire name there lines (replicate (length names) None) None events None
      (nothing-known names wire name there) e;
  same = λ names lines events e. reads-same names lines (replicate (length names) None) None events e;
  never = λ names lines refusal e. never-lost names lines (replicate (length names) None) None refusal e;
}
