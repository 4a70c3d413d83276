-- The pieces of a settled contact, and the runs in ms that they make.
use Rattle.std.proofs.Common.{◌≡◌, ℕ, ◌+◌, ◌-◌, ◌*◌, ◌/◌, ◌<◌, ◌≤◌, ◌^◌, min, List, [], ◌∷◌, ◌++◌, Bool, true, false, Option, Some, None, map, nat_le, refl, ap, ap₂, sym, subst, ◌∙◌, ◌==◌, cond, arith, zero-add}
use Rattle.std.proofs.Math.Nat.{div-le_self, mul-le-mul_right}
use Rattle.std.proofs.lemmas.Bool.{ne_eqb}
use Rattle.std.proofs.lemmas.List.{map-append}
use Rattle.xb_model.specs.Records.{Run as RecordRun, run_of}
use Rattle.xb_contact.specs.declared.hold.Hold.{Hold}
use Rattle.xb_contact.specs.declared.level.Level.{Level}
use Rattle.xb_contact.specs.declared.level.Level.TheVariants.{Closed, Open}
use Rattle.xb_contact.specs.declared.scale.Scale.{Scale}
use Rattle.xb_contact.specs.Holds.{AllLast, hold_of, join, joined, same_level, total_of}
use Rattle.xb_contact.specs.Machine.{all_given, at_end, pieces_of}
use Rattle.xb_contact.specs.Times.{CanCount, ms_at, rounded}
use Rattle.xb_contact.proofs.JoinedHolds.{same_level-eq}
use Rattle.xb_contact.proofs.Remaining.{all_given-cons}
use Rattle.xb_feed.specs.declared.tally.Tally.{Tally}
use Rattle.xb_feed.specs.Tallies.{tally_after}
use Rattle.xb_loop.specs.RowsOfHolds.{contact_of as contact_of_row, runs_of_holds}
use Rattle.xb_turns.specs.Dials.{ms_between}
use Rattle.xb_turns.specs.Digits.{Run, joined_runs, merged, onto_runs, run_by}
use Rattle.xb_turns.specs.DialLaws.{Piece, holds_in, run_of_piece, runs_from}
use Rattle.xb_turns.specs.ReportLaws.{contact_of, run_in_ms, runs_in_ms}
use Rattle.xb_bench.specs.Pieces.{Settled as Pieces, piece_given, pieces_after}
use Rattle.xb_laws.proofs.FollowedBench.{piece_list, pieces_taken, tally_past}

-- the pieces are what the settling gives
piece-is : (tally : Tally) (piece : Option Hold) → holds_in (piece_list tally piece) ≡ pieces_of piece
piece-is tally None = refl
piece-is tally (Some hold) = refl

holds-append : (pieces more : List Piece) → holds_in (pieces ++ more) ≡ holds_in pieces ++ holds_in more
holds-append pieces more = map-append (λ (piece : Piece). piece.hold) pieces more

pub pieces-are :
    (pieces : Pieces) (tally : Tally) (holds : List Hold)
    → holds_in (pieces_taken pieces tally holds) ≡ all_given pieces.least pieces.phase holds
pieces-are pieces tally [] = piece-is tally (at_end pieces.phase)
pieces-are pieces tally (hold ∷ rest) =
    let after : Tally = tally_after tally hold in
    let piece : Option Hold = piece_given pieces hold in
    let next : Pieces = pieces_after pieces hold in
    let more : List Piece = pieces_taken next (tally_past after piece) rest in
    holds-append (piece_list after piece) more
    ∙ ap₂ (λ a b. a ++ b) (piece-is after piece) (pieces-are next (tally_past after piece) rest)
    ∙ sym (all_given-cons pieces.least pieces.phase hold rest)

-- the holds of joined runs are the joined holds
abbrev pub holds_of : List Run → List Hold
holds_of runs = map (λ (run : Run). run.hold) runs

onto-holds : (run : Run) (runs : List Run) → holds_of (onto_runs run runs) ≡ join run.hold (holds_of runs)
onto-holds run [] = refl
onto-holds run (next ∷ rest) = by (same_level run.hold.level next.hold.level)
  where
    by :
        (b : Bool)
        → holds_of (cond b (merged run next ∷ rest) (run ∷ next ∷ rest))
        ≡ cond b (hold_of run.hold.level (run.hold.ticks + next.hold.ticks) ∷ holds_of rest)
        (run.hold ∷ next.hold ∷ holds_of rest)
    by true = refl
    by false = refl

joined-holds : (runs : List Run) → holds_of (joined_runs runs) ≡ joined (holds_of runs)
joined-holds [] = refl
joined-holds (run ∷ rest) = onto-holds run (joined_runs rest) ∙ ap (join run.hold) (joined-holds rest)

same-holds : (pieces : List Piece) → holds_of (map run_of_piece pieces) ≡ holds_in pieces
same-holds [] = refl
same-holds (piece ∷ rest) = ap (λ holds. piece.hold ∷ holds) (same-holds rest)

pub runs-holds :
    (first : Level) (pieces : List Piece)
    → holds_of (runs_from first pieces) ≡ join (hold_of first 0) (joined (holds_in pieces))
runs-holds first pieces =
    joined-holds (run_by first 0 0 0 ∷ map run_of_piece pieces)
    ∙ ap (λ holds. join (hold_of first 0) (joined holds)) (same-holds pieces)

-- in ms they are those of the holds
abbrev holds_in_ms : Scale → ℕ → List Hold → List RecordRun
holds_in_ms scale from [] = []
holds_in_ms scale from (hold ∷ rest) =
    cond (hold.ticks == 0) (holds_in_ms scale from rest)
    (run_of (contact_of hold.level) (ms_between scale from (from + hold.ticks)) ∷ holds_in_ms scale (from + hold.ticks) rest)

in-ms : (scale : Scale) (from : ℕ) (runs : List Run) → runs_in_ms scale from runs ≡ holds_in_ms scale from (holds_of runs)
in-ms scale from [] = refl
in-ms scale from (run ∷ rest) =
    ap₂ (λ none more. cond (run.hold.ticks == 0) none (run_in_ms scale from run ∷ more)) (in-ms scale from rest)
    (in-ms scale (from + run.hold.ticks) rest)

-- a level that does not last by itself is none of them
begun-in-ms :
    (scale : Scale) (first : Level) (holds : List Hold)
    → holds_in_ms scale 0 (join (hold_of first 0) holds) ≡ holds_in_ms scale 0 holds
begun-in-ms scale first [] = refl
begun-in-ms scale first (hold ∷ rest) = by (same_level first hold.level) refl
  where
    by :
        (b : Bool) → same_level first hold.level ≡ b
        → holds_in_ms scale 0 (cond b (hold_of first (0 + hold.ticks) ∷ rest) (hold_of first 0 ∷ hold ∷ rest))
        ≡ holds_in_ms scale 0 (hold ∷ rest)
    by true e =
        ap₂ (λ level ticks. holds_in_ms scale 0 (hold_of level ticks ∷ rest)) (same_level-eq first hold.level e)
        (zero-add hold.ticks)
    by false e = refl

same-contact : (level : Level) → contact_of level ≡ contact_of_row level
same-contact Closed = refl
same-contact Open = refl

-- times that can be counted
ms-is :
    (scale : Scale) (from ticks : ℕ) → 0 < scale.ticks → CanCount scale (from + ticks)
    → ms_between scale from (from + ticks) ≡ ms_at scale (from + ticks) - ms_at scale from
ms-is scale from ticks some counts =
    let number : ℕ = (from + ticks) * scale.ms + scale.ticks / 2 in
    let less : number / scale.ticks ≤ number = div-le_self number scale.ticks in
    let most : ms_at scale (from + ticks) - ms_at scale from ≤ 2 ^ 64 - 1 = omega (arith, less, counts) in
    let positive : (scale.ticks == 0) ≡ false = ne_eqb scale.ticks 0 (λ e. absurd (omega (arith, some, e))) in
    let within : min (ms_at scale (from + ticks) - ms_at scale from) (2 ^ 64 - 1)
    ≡ ms_at scale (from + ticks) - ms_at scale from = omega (arith, most) in
    ap (λ b. cond b 0 (min (ms_at scale (from + ticks) - ms_at scale from) (2 ^ 64 - 1))) positive ∙ within

counts-less : (scale : Scale) (at more : ℕ) → CanCount scale (at + more) → CanCount scale at
counts-less scale at more counts =
    let less : at * scale.ms ≤ (at + more) * scale.ms = mul-le-mul_right {m = at} {n = at + more} scale.ms (omega arith) in
    omega (arith, less, counts)

holds-in-ms :
    (scale : Scale) (from : ℕ) (holds : List Hold) → 0 < scale.ticks → AllLast 1 holds
    → CanCount scale (from + total_of holds) → holds_in_ms scale from holds ≡ runs_of_holds (rounded scale from holds)
holds-in-ms scale from [] some all counts = refl
holds-in-ms scale from (hold ∷ rest) some all counts =
    let until : ℕ = from + hold.ticks in
    let total : from + (hold.ticks + total_of rest) ≡ until + total_of rest = omega arith in
    let later : CanCount scale (until + total_of rest) = subst (CanCount scale) total counts in
    let lasts : (hold.ticks == 0) ≡ false = ne_eqb hold.ticks 0 (λ e. absurd (omega (arith, all.0, e))) in
    ap (λ b. cond b (holds_in_ms scale from rest)
    (run_of (contact_of hold.level) (ms_between scale from until) ∷ holds_in_ms scale until rest)) lasts
    ∙ ap₂ (λ contact ms. run_of contact ms ∷ holds_in_ms scale until rest) (same-contact hold.level)
    (ms-is scale from hold.ticks some (counts-less scale until (total_of rest) later))
    ∙ ap (λ runs. run_of (contact_of_row hold.level) (ms_at scale until - ms_at scale from) ∷ runs)
    (holds-in-ms scale until rest some all.1 later)

-- so the runs of pieces are their joined holds in ms
pub runs-in-ms :
    (scale : Scale) (first : Level) (pieces : List Piece) → 0 < scale.ticks → AllLast 1 (joined (holds_in pieces))
    → CanCount scale (total_of (joined (holds_in pieces)))
    → runs_in_ms scale 0 (runs_from first pieces) ≡ runs_of_holds (rounded scale 0 (joined (holds_in pieces)))
runs-in-ms scale first pieces some all counts =
    let holds : List Hold = joined (holds_in pieces) in
    let total : total_of holds ≡ 0 + total_of holds = sym (zero-add (total_of holds)) in
    in-ms scale 0 (runs_from first pieces)
    ∙ ap (holds_in_ms scale 0) (runs-holds first pieces)
    ∙ begun-in-ms scale first holds
    ∙ holds-in-ms scale 0 holds some all (subst (CanCount scale) total counts)
