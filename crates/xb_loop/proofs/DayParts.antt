-- Holds in parts of a day.
use Rattle.std.proofs.Common.{◌≡◌, ℕ, suc, zero, ◌+◌, ◌*◌, ◌/◌, ◌%◌, List, [], ◌∷◌, ◌++◌, replicate, refl, ap, sym, ◌∙◌, arith}
use Rattle.std.specs.List.{flat_map}
use Rattle.std.proofs.lemmas.Nat.{div-add-mod'}
use Rattle.xb_model.specs.declared.row.TheConstants.{GREATEST_MS}
use Rattle.xb_contact.specs.declared.level.Level.{Level}
use Rattle.xb_contact.specs.declared.hold.Hold.{Hold}
use Rattle.xb_contact.specs.Holds.{hold_of, runs_of}
use Rattle.xb_loop.specs.RowsOfHolds.{day_parts}
use Rattle.xb_contact.proofs.JoinedRuns.{added, added_sum, runs_of-cons}

-- parts of one length, and a rest, are one hold
runs_of-parts :
    (c : Level) (n part rest : ℕ) (X : List Hold)
    → runs_of ((replicate n (hold_of c part) ++ hold_of c rest ∷ []) ++ X)
    ≡ added (hold_of c (n * part + rest)) (runs_of X)
runs_of-parts c zero part rest X =
    let sum : rest ≡ 0 * part + rest = omega arith in
    runs_of-cons (hold_of c rest) X ∙ ap (λ m. added (hold_of c m) (runs_of X)) sum
runs_of-parts c (suc n) part rest X =
    let later : List Hold = (replicate n (hold_of c part) ++ hold_of c rest ∷ []) ++ X in
    let sum : part + (n * part + rest) ≡ suc n * part + rest = omega arith in
    runs_of-cons (hold_of c part) later
    ∙ ap (added (hold_of c part)) (runs_of-parts c n part rest X)
    ∙ added_sum c part (n * part + rest) (runs_of X)
    ∙ ap (λ m. added (hold_of c m) (runs_of X)) sum

-- so the runs stay the same
pub runs_of-days : (holds : List Hold) → runs_of (flat_map day_parts holds) ≡ runs_of holds
runs_of-days [] = refl
runs_of-days (h ∷ hs) =
    runs_of-parts h.level (h.ticks / GREATEST_MS) GREATEST_MS (h.ticks % GREATEST_MS) (flat_map day_parts hs)
    ∙ ap (λ m. added (hold_of h.level m) (runs_of (flat_map day_parts hs))) (div-add-mod' h.ticks GREATEST_MS)
    ∙ ap (added h) (runs_of-days hs)
    ∙ sym (runs_of-cons h hs)
