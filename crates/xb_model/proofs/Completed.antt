-- The number that digits complete, one after another, is their shortest front that is a complete number.
use Rattle.std.proofs.Common.{◌≡◌, ℕ, List, [], ◌∷◌, ◌++◌, map, cond, Option, Some, None, append_assoc, append-nil}
use Rattle.std.specs.List.{find}
use Rattle.std.proofs.lemmas.List.{map-id}
use Rattle.std.proofs.lemmas.Simd.{map-map}
use Rattle.xb_model.specs.declared.plan.Plan.{Plan}
use Rattle.xb_model.specs.Numbers.{fronts, is_complete, shortest_complete}
use Rattle.xb_model.proofs.Pending.{one}

-- the number that more digits complete, after digits that are there already
abbrev pub completed_number : Plan → List ℕ → List ℕ → Option (List ℕ)
completed_number plan digits [] = None
completed_number plan digits (d ∷ more) =
    cond (is_complete plan (digits ++ one d)) (Some (digits ++ one d))
    (completed_number plan (digits ++ one d) more)

-- the lists that begin with some digits and one more
map-fronts : (digits : List ℕ) (d : ℕ) (more : List ℕ)
    → map (λ front. digits ++ d ∷ front) (fronts more)
    ≡ map (λ front. (digits ++ one d) ++ front) (fronts more)
map-fronts digits d more = simp append_assoc

-- of the lists that begin with some digits, the first complete one is what more digits complete
find-fronts : (plan : Plan) (digits more : List ℕ)
    → find (is_complete plan) (map (λ front. digits ++ front) (fronts more))
    ≡ cond (is_complete plan digits) (Some digits) (completed_number plan digits more)
find-fronts plan digits [] = rw append-nil
find-fronts plan digits (d ∷ more) =
    let joined = map-map (λ front. digits ++ front) (λ front. d ∷ front) (fronts more) in
    rw (append-nil digits, joined, map-fronts digits d more, find-fronts plan (digits ++ one d) more)

-- the shortest complete number is what the digits complete
pub shortest_complete-completed : (plan : Plan) (digits : List ℕ)
    → shortest_complete plan digits ≡ completed_number plan [] digits
shortest_complete-completed plan digits = rw (map-id (fronts digits)) at (find-fronts plan [] digits)
