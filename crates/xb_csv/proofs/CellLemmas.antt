-- The cells of a line, one after the other.
use Rattle.std.proofs.Common.{◌≡◌, ℕ, zero, suc, ◌+◌, ◌-◌, ◌<◌, ◌≤◌, Bool, true, false, cond, List, [], ◌∷◌, Option, Some, None, drop, map, take, refl, ap, ◌∙◌, arith, ◌&&◌, ◌||◌}
use Rattle.std.proofs.Math.Seq.{take-nil}
use Rattle.std.proofs.lemmas.Bool.Decides.{nat_tests}
use Rattle.std.specs.Prelude.{bytes_eq, nat_lt, slice_get}
use Rattle.std.specs.List.{list_any, position_from}
use Rattle.xb_text.specs.Pieces.{pieces, pieces_left}
use Rattle.xb_csv.specs.Cells.{cells_of, trimmed}

-- the first cell, and those after it
pub cells_next :
    (text cell : List ℕ) (later : Option (List ℕ)) → pieces 44 text ≡ cell ∷ pieces_left 44 later
    → cells_of text ≡ trimmed cell ∷ map trimmed (pieces_left 44 later)
unfolding cells_of
cells_next text cell later e = ap (map trimmed) e

pub cells_later : (text : List ℕ) → map trimmed (pieces_left 44 (Some text)) ≡ cells_of text
unfolding cells_of
cells_later text = refl

-- a cell by its number
pub cell_first :
    (text cell : List ℕ) (later : Option (List ℕ)) (n step : ℕ) → n ≡ step
    → pieces 44 text ≡ cell ∷ pieces_left 44 later
    → slice_get (cells_of text) (n - step) ≡ Some (trimmed cell)
cell_first text cell later n step h e =
    let none : n - step ≡ 0 = omega arith in
    ap (slice_get (cells_of text)) none ∙ ap (λ cells. slice_get cells 0) (cells_next text cell later e)

pub cell_later :
    (text cell later : List ℕ) (n step : ℕ) → step < n → pieces 44 text ≡ cell ∷ pieces_left 44 (Some later)
    → slice_get (cells_of text) (n - step) ≡ slice_get (cells_of later) (n - (step + 1))
cell_later text cell later n step h e =
    let next : n - step ≡ suc (n - (step + 1)) = omega arith in
    ap (slice_get (cells_of text)) next
    ∙ ap (λ cells. slice_get cells (suc (n - (step + 1)))) (cells_next text cell (Some later) e)
    ∙ ap (λ cells. slice_get cells (n - (step + 1))) (cells_later later)

pub cell_none :
    (text cell : List ℕ) (n step : ℕ) → step < n → pieces 44 text ≡ cell ∷ pieces_left 44 None
    → slice_get (cells_of text) (n - step) ≡ None
cell_none text cell n step h e =
    let next : n - step ≡ suc (n - (step + 1)) = omega arith in
    ap (slice_get (cells_of text)) next
    ∙ ap (λ cells. slice_get cells (suc (n - (step + 1)))) (cells_next text cell None e)

-- the number of a cell, among those that are left of so many: it is this one, a later one, or none
found-by :
    (text wanted cell : List ℕ) (later : Option (List ℕ)) (most step : ℕ) (is : Bool) → step < most
    → pieces 44 text ≡ cell ∷ pieces_left 44 later → bytes_eq (trimmed cell) wanted ≡ is
    → position_from (λ c. bytes_eq c wanted) step (take (most - step) (cells_of text))
    ≡ cond is (Some step)
    (position_from (λ c. bytes_eq c wanted) (step + 1) (take (most - (step + 1)) (map trimmed (pieces_left 44 later))))
found-by text wanted cell later most step is h e f =
    let next : most - step ≡ suc (most - (step + 1)) = omega arith in
    let rest : List (List ℕ) = take (most - (step + 1)) (map trimmed (pieces_left 44 later)) in
    ap (λ n. position_from (λ c. bytes_eq c wanted) step (take n (cells_of text))) next
    ∙ ap (λ cells. position_from (λ c. bytes_eq c wanted) step (take (suc (most - (step + 1))) cells))
    (cells_next text cell later e)
    ∙ ap (λ b. cond b (Some step) (position_from (λ c. bytes_eq c wanted) (step + 1) rest)) f

pub found_here :
    (text wanted cell : List ℕ) (later : Option (List ℕ)) (most step : ℕ) → step < most
    → pieces 44 text ≡ cell ∷ pieces_left 44 later → bytes_eq (trimmed cell) wanted ≡ true
    → position_from (λ c. bytes_eq c wanted) step (take (most - step) (cells_of text)) ≡ Some step
found_here text wanted cell later most step h e f = found-by text wanted cell later most step true h e f

pub found_later :
    (text wanted cell later : List ℕ) (most step : ℕ) → step < most
    → pieces 44 text ≡ cell ∷ pieces_left 44 (Some later) → bytes_eq (trimmed cell) wanted ≡ false
    → position_from (λ c. bytes_eq c wanted) step (take (most - step) (cells_of text))
    ≡ position_from (λ c. bytes_eq c wanted) (step + 1) (take (most - (step + 1)) (cells_of later))
found_later text wanted cell later most step h e f =
    found-by text wanted cell (Some later) most step false h e f
    ∙ ap (λ cells. position_from (λ c. bytes_eq c wanted) (step + 1) (take (most - (step + 1)) cells))
    (cells_later later)

pub found_none :
    (text wanted cell : List ℕ) (most step : ℕ) → step < most → pieces 44 text ≡ cell ∷ pieces_left 44 None
    → bytes_eq (trimmed cell) wanted ≡ false
    → position_from (λ c. bytes_eq c wanted) step (take (most - step) (cells_of text)) ≡ None
found_none text wanted cell most step h e f =
    let nothing : take (most - (step + 1)) [] ≡ [] = take-nil {A = List ℕ} (most - (step + 1)) in
    found-by text wanted cell None most step false h e f
    ∙ ap (position_from (λ c. bytes_eq c wanted) (step + 1)) nothing

pub found_past :
    (text wanted : List ℕ) (most step : ℕ) → most ≤ step
    → position_from (λ c. bytes_eq c wanted) step (take (most - step) (cells_of text)) ≡ None
found_past text wanted most step h =
    let none : most - step ≡ 0 = omega arith in
    ap (λ n. position_from (λ c. bytes_eq c wanted) step (take n (cells_of text))) none

-- whether a cell after one of this number is a text too, among those that are left of so many: the first ones are passed
-- over, each later one is it, or one of the rest
passed-by :
    (text wanted cell : List ℕ) (later : Option (List ℕ)) (most step number : ℕ) → step < most
    → pieces 44 text ≡ cell ∷ pieces_left 44 later → step ≤ number
    → list_any (λ c. bytes_eq c wanted) (drop (number + 1 - step) (take (most - step) (cells_of text)))
    ≡ list_any (λ c. bytes_eq c wanted)
    (drop (number + 1 - (step + 1)) (take (most - (step + 1)) (map trimmed (pieces_left 44 later))))
passed-by text wanted cell later most step number h e first =
    let next : most - step ≡ suc (most - (step + 1)) = omega arith in
    let one : number + 1 - step ≡ suc (number + 1 - (step + 1)) = omega arith in
    ap (λ n. list_any (λ c. bytes_eq c wanted) (drop n (take (most - step) (cells_of text)))) one
    ∙ ap (λ n. list_any (λ c. bytes_eq c wanted) (drop (suc (number + 1 - (step + 1))) (take n (cells_of text)))) next
    ∙ ap (λ cells. list_any (λ c. bytes_eq c wanted) (drop (suc (number + 1 - (step + 1))) (take (suc (most - (step + 1))) cells)))
    (cells_next text cell later e)

tried-by :
    (text wanted cell : List ℕ) (later : Option (List ℕ)) (most step number : ℕ) → step < most
    → pieces 44 text ≡ cell ∷ pieces_left 44 later → number < step
    → list_any (λ c. bytes_eq c wanted) (drop (number + 1 - step) (take (most - step) (cells_of text)))
    ≡ (bytes_eq (trimmed cell) wanted || list_any (λ c. bytes_eq c wanted)
    (drop (number + 1 - (step + 1)) (take (most - (step + 1)) (map trimmed (pieces_left 44 later)))))
tried-by text wanted cell later most step number h e past =
    let next : most - step ≡ suc (most - (step + 1)) = omega arith in
    let none : number + 1 - step ≡ 0 = omega arith in
    let nothing : 0 ≡ number + 1 - (step + 1) = omega arith in
    let rest : List (List ℕ) = take (most - (step + 1)) (map trimmed (pieces_left 44 later)) in
    ap (λ n. list_any (λ c. bytes_eq c wanted) (drop n (take (most - step) (cells_of text)))) none
    ∙ ap (λ n. list_any (λ c. bytes_eq c wanted) (take n (cells_of text))) next
    ∙ ap (λ cells. list_any (λ c. bytes_eq c wanted) (take (suc (most - (step + 1))) cells)) (cells_next text cell later e)
    ∙ ap (λ n. bytes_eq (trimmed cell) wanted || list_any (λ c. bytes_eq c wanted) (drop n rest)) nothing

after-by :
    (text wanted cell : List ℕ) (later : Option (List ℕ)) (most step number : ℕ) (is : Bool) → step < most
    → pieces 44 text ≡ cell ∷ pieces_left 44 later → (nat_lt number step && bytes_eq (trimmed cell) wanted) ≡ is
    → list_any (λ c. bytes_eq c wanted) (drop (number + 1 - step) (take (most - step) (cells_of text)))
    ≡ (is || list_any (λ c. bytes_eq c wanted)
    (drop (number + 1 - (step + 1)) (take (most - (step + 1)) (map trimmed (pieces_left 44 later)))))
after-by text wanted cell later most step number is h e f = at (nat_lt number step) refl f
  where
    rest : Bool
    rest =
        list_any (λ c. bytes_eq c wanted)
        (drop (number + 1 - (step + 1)) (take (most - (step + 1)) (map trimmed (pieces_left 44 later))))

    at :
        (past : Bool) → nat_lt number step ≡ past → (past && bytes_eq (trimmed cell) wanted) ≡ is
        → list_any (λ c. bytes_eq c wanted) (drop (number + 1 - step) (take (most - step) (cells_of text))) ≡ (is || rest)
    at true g k =
        let past : number < step = grind (arith, nat_tests) in
        tried-by text wanted cell later most step number h e past ∙ ap (λ b. b || rest) k
    at false g k =
        let first : step ≤ number = grind (arith, nat_tests) in
        passed-by text wanted cell later most step number h e first ∙ ap (λ b. b || rest) k

pub after_here :
    (text wanted cell : List ℕ) (later : Option (List ℕ)) (most step number : ℕ) → step < most
    → pieces 44 text ≡ cell ∷ pieces_left 44 later → (nat_lt number step && bytes_eq (trimmed cell) wanted) ≡ true
    → list_any (λ c. bytes_eq c wanted) (drop (number + 1 - step) (take (most - step) (cells_of text))) ≡ true
after_here text wanted cell later most step number h e f = after-by text wanted cell later most step number true h e f

pub after_later :
    (text wanted cell later : List ℕ) (most step number : ℕ) → step < most
    → pieces 44 text ≡ cell ∷ pieces_left 44 (Some later)
    → (nat_lt number step && bytes_eq (trimmed cell) wanted) ≡ false
    → list_any (λ c. bytes_eq c wanted) (drop (number + 1 - step) (take (most - step) (cells_of text)))
    ≡ list_any (λ c. bytes_eq c wanted) (drop (number + 1 - (step + 1)) (take (most - (step + 1)) (cells_of later)))
after_later text wanted cell later most step number h e f =
    after-by text wanted cell (Some later) most step number false h e f
    ∙ ap (λ cells. list_any (λ c. bytes_eq c wanted) (drop (number + 1 - (step + 1)) (take (most - (step + 1)) cells)))
    (cells_later later)

none-dropped : (number : ℕ) → drop {A = List ℕ} number [] ≡ []
none-dropped zero = refl
none-dropped (suc number) = refl

pub after_none :
    (text wanted cell : List ℕ) (most step number : ℕ) → step < most → pieces 44 text ≡ cell ∷ pieces_left 44 None
    → (nat_lt number step && bytes_eq (trimmed cell) wanted) ≡ false
    → list_any (λ c. bytes_eq c wanted) (drop (number + 1 - step) (take (most - step) (cells_of text))) ≡ false
after_none text wanted cell most step number h e f =
    after-by text wanted cell None most step number false h e f
    ∙ ap (λ cells. list_any (λ c. bytes_eq c wanted) (drop (number + 1 - (step + 1)) cells))
    (take-nil {A = List ℕ} (most - (step + 1)))
    ∙ ap (list_any (λ c. bytes_eq c wanted)) (none-dropped (number + 1 - (step + 1)))

pub after_past :
    (text wanted : List ℕ) (most step number : ℕ) → most ≤ step
    → list_any (λ c. bytes_eq c wanted) (drop (number + 1 - step) (take (most - step) (cells_of text))) ≡ false
after_past text wanted most step number h =
    let none : most - step ≡ 0 = omega arith in
    ap (λ n. list_any (λ c. bytes_eq c wanted) (drop (number + 1 - step) (take n (cells_of text)))) none
    ∙ ap (list_any (λ c. bytes_eq c wanted)) (none-dropped (number + 1 - step))
