-- Rounds of lists, from which empty lists are left out.
use Rattle.std.proofs.Common.{◌≡◌, ℕ, zero, suc, ◌+◌, ◌<◌, ◌≤◌, max, List, [], ◌∷◌, ◌++◌, map, length, take, drop, refl, sym, ap, ap₂, ◌∙◌, arith, le_trans, lt_of_le_of_lt, subst, append_assoc, append-nil}
use Rattle.std.specs.List.{flat_map}
use Rattle.std.proofs.Math.Nat.{le-max_left, le-max_right}
use Rattle.xb_model.specs.Rows.{LoopRow}
use Rattle.xb_calls.specs.Dialling.{in_turn, longest, rounds}
use Rattle.xb_calls.specs.LineRows.{without_empty}

-- the items of lists, and the lists
abbrev pub items_and_lists : {A : Type 0} → List (List A) → ℕ
items_and_lists [] = 0
items_and_lists (xs ∷ lists) = length xs + 1 + items_and_lists lists

module _ {A : Type 0} where
  -- where no list has an item, a round gives none
  no-firsts : (lists : List (List A)) → longest lists ≤ 0 → flat_map (take 1) lists ≡ []
  no-firsts [] h = refl
  no-firsts ([] ∷ lists) h = no-firsts lists (le_trans (le-max_right 0 (longest lists)) h)
  no-firsts ((x ∷ xs) ∷ lists) h =
      let low = le_trans (le-max_left (length (x ∷ xs)) (longest lists)) h in
      absurd (omega (arith, low))

  -- without its first item a list is no longer
  longest-rest : (lists : List (List A)) (m : ℕ) → longest lists ≤ suc m → longest (map (drop 1) lists) ≤ m
  longest-rest [] m h = omega arith
  longest-rest ([] ∷ lists) m h =
      let rest = longest-rest lists m (le_trans (le-max_right 0 (longest lists)) h) in
      omega (arith, rest)
  longest-rest ((x ∷ xs) ∷ lists) m h =
      let rest = longest-rest lists m (le_trans (le-max_right (length (x ∷ xs)) (longest lists)) h) in
      let first = le_trans (le-max_left (length (x ∷ xs)) (longest lists)) h in
      omega (arith, rest, first)

  -- rounds after the last item give nothing
  rounds-enough : (m n : ℕ) (lists : List (List A)) → longest lists ≤ m → longest lists ≤ n
      → rounds m lists ≡ rounds n lists
  unfolding rounds
  rounds-enough zero zero lists hm hn = refl
  rounds-enough zero (suc n) lists hm hn =
      let none : longest (map (drop 1) lists) ≤ 0 = longest-rest lists 0 (omega (arith, hm)) in
      ap₂ (λ xs ys. xs ++ ys) (sym (no-firsts lists hm))
      (rounds-enough zero n (map (drop 1) lists) none (omega (arith, none)))
  rounds-enough (suc m) zero lists hm hn =
      let none : longest (map (drop 1) lists) ≤ 0 = longest-rest lists 0 (omega (arith, hn)) in
      ap₂ (λ xs ys. xs ++ ys) (no-firsts lists hn)
      (rounds-enough m zero (map (drop 1) lists) (omega (arith, none)) none)
  rounds-enough (suc m) (suc n) lists hm hn =
      ap (λ ys. flat_map (take 1) lists ++ ys)
      (rounds-enough m n (map (drop 1) lists) (longest-rest lists m hm) (longest-rest lists n hn))

  -- an empty list has no first item
  firsts-without_empty : (lists : List (List A))
      → flat_map (take 1) (without_empty lists) ≡ flat_map (take 1) lists
  firsts-without_empty [] = refl
  firsts-without_empty ([] ∷ lists) = firsts-without_empty lists
  firsts-without_empty ((x ∷ xs) ∷ lists) = ap (λ ys. x ∷ ys) (firsts-without_empty lists)

  -- and leaves an empty one
  rests-without_empty : (lists : List (List A))
      → without_empty (map (drop 1) (without_empty lists)) ≡ without_empty (map (drop 1) lists)
  rests-without_empty [] = refl
  rests-without_empty ([] ∷ lists) = rests-without_empty lists
  rests-without_empty ((x ∷ []) ∷ lists) = rests-without_empty lists
  rests-without_empty ((x ∷ y ∷ xs) ∷ lists) = ap (λ rests. (y ∷ xs) ∷ rests) (rests-without_empty lists)

  -- so rounds are the same without empty lists
  rounds-without_empty : (m : ℕ) (lists : List (List A)) → rounds m (without_empty lists) ≡ rounds m lists
  unfolding rounds
  rounds-without_empty zero lists = refl
  rounds-without_empty (suc m) lists =
      ap₂ (λ xs ys. xs ++ ys) (firsts-without_empty lists)
      (sym (rounds-without_empty m (map (drop 1) (without_empty lists)))
      ∙ ap (rounds m) (rests-without_empty lists)
      ∙ rounds-without_empty m (map (drop 1) lists))

  longest-without_empty : (lists : List (List A)) → longest (without_empty lists) ≡ longest lists
  longest-without_empty [] = refl
  longest-without_empty ([] ∷ lists) =
      let same = longest-without_empty lists in
      omega (arith, same)
  longest-without_empty ((x ∷ xs) ∷ lists) = ap (max (length (x ∷ xs))) (longest-without_empty lists)

  in_turn-without_empty : (lists : List (List A)) → in_turn (without_empty lists) ≡ in_turn lists
  in_turn-without_empty lists =
      ap (λ n. rounds n (without_empty lists)) (longest-without_empty lists)
      ∙ rounds-without_empty (longest lists) lists

  -- a round, and then the others
  rounds-more : (lists : List (List A))
      → in_turn lists ≡ flat_map (take 1) lists ++ in_turn (map (drop 1) lists)
  unfolding rounds
  rounds-more lists =
      let n = longest lists in
      let rest : longest (map (drop 1) lists) ≤ n = longest-rest lists n (omega arith) in
      rounds-enough n (suc n) lists (omega arith) (omega arith)
      ∙ ap (λ ys. flat_map (take 1) lists ++ ys)
      (rounds-enough n (longest (map (drop 1) lists)) (map (drop 1) lists) rest (omega arith))

  pub in_turn-round : (lists : List (List A))
      → in_turn lists ≡ flat_map (take 1) lists ++ in_turn (without_empty (map (drop 1) lists))
  in_turn-round lists = rounds-more lists
      ∙ ap (λ ys. flat_map (take 1) lists ++ ys) (sym (in_turn-without_empty (map (drop 1) lists)))

  -- a round leaves no more than there was
  rest-no-more : (lists : List (List A))
      → items_and_lists (without_empty (map (drop 1) lists)) ≤ items_and_lists lists
  rest-no-more [] = omega arith
  rest-no-more ([] ∷ lists) = le_trans (rest-no-more lists) (omega arith)
  rest-no-more ((x ∷ []) ∷ lists) = le_trans (rest-no-more lists) (omega arith)
  rest-no-more ((x ∷ y ∷ xs) ∷ lists) = let rest = rest-no-more lists in omega (arith, rest)

  -- and less, where there is a list
  pub rest-less : (xs : List A) (lists : List (List A))
      → items_and_lists (without_empty (map (drop 1) (xs ∷ lists))) < items_and_lists (xs ∷ lists)
  rest-less [] lists = lt_of_le_of_lt (rest-no-more lists) (omega arith)
  rest-less (x ∷ []) lists = lt_of_le_of_lt (rest-no-more lists) (omega arith)
  rest-less (x ∷ y ∷ xs) lists = let rest = rest-no-more lists in omega (arith, rest)

-- what is left of lists after a round is less
pub turn-smaller : (lists left : List (List LoopRow)) → 0 < length lists
    → left ≡ without_empty (map (drop 1) lists)
    → items_and_lists left < items_and_lists lists
turn-smaller [] left some is = absurd (omega arith)
turn-smaller (xs ∷ lists) left some is =
    subst (λ rest. items_and_lists rest < items_and_lists (xs ∷ lists)) (sym is) (rest-less xs lists)

-- the rows so far, and those of the rounds to come, after a round more
pub turn-more : (lists left : List (List LoopRow)) (rows next whole : List LoopRow)
    → rows ++ in_turn lists ≡ whole
    → next ≡ rows ++ flat_map (take 1) lists → left ≡ without_empty (map (drop 1) lists)
    → next ++ in_turn left ≡ whole
turn-more lists left rows next whole so_far taken is =
    ap₂ (λ xs ys. xs ++ in_turn ys) taken is
    ∙ append_assoc rows (flat_map (take 1) lists) (in_turn (without_empty (map (drop 1) lists)))
    ∙ ap (λ more. rows ++ more) (sym (in_turn-round lists))
    ∙ so_far

-- no list, no rows
pub turn-last : (lists : List (List LoopRow)) (rows whole : List LoopRow) → rows ++ in_turn lists ≡ whole
    → length lists ≡ 0
    → rows ≡ whole
unfolding rounds
turn-last [] rows whole so_far none = sym (append-nil rows) ∙ so_far
turn-last (xs ∷ lists) rows whole so_far none = absurd (omega arith)
