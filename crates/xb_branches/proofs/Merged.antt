-- Laws of lists that are merged by pieces.
use Rattle.std.proofs.Common.{◌≡◌, ◌≢◌, ℕ, zero, suc, ◌+◌, ◌-◌, ◌*◌, ◌/◌, ◌%◌, ◌<◌, ◌≤◌, Bool, true, false, cond, eqb, List, [], ◌∷◌, ◌++◌, refl, sym, ap, ◌∙◌, subst, ⊎_elim, arith, append-nil, append_assoc, count_by, add-zero, zero-add, ◌⊎◌, inl, inr, length, length-append, eq-eqb, ne_eqb, add-one}
use mathlib.Core.List.{IsPrefix}
use Rattle.std.specs.List.{flat_map, AllByRecursion, range_with_len}
use Rattle.std.proofs.lemmas.List.FromFn.{length-range_with_len, get_or-range_with_len}
use Rattle.std.proofs.lemmas.List.Sums.{prefix_len-le-length, prefix_len_passes, prefix_len_stops}
use Rattle.std.proofs.lemmas.Grind.{flat_map-append}
use Rattle.xb_branches.specs.Dealt.{dealt}
use Rattle.xb_branches.proofs.Deals.{dealt-push, dealt-none}
use Rattle.std.proofs.lemmas.Bool.{cases_Bool, cases_lt, cases_eq, cases_order, cond-true, cond-false, ltb-true, ltb-false}
use Rattle.std.proofs.lemmas.List.Sums.{sum_by-append, sum_by-cons}
use Rattle.std.proofs.lemmas.Nat.{mod-mul-add, div-mul-add, mod_below, div-add-mod'}
use Rattle.xb_branches.specs.Merged.{joined, piece, piece_at, ended_at, is_whole, stop, merged, IsMerged, IsPiece, Merges}
use Rattle.xb_flow.proofs.Prefixes.{prefix_same, prefix_cons, prefix_within, prefix_longer, prefix_on}

pub joined_same : {X : Type 0} (f g : ℕ → List X) (n : ℕ) → ((k : ℕ) → k < n → f k ≡ g k) → joined f n ≡ joined g n
joined_same f g zero h = refl
joined_same f g (suc n) h = ap (λ zs. zs ++ f n) (joined_same f g n (λ k l. h k (omega arith))) ∙ ap (λ zs. joined g n ++ zs) (h n (omega arith))

-- ---- pieces of one list
module _ {X : Type 0} (ends : X → Bool) where
  count_yes : (x : X) (xs : List X) → ends x ≡ true → count_by ends (x ∷ xs) ≡ 1 + count_by ends xs
  count_yes x xs t = sum_by-cons (λ y. cond (ends y) 1 0) x xs ∙ ap (λ b. cond b 1 0 + count_by ends xs) t

  count_no : (x : X) (xs : List X) → ends x ≡ false → count_by ends (x ∷ xs) ≡ count_by ends xs
  count_no x xs f = sum_by-cons (λ y. cond (ends y) 1 0) x xs ∙ ap (λ b. cond b 1 0 + count_by ends xs) f ∙ zero-add (count_by ends xs)

  pub count_push_yes : (xs : List X) (x : X) → ends x ≡ true → count_by ends (xs ++ x ∷ []) ≡ count_by ends xs + 1
  count_push_yes xs x t = sum_by-append (λ y. cond (ends y) 1 0) xs (x ∷ []) ∙ ap (λ m. count_by ends xs + m) (count_yes x [] t)

  pub count_push_no : (xs : List X) (x : X) → ends x ≡ false → count_by ends (xs ++ x ∷ []) ≡ count_by ends xs
  count_push_no xs x f = sum_by-append (λ y. cond (ends y) 1 0) xs (x ∷ []) ∙ ap (λ m. count_by ends xs + m) (count_no x [] f) ∙ add-zero (count_by ends xs)

  -- a piece that is ended stays
  pub piece-ended : (i : ℕ) (xs ys : List X) → i < count_by ends xs → piece ends i (xs ++ ys) ≡ piece ends i xs
  unfolding piece
  piece-ended i [] ys h = absurd (omega arith)
  piece-ended zero (x ∷ xs) ys h =
      ⊎_elim
      (λ t. rw t refl)
      (λ f. let k : zero < count_by ends xs = subst (λ m. zero < m) (count_no x xs f) h in rw f (ap (λ zs. x ∷ zs) (piece-ended zero xs ys k)))
      (cases_Bool (ends x))
  piece-ended (suc i) (x ∷ xs) ys h =
      ⊎_elim
      (λ t. let k : suc i < 1 + count_by ends xs = subst (λ m. suc i < m) (count_yes x xs t) h in rw t (piece-ended i xs ys (omega arith)))
      (λ f. let k : suc i < count_by ends xs = subst (λ m. suc i < m) (count_no x xs f) h in rw f (piece-ended (suc i) xs ys k))
      (cases_Bool (ends x))

  -- the piece that isn't ended grows
  pub piece-open : (i : ℕ) (xs : List X) (x : X) → count_by ends xs ≡ i → piece ends i (xs ++ x ∷ []) ≡ piece ends i xs ++ x ∷ []
  unfolding piece
  piece-open zero [] x h = ⊎_elim (λ t. rw t refl) (λ f. rw f refl) (cases_Bool (ends x))
  piece-open (suc i) [] x h = absurd (omega arith)
  piece-open zero (y ∷ ys) x h =
      ⊎_elim
      (λ t. let k : 1 + count_by ends ys ≡ 0 = sym (count_yes y ys t) ∙ h in absurd (omega (arith, k)))
      (λ f. let k : count_by ends ys ≡ 0 = sym (count_no y ys f) ∙ h in rw f (ap (λ zs. y ∷ zs) (piece-open zero ys x k)))
      (cases_Bool (ends y))
  piece-open (suc i) (y ∷ ys) x h =
      ⊎_elim
      (λ t. let k : 1 + count_by ends ys ≡ suc i = sym (count_yes y ys t) ∙ h in rw t (piece-open i ys x (omega (arith, k))))
      (λ f. let k : count_by ends ys ≡ suc i = sym (count_no y ys f) ∙ h in rw f (piece-open (suc i) ys x k))
      (cases_Bool (ends y))

  -- after the piece that isn't ended there is none
  pub piece-past : (i : ℕ) (xs : List X) → count_by ends xs < i → piece ends i xs ≡ []
  unfolding piece
  piece-past i [] h = refl
  piece-past zero (x ∷ xs) h = absurd (omega arith)
  piece-past (suc i) (x ∷ xs) h =
      ⊎_elim
      (λ t. let k : 1 + count_by ends xs < suc i = subst (λ m. m < suc i) (count_yes x xs t) h in rw t (piece-past i xs (omega (arith, k))))
      (λ f. let k : count_by ends xs < suc i = subst (λ m. m < suc i) (count_no x xs f) h in rw f (piece-past (suc i) xs k))
      (cases_Bool (ends x))

  -- nor once an item is added
  pub piece-past_push : (i : ℕ) (xs : List X) (x : X) → count_by ends xs < i → piece ends i (xs ++ x ∷ []) ≡ []
  unfolding piece
  piece-past_push zero xs x h = absurd (omega arith)
  piece-past_push (suc i) [] x h = ⊎_elim (λ t. rw t refl) (λ f. rw f refl) (cases_Bool (ends x))
  piece-past_push (suc i) (y ∷ ys) x h =
      ⊎_elim
      (λ t. let k : 1 + count_by ends ys < suc i = subst (λ m. m < suc i) (count_yes y ys t) h in rw t (piece-past_push i ys x (omega (arith, k))))
      (λ f. let k : count_by ends ys < suc i = subst (λ m. m < suc i) (count_no y ys f) h in rw f (piece-past_push (suc i) ys x k))
      (cases_Bool (ends y))

pub piece-none : {X : Type 0} (ends : X → Bool) (i : ℕ) → piece ends i [] ≡ []
unfolding piece
piece-none ends i = refl

-- ---- places in turn
same_turn : (n i k : ℕ) → i % n ≡ k % n → i < k → i / n < k / n
same_turn n i k same h =
    let a : i / n * n + i % n ≡ i = div-add-mod' i n in
    let b : k / n * n + k % n ≡ k = div-add-mod' k n in
    ⊎_elim
    (λ l. l)
    (λ (l : k / n ≤ i / n). let m : k / n * n ≤ i / n * n = grind arith in absurd (omega arith))
    (cases_lt (i / n) (k / n))

-- ---- n lists in turn
module _ {X : Type 0} (ends : X → Bool) (n : ℕ) (some : 0 < n) where
  unfoldable pub merged_from : (lists : ℕ → List X) (k : ℕ) (merged : List X) → Merges ends n lists k merged → IsMerged ends n lists merged
  merged_from lists k merged m = record { last = k; before = m.before; stops = m.past k (omega arith); pieces = m.pieces }

  pub merged_from-last : (lists : ℕ → List X) (k : ℕ) (items : List X) (m : Merges ends n lists k items) → (merged_from lists k items m).last ≡ k
  unfolding merged_from
  merged_from-last lists k items m = refl

  pub merges_none : (lists : ℕ → List X) → ((j : ℕ) → j < n → lists j ≡ []) → Merges ends n lists 0 []
  merges_none lists none = record {
    before = λ i h. absurd (omega arith);
    past = λ i h. rw (none (i % n) (mod_below i n some)) (omega arith);
    nothing = λ i h. rw (none (i % n) (mod_below i n some)) (piece-none ends (i / n));
    pieces = rw (none (0 % n) (mod_below 0 n some)) (sym (piece-none ends (0 / n)));
  }

  module _ (lists lists' : ℕ → List X) (k : ℕ) (merged : List X) (m : Merges ends n lists k merged) (x : X)
      (here : lists' (k % n) ≡ lists (k % n) ++ x ∷ []) (others : (j : ℕ) → j < n → j ≢ k % n → lists' j ≡ lists j) where
    count_here : count_by ends (lists (k % n)) ≡ k / n
    count_here =
        let p = k % n in
        let q = k / n in
        let most : count_by ends (lists p) ≤ q = m.past k (omega arith) in
        ⊎_elim
        (λ (z : q ≡ 0). omega arith)
        (λ (s : q ≢ 0).
        let i = (q - 1) * n + p in
        let whole : q * n + p ≡ k = div-add-mod' k n in
        let below : i < k = grind arith in
        let div : i / n ≡ q - 1 = div-mul-add (q - 1) n p (mod_below k n some) in
        let rest : i % n ≡ p = mod-mul-add (q - 1) n p (mod_below k n some) in
        let least : i / n < count_by ends (lists p) = subst (λ j. i / n < count_by ends (lists j)) rest (m.before i below) in
        omega arith)
        (cases_eq q 0)

    -- another list, or the one that grew
    turn_of : (i : ℕ) → (i % n ≡ k % n) ⊎ (lists' (i % n) ≡ lists (i % n))
    turn_of i = ⊎_elim (λ same. inl same) (λ other. inr (others (i % n) (mod_below i n some) other)) (cases_eq (i % n) (k % n))

    here_at : (i : ℕ) → i % n ≡ k % n → lists' (i % n) ≡ lists (i % n) ++ x ∷ []
    here_at i same = ap lists' same ∙ here ∙ ap (λ j. lists j ++ x ∷ []) (sym same)

    count_at : (i : ℕ) → i % n ≡ k % n → count_by ends (lists (i % n)) ≡ k / n
    count_at i same = ap (λ j. count_by ends (lists j)) same ∙ count_here

    pieces_before : (i : ℕ) → i < k → piece_at ends n lists' i ≡ piece_at ends n lists i
    pieces_before i h =
        ⊎_elim
        (λ same. ap (piece ends (i / n)) (here_at i same) ∙ piece-ended ends (i / n) (lists (i % n)) (x ∷ []) (m.before i h))
        (λ other. ap (piece ends (i / n)) other)
        (turn_of i)

    piece_here : piece_at ends n lists' k ≡ piece_at ends n lists k ++ x ∷ []
    piece_here = ap (piece ends (k / n)) here ∙ piece-open ends (k / n) (lists (k % n)) x count_here

    pieces_past : (i : ℕ) → k < i → piece_at ends n lists' i ≡ []
    pieces_past i h =
        ⊎_elim
        (λ same.
        let more : k / n < i / n = same_turn n k i (sym same) h in
        ap (piece ends (i / n)) (here_at i same) ∙ piece-past_push ends (i / n) (lists (i % n)) x (subst (λ c. c < i / n) (sym (count_at i same)) more))
        (λ other. ap (piece ends (i / n)) other ∙ m.nothing i h)
        (turn_of i)

    joined_more : joined (piece_at ends n lists') (suc k) ≡ merged ++ x ∷ []
    joined_more =
        ap (λ zs. zs ++ piece_at ends n lists' k) (joined_same (piece_at ends n lists') (piece_at ends n lists) k pieces_before)
        ∙ ap (λ zs. joined (piece_at ends n lists) k ++ zs) piece_here
        ∙ sym (append_assoc (joined (piece_at ends n lists) k) (piece_at ends n lists k) (x ∷ []))
        ∙ ap (λ zs. zs ++ x ∷ []) (sym m.pieces)

    -- an item that doesn't end a piece
    pub merges_item : ends x ≡ false → Merges ends n lists' k (merged ++ x ∷ [])
    merges_item f =
        let same_count : (i : ℕ) → ended_at ends n lists' i ≡ ended_at ends n lists i = λ i.
        ⊎_elim (λ same. ap (count_by ends) (here_at i same) ∙ count_push_no ends (lists (i % n)) x f) (λ other. ap (count_by ends) other) (turn_of i) in
        record {
          before = λ i h. subst (λ c. i / n < c) (sym (same_count i)) (m.before i h);
          past = λ i h. subst (λ c. c ≤ i / n) (sym (same_count i)) (m.past i h);
          nothing = pieces_past;
          pieces = sym joined_more;
        }

    grown : lists' (k % n) ≡ lists (k % n) → ⊥
    grown e = let l : length (lists (k % n)) ≡ length (lists (k % n)) + 1 = ap length (sym e ∙ here) ∙ length-append (lists (k % n)) (x ∷ []) in omega arith

    before_or : (i : ℕ) → i < suc k → lists' (i % n) ≡ lists (i % n) → i / n < ended_at ends n lists i
    before_or i h other =
        ⊎_elim
        (λ (e : i ≡ k). absurd (grown (subst (λ j. lists' (j % n) ≡ lists (j % n)) e other)))
        (λ (d : i ≢ k). m.before i (omega arith))
        (cases_eq i k)

    upto : (i : ℕ) → i < suc k → i % n ≡ k % n → i / n < k / n + 1
    upto i h same =
        ⊎_elim
        (λ (e : i ≡ k). subst (λ j. j / n < k / n + 1) (sym e) (omega arith))
        (λ (d : i ≢ k). let l = same_turn n i k same (omega arith) in omega arith)
        (cases_eq i k)

    -- an item that ends one
    pub merges_end : ends x ≡ true → Merges ends n lists' (suc k) (merged ++ x ∷ [])
    merges_end t =
        let here_count : (i : ℕ) → i % n ≡ k % n → ended_at ends n lists' i ≡ k / n + 1 = λ i same.
        ap (count_by ends) (here_at i same) ∙ (count_push_yes ends (lists (i % n)) x t ∙ ap (λ c. c + 1) (count_at i same)) in
        record {
          before = λ i h.
              ⊎_elim
              (λ same. subst (λ c. i / n < c) (sym (here_count i same)) (upto i h same))
              (λ other. subst (λ c. i / n < c) (sym (ap (count_by ends) other)) (before_or i h other))
              (turn_of i);
          past = λ i h.
              ⊎_elim
              (λ same. subst (λ c. c ≤ i / n) (sym (here_count i same)) (let l = same_turn n k i (sym same) h in omega arith))
              (λ other. subst (λ c. c ≤ i / n) (sym (ap (count_by ends) other)) (m.past i (omega arith)))
              (turn_of i);
          nothing = λ i h. pieces_past i (omega arith);
          pieces = sym (ap (λ zs. joined (piece_at ends n lists') (suc k) ++ zs) (pieces_past (suc k) (omega arith)) ∙ append-nil _ ∙ joined_more);
        }

  -- a whole piece
  pub merges_piece : (front : List X) (e : X) → AllByRecursion (λ y. ends y ≡ false) front → ends e ≡ true
      → (lists lists' : ℕ → List X) (k : ℕ) (merged : List X) → Merges ends n lists k merged
      → lists' (k % n) ≡ lists (k % n) ++ (front ++ e ∷ []) → ((j : ℕ) → j < n → j ≢ k % n → lists' j ≡ lists j)
      → Merges ends n lists' (suc k) (merged ++ (front ++ e ∷ []))
  merges_piece [] e none t lists lists' k merged m here others = merges_end lists lists' k merged m e here others t
  merges_piece (y ∷ ys) e none t lists lists' k merged m here others =
      let p = k % n in
      let mid : ℕ → List X = λ j. cond (eqb j p) (lists j ++ y ∷ []) (lists j) in
      let mid_here : mid p ≡ lists p ++ y ∷ [] = cond-true (eqb p p) (lists p ++ y ∷ []) (lists p) (eq-eqb p p refl) in
      let mid_other : (j : ℕ) → j < n → j ≢ p → mid j ≡ lists j = λ j h d. cond-false (eqb j p) (lists j ++ y ∷ []) (lists j) (ne_eqb j p d) in
      let step : Merges ends n mid k (merged ++ y ∷ []) = merges_item lists mid k merged m y mid_here mid_other none.0 in
      let more : lists' p ≡ mid p ++ (ys ++ e ∷ []) = here ∙ (sym (append_assoc (lists p) (y ∷ []) (ys ++ e ∷ [])) ∙ ap (λ zs. zs ++ (ys ++ e ∷ [])) (sym mid_here)) in
      subst (Merges ends n lists' (suc k)) (append_assoc merged (y ∷ []) (ys ++ e ∷ []))
      (merges_piece ys e none.1 t mid lists' k (merged ++ y ∷ []) step more (λ j h d. others j h d ∙ sym (mid_other j h d)))

  -- ---- the images of dealt items
  module _ {I : Type 0} (f : I → List X) (whole : (x : I) → IsPiece ends (f x)) where
    images : List I → ℕ → List X
    images xs j = flat_map f (dealt n j xs)

    images_push : (xs : List I) (x : I) (j : ℕ) → flat_map f (dealt n j (xs ++ x ∷ [])) ≡ flat_map f (dealt n j xs) ++ flat_map f (cond (eqb (length xs % n) j) (x ∷ []) [])
    images_push xs x j = ap (flat_map f) (dealt-push n j xs x) ∙ flat_map-append f (dealt n j xs) (cond (eqb (length xs % n) j) (x ∷ []) [])

    merges_more : (xs : List I) (x : I) → Merges ends n (λ j. flat_map f (dealt n j xs)) (length xs) (flat_map f xs) → Merges ends n (λ j. flat_map f (dealt n j (xs ++ x ∷ []))) (length (xs ++ x ∷ [])) (flat_map f (xs ++ x ∷ []))
    merges_more xs x m =
        let w = whole x in
        let p = length xs % n in
        let k : length (xs ++ x ∷ []) ≡ suc (length xs) = length-append xs (x ∷ []) ∙ add-one (length xs) in
        let here : flat_map f (dealt n p (xs ++ x ∷ [])) ≡ flat_map f (dealt n p xs) ++ (w.front ++ w.last ∷ []) =
        images_push xs x p ∙ ap (λ zs. flat_map f (dealt n p xs) ++ flat_map f zs) (cond-true (eqb p p) (x ∷ []) [] (eq-eqb p p refl)) ∙ ap (λ zs. flat_map f (dealt n p xs) ++ zs) (append-nil (f x) ∙ w.is) in
        let others : (j : ℕ) → j < n → j ≢ p → flat_map f (dealt n j (xs ++ x ∷ [])) ≡ flat_map f (dealt n j xs) =
        λ j h d. images_push xs x j ∙ ap (λ zs. flat_map f (dealt n j xs) ++ flat_map f zs) (cond-false (eqb p j) (x ∷ []) [] (ne_eqb p j (λ e. d (sym e)))) ∙ append-nil (flat_map f (dealt n j xs)) in
        let all : flat_map f (xs ++ x ∷ []) ≡ flat_map f xs ++ (w.front ++ w.last ∷ []) = flat_map-append f xs (x ∷ []) ∙ ap (λ zs. flat_map f xs ++ zs) (append-nil (f x) ∙ w.is) in
        rw (k, all) (merges_piece w.front w.last w.goes w.ended (λ j. flat_map f (dealt n j xs)) (λ j. flat_map f (dealt n j (xs ++ x ∷ []))) (length xs) (flat_map f xs) m here others)

    merges_on : (done rest : List I) → Merges ends n (λ j. flat_map f (dealt n j done)) (length done) (flat_map f done) → Merges ends n (λ j. flat_map f (dealt n j (done ++ rest))) (length (done ++ rest)) (flat_map f (done ++ rest))
    merges_on done [] m = subst (λ (zs : List I). Merges ends n (λ j. flat_map f (dealt n j zs)) (length zs) (flat_map f zs)) (sym (append-nil done)) m
    merges_on done (x ∷ rest) m =
        subst (λ (zs : List I). Merges ends n (λ j. flat_map f (dealt n j zs)) (length zs) (flat_map f zs)) (append_assoc done (x ∷ []) rest) (merges_on (done ++ x ∷ []) rest (merges_more done x m))

    -- merging what the dealt items give is what all items give
    merges_whole : (xs : List I) → IsMerged ends n (λ j. flat_map f (dealt n j xs)) (flat_map f xs)
    merges_whole xs = merged_from (λ j. flat_map f (dealt n j xs)) (length xs) (flat_map f xs)
        (merges_on [] xs (merges_none (λ j. flat_map f (dealt n j [])) (λ j h. ap (flat_map f) (dealt-none {X = I} n j))))

-- ---- the merged items
-- where two say what is merged, they stop at the same piece
pub stop_once : {X : Type 0} (ends : X → Bool) (n : ℕ) (lists : ℕ → List X) (a b : List X) → (h : IsMerged ends n lists a) → (k : IsMerged ends n lists b) → h.last ≡ k.last
stop_once ends n lists a b h k =
    ⊎_elim
    (λ e. e)
    (⊎_elim
    (λ (l : h.last < k.last). let p = k.before h.last l in let q = h.stops in absurd (omega arith))
    (λ (l : k.last < h.last). let p = h.before k.last l in let q = k.stops in absurd (omega arith)))
    (cases_order h.last k.last)

-- and say the same
pub merged_once : {X : Type 0} (ends : X → Bool) (n : ℕ) (lists : ℕ → List X) (a b : List X) → IsMerged ends n lists a → IsMerged ends n lists b → a ≡ b
merged_once ends n lists a b h k =
    h.pieces ∙ (ap (λ m. joined (piece_at ends n lists) (suc m)) (stop_once ends n lists a b h k) ∙ sym k.pieces)

module _ {X : Type 0} (ends : X → Bool) (n : ℕ) (some : 0 < n) (lists : ℕ → List X) where
  most : ℕ
  most = n * ended_at ends n lists 0

  pub stop_within : stop ends n lists ≤ n * ended_at ends n lists 0
  stop_within = subst (λ m. stop ends n lists ≤ m) (length-range_with_len 0 (n * ended_at ends n lists 0)) (prefix_len-le-length (is_whole ends n lists) (range_with_len 0 (n * ended_at ends n lists 0)))

  pub before_stop : (k : ℕ) → k < stop ends n lists → k / n < ended_at ends n lists k
  before_stop k h =
      let m = n * ended_at ends n lists 0 in
      let within : k < m = (let s = stop_within in omega arith) in
      let whole : is_whole ends n lists k ≡ true = ap (is_whole ends n lists) (sym (get_or-range_with_len 0 m k 0 within ∙ zero-add k)) ∙ prefix_len_passes (is_whole ends n lists) (range_with_len 0 m) k 0 h in
      ltb-true _ _ whole

  pub at_stop : ended_at ends n lists (stop ends n lists) ≤ stop ends n lists / n
  at_stop =
      let c = ended_at ends n lists 0 in
      let m = n * c in
      let s = stop ends n lists in
      ⊎_elim
      (λ (h : s < m).
      let long : s < length (range_with_len 0 m) = subst (λ l. s < l) (sym (length-range_with_len 0 m)) h in
      let not_whole : is_whole ends n lists s ≡ false = ap (is_whole ends n lists) (sym (get_or-range_with_len 0 m s 0 h ∙ zero-add s)) ∙ prefix_len_stops (is_whole ends n lists) (range_with_len 0 m) 0 long in
      ltb-false _ _ not_whole)
      (λ (h : m ≤ s).
      let last : s ≡ c * n + 0 = (let w = stop_within in grind arith) in
      let div : s / n ≡ c = ap (λ k. k / n) last ∙ div-mul-add c n 0 some in
      let rest : s % n ≡ 0 % n = ap (λ k. k % n) last ∙ (mod-mul-add c n 0 some ∙ sym (ap (λ k. k % n) (let z : 0 ≡ 0 * n + 0 = grind arith in z) ∙ mod-mul-add 0 n 0 some)) in
      let ended : ended_at ends n lists s ≡ c = ap (λ j. count_by ends (lists j)) rest in
      omega (arith, div, ended))
      (cases_lt s m)

  -- the merged items are what the relation says
  unfoldable pub merged_is : IsMerged ends n lists (merged ends n lists)
  merged_is = record { last = stop ends n lists; before = before_stop; stops = at_stop; pieces = refl }

  pub merged_is-last : merged_is.last ≡ stop ends n lists
  unfolding merged_is
  merged_is-last = refl

-- ---- prefixes
module _ {X : Type 0} (ends : X → Bool) where
  piece_prefix : (i : ℕ) (xs ys : List X) → IsPrefix (piece ends i xs) (piece ends i (xs ++ ys))
  unfolding piece
  piece_prefix i [] ys = (piece ends i ys, refl)
  piece_prefix zero (x ∷ xs) ys =
      ⊎_elim
      (λ t. rw t (prefix_same (x ∷ []) (x ∷ []) refl))
      (λ f. rw f (prefix_cons x (piece ends zero xs) (piece ends zero (xs ++ ys)) (piece_prefix zero xs ys)))
      (cases_Bool (ends x))
  piece_prefix (suc i) (x ∷ xs) ys =
      ⊎_elim (λ t. rw t (piece_prefix i xs ys)) (λ f. rw f (piece_prefix (suc i) xs ys)) (cases_Bool (ends x))

  pub count_prefix : (xs ys : List X) → IsPrefix xs ys → count_by ends xs ≤ count_by ends ys
  count_prefix xs ys p = subst (λ zs. count_by ends xs ≤ count_by ends zs) p.1 (let e = sum_by-append (λ y. cond (ends y) 1 0) xs p.0 in omega (arith, e))

  module _ (n : ℕ) (some : 0 < n) (lists' lists : ℕ → List X) (front : (j : ℕ) → j < n → IsPrefix (lists' j) (lists j)) where
    piece_at_prefix : (k : ℕ) → IsPrefix (piece_at ends n lists' k) (piece_at ends n lists k)
    piece_at_prefix k =
        let p = front (k % n) (mod_below k n some) in
        subst (λ zs. IsPrefix (piece_at ends n lists' k) (piece ends (k / n) zs)) p.1 (piece_prefix (k / n) (lists' (k % n)) p.0)

    pub piece_at_same : (k : ℕ) → k / n < ended_at ends n lists' k → piece_at ends n lists' k ≡ piece_at ends n lists k
    piece_at_same k h =
        let p = front (k % n) (mod_below k n some) in
        sym (piece-ended ends (k / n) (lists' (k % n)) p.0 h) ∙ ap (piece ends (k / n)) p.1

    joined_longer : (f : ℕ → List X) (a more : ℕ) → IsPrefix (joined f a) (joined f (more + a))
    joined_longer f a zero = prefix_same (joined f a) (joined f (0 + a)) (ap (joined f) (sym (zero-add a)))
    joined_longer f a (suc more) = subst (λ m. IsPrefix (joined f a) (joined f m)) (let e : suc (more + a) ≡ suc more + a = omega arith in e) (prefix_longer (joined f a) (joined f (more + a)) (f (more + a)) (joined_longer f a more))

    -- merging prefixes gives a prefix
    merges_prefix : (us bs : List X) → IsMerged ends n lists' us → IsMerged ends n lists bs → IsPrefix us bs
    merges_prefix us bs a b =
        let least : a.last ≤ b.last =
        ⊎_elim
        (λ (l : b.last < a.last).
        let x = a.before b.last l in
        let y = b.stops in
        let z = count_prefix (lists' (b.last % n)) (lists (b.last % n)) (front (b.last % n) (mod_below b.last n some)) in
        absurd (omega arith))
        (λ l. l)
        (cases_lt b.last a.last) in
        let f = piece_at ends n lists' in
        let g = piece_at ends n lists in
        let up : joined f a.last ≡ joined g a.last = joined_same f g a.last (λ k h. piece_at_same k (a.before k h)) in
        let one : IsPrefix (joined f a.last ++ f a.last) (joined g (suc a.last)) =
        subst (λ zs. IsPrefix (zs ++ f a.last) (joined g (suc a.last))) (sym up) (prefix_within (joined g a.last) (f a.last) (g a.last) (piece_at_prefix a.last)) in
        let long : IsPrefix (joined g (suc a.last)) (joined g (suc b.last)) =
        subst (λ m. IsPrefix (joined g (suc a.last)) (joined g m)) (let e : (b.last - a.last) + suc a.last ≡ suc b.last = omega arith in e) (joined_longer g (suc a.last) (b.last - a.last)) in
        rw (a.pieces, b.pieces) (prefix_on (joined f (suc a.last)) (joined g (suc a.last)) (joined g (suc b.last)) one long)

    pub merged_prefix : IsPrefix (merged ends n lists') (merged ends n lists)
    merged_prefix = merges_prefix (merged ends n lists') (merged ends n lists) (merged_is ends n some lists') (merged_is ends n some lists)

  -- lists that are the same are merged to the same
  module _ (n : ℕ) (some : 0 < n) (lists' lists : ℕ → List X) (same : (j : ℕ) → j < n → lists' j ≡ lists j) where
    at_turn : (k : ℕ) → lists' (k % n) ≡ lists (k % n)
    at_turn k = same (k % n) (mod_below k n some)

    pub merged_same : merged ends n lists' ≡ merged ends n lists
    merged_same =
        let last = stop ends n lists' in
        let on : IsMerged ends n lists (merged ends n lists') = record {
          last = last;
          before = λ k h. subst (λ xs. k / n < count_by ends xs) (at_turn k) (before_stop ends n some lists' k h);
          stops = subst (λ xs. count_by ends xs ≤ last / n) (at_turn last) (at_stop ends n some lists');
          pieces = joined_same (piece_at ends n lists') (piece_at ends n lists) (suc last) (λ k h. ap (piece ends (k / n)) (at_turn k));
        } in
        merged_once ends n lists (merged ends n lists') (merged ends n lists) on (merged_is ends n some lists)

  -- where each item gives one piece, merging what the dealt items give is what all items give
  pub merged_whole : {I : Type 0} (n : ℕ) (some : 0 < n) (f : I → List X) → ((x : I) → IsPiece ends (f x)) → (xs : List I)
      → merged ends n (λ j. flat_map f (dealt n j xs)) ≡ flat_map f xs
  merged_whole n some f whole xs =
      let lists : ℕ → List X = λ j. flat_map f (dealt n j xs) in
      merged_once ends n lists (merged ends n lists) (flat_map f xs) (merged_is ends n some lists) (merges_whole ends n some f whole xs)
