-- Lists of rows, one for each line, put together in both orders.
use Rattle.std.proofs.Common.{◌≡◌, ◌≢◌, ℕ, zero, suc, ◌<◌, ◌≤◌, max, Bool, true, false, List, [], ◌∷◌, ◌++◌, map, length, take, drop, refl, sym, ap, ap₂, ◌∙◌, arith, append-nil, add-one, take_all, eqb, eqb-true, ne_eqb, ltb, ltb-true, ltb-false, le_trans, inl, inr}
use Rattle.std.specs.List.{AllByRecursion, flat_map}
use Rattle.std.proofs.lemmas.Bool.{cases_Bool, eqb-false}
use Rattle.std.proofs.lemmas.Grind.{flat_map-append}
use Rattle.std.proofs.lemmas.List.{map-append}
use Rattle.std.proofs.lemmas.List.Elements.{All-head, All-tail}
use Rattle.std.proofs.lemmas.Simd.{map-map}
use Rattle.std.proofs.Math.Nat.{le-max_left, le-max_right}
use Rattle.xb_model.specs.declared.line.TheConstants.{LINES}
use Rattle.xb_model.specs.Lines.{lines_below, row_line}
use Rattle.xb_model.specs.Records.{Run, rows_of}
use Rattle.xb_model.specs.Rows.{LoopRow}
use Rattle.xb_model.proofs.Lines.{of_line-all, of_line-append, of_line-none}
use Rattle.xb_model.proofs.LinesBelow.{lines_below-more, lines_below-none}
use Rattle.xb_calls.specs.declared.order.RowOrder.TheVariants.{ByLine, InTurn}
use Rattle.xb_calls.specs.declared.speed.Speed.{Speed}
use Rattle.xb_calls.specs.Calls.{AreCalls, DialledCall, IsCall}
use Rattle.xb_calls.specs.Dialling.{joined_lists, line_rows, line_runs, longest, numbers_on, on_line, rounds}
use Rattle.xb_calls.specs.Heard.{AreDialled, OrdersAreDialled}

-- rows of line l
abbrev pub AreOn : ℕ → List LoopRow → Type 0
AreOn l rows = AllByRecursion (λ row. row_line row ≡ l) rows

-- the lists of each line below n
abbrev pub lists_below : (ℕ → List LoopRow) → ℕ → List (List LoopRow)
lists_below own n = map own (lines_below n)

-- one list more
lists_below-more : (own : ℕ → List LoopRow) (n : ℕ)
    → lists_below own (suc n) ≡ lists_below own n ++ own n ∷ []
lists_below-more own n =
    ap (λ k. lists_below own k) (sym (add-one n)) ∙ ap (map own) (lines_below-more n)
    ∙ map-append own (lines_below n) (n ∷ [])

joined-more : (own : ℕ → List LoopRow) (n : ℕ)
    → joined_lists (lists_below own (suc n)) ≡ joined_lists (lists_below own n) ++ own n
joined-more own n =
    ap joined_lists (lists_below-more own n) ∙ flat_map-append (λ xs. xs) (lists_below own n) (own n ∷ [])
    ∙ ap (λ rows. joined_lists (lists_below own n) ++ rows) (append-nil (own n))

-- a line that is not below n has no row
pub rows-above : (own : ℕ → List LoopRow) → ((k : ℕ) → AreOn k (own k)) → (n l : ℕ) → n ≤ l
    → rows_of l (joined_lists (lists_below own n)) ≡ []
rows-above own on zero l above = ap (λ ks. rows_of l (joined_lists (map own ks))) lines_below-none
rows-above own on (suc n) l above =
    ap (rows_of l) (joined-more own n) ∙ of_line-append row_line l (joined_lists (lists_below own n)) (own n)
    ∙ ap₂ (λ xs ys. xs ++ ys) (rows-above own on n l (omega arith))
    (of_line-none row_line l n (own n) (on n) (ne_eqb n l (λ e. omega arith)))

-- the rows of a line below n are its list
pub rows-below : (own : ℕ → List LoopRow) → ((k : ℕ) → AreOn k (own k)) → (n l : ℕ) → l < n
    → rows_of l (joined_lists (lists_below own n)) ≡ own l
rows-below own on zero l below = absurd (omega arith)
rows-below own on (suc n) l below =
    ap (rows_of l) (joined-more own n) ∙ of_line-append row_line l (joined_lists (lists_below own n)) (own n)
    ∙ at (rows-below own on n l) (eqb n l) refl
  where
    at : (l < n → rows_of l (joined_lists (lists_below own n)) ≡ own l) → (last : Bool) → eqb n l ≡ last
        → rows_of l (joined_lists (lists_below own n)) ++ rows_of l (own n) ≡ own l
    at earlier true e =
        let same : n ≡ l = eqb-true n l e in
        ap₂ (λ xs ys. xs ++ ys) (rows-above own on n l (omega arith))
        (ap (λ k. rows_of k (own n)) (sym same) ∙ of_line-all row_line n (own n) (on n)) ∙ ap own same
    at earlier false e =
        let other : n ≢ l = eqb-false n l e in
        ap₂ (λ xs ys. xs ++ ys) (earlier (omega arith)) (of_line-none row_line l n (own n) (on n) e)
        ∙ append-nil (own l)

-- the first rows of lists, and the lists without them
first-rows : (own : ℕ → List LoopRow) (n : ℕ)
    → flat_map (take 1) (lists_below own n) ≡ joined_lists (lists_below (λ k. take 1 (own k)) n)
first-rows own n = of_lines (lines_below n)
  where
    of_lines : (ks : List ℕ) → flat_map (take 1) (map own ks) ≡ joined_lists (map (λ k. take 1 (own k)) ks)
    of_lines [] = refl
    of_lines (k ∷ ks) = ap (λ rows. take 1 (own k) ++ rows) (of_lines ks)

on-take : (l n : ℕ) (rows : List LoopRow) → AreOn l rows → AreOn l (take n rows)
on-take l zero rows on = tt
on-take l (suc n) [] on = tt
on-take l (suc n) (row ∷ rows) on = (on.0, on-take l n rows on.1)

on-rest : (l : ℕ) (rows : List LoopRow) → AreOn l rows → AreOn l (drop 1 rows)
on-rest l [] on = tt
on-rest l (row ∷ rows) on = on.1

-- a first item and those after it
take-first : (m : ℕ) (rows : List LoopRow) → take 1 rows ++ take m (drop 1 rows) ≡ take (suc m) rows
take-first zero [] = refl
take-first (suc m) [] = refl
take-first m (row ∷ rows) = refl

-- m rounds give m rows of each line
pub rounds-below : (m : ℕ) (own : ℕ → List LoopRow) → ((k : ℕ) → AreOn k (own k)) → (n l : ℕ) → l < n
    → rows_of l (rounds m (lists_below own n)) ≡ take m (own l)
unfolding rounds
rounds-below zero own on n l below = refl
rounds-below (suc m) own on n l below =
    of_line-append row_line l (flat_map (take 1) (lists_below own n))
    (rounds m (map (drop 1) (lists_below own n)))
    ∙ ap₂ (λ xs ys. xs ++ ys)
    (ap (rows_of l) (first-rows own n)
    ∙ rows-below (λ k. take 1 (own k)) (λ k. on-take k 1 (own k) (on k)) n l below)
    (ap (λ lists. rows_of l (rounds m lists)) (map-map (drop 1) own (lines_below n))
    ∙ rounds-below m (λ k. drop 1 (own k)) (λ k. on-rest k (own k) (on k)) n l below)
    ∙ take-first m (own l)

-- a line that is not below n has no row in any round
pub rounds-above : (m : ℕ) (own : ℕ → List LoopRow) → ((k : ℕ) → AreOn k (own k)) → (n l : ℕ) → n ≤ l
    → rows_of l (rounds m (lists_below own n)) ≡ []
unfolding rounds
rounds-above zero own on n l above = refl
rounds-above (suc m) own on n l above =
    of_line-append row_line l (flat_map (take 1) (lists_below own n))
    (rounds m (map (drop 1) (lists_below own n)))
    ∙ ap₂ (λ xs ys. xs ++ ys)
    (ap (rows_of l) (first-rows own n)
    ∙ rows-above (λ k. take 1 (own k)) (λ k. on-take k 1 (own k) (on k)) n l above)
    (ap (λ lists. rows_of l (rounds m lists)) (map-map (drop 1) own (lines_below n))
    ∙ rounds-above m (λ k. drop 1 (own k)) (λ k. on-rest k (own k) (on k)) n l above)

-- no list is longer than the longest
longest-append : (lists : List (List LoopRow)) (last : List LoopRow)
    → (longest lists ≤ longest (lists ++ last ∷ [])) × (length last ≤ longest (lists ++ last ∷ []))
longest-append [] last = (omega arith, le-max_left (length last) 0)
longest-append (xs ∷ lists) last =
    let (earlier, here) = longest-append lists last in (
      max-le-max (length xs) (longest lists) (longest (lists ++ last ∷ [])) earlier,
      le_trans here (le-max_right (length xs) (longest (lists ++ last ∷ []))),
    )
  where
    max-le-max : (a b c : ℕ) → b ≤ c → max a b ≤ max a c
    max-le-max a b c h = omega arith

pub length-longest : (own : ℕ → List LoopRow) (n l : ℕ) → l < n → length (own l) ≤ longest (lists_below own n)
length-longest own zero l below = absurd (omega arith)
length-longest own (suc n) l below =
    let (earlier, here) = longest-append (lists_below own n) (own n) in
    let more : longest (lists_below own (suc n))
    ≡ longest (lists_below own n ++ own n ∷ []) = ap longest (lists_below-more own n) in
    elim (cases_Bool (eqb n l)) [
      | inl e ↦
          let same : length (own n) ≡ length (own l) = ap (λ k. length (own k)) (eqb-true n l e) in
          omega (arith, more, here, same)
      | inr e ↦
          let other : n ≢ l = eqb-false n l e in
          let low = length-longest own n l (omega arith) in
          omega (arith, more, earlier, low)
    ]

-- the rows of a line are its own
pub on-line : (l : ℕ) (runs : List Run) → AreOn l (on_line l runs)
on-line l [] = tt
on-line l (run ∷ runs) = (refl, on-line l runs)

own-on : (speed : Speed) (calls : List DialledCall) (k : ℕ) → AreOn k (line_rows speed calls k)
own-on speed calls k = on-line k (line_runs speed (numbers_on k calls))

-- no call is on a line that the office does not have
no-numbers : (calls : List DialledCall) (l : ℕ) → AreCalls calls → LINES ≤ l → numbers_on l calls ≡ []
no-numbers [] l are above = refl
no-numbers (call ∷ calls) l are above =
    let below = (All-head IsCall call calls are).line in
    rw (ne_eqb call.line l (λ e. omega (arith, e, above, below)))
    (no-numbers calls l (All-tail IsCall call calls are) above)

-- of each line the rows are those that it dials, where they are for the lines of the office and there
-- are no others
of-all-lines : (speed : Speed) (calls : List DialledCall) (rows : List LoopRow) → AreCalls calls
    → ((l : ℕ) → l < LINES → rows_of l rows ≡ line_rows speed calls l)
    → ((l : ℕ) → LINES ≤ l → rows_of l rows ≡ [])
    → AreDialled speed calls rows
of-all-lines speed calls rows are below above l = at (ltb l LINES) refl
  where
    at : (low : Bool) → ltb l LINES ≡ low → rows_of l rows ≡ line_rows speed calls l
    at true e = below l (ltb-true l LINES e)
    at false e =
        let high : LINES ≤ l = ltb-false l LINES e in
        above l high ∙ sym (ap (λ numbers. on_line l (line_runs speed numbers)) (no-numbers calls l are high))

-- both orders
pub orders_are_dialled : OrdersAreDialled
orders_are_dialled ByLine speed calls are =
    of-all-lines speed calls _ are (rows-below (line_rows speed calls) (own-on speed calls) LINES)
    (rows-above (line_rows speed calls) (own-on speed calls) LINES)
orders_are_dialled InTurn speed calls are =
    let most = longest (lists_below (line_rows speed calls) LINES) in
    of-all-lines speed calls _ are
    (λ l below. rounds-below most (line_rows speed calls) (own-on speed calls) LINES l below
    ∙ take_all most (line_rows speed calls l) (length-longest (line_rows speed calls) LINES l below))
    (λ l above. rounds-above most (line_rows speed calls) (own-on speed calls) LINES l above)
