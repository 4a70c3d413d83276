-- Ranges that take all lines make parts that have all rows.
use Rattle.std.proofs.Common.{◌≡◌, ◌<◌, ℕ, Bool, true, false, ◌&&◌, eqb, leb, ltb, List, [], ◌∷◌, map, refl, ap, ◌∙◌, arith, sym, ⊎_elim}
use Rattle.std.proofs.lemmas.Bool.{and_from, and_left, and_right, both_ways, cases_Bool, cond-true, cond-false, eqb-true, le-leb, le-ltb, lt-leb, lt-ltb}
use Rattle.xb_model.specs.declared.line.TheConstants.{LINES}
use Rattle.xb_model.specs.Records.{rows_of}
use Rattle.xb_model.specs.Rows.{LoopRow}
use Rattle.xb_parts.specs.Parts.{AreParts, IsPartOf}
use Rattle.xb_parts.specs.declared.range.LineRange.{LineRange}
use Rattle.xb_parts.specs.Ranges.{Cover, RangesMakeParts, part_with, rows_in}

-- whether a line is in a range
abbrev is_in : LineRange → ℕ → Bool
is_in range l = leb range.first l && ltb l range.end

module _ (range : LineRange) (l : ℕ) where
  own-cons : (is_in range l ≡ true) → (row : LoopRow) (rows : List LoopRow) → rows_of l (rows_in range rows) ≡ rows_of l rows
      → rows_of l (rows_in range (row ∷ rows)) ≡ rows_of l (row ∷ rows)
  own-cons inside row rows rest =
      ⊎_elim
      (λ t.
      ap (rows_of l) (cond-true _ _ _ (ap (is_in range) (eqb-true row.line l t) ∙ inside))
      ∙ cond-true _ _ _ t ∙ ap (λ rs. row ∷ rs) rest ∙ sym (cond-true _ _ _ t))
      (λ f.
      ⊎_elim
      (λ here. ap (rows_of l) (cond-true _ _ _ here) ∙ cond-false _ _ _ f ∙ rest ∙ sym (cond-false _ _ _ f))
      (λ away. ap (rows_of l) (cond-false _ _ _ away) ∙ rest ∙ sym (cond-false _ _ _ f))
      (cases_Bool (is_in range row.line)))
      (cases_Bool (eqb row.line l))

  -- a line of the range has all its rows there
  own_rows : (is_in range l ≡ true) → (rows : List LoopRow) → rows_of l (rows_in range rows) ≡ rows_of l rows
  own_rows inside [] = refl
  own_rows inside (row ∷ rows) = own-cons inside row rows (own_rows inside rows)

  -- another line has none
  no_rows : (is_in range l ≡ false) → (rows : List LoopRow) → rows_of l (rows_in range rows) ≡ []
  no_rows outside [] = refl
  no_rows outside (row ∷ rows) =
      ⊎_elim
      (λ here.
      ap (rows_of l) (cond-true _ _ _ here)
      ∙ ⊎_elim
      (λ t. absurd (both_ways (is_in range l) outside (ap (is_in range) (sym (eqb-true row.line l t)) ∙ here)))
      (λ f. cond-false _ _ _ f ∙ no_rows outside rows)
      (cases_Bool (eqb row.line l)))
      (λ away. ap (rows_of l) (cond-false _ _ _ away) ∙ no_rows outside rows)
      (cases_Bool (is_in range row.line))

-- the rows of a range are a part
pub IsPartOf-range : (rows : List LoopRow) (range : LineRange) → IsPartOf rows (part_with rows range)
IsPartOf-range rows range = record {
  own = λ l low high. own_rows range l (and_from _ _ (le-leb range.first l low) (lt-ltb l range.end high)) rows;
  before = λ l low. no_rows range l (and_left _ _ (lt-leb range.first l low)) rows;
  after = λ l high. no_rows range l (and_right _ _ (le-ltb l range.end high)) rows;
}

are_parts : (rows : List LoopRow) (a b : ℕ) (ranges : List LineRange) → Cover a b ranges → AreParts rows a b (map (part_with rows) ranges)
are_parts rows a b [] cover = cover
are_parts rows a b (range ∷ ranges) cover =
    let up : a < range.end = cover.1 in
    (cover.0, omega arith, IsPartOf-range rows range, are_parts rows range.end b ranges cover.2)

pub ranges_make_parts : RangesMakeParts
ranges_make_parts rows ranges cover = are_parts rows 0 LINES ranges cover
