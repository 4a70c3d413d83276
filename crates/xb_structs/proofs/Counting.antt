-- The entries among marks, and one row more.
use Rattle.std.proofs.Common.{◌≡◌, ℕ, ◌+◌, cond, List, [], ◌∷◌, ◌++◌, fold, map, take, refl, sym, ap, ◌∙◌, subst, arith}
use Rattle.std.proofs.lemmas.List.{map-append}
use Rattle.std.proofs.lemmas.List.Sums.{fold_push, sum_by-append, sum_by-cons}
use Rattle.xb_model.specs.declared.key.Key.TheVariants.{Digit, Kp, St}
use Rattle.xb_model.specs.declared.mark.Mark.{Mark}
use Rattle.xb_model.specs.declared.mark.Mark.TheVariants.{Trunk}
use Rattle.xb_model.specs.declared.mark.Mark.TheVariants as mark
use Rattle.xb_model.specs.declared.on.On.{On}
use Rattle.xb_model.specs.declared.order.Order.{Order}
use Rattle.xb_model.specs.declared.order.Order.TheVariants.{Key, Refused}
use Rattle.xb_model.specs.Keyings.{marks_of, tone, is_ending}
use Rattle.xb_model.specs.Rows.{LoopRow}
use Rattle.xb_model.specs.Image.{image_on}
use Rattle.xb_model.specs.OnLines.{on_line}
use Rattle.xb_routes.specs.Table.{Table}
use Rattle.xb_serial.specs.Chain.{live_machine, marks_of_row, state_after_row}
use Rattle.xb_model.proofs.Images.{image_from-append}
use Rattle.xb_structs.specs.declared.line.PlainLine.{PlainLine}
use Rattle.xb_structs.specs.declared.mark.PlainMark.{PlainMark}
use Rattle.xb_structs.specs.Marks.{plain_mark}
use Rattle.xb_structs.specs.Taking.{counted, entries_among, HasTaken, TakesRow}

abbrev on : ℕ → Mark → On Mark
on line what = record { line = line; what = what }

-- whether a mark ends an entry
abbrev ends : On Mark → ℕ
ends mark = cond (is_ending mark.what) 1 0

pub among-append : (xs ys : List (On Mark)) → entries_among (xs ++ ys) ≡ entries_among xs + entries_among ys
among-append xs ys = sum_by-append ends xs ys

-- digits, and the ST after them
digits_and_st : (l : ℕ) (digits : List ℕ) (st : List Mark) → entries_among (on_line l (map (λ d. tone (Digit d)) digits ++ st)) ≡ entries_among (on_line l st)
digits_and_st l [] st = refl
digits_and_st l (d ∷ digits) st =
    omega (arith, sum_by-cons ends (on l (tone (Digit d))) (on_line l (map (λ d. tone (Digit d)) digits ++ st)), digits_and_st l digits st)

-- an order is one entry
pub among-order : (l : ℕ) (order : Order) → entries_among (on_line l (marks_of order)) ≡ 1
among-order l (Key trunk digits) =
    let rest = map (λ d. tone (Digit d)) digits ++ tone St ∷ [] in
    omega (arith, sum_by-cons ends (on l (Trunk trunk)) (on_line l (tone Kp ∷ rest)), sum_by-cons ends (on l (tone Kp)) (on_line l rest), digits_and_st l digits (tone St ∷ []), sum_by-cons ends (on l (tone St)) [])
among-order l (Refused reason heard) = omega (arith, sum_by-cons ends (on l (mark.Refused reason heard)) [])

pub counted-more : (n m : ℕ) → counted (counted n + m) ≡ counted (n + m)
counted-more n m = omega arith

-- where a row is taken, the line has taken one row more
pub taken-more : (table : Table) (old new : PlainLine) (row : LoopRow) (room : List PlainMark) (count : ℕ) → TakesRow table old new row room count
    → (rows : List LoopRow) (marks : List PlainMark) → HasTaken table old rows marks
    → HasTaken table new (rows ++ row ∷ []) (marks ++ take count room)
taken-more table old new row room count takes rows marks taken =
    let m = live_machine table in
    let before = fold m.next m.start rows in
    let all : image_on m (rows ++ row ∷ []) ≡ image_on m rows ++ marks_of_row table before row =
    image_from-append m m.start rows (row ∷ []) ∙ ap (λ ms. image_on m rows ++ ms) (last (marks_of_row table before row)) in
    let given : take count room ≡ map plain_mark (marks_of_row table before row) = subst (λ s. take count room ≡ map plain_mark (marks_of_row table s row)) taken.state takes.marks in
    let more : new.entries ≡ counted (old.entries + entries_among (marks_of_row table before row)) = subst (λ s. new.entries ≡ counted (old.entries + entries_among (marks_of_row table s row))) taken.state takes.entries in
    record {
      state = takes.state ∙ ap (λ s. state_after_row table s row) taken.state ∙ sym (fold_push m.next m.start rows row);
      given = ap (λ ms. ms ++ take count room) taken.given ∙ ap (λ ms. map plain_mark (image_on m rows) ++ ms) given
          ∙ sym (map-append plain_mark (image_on m rows) (marks_of_row table before row)) ∙ ap (map plain_mark) (sym all);
      entries = more ∙ ap (λ n. counted (n + entries_among (marks_of_row table before row))) taken.entries
          ∙ counted-more (entries_among (image_on m rows)) (entries_among (marks_of_row table before row))
          ∙ ap counted (sym (ap entries_among all ∙ among-append (image_on m rows) (marks_of_row table before row)));
    }
  where
    last : {X : Type 0} (xs : List X) → xs ++ [] ≡ xs
    last [] = refl
    last (x ∷ xs) = ap (λ ys. x ∷ ys) (last xs)
