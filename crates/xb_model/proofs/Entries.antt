-- Laws of the entries of marks.
use Rattle.std.proofs.Common.{◌≡◌, ◌≤◌, ℕ, Bool, true, false, cond, List, [], ◌∷◌, ◌++◌, map, length, refl, ap, ◌∙◌, append_assoc, arith}
use Rattle.std.specs.List.{flat_map}
use Rattle.std.proofs.lemmas.Bool.{cond-true, cond-false}
use Rattle.xb_model.specs.declared.key.Key.TheVariants.{Kp, St, Digit}
use Rattle.xb_model.specs.declared.mark.Mark.{Mark}
use Rattle.xb_model.specs.declared.mark.Mark.TheVariants as marks
use Rattle.xb_model.specs.declared.order.Order.{Order}
use Rattle.xb_model.specs.declared.order.Order.TheVariants.{Key, Refused}
use Rattle.xb_model.specs.Keyings.{tone, marks_of, is_ending}
use Rattle.xb_model.specs.Tapes.{entries_of, into_first_entry, IsUnended, EndsAtLast}

-- the first entry is the marks up to and with the first that ends one
pub entries_of-cut : (front : List Mark) (last : Mark) (rest : List Mark) → IsUnended front → is_ending last ≡ true
    → entries_of (front ++ last ∷ rest) ≡ (front ++ last ∷ []) ∷ entries_of rest
entries_of-cut [] last rest goes_on ends = cond-true _ _ _ ends
entries_of-cut (mark ∷ front) last rest goes_on ends =
    cond-false _ _ _ goes_on.0 ∙ ap (into_first_entry mark) (entries_of-cut front last rest goes_on.1 ends)

-- marks of which none ends an entry have none
pub entries_of-unended : (marks : List Mark) → IsUnended marks → entries_of marks ≡ []
entries_of-unended [] goes_on = refl
entries_of-unended (mark ∷ marks) goes_on =
    cond-false _ _ _ goes_on.0 ∙ ap (into_first_entry mark) (entries_of-unended marks goes_on.1)

-- there are at most as many entries as marks
pub length-entries_of : (marks : List Mark) → length (entries_of marks) ≤ length marks
length-entries_of [] = omega arith
length-entries_of (mark ∷ marks) = at (is_ending mark) (length-entries_of marks)
  where
    joined : (entries : List (List Mark)) → length (into_first_entry mark entries) ≡ length entries
    joined [] = refl
    joined (entry ∷ entries) = refl

    at : (ends : Bool) → length (entries_of marks) ≤ length marks
        → length (cond ends ((mark ∷ []) ∷ entries_of marks) (into_first_entry mark (entries_of marks))) ≤ length (mark ∷ marks)
    at true few = omega arith
    at false few = omega (arith, joined (entries_of marks), few)

-- no tone of a digit ends an entry
digits_go_on : (digits : List ℕ) → IsUnended (map (λ d. tone (Digit d)) digits)
digits_go_on [] = tt
digits_go_on (d ∷ digits) = (refl, digits_go_on digits)

-- of the marks of an order exactly the last ends an entry
pub marks_of-last : (order : Order) → EndsAtLast (marks_of order)
marks_of-last (Key trunk digits) =
    record {
      earlier = marks.Trunk trunk ∷ tone Kp ∷ map (λ d. tone (Digit d)) digits;
      last = tone St;
      parts = refl;
      goes_on = (refl, (refl, digits_go_on digits));
      ends = refl;
    }
marks_of-last (Refused reason heard) =
    record { earlier = []; last = marks.Refused reason heard; parts = refl; goes_on = tt; ends = refl }

-- marks of which exactly the last ends an entry are one entry, whatever comes after them
pub entries_of-append : (marks rest : List Mark) → EndsAtLast marks → entries_of (marks ++ rest) ≡ marks ∷ entries_of rest
entries_of-append marks rest ends =
    rw (ends.parts, append_assoc) (entries_of-cut ends.earlier ends.last rest ends.goes_on ends.ends)

-- each order is one entry
pub entries_of-flat_map : (orders : List Order) → entries_of (flat_map marks_of orders) ≡ map marks_of orders
entries_of-flat_map [] = refl
entries_of-flat_map (order ∷ orders) =
    entries_of-append (marks_of order) (flat_map marks_of orders) (marks_of-last order)
    ∙ ap (λ entries. marks_of order ∷ entries) (entries_of-flat_map orders)
