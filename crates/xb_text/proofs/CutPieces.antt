-- A text that is cut at a byte.
use Rattle.std.proofs.Common.{◌≡◌, ◌∙◌, ℕ, ◌≤◌, Bool, true, false, List, [], ◌∷◌, length, eqb, Some, None, refl, sym, ap, ltb-true, ltb-false, arith}
use Rattle.std.specs.Prelude.{nat_lt, unwrap_or}
use Rattle.std.specs.List.{position_or_len, before_first, after_first, slice_split}
use Rattle.std.proofs.lemmas.Grind.{common_steps}
use Rattle.std.proofs.lemmas.List.Sums.{fails_before_first}
use Rattle.std.proofs.lemmas.List.Splits.{slice_split_first, slice_split_none}
use Rattle.xb_text.specs.Pieces.{cut_at, pieces, pieces_left}

some_is : {A : Type 0} {x y : A} → Some x ≡ Some y → x ≡ y
some_is {A} {x} {y} e = ap (λ o. unwrap_or o x) e

none_is : {A : Type 0} {x : A} → None ≡ Some x → ⊥
none_is e = cc

-- the first piece of a text in which there is such a byte, and of one in which there is none
pub piece-cut : (byte : ℕ) (text line later : List ℕ) → Some (line, later) ≡ cut_at byte text
    → pieces byte text ≡ line ∷ pieces_left byte (Some later)
piece-cut byte text line later e = at (nat_lt (position_or_len (λ b. eqb b byte) text) (length text)) refl
  where
    at : (there : Bool) → nat_lt (position_or_len (λ b. eqb b byte) text) (length text) ≡ there
        → pieces byte text ≡ line ∷ pieces_left byte (Some later)
    at true t =
        let parts : (line, later)
        ≡ (before_first (λ b. eqb b byte) text, after_first (λ b. eqb b byte) text) = some_is (rw t at e) in
        slice_split_first (λ b. eqb b byte) text 0 (ltb-true _ _ t)
        ∙ ap (λ (p : List ℕ × List ℕ). p.0 ∷ slice_split (λ b. eqb b byte) p.1) (sym parts)
    at false t = absurd (none_is (sym (rw t at e)))

pub piece-whole : (byte : ℕ) (text : List ℕ) → None ≡ cut_at byte text → pieces byte text ≡ text ∷ []
piece-whole byte text e = at (nat_lt (position_or_len (λ b. eqb b byte) text) (length text)) refl
  where
    at : (there : Bool) → nat_lt (position_or_len (λ b. eqb b byte) text) (length text) ≡ there
        → pieces byte text ≡ text ∷ []
    at true t = absurd (none_is (rw t at e))
    at false t =
        let all : length text ≤ position_or_len (λ b. eqb b byte) text = ltb-false _ _ t in
        slice_split_none (λ b. eqb b byte) text (λ k b m. let f = fails_before_first (λ b. eqb b byte) text k b in
        grind (arith, common_steps))
