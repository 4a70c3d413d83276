-- The first entry of marks ends at the first mark that ends one.
use Rattle.std.proofs.Common.{◌≡◌, ◌≤◌, ◌<◌, ℕ, ◌+◌, false, List, [], ◌∷◌, ◌++◌, length, take, drop, get_or, Some, None, sym, ap, ◌∙◌, subst, arith}
use Rattle.std.specs.Prelude.{position}
use Rattle.std.specs.List.{position_or_len}
use Rattle.std.proofs.lemmas.Grind.{common_steps}
use Rattle.std.proofs.lemmas.List.{take-append-drop, take_more, drop_more, take_all, length-take, get_or-take}
use Rattle.std.proofs.lemmas.List.Elements.{recursion_from_All}
use Rattle.std.proofs.lemmas.List.Sums.{fails_before_first}
use Rattle.std.proofs.lemmas.List.Quantifiers.{position-Some}
use Rattle.xb_model.specs.declared.mark.Mark.{Mark}
use Rattle.xb_model.specs.declared.mark.Mark.TheVariants as mark
use Rattle.xb_model.specs.Keyings.{is_ending}
use Rattle.xb_model.specs.Tapes.{entries_of, IsUnended}
use Rattle.xb_model.proofs.Entries.{entries_of-cut, entries_of-unended}

-- the marks before the first ending one
IsUnended-before : (marks : List Mark) (n : ℕ) → n ≤ position_or_len is_ending marks → IsUnended (take n marks)
IsUnended-before marks n within =
    recursion_from_All (λ mark. is_ending mark ≡ false) (take n marks) (λ k d h.
    let below : k < n = omega (arith, h, length-take n marks) in
    ap is_ending (get_or-take n marks k d below) ∙ fails_before_first is_ending marks k d (omega (arith, below, within)))

-- where no mark ends an entry there is none
pub entries_of-none : (marks : List Mark) → position is_ending marks ≡ None → entries_of marks ≡ []
entries_of-none marks e =
    let within : length marks ≤ position_or_len is_ending marks = grind (arith, common_steps) in
    let all : take (length marks) marks ≡ marks = take_all (length marks) marks (omega arith) in
    entries_of-unended marks (subst IsUnended all (IsUnended-before marks (length marks) within))

-- else the first entry is the marks up to and with the first that ends one
pub entries_of-first :
    (marks : List Mark) (n : ℕ) → position is_ending marks ≡ Some n
    → entries_of marks ≡ take (n + 1) marks ∷ entries_of (drop (n + 1) marks)
entries_of-first marks n e =
    let d : Mark = mark.Trunk 0 in
    let at = position-Some is_ending marks n d e in
    let first : n ≤ position_or_len is_ending marks = grind (arith, common_steps) in
    let parts : marks ≡ take n marks ++ get_or marks n d ∷ drop (n + 1) marks
    = sym (take-append-drop n marks) ∙ ap (λ ms. take n marks ++ ms) (drop_more marks n d at.0) in
    ap entries_of parts
    ∙ entries_of-cut (take n marks) (get_or marks n d) (drop (n + 1) marks) (IsUnended-before marks n first) at.1
    ∙ ap (λ entry. entry ∷ entries_of (drop (n + 1) marks)) (sym (take_more marks n d at.0))
