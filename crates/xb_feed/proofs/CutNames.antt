-- A text that is cut at its first comma.
use Rattle.std.proofs.Common.{◌≡◌, ◌∙◌, ℕ, ◌≤◌, List, [], ◌∷◌, length, eqb, Some, None, sym, ap, arith}
use Rattle.std.specs.Borrow.{Bor}
use Rattle.std.specs.List.{after_first, position_or_len, slice_split}
use Rattle.std.proofs.lemmas.Grind.{common_steps}
use Rattle.std.proofs.lemmas.List.Sums.{fails_before_first}
use Rattle.std.proofs.lemmas.List.Splits.{slice_split_first, slice_split_none}
use Rattle.std.proofs.lemmas.Str.Pattern.{IsSplitOnceResult, split_once_first}
use Rattle.xb_text.specs.Pieces.{pieces}

pub cut_there :
    (text : List ℕ) (name words : Bor (List ℕ)) → IsSplitOnceResult 44 text (Some (name, words))
    → pieces 44 text ≡ name.now ∷ pieces 44 words.now
cut_there text name words is =
    let first = split_once_first 44 text (Some (name, words)) is (omega arith) in
    slice_split_first (λ b. eqb b 44) text 0 first.0
    ∙ ap (λ (n : List ℕ). n ∷ slice_split (λ b. eqb b 44) (after_first (λ b. eqb b 44) text)) (sym first.1)
    ∙ ap (λ (w : List ℕ). name.now ∷ slice_split (λ b. eqb b 44) w) (sym first.2)

pub cut_nowhere : (text : List ℕ) → IsSplitOnceResult 44 text None → pieces 44 text ≡ text ∷ []
cut_nowhere text is =
    let whole : position_or_len (λ b. eqb b 44) text ≡ length text = split_once_first 44 text None is (omega arith) in
    let all : length text ≤ position_or_len (λ b. eqb b 44) text = omega (arith, whole) in
    slice_split_none (λ b. eqb b 44) text (λ k b m. let f = fails_before_first (λ b. eqb b 44) text k b in
    grind (arith, common_steps))
