-- How a text is cut into its text lines, one after the other.
use Rattle.std.proofs.Common.{◌≡◌, ◌∙◌, ℕ, zero, suc, ◌+◌, ◌<◌, ◌≤◌, cond, Bool, true, false, List, [], ◌∷◌, length, take, drop, get_or, Some, None, refl, sym, ap, subst, ltb-false, arith}
use Rattle.std.specs.Prelude.{◌==◌, ◌&&◌, nat_lt}
use Rattle.std.specs.List.{onto_first, position, position_or_len}
use Rattle.std.proofs.lemmas.Bool.{cond-true, cond-false}
use Rattle.std.proofs.lemmas.List.Quantifiers.{position-Some}
use Rattle.std.proofs.lemmas.List.Sums.{fails_before_first}
use Rattle.xb_findings.specs.TextLines.{after_end, ends_line, lines_after, text_lines, without_lf}

none_is : {A : Type 0} {x : A} → None ≡ Some x → ⊥
none_is e = cc

-- after a CR, where an LF follows it, and where none does
after_lf : (b : Bool) (byte : ℕ) (bytes : List ℕ)
    → cond b (lines_after false bytes) (lines_after false (byte ∷ bytes)) ≡ lines_after false (cond b bytes (byte ∷ bytes))
after_lf true byte bytes = refl
after_lf false byte bytes = refl

after_cr : (text : List ℕ) → lines_after true text ≡ lines_after false (without_lf text)
unfolding lines_after
after_cr [] = refl
after_cr (byte ∷ bytes) = after_lf (byte == 10) byte bytes

after_either : (b : Bool) (text : List ℕ) → lines_after b text ≡ lines_after false (cond b (without_lf text) text)
after_either true text = after_cr text
after_either false text = refl

-- a text line ends at the first byte that ends one
lines_cut : (n : ℕ) (text : List ℕ) → n < length text → ((k : ℕ) → k < n → ends_line (get_or text k 0) ≡ false)
    → ends_line (get_or text n 0) ≡ true
    → lines_after false text ≡ take n text ∷ lines_after (get_or text n 0 == 13) (drop (suc n) text)
unfolding lines_after
lines_cut n [] within before ends = absurd (omega (arith, within))
lines_cut zero (byte ∷ text) within before ends = cond-true (ends_line byte) _ _ ends
lines_cut (suc n) (byte ∷ text) within before ends =
    cond-false (ends_line byte) _ _ (before 0 (omega arith))
    ∙ ap (onto_first byte) (lines_cut n text (omega (arith, within))
    (λ (k : ℕ) (below : k < n). before (suc k) (omega (arith, below))) ends)

-- a text in which none stands is one text line
no_end : (text : List ℕ) → ((k : ℕ) → k < length text → ends_line (get_or text k 0) ≡ false) → lines_after false text ≡ text ∷ []
unfolding lines_after
no_end [] none = refl
no_end (byte ∷ text) none =
    cond-false (ends_line byte) _ _ (none 0 (omega arith))
    ∙ ap (onto_first byte) (no_end text (λ (k : ℕ) (below : k < length text). none (suc k) (omega (arith, below))))

pub first_cut : (text : List ℕ) (n : ℕ) → Some n ≡ position ends_line text
    → text_lines text ≡ take n text ∷ text_lines (after_end (get_or text n 0) (drop (n + 1) text))
first_cut text n e =
    let (within, ends, before) = position-Some ends_line text n 0 (sym e) in
    let next : suc n ≡ n + 1 = omega arith in
    lines_cut n text within before ends
    ∙ ap (λ (k : ℕ). take n text ∷ lines_after (get_or text n 0 == 13) (drop k text)) next
    ∙ ap (λ (lines : List (List ℕ)). take n text ∷ lines) (after_either (get_or text n 0 == 13) (drop (n + 1) text))

pub no_cut : (text : List ℕ) → None ≡ position ends_line text → text_lines text ≡ text ∷ []
no_cut text e = at (nat_lt (position_or_len ends_line text) (length text)) refl
  where
    at : (there : Bool) → nat_lt (position_or_len ends_line text) (length text) ≡ there → text_lines text ≡ text ∷ []
    at true t = absurd (none_is (rw t at e))
    at false t =
        let all : length text ≤ position_or_len ends_line text = ltb-false _ _ t in
        no_end text (λ (k : ℕ) (below : k < length text). fails_before_first ends_line text k 0 (omega (arith, all, below)))

onto_few : (byte : ℕ) (lines : List (List ℕ)) → length (onto_first byte lines) ≤ length lines + 1
onto_few byte [] = omega arith
onto_few byte (line ∷ lines) = omega arith

few_by : (same ends : Bool) (most byte : ℕ) (later returned : List (List ℕ)) → length later ≤ most → length returned ≤ most
    → length (cond same later (cond ends ([] ∷ returned) (onto_first byte later))) ≤ most + 1
few_by true ends most byte later returned few few' = omega (arith, few)
few_by false true most byte later returned few few' = omega (arith, few')
few_by false false most byte later returned few few' =
    let one = onto_few byte later in omega (arith, few, one)

few_after : (returned : Bool) (text : List ℕ) → length (lines_after returned text) ≤ length text + 1
unfolding lines_after
few_after returned [] = omega arith
few_after returned (byte ∷ text) =
    let same : length text + 1 + 1 ≡ suc (length text) + 1 = omega arith in
    subst (λ (most : ℕ). length (lines_after returned (byte ∷ text)) ≤ most) same
    (few_by (returned && (byte == 10)) (ends_line byte) (length text + 1) byte (lines_after false text)
    (lines_after (byte == 13) text) (few_after false text) (few_after (byte == 13) text))

-- there are no more text lines than bytes, and one
pub few_lines : (text : List ℕ) → length (text_lines text) ≤ length text + 1
few_lines text = few_after false text
