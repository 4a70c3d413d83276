-- What is told by a beginning stays told.
use Rattle.std.proofs.Common.{◌≡◌, ℕ, ◌≤◌, List, [], ◌∷◌, ◌++◌, Bool, true, false, cond, not, codes, nat_eq, nat_lt, length, refl, ap, sym, ◌∙◌, arith, append-nil, length-append, true≢false}
use Rattle.std.proofs.lemmas.Bool.{and_parts, le-ltb, ltb-false}
use Rattle.std.proofs.lemmas.List.{take-append-le}
use Rattle.std.specs.Prelude.{◌==◌, ◌&&◌, ◌||◌}
use Rattle.std.specs.Cmp.Lexicographic.{pointwise}
use Rattle.std.specs.List.{starts_with}
use Rattle.xb_contact.specs.declared.event.Refusal.TheVariants as refusals
use Rattle.xb_recording.specs.Beginnings.{all_passed_over, is_archive, is_passed_over, tells_nothing_yet, why_untold}
use Rattle.xb_recording.specs.Says.{lines_in, plain_line, plain_lines, text_lines}
use Rattle.xb_recording.proofs.ToldLemmas.{later_lines, passed_cut}

-- of two tests of which the second follows from another
both : (a b c : Bool) → a && b ≡ true → (b ≡ true → c ≡ true) → a && c ≡ true
both true b c h f = f h
both false b c h f = h

-- where all lines that have ended in a text are passed over, so are those in its beginning
passed-before :
    (first : Bool) (word text more : List ℕ)
    → all_passed_over (plain_lines first (lines_in word (text ++ more))) ≡ true
    → all_passed_over (plain_lines first (lines_in word text)) ≡ true
passed-before first word [] more h = refl
passed-before first word (byte ∷ rest) more h = at (byte == 10) h (λ f w k. passed-before f w rest more k)
  where
    at :
        (ends : Bool)
        → all_passed_over (plain_lines first (cond ends (word ∷ lines_in [] (rest ++ more)) (lines_in (word ++ byte ∷ []) (rest ++ more)))) ≡ true
        → ((f : Bool) (w : List ℕ) → all_passed_over (plain_lines f (lines_in w (rest ++ more))) ≡ true
        → all_passed_over (plain_lines f (lines_in w rest)) ≡ true)
        → all_passed_over (plain_lines first (cond ends (word ∷ lines_in [] rest) (lines_in (word ++ byte ∷ []) rest))) ≡ true
    at true k next =
        passed_cut (plain_line first word) [] rest
        ∙ both (is_passed_over (plain_line first word)) (all_passed_over (lines_in [] (rest ++ more))) (all_passed_over (lines_in [] rest))
        (sym (passed_cut (plain_line first word) [] (rest ++ more)) ∙ k)
        (λ all. ap all_passed_over (sym (later_lines (lines_in [] rest)))
        ∙ next false [] (ap all_passed_over (later_lines (lines_in [] (rest ++ more))) ∙ all))
    at false k next = next first (word ++ byte ∷ []) k

-- a text that has begun a WAV, or has a line that says anything
some-tells : (is_wav all longer : Bool) → (longer ≡ true → all ≡ true) → not is_wav && all ≡ false → not is_wav && longer ≡ false
some-tells true all longer f h = refl
some-tells false all true f h = absurd (true≢false (sym (f refl) ∙ h))
some-tells false all false f h = refl

-- four bytes begin a text that has them, or ends, whatever follows
pub begins_same :
    (a b c d : ℕ) (text later : List ℕ) (is_end : Bool) → (is_end ≡ true → later ≡ [])
    → (is_end ≡ false → 4 ≤ length text)
    → starts_with nat_eq (text ++ later) (a ∷ b ∷ c ∷ d ∷ []) ≡ starts_with nat_eq text (a ∷ b ∷ c ∷ d ∷ [])
begins_same a b c d text later true end four =
    ap (λ t. starts_with nat_eq t (a ∷ b ∷ c ∷ d ∷ [])) (ap (λ l. text ++ l) (end refl) ∙ append-nil text)
begins_same a b c d text later false end four =
    ap (pointwise nat_eq (a ∷ b ∷ c ∷ d ∷ [])) (take-append-le 4 text later (four refl))

-- and why it tells no form
pub why_same :
    (text later : List ℕ) (is_end : Bool) → (is_end ≡ true → later ≡ []) → (is_end ≡ false → 4 ≤ length text)
    → why_untold (text ++ later) ≡ why_untold text
why_same text later is_end end four =
    ap (λ archive. cond archive refusals.Archive refusals.Form) (begins_same 80 75 3 4 text later is_end end four)

-- what tells nothing yet is no file of several files
pub why_form :
    (text : List ℕ) → 4 ≤ length text → tells_nothing_yet text ≡ true → why_untold text ≡ refusals.Form
why_form text four none = at (is_archive text) single
  where
    later : Bool
    later = not (is_archive text) && all_passed_over (text_lines text)

    plain : not (starts_with nat_eq text (codes "RIFF")) && later ≡ true
    plain = ap (λ few. few || (not (starts_with nat_eq text (codes "RIFF")) && later)) (sym (le-ltb (length text) 4 four)) ∙ none

    single : not (is_archive text) ≡ true
    single = (and_parts (not (is_archive text)) (all_passed_over (text_lines text)) (and_parts (not (starts_with nat_eq text (codes "RIFF"))) later plain).1).0

    at : (archive : Bool) → not archive ≡ true → cond archive refusals.Archive refusals.Form ≡ refusals.Form
    at true e = cc
    at false e = refl

-- what tells something goes on to do so
pub told_stays :
    (text more : List ℕ) → tells_nothing_yet text ≡ false → tells_nothing_yet (text ++ more) ≡ false
told_stays text more h = at (nat_lt (length text) 4) refl h
  where
    at :
        (few : Bool) → nat_lt (length text) 4 ≡ few
        → few || (not (starts_with nat_eq text (codes "RIFF")) && (not (is_archive text) && all_passed_over (text_lines text))) ≡ false
        → tells_nothing_yet (text ++ more) ≡ false
    at true is e = absurd (true≢false e)
    at false is e =
        let four : 4 ≤ length text = ltb-false (length text) 4 is in
        let size : 4 ≤ length (text ++ more) = omega (arith, four, length-append text more) in
        let same : starts_with nat_eq (text ++ more) (codes "RIFF") ≡ starts_with nat_eq text (codes "RIFF") =
        ap (pointwise nat_eq (codes "RIFF")) (take-append-le 4 text more four) in
        let other : is_archive (text ++ more) ≡ is_archive text =
        ap (pointwise nat_eq (80 ∷ 75 ∷ 3 ∷ 4 ∷ [])) (take-append-le 4 text more four) in
        let all : Bool = all_passed_over (text_lines (text ++ more)) in
        ap (λ short. short || (not (starts_with nat_eq (text ++ more) (codes "RIFF")) && (not (is_archive (text ++ more)) && all)))
        (le-ltb (length (text ++ more)) 4 size)
        ∙ ap (λ is_wav. not is_wav && (not (is_archive (text ++ more)) && all)) same
        ∙ ap (λ archive. not (starts_with nat_eq text (codes "RIFF")) && (not archive && all)) other
        ∙ some-tells (starts_with nat_eq text (codes "RIFF")) (not (is_archive text) && all_passed_over (text_lines text))
        (not (is_archive text) && all)
        (λ k. both (not (is_archive text)) all (all_passed_over (text_lines text)) k (passed-before true [] text more)) e
