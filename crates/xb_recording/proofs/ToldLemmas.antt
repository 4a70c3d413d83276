-- What the lines of a beginning tell.
use Rattle.std.proofs.Common.{◌≡◌, ℕ, suc, ◌+◌, ◌<◌, ◌≤◌, List, [], ◌∷◌, ◌++◌, Bool, true, false, cond, not, Option, Some, None, nat_lt, take, drop, length, refl, ap, sym, subst, ◌∙◌, append_assoc, append-nil, length-drop, arith}
use Rattle.std.proofs.lemmas.Bool.Decides.{nat_tests}
use Rattle.std.specs.Prelude.{◌==◌, ◌&&◌, option_map, unwrap_or}
use Rattle.std.specs.List.{position_or_len}
use Rattle.xb_text.specs.Pieces.{cut_at}
use Rattle.xb_recording.specs.declared.beginning.Told.{Told}
use Rattle.xb_recording.specs.declared.beginning.Told.TheVariants as tolds
use Rattle.xb_recording.specs.declared.format.Format.{Format}
use Rattle.xb_recording.specs.Beginnings.{IsTold, all_passed_over, format_of_line, is_passed_over, last_told, told_by_lines}
use Rattle.xb_recording.specs.Says.{lines_in, plain_line, plain_lines, text_lines}

some_is : {A : Type 0} {x y : A} → Some x ≡ Some y → x ≡ y
some_is {A} {x} {y} e = ap (λ o. unwrap_or o x) e

none_is : {A : Type 0} {x : A} → None ≡ Some x → ⊥
none_is e = cc

-- where a line ends
abbrev end_of : List ℕ → ℕ
end_of text = position_or_len (λ byte. byte == 10) text

-- what stands before that, and after it, where a line ends
abbrev Parts : Type 0
Parts = List ℕ × List ℕ

abbrev parts_at : List ℕ → ℕ → Parts
parts_at text n = (take n text, drop (n + 1) text)

abbrev left_of : List ℕ → Bool → Option Parts
left_of text within = option_map (parts_at text) (cond within (Some (end_of text)) None)

cut-from :
    (word rest more : List ℕ) → end_of rest < length rest
    → lines_in word (rest ++ more) ≡ (word ++ take (end_of rest) rest) ∷ lines_in [] (drop (end_of rest + 1) rest ++ more)
cut-from word [] more h = absurd (omega (arith, h))
cut-from word (byte ∷ rest) more h = at (byte == 10) h (λ w k. cut-from w rest more k)
  where
    at :
        (ends : Bool) → cond (not ends) (1 + end_of rest) 0 < suc (length rest)
        → ((w : List ℕ) → end_of rest < length rest
        → lines_in w (rest ++ more) ≡ (w ++ take (end_of rest) rest) ∷ lines_in [] (drop (end_of rest + 1) rest ++ more))
        → cond ends (word ∷ lines_in [] (rest ++ more)) (lines_in (word ++ byte ∷ []) (rest ++ more))
        ≡ (word ++ take (cond (not ends) (1 + end_of rest) 0) (byte ∷ rest))
        ∷ lines_in [] (drop (cond (not ends) (1 + end_of rest) 0 + 1) (byte ∷ rest) ++ more)
    at true k f = ap (λ w. w ∷ lines_in [] (rest ++ more)) (sym (append-nil word))
    at false k f =
        let next : suc (end_of rest + 1) ≡ suc (end_of rest) + 1 = omega arith in
        let one : 1 + end_of rest ≡ suc (end_of rest) = omega arith in
        f (word ++ byte ∷ []) (omega (arith, k))
        ∙ ap (λ w. w ∷ lines_in [] (drop (end_of rest + 1) rest ++ more)) (append_assoc word (byte ∷ []) (take (end_of rest) rest))
        ∙ ap (λ n. (word ++ (byte ∷ take (end_of rest) rest)) ∷ lines_in [] (drop n (byte ∷ rest) ++ more)) next
        ∙ ap (λ n. (word ++ take n (byte ∷ rest)) ∷ lines_in [] (drop (n + 1) (byte ∷ rest) ++ more)) (sym one)

last-from : (word rest : List ℕ) → length rest ≤ end_of rest → lines_in word rest ≡ (word ++ rest) ∷ []
last-from word [] h = ap (λ w. w ∷ []) (sym (append-nil word))
last-from word (byte ∷ rest) h = at (byte == 10) h (λ w k. last-from w rest k)
  where
    at :
        (ends : Bool) → suc (length rest) ≤ cond (not ends) (1 + end_of rest) 0
        → ((w : List ℕ) → length rest ≤ end_of rest → lines_in w rest ≡ (w ++ rest) ∷ [])
        → cond ends (word ∷ lines_in [] rest) (lines_in (word ++ byte ∷ []) rest) ≡ (word ++ (byte ∷ rest)) ∷ []
    at true k f = absurd (omega (arith, k))
    at false k f =
        f (word ++ byte ∷ []) (omega (arith, k)) ∙ ap (λ w. w ∷ []) (append_assoc word (byte ∷ []) rest)

-- a line that was cut off
pub line_cut :
    (rest line after more : List ℕ) → Some (line, after) ≡ cut_at 10 rest
    → lines_in [] (rest ++ more) ≡ line ∷ lines_in [] (after ++ more)
line_cut rest line after more e = at (nat_lt (end_of rest) (length rest)) refl e
  where
    at :
        (within : Bool) → nat_lt (end_of rest) (length rest) ≡ within
        → Some (line, after) ≡ left_of rest within
        → lines_in [] (rest ++ more) ≡ line ∷ lines_in [] (after ++ more)
    at true is f =
        let here : end_of rest < length rest = grind (arith, nat_tests) in
        let found : Parts = (line, after) in
        let parts : found ≡ parts_at rest (end_of rest) = some_is f in
        cut-from [] rest more here ∙ ap (λ (p : Parts). p.0 ∷ lines_in [] (p.1 ++ more)) (sym parts)
    at false is f = cc

pub cut_less :
    (rest line after : List ℕ) → Some (line, after) ≡ cut_at 10 rest → length after < length rest
cut_less rest line after e = at (nat_lt (end_of rest) (length rest)) refl e
  where
    at :
        (within : Bool) → nat_lt (end_of rest) (length rest) ≡ within
        → Some (line, after) ≡ left_of rest within
        → length after < length rest
    at true is f =
        let here : end_of rest < length rest = grind (arith, nat_tests) in
        let parts : after ≡ drop (end_of rest + 1) rest = ap (λ (p : Parts). p.1) (some_is f) in
        omega (arith, here, ap length parts, length-drop (end_of rest + 1) rest)
    at false is f = absurd (none_is (sym f))

pub line_last : (rest : List ℕ) → None ≡ cut_at 10 rest → lines_in [] rest ≡ rest ∷ []
line_last rest e = at (nat_lt (end_of rest) (length rest)) refl e
  where
    at :
        (within : Bool) → nat_lt (end_of rest) (length rest) ≡ within
        → None ≡ left_of rest within
        → lines_in [] rest ≡ rest ∷ []
    at true is f = cc
    at false is f =
        let here : length rest ≤ end_of rest = grind (arith, nat_tests) in
        last-from [] rest here

pub later_lines : (lines : List (List ℕ)) → plain_lines false lines ≡ lines
later_lines [] = refl
later_lines (line ∷ rest) = refl

-- what is told by a line that was cut off, or those after it
pub told_next :
    (rest line after later : List ℕ) (first : Bool) → Some (line, after) ≡ cut_at 10 rest
    → told_by_lines (plain_lines first (lines_in [] (rest ++ later)))
    ≡ cond (is_passed_over (plain_line first line)) (told_by_lines (plain_lines false (lines_in [] (after ++ later))))
    (format_of_line (plain_line first line))
told_next rest line after later first e =
    ap (λ lines. told_by_lines (plain_lines first lines)) (line_cut rest line after later e)
    ∙ ap (λ lines. cond (is_passed_over (plain_line first line)) (told_by_lines lines) (format_of_line (plain_line first line)))
    (sym (later_lines (lines_in [] (after ++ later))))

-- a text has a line
lines-some :
    (word text : List ℕ) → (parts : List ℕ × List (List ℕ)) × (lines_in word text ≡ parts.0 ∷ parts.1)
lines-some word [] = ((word, []), refl)
lines-some word (byte ∷ rest) = at (byte == 10) (λ longer. lines-some longer rest)
  where
    at :
        (ends : Bool)
        → ((longer : List ℕ) → (parts : List ℕ × List (List ℕ)) × (lines_in longer rest ≡ parts.0 ∷ parts.1))
        → (parts : List ℕ × List (List ℕ))
        × (cond ends (word ∷ lines_in [] rest) (lines_in (word ++ byte ∷ []) rest) ≡ parts.0 ∷ parts.1)
    at true more = ((word, lines_in [] rest), refl)
    at false more = more (word ++ byte ∷ [])

-- a line that has ended, and those after it
pub passed_cut :
    (line word text : List ℕ)
    → all_passed_over (line ∷ lines_in word text) ≡ is_passed_over line && all_passed_over (lines_in word text)
passed_cut line word text =
    let some = lines-some word text in
    ap (λ lines. all_passed_over (line ∷ lines)) some.1
    ∙ ap (λ lines. is_passed_over line && all_passed_over lines) (sym some.1)

-- lines that are passed over
pub passed_next :
    (rest line after : List ℕ) (first : Bool) → Some (line, after) ≡ cut_at 10 rest
    → all_passed_over (plain_lines first (lines_in [] rest))
    ≡ is_passed_over (plain_line first line) && all_passed_over (plain_lines false (lines_in [] after))
passed_next rest line after first e =
    let cut : lines_in [] rest ≡ line ∷ lines_in [] after =
    ap (lines_in []) (sym (append-nil rest)) ∙ line_cut rest line after [] e ∙ ap (λ t. line ∷ lines_in [] t) (append-nil after) in
    ap (λ lines. all_passed_over (plain_lines first lines)) cut ∙ passed_cut (plain_line first line) [] after
    ∙ ap (λ lines. is_passed_over (plain_line first line) && all_passed_over lines) (sym (later_lines (lines_in [] after)))

pub told_so :
    (told : Told) (line : List ℕ) (all rest : Option Format) (passed : Bool) → passed ≡ false
    → all ≡ cond passed rest (format_of_line line) → IsTold told (format_of_line line) → IsTold told all
told_so told line all rest passed is e h =
    let P : Option Format → Type 0 = λ o. IsTold told o in
    subst P (sym (e ∙ ap (λ b. cond b rest (format_of_line line)) is)) h

-- the last line
pub told_last :
    (told : Told) (text rest later : List ℕ) (first is_end : Bool)
    → ((more : List ℕ) → told_by_lines (text_lines (text ++ more)) ≡ told_by_lines (plain_lines first (lines_in [] (rest ++ more))))
    → None ≡ cut_at 10 rest → (is_end ≡ true → later ≡ []) → (is_end ≡ true → IsTold told (last_told (plain_line first rest)))
    → (is_end ≡ false → told ≡ tolds.More) → IsTold told (told_by_lines (text_lines (text ++ later)))
told_last told text rest later first true same none end last more =
    let P : Option Format → Type 0 = λ o. IsTold told o in
    let here : told_by_lines (text_lines (text ++ later)) ≡ last_told (plain_line first rest) =
    ap (λ l. told_by_lines (text_lines (text ++ l))) (end refl) ∙ same []
    ∙ ap (λ t. told_by_lines (plain_lines first (lines_in [] t))) (append-nil rest)
    ∙ ap (λ lines. told_by_lines (plain_lines first lines)) (line_last rest none) in
    subst P (sym here) (last refl)
told_last told text rest later first false same none end last more =
    let P : Told → Type 0 = λ t. IsTold t (told_by_lines (text_lines (text ++ later))) in
    subst P (sym (more refl)) tt

pub passed_last :
    (rest : List ℕ) (first : Bool) → None ≡ cut_at 10 rest → all_passed_over (plain_lines first (lines_in [] rest)) ≡ true
passed_last rest first none = ap (λ lines. all_passed_over (plain_lines first lines)) (line_last rest none)
