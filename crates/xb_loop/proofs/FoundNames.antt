-- Names that are found one after the other.
use Rattle.std.proofs.Common.{◌≡◌, ℕ, suc, ◌+◌, ◌-◌, ◌<◌, List, [], ◌∷◌, ◌++◌, Bool, true, false, cond, Option, Some, None, refl, ap, sym, ◌∙◌, append-nil, arith}
use Rattle.std.specs.Prelude.{bytes_eq, codes, decimal, is_some, ◌==◌, ◌||◌}
use Rattle.std.specs.List.{onto_first}
use Rattle.xb_text.specs.Pieces.{pieces, pieces_left}
use Rattle.xb_recording.specs.declared.format.Format.{Format}
use Rattle.xb_loop.specs.Names.{Named, all_added, name_added}
use Rattle.xb_loop.specs.Wires.{declared_name, declared_names, line_names, names_if, names_in_lines, numbers_from}

pub numbers_next :
    (found : Named) (number end : ℕ) → number < end
    → all_added (name_added found (decimal number)) (numbers_from (number + 1) (end - (number + 1)))
    ≡ all_added found (numbers_from number (end - number))
numbers_next found number end less =
    let next : end - number ≡ suc (end - (number + 1)) = omega arith in
    sym (ap (λ n. all_added found (numbers_from number n)) next)

added-append :
    (found : Named) (names more : List (List ℕ)) → all_added found (names ++ more) ≡ all_added (all_added found names) more
added-append found [] more = refl
added-append found (name ∷ names) more = added-append (name_added found name) names more

-- a text has a piece
abbrev HasPiece : List (List ℕ) → Type 0
HasPiece them = (first : List ℕ) × ((rest : List (List ℕ)) × (them ≡ first ∷ rest))

piece-onto : (byte : ℕ) (them : List (List ℕ)) → HasPiece them → HasPiece (onto_first byte them)
piece-onto byte [] has = cc
piece-onto byte (first ∷ rest) has = (byte ∷ first, (rest, refl))

piece-some : (text : List ℕ) → HasPiece (pieces 10 text)
piece-some [] = ([], ([], refl))
piece-some (byte ∷ text) = at (byte == 10) (piece-some text)
  where
    at : (ends : Bool) → HasPiece (pieces 10 text) → HasPiece (cond ends ([] ∷ pieces 10 text) (onto_first byte (pieces 10 text)))
    at true has = ([], (pieces 10 text, refl))
    at false has = piece-onto byte (pieces 10 text) has

names-before :
    (format : Format) (is_end : Bool) (line text : List ℕ)
    → names_in_lines format is_end (line ∷ pieces 10 text) ≡ line_names format line ++ names_in_lines format is_end (pieces 10 text)
names-before format is_end line text =
    let has = piece-some text in
    ap (λ them. names_in_lines format is_end (line ∷ them)) has.1.1
    ∙ sym (ap (λ them. line_names format line ++ names_in_lines format is_end them) has.1.1)

-- a line that has ended, and one that has not
pub lines_added :
    (found : Named) (format : Format) (is_end : Bool) (text line : List ℕ) (later : Option (List ℕ))
    → pieces 10 text ≡ line ∷ pieces_left 10 later → (is_some later || is_end) ≡ true
    → all_added (all_added found (line_names format line)) (names_in_lines format is_end (pieces_left 10 later))
    ≡ all_added found (names_in_lines format is_end (pieces 10 text))
lines_added found format is_end text line (Some rest) are ended =
    sym (ap (λ them. all_added found (names_in_lines format is_end them)) are
    ∙ ap (all_added found) (names-before format is_end line rest)
    ∙ added-append found (line_names format line) (names_in_lines format is_end (pieces 10 rest)))
lines_added found format true text line None are ended =
    sym (ap (λ them. all_added found (names_in_lines format true them)) are
    ∙ ap (all_added found) (append-nil (line_names format line)))
lines_added found format false text line None are ended = cc

pub lines_skipped :
    (found : Named) (format : Format) (is_end : Bool) (text line : List ℕ) (later : Option (List ℕ))
    → pieces 10 text ≡ line ∷ pieces_left 10 later → (is_some later || is_end) ≡ false
    → all_added found (names_in_lines format is_end (pieces_left 10 later))
    ≡ all_added found (names_in_lines format is_end (pieces 10 text))
lines_skipped found format is_end text line (Some rest) are ended = cc
lines_skipped found format true text line None are ended = cc
lines_skipped found format false text line None are ended =
    sym (ap (λ them. all_added found (names_in_lines format false them)) are)

-- a word of a VCD, after which a wire is declared, and another one
pub declared_more :
    (found : Named) (left rest : List (List ℕ)) (word : List ℕ) → left ≡ word ∷ rest → bytes_eq word (codes "$var") ≡ true
    → all_added (all_added found (names_if (declared_name rest))) (declared_names rest) ≡ all_added found (declared_names left)
declared_more found left rest word are is =
    sym (ap (λ them. all_added found (declared_names them)) are
    ∙ ap (λ t. all_added found (cond t (names_if (declared_name rest)) [] ++ declared_names rest)) is
    ∙ added-append found (names_if (declared_name rest)) (declared_names rest))

pub declared_no_more :
    (found : Named) (left rest : List (List ℕ)) (word : List ℕ) → left ≡ word ∷ rest → bytes_eq word (codes "$var") ≡ false
    → all_added found (declared_names rest) ≡ all_added found (declared_names left)
declared_no_more found left rest word are is =
    sym (ap (λ them. all_added found (declared_names them)) are
    ∙ ap (λ t. all_added found (cond t (names_if (declared_name rest)) [] ++ declared_names rest)) is)
