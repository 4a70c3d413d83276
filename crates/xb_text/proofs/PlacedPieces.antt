-- A text that is cut piece by piece: its first piece with the byte after it, and the pieces from a place on.
use Rattle.std.proofs.Common.{◌≡◌, ◌+◌, ◌-◌, ◌∙◌, ℕ, List, [], ◌∷◌, ◌++◌, get_or, take, drop, Some, None, sym, ap, arith, eqb, eqb-true}
use Rattle.std.specs.Prelude.{option_map}
use Rattle.std.specs.List.{position}
use Rattle.std.proofs.Math.Seq.{take-add}
use Rattle.std.proofs.lemmas.List.{drop-drop, take_more}
use Rattle.std.proofs.lemmas.List.Quantifiers.{position-Some}
use Rattle.xb_text.specs.Pieces.{pieces}
use Rattle.xb_text.proofs.CutPieces.{piece-cut, piece-whole}

-- the first piece, and the pieces after its byte
pub first_piece : (byte : ℕ) (xs : List ℕ) (n : ℕ) → position (λ b. eqb b byte) xs ≡ Some n
    → pieces byte xs ≡ take n xs ∷ pieces byte (drop (n + 1) xs)
first_piece byte xs n e =
    piece-cut byte xs (take n xs) (drop (n + 1) xs)
    (sym (ap (option_map (λ (k : ℕ). (take k xs, drop (k + 1) xs))) e))

-- a text without the byte is one piece
pub one_piece : (byte : ℕ) (xs : List ℕ) → position (λ b. eqb b byte) xs ≡ None → pieces byte xs ≡ xs ∷ []
one_piece byte xs e = piece-whole byte xs (sym (ap (option_map (λ (k : ℕ). (take k xs, drop (k + 1) xs))) e))

-- the first piece with its byte
pub with_byte : (byte : ℕ) (xs : List ℕ) (n : ℕ) → position (λ b. eqb b byte) xs ≡ Some n
    → take n xs ++ byte ∷ [] ≡ take (n + 1) xs
with_byte byte xs n e =
    let (within, is, before) = position-Some (λ b. eqb b byte) xs n 0 e in
    ap (λ (b : ℕ). take n xs ++ b ∷ []) (sym (eqb-true (get_or xs n 0) byte is)) ∙ sym (take_more xs n 0 within)

-- the length of a piece from its ends
pub piece_length : (start n : ℕ) → start + n - start ≡ n
piece_length start n = omega arith

-- the bytes after a piece and its byte
pub drop-piece : (xs : List ℕ) (start n : ℕ) → drop (n + 1) (drop start xs) ≡ drop (start + n + 1) xs
drop-piece xs start n =
    let e : start + (n + 1) ≡ start + n + 1 = omega arith in
    drop-drop (n + 1) start xs ∙ ap (λ (k : ℕ). drop k xs) e

-- the bytes up to a piece, and those with it and its byte
pub take-piece : (xs : List ℕ) (start n : ℕ) → take start xs ++ take (n + 1) (drop start xs) ≡ take (start + n + 1) xs
take-piece xs start n =
    let e : start + (n + 1) ≡ start + n + 1 = omega arith in
    sym (take-add start (n + 1) xs) ∙ ap (λ (k : ℕ). take k xs) e
