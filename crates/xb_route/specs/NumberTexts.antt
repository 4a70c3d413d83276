-- Numbers as they are written: words, or the text lines of a text.
use Rattle.std.specs.Prelude.{◌⊎◌, ◌≡◌, ◌&&◌, ℕ, not, Bool, List, [], ◌∷◌, Option, Some, None, is_none, Result, Ok, Err}
use Rattle.std.specs.List.{enumerate_from, filter, filter_map}
use Rattle.xb_calls.specs.declared.wrong_byte.WrongByte.{WrongByte}
use Rattle.xb_calls.specs.Lists.{is_grouping, is_passed_over, text_lines}
use Rattle.xb_calls.specs.WrongBytes.{first_wrong}
use Rattle.xb_route.specs.declared.fault.NumberFault.{NumberFault}
use Rattle.xb_route.specs.declared.fault.NumberFault.TheVariants as fault
use Rattle.xb_model.specs.Letters.{digit_of_character}

-- a character that neither dials a digit, nor groups digits
abbrev pub is_wrong : ℕ → Bool
is_wrong character = not (is_grouping character) && is_none (digit_of_character character)

-- the digits that the characters of a text dial
abbrev pub digits_of : List ℕ → List ℕ
digits_of text = filter_map digit_of_character text

-- digits, of which there is one at least
abbrev pub number_of_digits : List ℕ → Result (List ℕ) NumberFault
number_of_digits [] = Err fault.NoDigits
number_of_digits (digit ∷ digits) = Ok (digit ∷ digits)

-- no character is wrong, or else the first that is
abbrev pub unless_wrong : Option WrongByte → Result (List ℕ) NumberFault → Result (List ℕ) NumberFault
unless_wrong None number = number
unless_wrong (Some wrong) number = Err (fault.Character wrong)

-- the number that a text writes, or its fault
abbrev pub number_of_text : List ℕ → Result (List ℕ) NumberFault
number_of_text text = unless_wrong (first_wrong is_wrong text) (number_of_digits (digits_of text))

-- memory ran out, or it is the fault of a text
abbrev pub IsFaultOfText : List ℕ → NumberFault → Type 0
IsFaultOfText text f = (f ≡ fault.NoMemory) ⊎ (number_of_text text ≡ Err f)

-- numbers, or the first fault with its place
abbrev pub Numbers : Type 0
Numbers = Result (List (List ℕ)) (ℕ × NumberFault)

-- a number before the later ones, or the first fault, that of the text of this place
abbrev pub number_and_rest : ℕ → Result (List ℕ) NumberFault → Numbers → Numbers
number_and_rest n (Err f) rest = Err (n, f)
number_and_rest n (Ok number) (Err wrong) = Err wrong
number_and_rest n (Ok number) (Ok numbers) = Ok (number ∷ numbers)

-- the numbers of texts, each with its place
unfoldable pub numbers_of : List (ℕ × List ℕ) → Numbers
numbers_of [] = Ok []
numbers_of (text ∷ texts) = number_and_rest text.0 (number_of_text text.1) (numbers_of texts)

-- the numbers of words, counted from 1
abbrev pub numbers_of_words : List (List ℕ) → Numbers
numbers_of_words words = numbers_of (enumerate_from 1 words)

-- the text lines that are not passed over
abbrev pub lines_read : List (ℕ × List ℕ) → List (ℕ × List ℕ)
lines_read lines = filter (λ line. not (is_passed_over line.1)) lines

-- the numbers of a text, one in each text line, counted from 1
abbrev pub numbers_of_text : List ℕ → Numbers
numbers_of_text text = numbers_of (lines_read (enumerate_from 1 (text_lines text)))
