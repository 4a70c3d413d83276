-- The numbers of texts, one after the other.
use Rattle.std.proofs.Common.{◌≡◌, inl, inr, ℕ, List, [], ◌∷◌, ◌++◌, Ok, Err, refl, sym, ap, ◌∙◌, append_assoc, append-nil}
use Rattle.xb_route.specs.declared.fault.NumberFault.{NumberFault}
use Rattle.xb_route.specs.NumberTexts.{Numbers, IsFaultOfText, number_and_rest, number_of_text, numbers_of}
use Rattle.xb_route.specs.TextSteps.{StopsBy, TakesText, after}

after-more : (n : ℕ) (numbers : List (List ℕ)) (number : List ℕ) (rest : Numbers)
    → after numbers (number_and_rest n (Ok number) rest) ≡ after (numbers ++ number ∷ []) rest
after-more n numbers number (Ok later) = ap Ok (sym (append_assoc numbers (number ∷ []) later))
after-more n numbers number (Err wrong) = refl

-- at first no number was read
pub after-none : (numbers : Numbers) → after [] numbers ≡ numbers
after-none (Ok numbers) = refl
after-none (Err wrong) = refl

-- a text with a number
pub takes_text : (n : ℕ) (text : List ℕ) (numbers : List (List ℕ)) (number : List ℕ) → number_of_text text ≡ Ok number
    → TakesText n text numbers (numbers ++ number ∷ [])
unfolding numbers_of
takes_text n text numbers number is later =
    ap (λ first. after numbers (number_and_rest n first (numbers_of later))) is
    ∙ after-more n numbers number (numbers_of later)

-- a text with a fault
pub stops_by : (n : ℕ) (text : List ℕ) (f : NumberFault) → IsFaultOfText text f → StopsBy n text (n, f)
unfolding numbers_of
stops_by n text f (inl memory) = inl memory
stops_by n text f (inr is) = inr (λ later. ap (λ first. number_and_rest n first (numbers_of later)) is)

-- no text is left
pub numbers-none : (numbers : List (List ℕ)) → after numbers (numbers_of []) ≡ Ok numbers
unfolding numbers_of
numbers-none numbers = ap Ok (append-nil numbers)
