-- The head of an entry is read as it is written, and so are the totals.
use Rattle.std.proofs.Common.{◌≡◌, ◌<◌, ◌-◌, ℕ, Bool, true, false, ◌&&◌, List, [], ◌∷◌, ◌++◌, length, decimal, codes, Some, refl, ap, ◌∙◌, arith, append_assoc}
use Rattle.std.specs.Prelude.{Ok, Result, bytes_eq}
use Rattle.xb_model.specs.declared.line.TheConstants.{LINES}
use Rattle.xb_model.specs.Page.{entry_head, four_digits, totals_text}
use Rattle.xb_page.specs.declared.fault.PageFault.{PageFault}
use Rattle.xb_page.specs.declared.page_place.PagePlace.{PagePlace}
use Rattle.xb_page.specs.PageLines.{words}
use Rattle.xb_page.specs.Entries.{Entry}
use Rattle.xb_page.specs.Places.{place_after, space}
use Rattle.xb_page.specs.ReadPages.{after_entry, are_four, entry_and, entry_of_fields, is_totals, says_totals}
use Rattle.xb_page.proofs.Avoiding.{pieces-cut, pieces-whole}
use Rattle.xb_page.proofs.EntriesBack.{entry_line}
use Rattle.xb_page.proofs.NumbersBack.{bytes_eq-same, four_digits-no_word}
use Rattle.xb_page.proofs.PlainBytes.{AreFrom-append, IsLine, IsLine-word, IsWord, IsWord-decimal, IsWord-zeros, no_blank, plain}

pub IsWord-four_digits : (l : ℕ) → IsWord (four_digits l)
IsWord-four_digits l = AreFrom-append 33 _ (decimal l) (IsWord-zeros (4 - length (decimal l))) (IsWord-decimal l)

-- what follows the head of an entry
abbrev pub with_head : ℕ → ℕ → List ℕ → List ℕ
with_head line n tail = entry_head line n ++ space ∷ tail

-- the words of an entry
entry_words : (line n : ℕ) (tail : List ℕ) → with_head line n tail ≡ four_digits line ++ space ∷ (decimal n ++ space ∷ tail)
entry_words line n tail =
    append_assoc (four_digits line ++ codes " ") (decimal n) (space ∷ tail)
    ∙ append_assoc (four_digits line) (codes " ") (decimal n ++ space ∷ tail)

pub IsLine-with_head : (line n : ℕ) (tail : List ℕ) → IsLine tail → IsLine (with_head line n tail)
IsLine-with_head line n tail is =
    AreFrom-append 32 _ _
    (AreFrom-append 32 _ _ (AreFrom-append 32 _ _ (IsLine-word _ (IsWord-four_digits line)) (omega arith, tt)) (IsLine-word _ (IsWord-decimal n)))
    (omega arith, is)

-- a word and what follows it
pub words-cut : (xs ys : List ℕ) → IsWord xs → words (xs ++ space ∷ ys) ≡ xs ∷ words ys
words-cut xs ys is = pieces-cut space xs ys (no_blank xs is)

pub words-head : (line n : ℕ) (tail : List ℕ) → words (with_head line n tail) ≡ four_digits line ∷ decimal n ∷ words tail
words-head line n tail =
    ap words (entry_words line n tail)
    ∙ words-cut (four_digits line) (decimal n ++ space ∷ tail) (IsWord-four_digits line)
    ∙ ap (λ (more : List (List ℕ)). four_digits line ∷ more) (words-cut (decimal n) tail (IsWord-decimal n))

-- an entry that is read, and the place after it
pub after_entry-read : (place : PagePlace) (line n : ℕ) (tail : List ℕ) (entry : Entry)
    → entry_of_fields place (words (entry_line line n tail)) ≡ Ok entry
    → after_entry place (words (with_head line n tail)) ≡ Ok (place_after place entry)
after_entry-read place line n tail entry is =
    ap (λ (text : List ℕ). after_entry place (words text)) (entry_words line n tail)
    ∙ ap (λ (r : Result Entry PageFault). entry_and {A = PagePlace} r (λ e. Ok (place_after place e))) is

-- an entry is not the totals
pub is_totals-entry : (line n : ℕ) (tail : List ℕ) → line < LINES → is_totals (words (with_head line n tail)) ≡ false
is_totals-entry line n tail below =
    ap (λ (all : List (List ℕ)). is_totals all) (words-head line n tail) ∙ four_digits-no_word line (omega arith)

-- the words of the totals
abbrev pub totals_words : ℕ → ℕ → List ℕ
totals_words keyed refused = codes "KEYED" ++ space ∷ (decimal keyed ++ space ∷ (codes "REFUSED" ++ space ∷ decimal refused))

pub totals_text-words : (keyed refused : ℕ) → totals_text keyed refused ≡ totals_words keyed refused ++ codes "\n"
totals_text-words keyed refused =
    let spelled : codes "KEYED " ++ decimal keyed ++ codes " REFUSED " ++ decimal refused ≡ totals_words keyed refused
    = simp append_assoc in
    ap (λ (bytes : List ℕ). bytes ++ codes "\n") spelled

pub IsLine-totals : (keyed refused : ℕ) → IsLine (totals_words keyed refused)
IsLine-totals keyed refused =
    let second : IsLine (space ∷ decimal refused) = (omega arith, IsLine-word _ (IsWord-decimal refused)) in
    let middle : IsLine (space ∷ (codes "REFUSED" ++ space ∷ decimal refused))
    = (omega arith, AreFrom-append 32 (codes "REFUSED") (space ∷ decimal refused) (plain 32 (codes "REFUSED") refl) second) in
    let first : IsLine (space ∷ (decimal keyed ++ space ∷ (codes "REFUSED" ++ space ∷ decimal refused)))
    = (omega arith, AreFrom-append 32 (decimal keyed) (space ∷ (codes "REFUSED" ++ space ∷ decimal refused)) (IsLine-word _ (IsWord-decimal keyed)) middle) in
    AreFrom-append 32 (codes "KEYED") (space ∷ (decimal keyed ++ space ∷ (codes "REFUSED" ++ space ∷ decimal refused))) (plain 32 (codes "KEYED") refl) first

pub words-totals : (keyed refused : ℕ)
    → words (totals_words keyed refused) ≡ codes "KEYED" ∷ decimal keyed ∷ codes "REFUSED" ∷ decimal refused ∷ []
words-totals keyed refused =
    words-cut (codes "KEYED") (decimal keyed ++ space ∷ (codes "REFUSED" ++ space ∷ decimal refused)) (plain 33 (codes "KEYED") refl)
    ∙ ap (λ (more : List (List ℕ)). codes "KEYED" ∷ more)
    (words-cut (decimal keyed) (codes "REFUSED" ++ space ∷ decimal refused) (IsWord-decimal keyed))
    ∙ ap (λ (more : List (List ℕ)). codes "KEYED" ∷ decimal keyed ∷ more)
    (words-cut (codes "REFUSED") (decimal refused) (plain 33 (codes "REFUSED") refl))
    ∙ ap (λ (more : List (List ℕ)). codes "KEYED" ∷ decimal keyed ∷ codes "REFUSED" ∷ more)
    (pieces-whole space (decimal refused) (no_blank (decimal refused) (IsWord-decimal refused)))

pub is_totals-totals : (keyed refused : ℕ) → is_totals (words (totals_words keyed refused)) ≡ true
is_totals-totals keyed refused = ap (λ (all : List (List ℕ)). is_totals all) (words-totals keyed refused)

-- the totals are those of the place
pub are-totals : (k r : ℕ) (place : PagePlace) → place.keyed ≡ k → place.refused ≡ r
    → says_totals place (codes "KEYED" ∷ decimal k ∷ codes "REFUSED" ∷ decimal r ∷ []) ≡ true
are-totals k r place keyed refused =
    ap (λ (n : ℕ). are_four n place.refused (Some (codes "KEYED", decimal k, codes "REFUSED", decimal r))) keyed
    ∙ ap (λ (n : ℕ). are_four k n (Some (codes "KEYED", decimal k, codes "REFUSED", decimal r))) refused
    ∙ ap (λ (b : Bool). b && true && bytes_eq (decimal r) (decimal r)) (bytes_eq-same (decimal k))
    ∙ bytes_eq-same (decimal r)

pub says_totals-totals : (place : PagePlace) → says_totals place (words (totals_words place.keyed place.refused)) ≡ true
says_totals-totals place =
    ap (λ (all : List (List ℕ)). says_totals place all) (words-totals place.keyed place.refused)
    ∙ are-totals place.keyed place.refused place refl refl
