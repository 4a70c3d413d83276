-- Entries that are printed are read.
use Rattle.std.proofs.Common.{◌≡◌, ◌≢◌, ◌∙◌, ℕ, ◌≤◌, ◌<◌, true, false, cond, List, [], ◌∷◌, ◌++◌, map, leb, Bool, Option, Some, None, Ok, Err, Result, ap, arith, refl, codes}
use Rattle.std.specs.Prelude.{decimal, bytes_eq, nat_lt}
use Rattle.std.specs.List.{AllByRecursion, list_all}
use Rattle.std.proofs.lemmas.Bool.{cond-false, cond-true, le-ltb, leb-true, lt-ltb}
use Rattle.xb_model.specs.declared.mark.Mark.{Mark}
use Rattle.xb_model.specs.declared.mark.Mark.TheVariants.{Refused}
use Rattle.xb_model.specs.declared.reason.Reason.{Reason}
use Rattle.xb_model.specs.declared.reason.Reason.TheVariants.{Mutilated, Unknown, Abandoned, TimedOut}
use Rattle.xb_model.specs.Page.{four_digits, marks_text, reason_text}
use Rattle.xb_model.specs.Fields.{field_number}
use Rattle.xb_model.proofs.WrittenFields.{field_number-decimal}
use Rattle.xb_page.specs.declared.fault.PageFault.{PageFault}
use Rattle.xb_page.specs.declared.fault.PageFault.TheVariants as fault
use Rattle.xb_page.specs.declared.page_place.PagePlace.{PagePlace}
use Rattle.xb_page.specs.Entries.{Entry, entry_with}
use Rattle.xb_page.specs.Places.{Head, head_and, head_of_fields, head_with, is_refusal, next_number, number_at, or_fault, text_line}
use Rattle.xb_page.specs.ReadPages.{entry_of_fields, entry_of_head, heard_of, is_totals, refusal_of_fields, refusal_of_two}
use Rattle.xb_text.specs.Pieces.{pieces}
use Rattle.xb_page.proofs.MarksBack.{IsKeyMark, mark_field, marks-back, marks-no_line_feed, marks-pieces}
use Rattle.xb_page.proofs.NumbersBack.{and-both, avoids-line_feed, avoids-space, bytes_eq-same, decimal-bytes, four_digits-back, four_digits-bytes, four_digits-no_word}
use Rattle.xb_page.proofs.Avoiding.{Avoids, both, pieces-cut, pieces-whole, weaker}
use Rattle.xb_page.proofs.PlainBytes.{IsLine-word, IsWord-decimal, no_blank, no_feed}

-- a text line of an entry, without its LF: four digits, the number, a word, and what follows
abbrev pub entry_line : ℕ → ℕ → List ℕ → List ℕ
entry_line line n rest = four_digits line ++ (32 ∷ (decimal n ++ (32 ∷ rest)))

pub entry_line-pieces : (line n : ℕ) (rest : List ℕ) → line < 10000
    → pieces 32 (entry_line line n rest) ≡ four_digits line ∷ decimal n ∷ pieces 32 rest
entry_line-pieces line n rest below =
    pieces-cut 32 (four_digits line) (decimal n ++ (32 ∷ rest))
    (avoids-space (four_digits line) (four_digits-bytes line below))
    ∙ ap (λ (more : List (List ℕ)). four_digits line ∷ more)
    (pieces-cut 32 (decimal n) rest (no_blank (decimal n) (IsWord-decimal n)))

pub entry_line-no_line_feed : (line n : ℕ) (rest : List ℕ) → line < 10000 → Avoids 10 rest
    → Avoids 10 (entry_line line n rest)
entry_line-no_line_feed line n rest below avoids =
    let P : ℕ → Type 0 = λ x. x ≢ 10 in
    both P (four_digits line) (32 ∷ (decimal n ++ (32 ∷ rest)))
    (avoids-line_feed (four_digits line) (four_digits-bytes line below)) (
      (λ e. absurd (omega arith)),
      both P (decimal n) (32 ∷ rest)
          (no_feed (decimal n) (IsLine-word (decimal n) (IsWord-decimal n))) ((λ e. absurd (omega arith)), avoids),
    )

-- a line and the number of its next entry come next at a place
pub record At (place : PagePlace) (line n : ℕ) : Type 0 where
  pub low : place.line ≤ line
  pub next : number_at place line ≡ n

number-back : (place : PagePlace) (line n : ℕ) → number_at place line ≡ n → next_number place line (decimal n) ≡ Some n
number-back place line n is =
    ap (λ (k : ℕ). cond (bytes_eq (decimal n) (decimal k)) (Some k) None) is
    ∙ cond-true _ _ _ (bytes_eq-same (decimal n))

-- the head of an entry is read
pub head-back : (place : PagePlace) (line n : ℕ) (kind : List ℕ) (refused : Bool) (fields : List (List ℕ)) → line < 10000
    → At place line n → is_refusal kind ≡ Some refused
    → head_of_fields place (four_digits line ∷ decimal n ∷ kind ∷ fields) ≡ Ok (head_with line n refused fields)
head-back place line n kind refused fields below at is =
    let k = text_line place in
    ap (λ (l : Option ℕ). or_fault {B = Head} (fault.Line k) l (λ l. cond (nat_lt l place.line) (Err (fault.Early k))
    (or_fault (fault.Number k) (next_number place l (decimal n)) (λ m.
    or_fault (fault.Kind k) (is_refusal kind) (λ r. Ok (head_with l m r fields)))))) (four_digits-back line below)
    ∙ cond-false _ _ _ (le-ltb line place.line at.low)
    ∙ ap (λ (m : Option ℕ). or_fault {B = Head} (fault.Number k) m (λ m.
    or_fault (fault.Kind k) (is_refusal kind) (λ r. Ok (head_with line m r fields)))) (number-back place line n at.next)
    ∙ ap (λ (r : Option Bool). or_fault {B = Head} (fault.Kind k) r (λ r. Ok (head_with line n r fields))) is

-- what a text line of an entry says depends on the word and what follows
pub entry-by_head : (place : PagePlace) (line n : ℕ) (kind : List ℕ) (refused : Bool) (fields : List (List ℕ)) → line < 10000
    → At place line n → is_refusal kind ≡ Some refused
    → entry_of_fields place (four_digits line ∷ decimal n ∷ kind ∷ fields)
    ≡ entry_of_head (text_line place) (head_with line n refused fields)
entry-by_head place line n kind refused fields below at is =
    ap (λ (r : Result Head PageFault). head_and r (λ head. entry_of_head (text_line place) head))
    (head-back place line n kind refused fields below at is)

abbrev pub keyed_rest : List Mark → List ℕ
keyed_rest entry = codes "KEYED" ++ marks_text entry

pub keyed-pieces : (line n : ℕ) (entry : List Mark) → line < 10000 → AllByRecursion IsKeyMark entry
    → pieces 32 (entry_line line n (keyed_rest entry))
    ≡ four_digits line ∷ decimal n ∷ codes "KEYED" ∷ map mark_field entry
keyed-pieces line n entry below are =
    let word : Avoids 32 (codes "KEYED") = (
      (λ e. absurd (omega arith)),
      (
        (λ e. absurd (omega arith)),
        ((λ e. absurd (omega arith)), ((λ e. absurd (omega arith)), ((λ e. absurd (omega arith)), tt))),
      ),
    ) in
    entry_line-pieces line n (keyed_rest entry) below
    ∙ ap (λ (more : List (List ℕ)). four_digits line ∷ decimal n ∷ more) (marks-pieces (codes "KEYED") entry word are)

pub keyed-not_totals : (line n : ℕ) (entry : List Mark) → line < 10000 → AllByRecursion IsKeyMark entry
    → is_totals (pieces 32 (entry_line line n (keyed_rest entry))) ≡ false
keyed-not_totals line n entry below are =
    ap (λ (fields : List (List ℕ)). is_totals fields) (keyed-pieces line n entry below are)
    ∙ four_digits-no_word line below

pub keyed-back : (place : PagePlace) (line n : ℕ) (entry : List Mark) → line < 10000 → At place line n
    → AllByRecursion IsKeyMark entry
    → entry_of_fields place (pieces 32 (entry_line line n (keyed_rest entry))) ≡ Ok (entry_with line n entry)
keyed-back place line n entry below at are =
    ap (λ (fields : List (List ℕ)). entry_of_fields place fields) (keyed-pieces line n entry below are)
    ∙ entry-by_head place line n (codes "KEYED") false (map mark_field entry) below at refl
    ∙ ap (λ (marks : Option (List Mark)). or_fault {B = Entry} (fault.Key (text_line place)) marks
    (λ marks. Ok (entry_with line n marks))) (marks-back entry are)

pub keyed-no_line_feed : (entry : List Mark) → AllByRecursion IsKeyMark entry → Avoids 10 (keyed_rest entry)
keyed-no_line_feed entry are = (
  (λ e. absurd (omega arith)),
  (
    (λ e. absurd (omega arith)),
    (
      (λ e. absurd (omega arith)),
      ((λ e. absurd (omega arith)), ((λ e. absurd (omega arith)), marks-no_line_feed entry are)),
    ),
  ),
)

-- words have letters alone
abbrev IsLetter : ℕ → Type 0
IsLetter x = 65 ≤ x

letter : (byte : ℕ) → byte < 65 → (x : ℕ) → IsLetter x → x ≢ byte
letter byte low x is e = absurd (omega arith)

letters : (xs : List ℕ) → list_all (λ x. leb 65 x) xs ≡ true → AllByRecursion IsLetter xs
letters [] all = tt
letters (x ∷ xs) all =
    let parts = and-both (leb 65 x) (list_all (λ x. leb 65 x) xs) all in
    (leb-true 65 x parts.0, letters xs parts.1)

heard-back : (heard : ℕ) → heard < 256 → heard_of (decimal heard) ≡ Some heard
heard-back heard few =
    let read : field_number 3 (decimal heard) ≡ Some heard =
    field_number-decimal 3 heard (omega arith) (omega arith) (omega arith) in
    let low : nat_lt heard 256 ≡ true = lt-ltb heard 256 few in
    rw (read, low) refl

-- a refusal
abbrev pub refused_rest : Reason → ℕ → List ℕ
refused_rest reason heard = codes "REFUSED" ++ (32 ∷ (reason_text reason ++ (32 ∷ decimal heard)))

reason-bytes : (byte : ℕ) (reason : Reason) → byte < 65 → Avoids byte (reason_text reason)
reason-bytes byte Mutilated low = weaker IsLetter (λ x. x ≢ byte) (letter byte low) (codes "MUTILATED") (letters (codes "MUTILATED") refl)
reason-bytes byte Unknown low = weaker IsLetter (λ x. x ≢ byte) (letter byte low) (codes "UNKNOWN") (letters (codes "UNKNOWN") refl)
reason-bytes byte Abandoned low = weaker IsLetter (λ x. x ≢ byte) (letter byte low) (codes "ABANDONED") (letters (codes "ABANDONED") refl)
reason-bytes byte TimedOut low = weaker IsLetter (λ x. x ≢ byte) (letter byte low) (codes "TIMEDOUT") (letters (codes "TIMEDOUT") refl)

pub keyed-word : (byte : ℕ) → byte < 65 → Avoids byte (codes "KEYED")
keyed-word byte low = weaker IsLetter (λ x. x ≢ byte) (letter byte low) (codes "KEYED") (letters (codes "KEYED") refl)

pub refused-word : (byte : ℕ) → byte < 65 → Avoids byte (codes "REFUSED")
refused-word byte low = weaker IsLetter (λ x. x ≢ byte) (letter byte low) (codes "REFUSED") (letters (codes "REFUSED") refl)

pub refused-pieces : (line n : ℕ) (reason : Reason) (heard : ℕ) → line < 10000 → heard < 256
    → pieces 32 (entry_line line n (refused_rest reason heard))
    ≡ four_digits line ∷ decimal n ∷ codes "REFUSED" ∷ reason_text reason ∷ decimal heard ∷ []
refused-pieces line n reason heard below few =
    entry_line-pieces line n (refused_rest reason heard) below
    ∙ ap (λ (more : List (List ℕ)). four_digits line ∷ decimal n ∷ more)
    (pieces-cut 32 (codes "REFUSED") (reason_text reason ++ (32 ∷ decimal heard)) (refused-word 32 (omega arith)))
    ∙ ap (λ (more : List (List ℕ)). four_digits line ∷ decimal n ∷ codes "REFUSED" ∷ more)
    (pieces-cut 32 (reason_text reason) (decimal heard) (reason-bytes 32 reason (omega arith)))
    ∙ ap (λ (more : List (List ℕ)). four_digits line ∷ decimal n ∷ codes "REFUSED" ∷ reason_text reason ∷ more)
    (pieces-whole 32 (decimal heard) (avoids-space (decimal heard) (decimal-bytes heard (omega arith))))

pub refused-not_totals : (line n : ℕ) (reason : Reason) (heard : ℕ) → line < 10000 → heard < 256
    → is_totals (pieces 32 (entry_line line n (refused_rest reason heard))) ≡ false
refused-not_totals line n reason heard below few =
    ap (λ (fields : List (List ℕ)). is_totals fields) (refused-pieces line n reason heard below few)
    ∙ four_digits-no_word line below

refusal-back : (reason : Reason) (heard : ℕ) → heard < 256
    → refusal_of_fields (reason_text reason ∷ decimal heard ∷ []) ≡ Some (Refused reason heard)
refusal-back Mutilated heard few = ap (λ (h : Option ℕ). refusal_of_two (Some Mutilated) h) (heard-back heard few)
refusal-back Unknown heard few = ap (λ (h : Option ℕ). refusal_of_two (Some Unknown) h) (heard-back heard few)
refusal-back Abandoned heard few = ap (λ (h : Option ℕ). refusal_of_two (Some Abandoned) h) (heard-back heard few)
refusal-back TimedOut heard few = ap (λ (h : Option ℕ). refusal_of_two (Some TimedOut) h) (heard-back heard few)

pub refused-back : (place : PagePlace) (line n : ℕ) (reason : Reason) (heard : ℕ) → line < 10000 → At place line n
    → heard < 256
    → entry_of_fields place (pieces 32 (entry_line line n (refused_rest reason heard)))
    ≡ Ok (entry_with line n (Refused reason heard ∷ []))
refused-back place line n reason heard below at few =
    ap (λ (fields : List (List ℕ)). entry_of_fields place fields) (refused-pieces line n reason heard below few)
    ∙ entry-by_head place line n (codes "REFUSED") true (reason_text reason ∷ decimal heard ∷ []) below at refl
    ∙ ap (λ (mark : Option Mark). or_fault {B = Entry} (fault.Refusal (text_line place)) mark
    (λ mark. Ok (entry_with line n (mark ∷ [])))) (refusal-back reason heard few)

pub refused-no_line_feed : (reason : Reason) (heard : ℕ) → heard < 256 → Avoids 10 (refused_rest reason heard)
refused-no_line_feed reason heard few =
    let P : ℕ → Type 0 = λ x. x ≢ 10 in
    both P (codes "REFUSED") (32 ∷ (reason_text reason ++ (32 ∷ decimal heard))) (refused-word 10 (omega arith)) (
      (λ e. absurd (omega arith)),
      both P (reason_text reason) (32 ∷ decimal heard) (reason-bytes 10 reason (omega arith))
          ((λ e. absurd (omega arith)), avoids-line_feed (decimal heard) (decimal-bytes heard (omega arith))),
    )
