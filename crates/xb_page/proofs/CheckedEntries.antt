-- An entry is judged as it is read: by its head, and by what follows.
use Rattle.std.proofs.Common.{◌≡◌, ◌∙◌, ℕ, suc, ◌-◌, Bool, true, false, List, [], ◌∷◌, length, Option, Some, None, Ok, Err, Result, refl, sym, ap, arith}
use Rattle.std.specs.Prelude.{bytes_eq, if◌then◌else◌, is_some, option_and_then, option_map, slice_get}
use Rattle.xb_model.specs.declared.key.Key.{Key}
use Rattle.xb_model.specs.declared.key.Tone.{Tone as Pair}
use Rattle.xb_model.specs.declared.mark.Mark.{Mark}
use Rattle.xb_model.specs.declared.mark.Mark.TheVariants.{Trunk, Tone, Refused}
use Rattle.xb_model.specs.declared.reason.Reason.{Reason}
use Rattle.xb_model.specs.MfPairs.{key_of_pair}
use Rattle.xb_model.specs.Page.{is_refused, key_text, last_refusal, refusal_of}
use Rattle.xb_page.specs.declared.fault.PageFault.{PageFault}
use Rattle.xb_page.specs.declared.fault.PageFault.TheVariants as fault
use Rattle.xb_page.specs.declared.page_place.PagePlace.{PagePlace}
use Rattle.xb_page.specs.Entries.{entry_with}
use Rattle.xb_page.specs.Places.{Head, four_digits_of, head_and, head_of_fields, head_with, next_place, or_fault, place_after, text_line}
use Rattle.xb_page.specs.ReadPages.{after_entry, before, check_rest, colon, entry_and, entry_of_head, if_there, heard_of, mark_of, mark_of_two, marks_of, named_tone, pair_of, reason_of, refusal_of_fields, refusal_of_two, tone_of, two_of}
use Rattle.xb_text.specs.Pieces.{pieces}

-- the last of two or more marks
pub last_refusal-more : (m k : Mark) (ms : List Mark) → last_refusal (m ∷ k ∷ ms) ≡ last_refusal (k ∷ ms)
last_refusal-more m k ms =
    let e : suc (suc (length ms)) - 1 ≡ suc (suc (length ms) - 1) = omega arith in
    ap (λ (i : ℕ). option_and_then refusal_of (slice_get (m ∷ k ∷ ms) i)) e

-- no field writes a refusal
tones-refuse_none : (name : List ℕ) (pair : Option Pair) (m : Mark)
    → option_and_then (λ tones. tone_of name tones) pair ≡ Some m → refusal_of m ≡ None
tones-refuse_none name None m e = absurd (let no : ⊥ = cc in no)
tones-refuse_none name (Some p) m e = of_key (key_of_pair p) e
  where
    by : (k : Key) (named : Bool) → (if named then Some (Tone k p) else None) ≡ Some m → refusal_of m ≡ None
    by k true e = let same : m ≡ Tone k p = cc in ap refusal_of same
    by k false e = absurd (let no : ⊥ = cc in no)

    of_key : (key : Option Key) → option_and_then (λ k. named_tone name p k) key ≡ Some m → refusal_of m ≡ None
    of_key None e = absurd (let no : ⊥ = cc in no)
    of_key (Some k) e = by k (bytes_eq name (key_text k)) e

trunks-refuse_none : (trunk : Option ℕ) (m : Mark) → option_map (λ t. Trunk t) trunk ≡ Some m → refusal_of m ≡ None
trunks-refuse_none None m e = absurd (let no : ⊥ = cc in no)
trunks-refuse_none (Some t) m e = let same : m ≡ Trunk t = cc in ap refusal_of same

mark_of-refuses_none : (field : List ℕ) (m : Mark) → mark_of field ≡ Some m → refusal_of m ≡ None
mark_of-refuses_none field m e = by (two_of (pieces colon field)) e
  where
    by : (two : Option (List ℕ × List ℕ)) → mark_of_two field two ≡ Some m → refusal_of m ≡ None
    by None e = trunks-refuse_none (four_digits_of field) m e
    by (Some two) e = tones-refuse_none two.0 (pair_of two.1) m e

-- so marks that fields write are no refusal
marks_of-keyed : (fields : List (List ℕ)) (marks : List Mark) → marks_of fields ≡ Some marks → last_refusal marks ≡ None
marks_of-keyed [] marks e = let same : marks ≡ [] = cc in ap last_refusal same
marks_of-keyed (field ∷ fields) marks e = by (mark_of field) (marks_of fields) refl (marks_of-keyed fields) e
  where
    more : (m : Mark) (ms : List Mark) → refusal_of m ≡ None → last_refusal ms ≡ None → last_refusal (m ∷ ms) ≡ None
    more m [] none rest = none
    more m (k ∷ ms) none rest = last_refusal-more m k ms ∙ rest

    by : (mark : Option Mark) (rest : Option (List Mark)) → mark_of field ≡ mark
        → ((ms : List Mark) → rest ≡ Some ms → last_refusal ms ≡ None)
        → before mark rest ≡ Some marks → last_refusal marks ≡ None
    by None rest is none e = absurd (let no : ⊥ = cc in no)
    by (Some m) None is none e = absurd (let no : ⊥ = cc in no)
    by (Some m) (Some ms) is none e =
        let same : marks ≡ m ∷ ms = cc in
        ap last_refusal same ∙ more m ms (mark_of-refuses_none field m is) (none ms refl)

-- and what two fields write is one
refusal-refuses : (fields : List (List ℕ)) (mark : Mark) → refusal_of_fields fields ≡ Some mark → is_refused (mark ∷ []) ≡ true
refusal-refuses fields mark e = by (two_of fields) e
  where
    both : (reason : Option Reason) (heard : Option ℕ) → refusal_of_two reason heard ≡ Some mark → is_refused (mark ∷ []) ≡ true
    both None heard e = absurd (let no : ⊥ = cc in no)
    both (Some r) None e = absurd (let no : ⊥ = cc in no)
    both (Some r) (Some h) e =
        let same : mark ≡ Refused r h = cc in ap (λ (m : Mark). is_refused (m ∷ [])) same

    by : (two : Option (List ℕ × List ℕ))
        → option_and_then (λ (two : List ℕ × List ℕ). refusal_of_two (reason_of two.0) (heard_of two.1)) two ≡ Some mark
        → is_refused (mark ∷ []) ≡ true
    by None e = absurd (let no : ⊥ = cc in no)
    by (Some two) e = both (reason_of two.0) (heard_of two.1) e

abbrev pub unit_and : Result (Unit {0}) PageFault → Result PagePlace PageFault → Result PagePlace PageFault
unit_and (Err f) next = Err f
unit_and (Ok u) next = next

-- the place after the entry of a head
place-of_head : (place : PagePlace) (n line number : ℕ) (refused : Bool) (rest : List (List ℕ))
    → entry_and (entry_of_head n (head_with line number refused rest)) (λ e. Ok (place_after place e))
    ≡ unit_and (check_rest n refused rest) (Ok (next_place place line number refused))
place-of_head place n line number true rest = by (refusal_of_fields rest) refl
  where
    by : (found : Option Mark) → refusal_of_fields rest ≡ found
        → entry_and (or_fault (fault.Refusal n) found (λ mark. Ok (entry_with line number (mark ∷ [])))) (λ e. Ok (place_after place e))
        ≡ unit_and (if_there (fault.Refusal n) found) (Ok (next_place place line number true))
    by None is = refl
    by (Some mark) is = ap (λ (b : Bool). Ok (next_place place line number b)) (refusal-refuses rest mark is)
place-of_head place n line number false rest = by (marks_of rest) refl
  where
    by : (found : Option (List Mark)) → marks_of rest ≡ found
        → entry_and (or_fault (fault.Key n) found (λ marks. Ok (entry_with line number marks))) (λ e. Ok (place_after place e))
        ≡ unit_and (if_there (fault.Key n) found) (Ok (next_place place line number false))
    by None is = refl
    by (Some marks) is =
        ap (λ (o : Option (Reason × ℕ)). Ok (next_place place line number (is_some o))) (marks_of-keyed rest marks is)

-- the same, by what was judged
pub place-by_rest : (place : PagePlace) (n line number : ℕ) (refused : Bool) (fields : List (List ℕ)) (rest : Result (Unit {0}) PageFault)
    → n ≡ text_line place → rest ≡ check_rest n refused fields
    → unit_and rest (Ok (next_place place line number refused))
    ≡ entry_and (entry_of_head (text_line place) (head_with line number refused fields)) (λ e. Ok (place_after place e))
place-by_rest place n line number refused fields rest n_is judged =
    ap (λ (r : Result (Unit {0}) PageFault). unit_and r (Ok (next_place place line number refused))) judged
    ∙ sym (place-of_head place n line number refused fields)
    ∙ ap (λ (k : ℕ). entry_and (entry_of_head k (head_with line number refused fields)) (λ e. Ok (place_after place e))) n_is

-- the place after the entry of a text line whose head is read
pub after_entry-head : (place : PagePlace) (fields : List (List ℕ)) (head : Head) → head_of_fields place fields ≡ Ok head
    → after_entry place fields ≡ entry_and (entry_of_head (text_line place) head) (λ e. Ok (place_after place e))
after_entry-head place fields head is =
    ap (λ (r : Result Head PageFault). entry_and (head_and r (λ head. entry_of_head (text_line place) head))
    (λ e. Ok (place_after place e))) is

-- where the head has a fault
pub after_entry-fault : (place : PagePlace) (fields : List (List ℕ)) (f : PageFault) → head_of_fields place fields ≡ Err f
    → after_entry place fields ≡ Err f
after_entry-fault place fields f is =
    ap (λ (r : Result Head PageFault). entry_and (head_and r (λ head. entry_of_head (text_line place) head))
    (λ e. Ok (place_after place e))) is

-- the fields after the head, one by one
pub there-more : (n : ℕ) (all : Result (Unit {0}) PageFault) (field : List ℕ) (fields : List (List ℕ))
    → all ≡ if_there (fault.Key n) (marks_of (field ∷ fields)) → is_some (mark_of field) ≡ true
    → all ≡ if_there (fault.Key n) (marks_of fields)
there-more n all field fields is some = is ∙ by (mark_of field) (marks_of fields) some
  where
    by : (mark : Option Mark) (rest : Option (List Mark)) → is_some mark ≡ true
        → if_there (fault.Key n) (before mark rest) ≡ if_there (fault.Key n) rest
    by None rest some = absurd (let no : ⊥ = cc in no)
    by (Some m) None some = refl
    by (Some m) (Some ms) some = refl

pub there-wrong : (n : ℕ) (all : Result (Unit {0}) PageFault) (field : List ℕ) (fields : List (List ℕ))
    → all ≡ if_there (fault.Key n) (marks_of (field ∷ fields)) → mark_of field ≡ None → all ≡ Err (fault.Key n)
there-wrong n all field fields is none =
    is ∙ ap (λ (m : Option Mark). if_there (fault.Key n) (before m (marks_of fields))) none
