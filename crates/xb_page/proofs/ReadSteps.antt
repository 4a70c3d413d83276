-- The steps of reading a page.
use Rattle.std.proofs.Common.{◌≡◌, ◌∙◌, ℕ, suc, ◌+◌, ◌<◌, ◌≤◌, Bool, Bor, true, false, cond, List, [], ◌∷◌, ◌++◌, length, eqb, Option, Some, None, Ok, Err, Result, IfOk, IfErr, inl, inr, drop, ne_eqb, sym, ap, append_assoc, append-nil, arith, refl}
use Rattle.std.specs.List.{onto_first}
use Rattle.std.specs.Prelude.{option_copied}
use Rattle.std.proofs.lemmas.Bool.{cond-true, cond-false}
use Rattle.std.proofs.lemmas.List.Splits.{length-slice_split}
use Rattle.std.proofs.lemmas.List.Sums.{count_by-le-length}
use Rattle.xb_model.specs.declared.mark.Mark.{Mark}
use Rattle.xb_page.proofs.Counts.{some-piece}
use Rattle.xb_page.specs.Entries.{Entry}
use Rattle.xb_page.specs.Places.{Head, field_at, head_and, head_of_fields, head_of_words, line_feed, place_after, text_line, written}
use Rattle.xb_page.specs.declared.fault.PageFault.{PageFault}
use Rattle.xb_page.specs.declared.fault.PageFault.TheVariants as fault
use Rattle.xb_page.specs.declared.page_place.Head.{Head as WrittenHead}
use Rattle.xb_page.specs.declared.page_place.PagePlace.{PagePlace}
use Rattle.xb_page.specs.ReadPages.{IsFaultOf, TakesLine, after, before, before_entries, end_of, entries_from, entry_and_rest, entry_of_fields, entry_of_head, is_cut, is_end, is_totals, mark_of, marks_of, says_totals, with_earlier}
use Rattle.xb_text.specs.Pieces.{pieces, pieces_left}

pub earlier-none : (marks : Option (List Mark)) → marks ≡ with_earlier [] marks
earlier-none None = refl
earlier-none (Some marks) = refl

earlier-one : (earlier : List Mark) (mark : Mark) (rest : Option (List Mark))
    → with_earlier earlier (before (Some mark) rest) ≡ with_earlier (earlier ++ mark ∷ []) rest
earlier-one earlier mark None = refl
earlier-one earlier mark (Some rest) = ap Some (sym (append_assoc earlier (mark ∷ []) rest))

-- a field more
pub earlier-more : (all : Option (List Mark)) (earlier new : List Mark) (mark : Mark) (field : List ℕ) (fields : List (List ℕ))
    → all ≡ with_earlier earlier (marks_of (field ∷ fields)) → mark_of field ≡ Some mark → new ≡ earlier ++ mark ∷ []
    → all ≡ with_earlier new (marks_of fields)
earlier-more all earlier new mark field fields is reads items =
    is ∙ ap (λ (m : Option Mark). with_earlier earlier (before m (marks_of fields))) reads
    ∙ earlier-one earlier mark (marks_of fields)
    ∙ ap (λ (marks : List Mark). with_earlier marks (marks_of fields)) (sym items)

-- a field that is wrong
pub earlier-wrong : (all : Option (List Mark)) (earlier : List Mark) (field : List ℕ) (fields : List (List ℕ))
    → all ≡ with_earlier earlier (marks_of (field ∷ fields)) → mark_of field ≡ None → all ≡ None
earlier-wrong all earlier field fields is wrong =
    is ∙ ap (λ (m : Option Mark). with_earlier earlier (before m (marks_of fields))) wrong

pub earlier-all : (all : Option (List Mark)) (earlier : List Mark) → all ≡ with_earlier earlier (Some []) → all ≡ Some earlier
earlier-all all earlier is = is ∙ ap Some (append-nil earlier)

-- at first no entry was read
pub after-none : (entries : Result (List Entry) PageFault) → entries ≡ after [] entries
after-none (Ok entries) = refl
after-none (Err f) = refl

after-more : (entries : List Entry) (entry : Entry) (rest : Result (List Entry) PageFault)
    → after entries (before_entries entry rest) ≡ after (entries ++ entry ∷ []) rest
after-more entries entry (Ok later) = ap Ok (sym (append_assoc entries (entry ∷ []) later))
after-more entries entry (Err f) = refl

pub takes_entry : (place next : PagePlace) (line : List ℕ) (old new : List Entry) (entry : Entry)
    → entry_of_fields place (pieces 32 line) ≡ Ok entry → next ≡ place_after place entry → new ≡ old ++ entry ∷ []
    → TakesLine place line old next new
takes_entry place next line old new entry is goes items later =
    ap (λ (first : Result Entry PageFault). after old (entry_and_rest first
    (λ entry. entries_from (place_after place entry) later))) is
    ∙ after-more old entry (entries_from (place_after place entry) later)
    ∙ ap (λ (all : List Entry). after all (entries_from (place_after place entry) later)) (sym items)
    ∙ ap (λ (p : PagePlace). after new (entries_from p later)) (sym goes)

-- a text line comes next, and these after it
pub record HasLine (all : Result (List Entry) PageFault) (place : PagePlace) (old : List Entry) (line : List ℕ)
    (lines : List (List ℕ)) : Type 0 where
  pub is : all ≡ after old (entries_from place (line ∷ lines))
  pub more : is_end (line ∷ lines) ≡ false

-- it is the first piece of what is left
pub has-line : (all : Result (List Entry) PageFault) (place : PagePlace) (old : List Entry) (left : Option (Bor (List ℕ)))
    (text : Bor (List ℕ)) (line : List ℕ) (lines : List (List ℕ))
    → all ≡ after old (entries_from place (pieces_left line_feed (option_copied left))) → left ≡ Some text
    → pieces line_feed text.now ≡ line ∷ lines → false ≡ is_end (pieces line_feed text.now) → HasLine all place old line lines
has-line all place old left text line lines is some first goes_on = record {
  is = is
      ∙ ap (λ (o : Option (Bor (List ℕ))). after old (entries_from place (pieces_left line_feed (option_copied o)))) some
      ∙ ap (λ (ls : List (List ℕ)). after old (entries_from place ls)) first;
  more = ap is_end (sym first) ∙ sym goes_on;
}

-- the steps of the loop over the text lines
pub line-more : (all : Result (List Entry) PageFault) (place next : PagePlace) (line : List ℕ) (lines : List (List ℕ)) (old new : List Entry)
    → HasLine all place old line lines → is_totals (pieces 32 line) ≡ false
    → TakesLine place line old next new → all ≡ after new (entries_from next lines)
unfolding entries_from
line-more all place next line lines old new has other takes =
    has.is ∙ ap (after old) (cond-false _ _ _ has.more ∙ cond-false _ _ _ other) ∙ takes lines

line-wrong : (all : Result (List Entry) PageFault) (place : PagePlace) (line : List ℕ) (lines : List (List ℕ)) (old : List Entry) (f : PageFault)
    → HasLine all place old line lines → is_totals (pieces 32 line) ≡ false
    → entry_of_fields place (pieces 32 line) ≡ Err f → all ≡ Err f
unfolding entries_from
line-wrong all place line lines old f has other wrong =
    has.is ∙ ap (after old) (cond-false _ _ _ has.more ∙ cond-false _ _ _ other
    ∙ ap (λ (first : Result Entry PageFault). entry_and_rest first
    (λ entry. entries_from (place_after place entry) lines)) wrong)

pub line-fault : (all : Result (List Entry) PageFault) (place : PagePlace) (line : List ℕ) (lines : List (List ℕ)) (old : List Entry) (f : PageFault)
    → HasLine all place old line lines → is_totals (pieces 32 line) ≡ false
    → IsFaultOf (entry_of_fields place (pieces 32 line)) f → IsFaultOf all f
line-fault all place line lines old f has other (inl memory) = inl memory
line-fault all place line lines old f has other (inr wrong) = inr (line-wrong all place line lines old f has other wrong)

line-totals : (all : Result (List Entry) PageFault) (place : PagePlace) (line : List ℕ) (lines : List (List ℕ)) (old : List Entry)
    → HasLine all place old line lines → is_totals (pieces 32 line) ≡ true
    → all ≡ after old (end_of place (pieces 32 line) lines)
unfolding entries_from
line-totals all place line lines old has totals =
    has.is ∙ ap (after old) (cond-false _ _ _ has.more ∙ cond-true _ _ _ totals)

pub line-last : (all : Result (List Entry) PageFault) (place : PagePlace) (line : List ℕ) (lines : List (List ℕ)) (old : List Entry)
    → HasLine all place old line lines → is_totals (pieces 32 line) ≡ true
    → end_of place (pieces 32 line) lines ≡ Ok [] → all ≡ Ok old
line-last all place line lines old has totals end =
    line-totals all place line lines old has totals ∙ ap (after old) end ∙ ap Ok (append-nil old)

pub line-early : (all : Result (List Entry) PageFault) (place : PagePlace) (line : List ℕ) (lines : List (List ℕ)) (old : List Entry) (f : PageFault)
    → HasLine all place old line lines → is_totals (pieces 32 line) ≡ true
    → end_of place (pieces 32 line) lines ≡ Err f → all ≡ Err f
line-early all place line lines old f has totals end =
    line-totals all place line lines old has totals ∙ ap (after old) end

pub lines-end : (all : Result (List Entry) PageFault) (place : PagePlace) (lines : List (List ℕ)) (old : List Entry)
    → all ≡ after old (entries_from place lines) → is_end lines ≡ true → all ≡ Err (fault.NoTotals (text_line place))
unfolding entries_from
lines-end all place [] old is end = is
lines-end all place (line ∷ lines) old is end = is ∙ ap (after old) (cond-true _ _ _ end)

-- a text is at least one piece
pub is_cut-pieces : (text : List ℕ) → is_cut (pieces 10 text) ≡ false
is_cut-pieces text = by (pieces 10 text) (some-piece 10 text)
  where
    by : (parts : List (List ℕ)) → 0 < length parts → is_cut parts ≡ false
    by [] some = absurd (omega arith)
    by (part ∷ parts) some = refl

pub end-goes_on : (place : PagePlace) (fields lines : List (List ℕ)) → says_totals place fields ≡ true → is_end lines ≡ false
    → is_cut lines ≡ false → end_of place fields lines ≡ Err (fault.GoesOn (text_line place))
end-goes_on place fields lines says more some =
    cond-true _ _ _ says ∙ cond-false _ _ _ more ∙ cond-false _ _ _ some

pub line-none : (all : Result (List Entry) PageFault) (place : PagePlace) (old : List Entry)
    → all ≡ after old (entries_from place []) → all ≡ Err (fault.NoTotals (text_line place))
unfolding entries_from
line-none all place old is = is

-- there are no more text lines than bytes, and one
pub few-lines : (text : List ℕ) → length (pieces 10 text) ≤ length text + 1
few-lines text =
    let some = length-slice_split (λ b. eqb b 10) text in
    let few = count_by-le-length (λ b. eqb b 10) text in
    omega (arith, some, few)

not_empty : (x : ℕ) (xs : List ℕ) → false ≡ eqb (length (x ∷ xs)) 0
not_empty x xs = sym (ne_eqb (suc (length xs)) 0 (λ e. absurd (omega arith)))

-- only an empty text is one empty line
pub is_end-pieces : (text : List ℕ) → is_end (pieces 10 text) ≡ eqb (length text) 0
is_end-pieces [] = refl
is_end-pieces (x ∷ xs) = by (eqb x 10) (pieces 10 xs) (some-piece 10 xs)
  where
    by : (b : Bool) (parts : List (List ℕ)) → 0 < length parts
        → is_end (cond b ([] ∷ parts) (onto_first x parts)) ≡ eqb (length (x ∷ xs)) 0
    by b [] some = absurd (omega arith)
    by true (part ∷ parts) some = not_empty x xs
    by false (part ∷ parts) some = not_empty x xs

-- the fields of a text line, one after another
field-1 : (fields : List (List ℕ)) → field_at (drop 1 fields) 0 ≡ field_at fields 1
field-1 [] = refl
field-1 (a ∷ fields) = refl

field-2 : (fields : List (List ℕ)) → field_at (drop 1 (drop 1 fields)) 0 ≡ field_at fields 2
field-2 [] = refl
field-2 (a ∷ []) = refl
field-2 (a ∷ b ∷ fields) = refl

fields-3 : (fields : List (List ℕ)) → drop 1 (drop 1 (drop 1 fields)) ≡ drop 3 fields
fields-3 [] = refl
fields-3 (a ∷ []) = refl
fields-3 (a ∷ b ∷ []) = refl
fields-3 (a ∷ b ∷ c ∷ fields) = refl

pub fields-in_turn : (place : PagePlace) (fields one two three : List (List ℕ)) (a b kind : List ℕ)
    → a ≡ field_at fields 0 → one ≡ drop 1 fields → b ≡ field_at one 0 → two ≡ drop 1 one
    → kind ≡ field_at two 0 → three ≡ drop 1 two
    → head_of_fields place fields ≡ head_of_words place a b kind three
fields-in_turn place fields one two three a b kind a_is one_is b_is two_is kind_is three_is =
    let two_all : two ≡ drop 1 (drop 1 fields) = two_is ∙ ap (λ (fs : List (List ℕ)). drop 1 fs) one_is in
    let b_all : b ≡ field_at fields 1 = b_is ∙ ap (λ (fs : List (List ℕ)). field_at fs 0) one_is ∙ field-1 fields in
    let kind_all : kind ≡ field_at fields 2 =
    kind_is ∙ ap (λ (fs : List (List ℕ)). field_at fs 0) two_all ∙ field-2 fields in
    let three_all : three ≡ drop 3 fields =
    three_is ∙ ap (λ (fs : List (List ℕ)). drop 1 fs) two_all ∙ fields-3 fields in
    ap (λ (x : List ℕ). head_of_words place x (field_at fields 1) (field_at fields 2) (drop 3 fields)) (sym a_is)
    ∙ ap (λ (x : List ℕ). head_of_words place a x (field_at fields 2) (drop 3 fields)) (sym b_all)
    ∙ ap (λ (x : List ℕ). head_of_words place a b x (drop 3 fields)) (sym kind_all)
    ∙ ap (λ (x : List (List ℕ)). head_of_words place a b kind x) (sym three_all)

pub same-head : (r : Result WrittenHead PageFault) (says now : Result Head PageFault) → says ≡ now
    → IfOk r (λ x. now ≡ Ok (written x)) → IfOk r (λ x. says ≡ Ok (written x))
same-head (Ok x) says now is h = is ∙ h
same-head (Err f) says now is h = tt

pub same-head_fault : (r : Result WrittenHead PageFault) (says now : Result Head PageFault) → says ≡ now
    → IfErr r (λ f. now ≡ Err f) → IfErr r (λ f. says ≡ Err f)
same-head_fault (Ok x) says now is h = tt
same-head_fault (Err f) says now is h = is ∙ h

-- the entry of a head that was read
pub entry-of_read : (place : PagePlace) (n : ℕ) (fields : List (List ℕ)) (head : Head) → n ≡ text_line place
    → head_of_fields place fields ≡ Ok head → entry_of_fields place fields ≡ entry_of_head n head
entry-of_read place n fields head n_is is =
    ap (λ (r : Result Head PageFault). head_and r (λ head. entry_of_head (text_line place) head)) is
    ∙ ap (λ (k : ℕ). entry_of_head k head) (sym n_is)

pub same-ok : {T : Type 0} (r : Result T PageFault) (says now : Result T PageFault) → says ≡ now
    → IfOk r (λ x. now ≡ Ok x) → IfOk r (λ x. says ≡ Ok x)
same-ok (Ok x) says now is h = is ∙ h
same-ok (Err f) says now is h = tt

pub same-fault : {T : Type 0} (r : Result T PageFault) (says now : Result T PageFault) → says ≡ now
    → IfErr r (λ f. IsFaultOf now f) → IfErr r (λ f. IsFaultOf says f)
same-fault (Ok x) says now is h = tt
same-fault (Err f) says now is (inl memory) = inl memory
same-fault (Err f) says now is (inr wrong) = inr (is ∙ wrong)
