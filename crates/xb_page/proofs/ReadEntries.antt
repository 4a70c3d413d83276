-- The entries of tapes are read as they are written.
use Rattle.std.proofs.Common.{◌≡◌, ◌≤◌, ◌<◌, ◌+◌, ◌==◌, ℕ, zero, suc, Bool, true, false, not, cond, List, [], ◌∷◌, ◌++◌, decimal, codes, Ok, Some, None, Option, refl, sym, ap, ap₂, ◌∙◌, arith, append_assoc, append-nil, inl, inr, eq-eqb, subst}
use Rattle.std.specs.Prelude.{Result, ◌⊎◌, count_by, is_some}
use Rattle.std.specs.List.{AllByRecursion, onto_first, slice_split}
use Rattle.std.proofs.lemmas.Bool.{cases_eq, cond-true, cond-false, cond_both, eqb-false, eqb-true}
use Rattle.std.proofs.lemmas.List.Sums.{sum_by-cons}
use Rattle.xb_model.specs.declared.line.TheConstants.{LINES}
use Rattle.xb_model.specs.declared.mark.Mark.{Mark}
use Rattle.xb_model.specs.declared.mark.Mark.TheVariants as mark
use Rattle.xb_model.specs.declared.mark.Mark.TheVariants.{Refused}
use Rattle.xb_model.specs.declared.key.Key.{Key}
use Rattle.xb_model.specs.declared.key.Key.TheVariants as key
use Rattle.xb_model.specs.declared.reason.Reason.{Reason}
use Rattle.xb_model.specs.declared.reason.Reason.TheVariants as reason
use Rattle.xb_model.specs.Page.{entries_text, entry_head, entry_text, entry_text_by, four_digits, is_keyed, is_refused, key_text, last_refusal, mark_text, marks_text, pair_text, reason_text}
use Rattle.xb_model.specs.Tapes.{entries_of}
use Rattle.xb_page.specs.declared.fault.PageFault.{PageFault}
use Rattle.xb_page.specs.declared.page_place.PagePlace.{PagePlace}
use Rattle.xb_page.specs.PageLines.{ends_line, has_more, place_and, read_lines, start_at, words}
use Rattle.xb_page.specs.Places.{line_after, next_place, number_at}
use Rattle.xb_page.specs.ReadPages.{after_entry, is_totals}
use Rattle.xb_page.specs.Sheets.{Sheet, followed_by, no_entries, sheet_with}
use Rattle.xb_page.specs.Entries.{entry_with}
use Rattle.xb_page.specs.ReadBack.{AreMarks}
use Rattle.xb_page.proofs.EntriesBack.{At, keyed-back, keyed_rest, refused-back, refused_rest}
use Rattle.xb_page.proofs.EntryHeads.{IsLine-with_head, IsWord-four_digits, after_entry-read, is_totals-entry, with_head}
use Rattle.xb_page.proofs.MarksBack.{IsKeyMark}
use Rattle.xb_page.proofs.PagesBack.{IsEntry, IsKeyedEntry, IsRefusedEntry, entries_are, kind_of}
use Rattle.xb_page.proofs.LineSheets.{line_sheet, sheet_from}
use Rattle.xb_page.proofs.PlainBytes.{AreFrom-append, IsLine, IsLine-word, IsWord, IsWord-decimal, plain, slice_split-line}

IsLine-key : (k : Key) → IsLine (key_text k)
IsLine-key (key.Digit d) = IsLine-word (decimal d) (IsWord-decimal d)
IsLine-key key.Kp = (omega arith, (omega arith, tt))
IsLine-key key.St = (omega arith, (omega arith, tt))

pub IsWord-reason : (r : Reason) → IsWord (reason_text r)
IsWord-reason reason.Mutilated = plain 33 (codes "MUTILATED") refl
IsWord-reason reason.Unknown = plain 33 (codes "UNKNOWN") refl
IsWord-reason reason.Abandoned = plain 33 (codes "ABANDONED") refl
IsWord-reason reason.TimedOut = plain 33 (codes "TIMEDOUT") refl

-- one space
IsLine-blank : IsLine (codes " ")
IsLine-blank = (omega arith, tt)

IsLine-pair : (low high : ℕ) → IsLine (decimal low ++ codes "+" ++ decimal high)
IsLine-pair low high =
    AreFrom-append 32 (decimal low ++ codes "+") (decimal high)
    (AreFrom-append 32 (decimal low) (codes "+") (IsLine-word (decimal low) (IsWord-decimal low)) (plain 32 (codes "+") refl))
    (IsLine-word (decimal high) (IsWord-decimal high))

IsLine-mark : (m : Mark) → IsLine (mark_text m)
IsLine-mark (mark.Trunk t) =
    AreFrom-append 32 (codes " ") (four_digits t) IsLine-blank (IsLine-word (four_digits t) (IsWord-four_digits t))
IsLine-mark (mark.Tone k pair) =
    AreFrom-append 32 (codes " " ++ key_text k ++ codes ":") (pair_text pair)
    (AreFrom-append 32 (codes " " ++ key_text k) (codes ":")
    (AreFrom-append 32 (codes " ") (key_text k) IsLine-blank (IsLine-key k)) (plain 32 (codes ":") refl))
    (IsLine-pair pair.low pair.high)
IsLine-mark (mark.Refused r heard) =
    AreFrom-append 32 (codes " " ++ reason_text r ++ codes " ") (decimal heard)
    (AreFrom-append 32 (codes " " ++ reason_text r) (codes " ")
    (AreFrom-append 32 (codes " ") (reason_text r) IsLine-blank (IsLine-word (reason_text r) (IsWord-reason r))) IsLine-blank)
    (IsLine-word (decimal heard) (IsWord-decimal heard))

pub IsLine-marks : (ms : List Mark) → IsLine (marks_text ms)
unfolding marks_text
IsLine-marks [] = tt
IsLine-marks (m ∷ ms) = AreFrom-append 32 (mark_text m) (marks_text ms) (IsLine-mark m) (IsLine-marks ms)

has_more-onto : (x : ℕ) (parts : List (List ℕ)) → has_more (onto_first x parts) ≡ true
has_more-onto x [] = refl
has_more-onto x (part ∷ parts) = refl

-- a text is cut into at least one
pub has_more-slice_split : (text : List ℕ) → has_more (slice_split ends_line text) ≡ true
has_more-slice_split [] = refl
has_more-slice_split (x ∷ xs) =
    cond_both (ends_line x) ([] ∷ slice_split ends_line xs) (onto_first x (slice_split ends_line xs))
    (λ lines. has_more lines ≡ true) (λ e. refl) (λ e. has_more-onto x (slice_split ends_line xs))

-- the reading of a text that is not the last, nor the totals
pub read_lines-more : (entries : List ℕ) (place : PagePlace) (text : List ℕ) (later : List (List ℕ))
    → has_more later ≡ true → is_totals (words text) ≡ false
    → read_lines entries place (text ∷ later)
    ≡ place_and (after_entry place (words text)) (λ next. read_lines (entries ++ text ++ codes "\n") next later)
read_lines-more entries place text later more other =
    cond-false _ _ _ (ap not more) ∙ cond-false _ _ _ other

-- the text of an entry, which is `with_head line n tail` and an LF, is read
read_text : (entries : List ℕ) (place next : PagePlace) (line n : ℕ) (tail rest : List ℕ) → line < LINES → IsLine tail
    → after_entry place (words (with_head line n tail)) ≡ Ok next
    → read_lines entries place (slice_split ends_line (with_head line n tail ++ codes "\n" ++ rest))
    ≡ read_lines (entries ++ (with_head line n tail ++ codes "\n")) next (slice_split ends_line rest)
read_text entries place next line n tail rest below is goes =
    let text : List ℕ = with_head line n tail in
    let later : List (List ℕ) = slice_split ends_line rest in
    let then = λ (p : PagePlace). read_lines (entries ++ text ++ codes "\n") p later in
    ap (λ (bytes : List ℕ). read_lines entries place (slice_split ends_line bytes)) (append_assoc text (codes "\n") rest)
    ∙ ap (read_lines entries place) (slice_split-line text rest (IsLine-with_head line n tail is))
    ∙ read_lines-more entries place text later (has_more-slice_split rest) (is_totals-entry line n tail below)
    ∙ ap (λ (found : Result PagePlace PageFault). place_and found then) goes
    ∙ ap (λ (bytes : List ℕ). read_lines bytes next later) (append_assoc entries text (codes "\n"))

-- the same, where the text is written otherwise
read_text_as : (whole : List ℕ) (entries : List ℕ) (place next : PagePlace) (line n : ℕ) (tail rest : List ℕ)
    → whole ≡ with_head line n tail ++ codes "\n" → line < LINES → IsLine tail
    → after_entry place (words (with_head line n tail)) ≡ Ok next
    → read_lines entries place (slice_split ends_line (whole ++ rest))
    ≡ read_lines (entries ++ whole) next (slice_split ends_line rest)
read_text_as whole entries place next line n tail rest e below is goes =
    ap (λ (bytes : List ℕ). read_lines entries place (slice_split ends_line (bytes ++ rest))) e
    ∙ read_text entries place next line n tail rest below is goes
    ∙ ap (λ (bytes : List ℕ). read_lines (entries ++ bytes) next (slice_split ends_line rest)) (sym e)

-- the entry of a line that comes next is read
abbrev IsReadNext : PagePlace → ℕ → ℕ → List Mark → Option (Reason × ℕ) → Type 0
IsReadNext place line n entry refusal =
    (entries rest : List ℕ)
    → read_lines entries place (slice_split ends_line (entry_text_by line n entry refusal ++ rest))
    ≡ read_lines (entries ++ entry_text_by line n entry refusal) (next_place place line n (is_some refusal)) (slice_split ends_line rest)

read_keyed : (place : PagePlace) (line n : ℕ) (entry : List Mark) → line < LINES → At place line n → AllByRecursion IsKeyMark entry
    → last_refusal entry ≡ None → IsReadNext place line n entry None
read_keyed place line n entry below at are none entries rest =
    read_text_as (entry_text_by line n entry None) entries place (next_place place line n false) line n (keyed_rest entry) rest
    (ap (λ (bytes : List ℕ). bytes ++ codes "\n") (append_assoc (entry_head line n) (codes " KEYED") (marks_text entry)))
    below (AreFrom-append 32 (codes "KEYED") (marks_text entry) (plain 32 (codes "KEYED") refl) (IsLine-marks entry))
    (after_entry-read place line n (keyed_rest entry) (entry_with line n entry) (keyed-back place line n entry (omega arith) at are)
    ∙ ap (λ (o : Option (Reason × ℕ)). Ok (next_place place line n (is_some o))) none)

read_refused : (place : PagePlace) (line n : ℕ) (entry : List Mark) (reason : Reason) (heard : ℕ) → line < LINES → At place line n
    → heard < 256 → IsReadNext place line n entry (Some (reason, heard))
read_refused place line n entry reason heard below at few entries rest =
    let after : List ℕ = reason_text reason ++ (32 ∷ decimal heard) in
    let spelled : entry_head line n ++ codes " REFUSED " ++ reason_text reason ++ codes " " ++ decimal heard
    ≡ with_head line n (refused_rest reason heard) = simp append_assoc in
    read_text_as (entry_text_by line n entry (Some (reason, heard))) entries place (next_place place line n true) line n
    (refused_rest reason heard) rest (ap (λ (bytes : List ℕ). bytes ++ codes "\n") spelled) below
    (AreFrom-append 32 (codes "REFUSED") (32 ∷ after) (plain 32 (codes "REFUSED") refl) (
      omega arith,
      AreFrom-append 32 (reason_text reason) (32 ∷ decimal heard) (IsLine-word (reason_text reason) (IsWord-reason reason))
          (omega arith, IsLine-word (decimal heard) (IsWord-decimal heard)),
    ))
    (after_entry-read place line n (refused_rest reason heard) (entry_with line n (Refused reason heard ∷ []))
    (refused-back place line n reason heard (omega arith) at few))

read_entry : (place : PagePlace) (line n : ℕ) (entry : List Mark) → line < LINES → At place line n → IsEntry entry
    → IsReadNext place line n entry (last_refusal entry)
read_entry place line n entry below at is = by (kind_of entry is)
  where
    by : IsKeyedEntry entry ⊎ IsRefusedEntry entry → IsReadNext place line n entry (last_refusal entry)
    by (inl keyed) =
        subst (λ o. IsReadNext place line n entry o) (sym keyed.0) (read_keyed place line n entry below at keyed.1 keyed.0)
    by (inr refused) =
        subst (λ o. IsReadNext place line n entry o) (sym refused.last)
        (read_refused place line n entry refused.reason refused.heard below at refused.few)

-- from one place to another the entries of a sheet are read
pub record Reads (place : PagePlace) (sheet : Sheet) (place' : PagePlace) : Type 0 where
  pub is : (entries rest : List ℕ)
      → read_lines entries place (slice_split ends_line (sheet.entries ++ rest))
      ≡ read_lines (entries ++ sheet.entries) place' (slice_split ends_line rest)
  pub keyed_is : place'.keyed ≡ place.keyed + sheet.keyed
  pub refused_is : place'.refused ≡ place.refused + sheet.refused

Reads-none : (place : PagePlace) → Reads place no_entries place
Reads-none place = record {
  is = λ entries rest. ap (λ (bytes : List ℕ). read_lines bytes place (slice_split ends_line rest)) (sym (append-nil entries));
  keyed_is = omega arith;
  refused_is = omega arith;
}

Reads-both : (p q r : PagePlace) (s t : Sheet) → Reads p s q → Reads q t r → Reads p (followed_by s t) r
Reads-both p q r s t first next = record {
  is = λ entries rest.
      ap (λ (bytes : List ℕ). read_lines entries p (slice_split ends_line bytes)) (append_assoc s.entries t.entries rest)
      ∙ first.is entries (t.entries ++ rest)
      ∙ next.is (entries ++ s.entries) rest
      ∙ ap (λ (bytes : List ℕ). read_lines bytes r (slice_split ends_line rest)) (append_assoc entries s.entries t.entries);
  keyed_is = omega (arith, first.keyed_is, next.keyed_is);
  refused_is = omega (arith, first.refused_is, next.refused_is);
}

-- the sheet of an entry
entry_sheet : ℕ → ℕ → List Mark → Sheet
entry_sheet line n entry = sheet_with (entry_text line n entry) (cond (is_keyed entry) 1 0) (cond (is_refused entry) 1 0)

keyed_next : (place : PagePlace) (line n : ℕ) (b : Bool) → (next_place place line n b).keyed ≡ place.keyed + cond (not b) 1 0
keyed_next place line n true = omega arith
keyed_next place line n false = refl

refused_next : (place : PagePlace) (line n : ℕ) (b : Bool) → (next_place place line n b).refused ≡ place.refused + cond b 1 0
refused_next place line n true = refl
refused_next place line n false = omega arith

line_next : (place : PagePlace) (line n : ℕ) (b : Bool) → (next_place place line n b).line ≡ line
line_next place line n true = refl
line_next place line n false = refl

entries_next : (place : PagePlace) (line n : ℕ) (b : Bool) → (next_place place line n b).entries ≡ n
entries_next place line n true = refl
entries_next place line n false = refl

Reads-entry : (place : PagePlace) (line n : ℕ) (entry : List Mark) → line < LINES → At place line n → IsEntry entry
    → Reads place (entry_sheet line n entry) (next_place place line n (is_refused entry))
unfolding entry_sheet
Reads-entry place line n entry below at is = record {
  is = λ entries rest. read_entry place line n entry below at is entries rest;
  keyed_is = keyed_next place line n (is_refused entry);
  refused_is = refused_next place line n (is_refused entry);
}

-- the number after an entry of the same line
number_next : (place : PagePlace) (line n : ℕ) (b : Bool) → number_at (next_place place line n b) line ≡ n + 1
number_next place line n b =
    cond-true _ _ _ (eq-eqb line _ (sym (line_next place line n b)))
    ∙ ap (λ (k : ℕ). k + 1) (entries_next place line n b)

-- the sheet of a line's entries, from entry n on
entries_sheet : ℕ → ℕ → List (List Mark) → Sheet
entries_sheet line n entries =
    sheet_with (entries_text line n entries) (count_by is_keyed entries) (count_by is_refused entries)

entries_sheet-none : (line n : ℕ) → entries_sheet line n [] ≡ no_entries
unfolding entries_sheet entries_text
entries_sheet-none line n = refl

entries_sheet-more : (line n : ℕ) (entry : List Mark) (entries : List (List Mark))
    → entries_sheet line n (entry ∷ entries) ≡ followed_by (entry_sheet line n entry) (entries_sheet line (n + 1) entries)
unfolding entries_sheet entry_sheet entries_text
entries_sheet-more line n entry entries =
    ap₂ (λ (k r : ℕ). sheet_with (entry_text line n entry ++ entries_text line (n + 1) entries) k r)
    (sum_by-cons (λ e. cond (is_keyed e) 1 0) entry entries)
    (sum_by-cons (λ e. cond (is_refused e) 1 0) entry entries)

-- a place after which a line may begin
pub record Ready (place : PagePlace) (line : ℕ) : Type 0 where
  pub low : place.line ≤ line
  pub fresh : place.line ≡ line → place.entries ≡ 0

-- a sheet is read, and then the line may begin
pub record ReadsUpTo (place : PagePlace) (sheet : Sheet) (line : ℕ) : Type 0 where
  pub place' : PagePlace
  pub reads : Reads place sheet place'
  pub ready : Ready place' line
  pub up : place.line ≤ place'.line

Reads-entries : (place : PagePlace) (line n : ℕ) (entries : List (List Mark)) → line < LINES → place.line ≤ line → number_at place line ≡ n
    → AllByRecursion IsEntry entries → (place' : PagePlace) × Reads place (entries_sheet line n entries) place' × (place'.line ≤ line) × (place.line ≤ place'.line)
Reads-entries place line n [] below low number are =
    (place, subst (λ sheet. Reads place sheet place) (sym (entries_sheet-none line n)) (Reads-none place), low, omega arith)
Reads-entries place line n (entry ∷ entries) below low number are =
    let next : PagePlace = next_place place line n (is_refused entry) in
    let same : next.line ≡ line = line_next place line n (is_refused entry) in
    let rest = Reads-entries next line (n + 1) entries below (omega arith) (number_next place line n (is_refused entry)) are.1 in (
      rest.0,
      subst (λ sheet. Reads place sheet rest.0) (sym (entries_sheet-more line n entry entries))
          (Reads-both place next rest.0 (entry_sheet line n entry) (entries_sheet line (n + 1) entries) (Reads-entry place line n entry below (record { low = low; next = number }) are.0) rest.1),
      rest.2,
      omega (arith, rest.3),
    )

-- the first entry of a line that may begin has the number 1
number-ready : (place : PagePlace) (line : ℕ) → Ready place line → number_at place line ≡ 1
number-ready place line ready =
    cond_both (line == place.line) (place.entries + 1) 1 (λ n. n ≡ 1)
    (λ e. omega (arith, ready.fresh (sym (eqb-true line place.line e)))) (λ e. refl)

line_sheet-entries : (line : ℕ) (marks : List Mark) → entries_sheet line 1 (entries_of marks) ≡ line_sheet line marks
unfolding entries_sheet
line_sheet-entries line marks = refl

-- the tape of a line is read, and then the next line may begin
Reads-line : (place : PagePlace) (line : ℕ) (marks : List Mark) → line < LINES → Ready place line → AreMarks marks
    → ReadsUpTo place (line_sheet line marks) (line + 1)
Reads-line place line marks below ready are =
    let read = Reads-entries place line 1 (entries_of marks) below ready.low (number-ready place line ready) (entries_are marks are) in
    record {
      place' = read.0;
      reads = subst (λ sheet. Reads place sheet read.0) (line_sheet-entries line marks) read.1;
      ready = record { low = omega (arith, read.2); fresh = λ e. absurd (omega (arith, read.2, e)) };
      up = read.3;
    }

-- the tapes of n lines are read
pub Reads-lines : (tape : ℕ → List Mark) (place : PagePlace) (a n : ℕ) → a + n ≤ LINES → Ready place a
    → ((l : ℕ) → AreMarks (tape l)) → ReadsUpTo place (sheet_from tape a n) (a + n)
unfolding sheet_from
Reads-lines tape place a zero within ready are =
    let same : a ≡ a + 0 = omega arith in
    record { place' = place; reads = Reads-none place; ready = subst (λ line. Ready place line) same ready; up = omega arith }
Reads-lines tape place a (suc n) within ready are =
    let first = Reads-line place a (tape a) (omega arith) ready (are a) in
    let rest = Reads-lines tape first.place' (a + 1) n (omega arith) first.ready are in
    let same : a + 1 + n ≡ a + suc n = omega arith in
    record {
      place' = rest.place';
      reads = Reads-both place first.place' rest.place' (line_sheet a (tape a)) (sheet_from tape (a + 1) n) first.reads rest.reads;
      ready = subst (λ line. Ready rest.place' line) same rest.ready;
      up = omega (arith, first.up, rest.up);
    }

-- before the first entry a page may begin with this line or a later one
pub Ready-start : (from line : ℕ) → from ≤ line → Ready (start_at from) line
Ready-start from line low = record { low = low; fresh = λ e. refl }

-- the next page begins with no line before that of a place
pub line_after-up : (place : PagePlace) (line : ℕ) → line ≤ place.line → line ≤ line_after place
line_after-up place line up =
    cond_both (place.entries == 0) place.line (place.line + 1) (λ next. line ≤ next) (λ e. up) (λ e. omega arith)

-- where a line may begin, the next page may begin with it
pub line_after-ready : (place : PagePlace) (line : ℕ) → Ready place line → line_after place ≤ line
line_after-ready place line ready =
    cond_both (place.entries == 0) place.line (place.line + 1) (λ next. next ≤ line)
    (λ e. ready.low)
    (λ e. later e (cases_eq place.line line))
  where
    later : (place.entries == 0) ≡ false → (place.line ≡ line) ⊎ (place.line ≡ line → ⊥) → place.line + 1 ≤ line
    later e (inl same) = absurd (eqb-false place.entries 0 e (ready.fresh same))
    later e (inr other) = let low : place.line ≤ line = ready.low in omega (arith, other)
