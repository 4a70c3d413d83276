-- Pages that are printed are read.
use Rattle.std.proofs.Common.{◌≡◌, ◌∙◌, ◌⊎◌, inl, inr, ℕ, ◌≤◌, ◌<◌, ◌+◌, Bool, true, false, not, cond, List, [], ◌∷◌, ◌++◌, length, Option, Some, None, is_some, Ok, Result, subst, eq-eqb, ne_eqb, sym, ap, append_assoc, append-nil, arith, refl, codes}
use Rattle.std.specs.Prelude.{decimal, count_by}
use Rattle.std.specs.List.{AllByRecursion}
use Rattle.std.proofs.lemmas.Bool.{cond-false, cond-true, false≢true}
use Rattle.std.proofs.lemmas.List.Recursion.{is_count_by}
use Rattle.std.proofs.lemmas.List.Sums.{sum_by-cons}
use Rattle.xb_model.specs.declared.mark.Mark.{Mark}
use Rattle.xb_model.specs.declared.mark.Mark.TheVariants.{Trunk, Tone, Refused}
use Rattle.xb_model.specs.declared.reason.Reason.{Reason}
use Rattle.xb_model.specs.Keyings.{is_ending}
use Rattle.xb_model.specs.Page.{count_entries, entries_text, entry_text, entry_text_by, four_digits, is_keyed, is_refused, keyed_text, last_refusal, refused_text, tape_text, tapes_text, totals_text}
use Rattle.xb_model.specs.Tapes.{entries_of, into_first_entry}
use Rattle.xb_page.specs.declared.fault.PageFault.{PageFault}
use Rattle.xb_page.specs.declared.page_place.PagePlace.{PagePlace}
use Rattle.xb_page.specs.Entries.{Entry, entry_with}
use Rattle.xb_page.specs.Places.{place_after, place_with}
use Rattle.xb_page.specs.ReadBack.{AreMarks, IsMark, PagesAreReadBack, entries_of_line, entries_of_tapes, said_by, said_of}
use Rattle.xb_page.specs.ReadPages.{before_entries, end_of, entries_from, entry_and_rest, entry_of_fields, first_place, is_end, is_totals, says_totals}
use Rattle.xb_text.specs.Pieces.{pieces}
use Rattle.xb_page.proofs.EntriesBack.{At, entry_line, entry_line-no_line_feed, keyed-back, keyed-no_line_feed, keyed-not_totals, keyed_rest, refused-back, refused-no_line_feed, refused-not_totals, refused_rest}
use Rattle.xb_page.proofs.CheckedEntries.{last_refusal-more}
use Rattle.xb_page.proofs.MarksBack.{IsKeyMark}
use Rattle.xb_page.proofs.EntryHeads.{IsLine-totals, are-totals, is_totals-totals, totals_text-words, totals_words, words-totals}
use Rattle.xb_page.proofs.PlainBytes.{no_feed}
use Rattle.xb_page.proofs.Avoiding.{Avoids, pieces-cut}

-- an entry: its last mark, and no other, ends it
abbrev pub IsEntry : List Mark → Type 0
IsEntry [] = ⊥
IsEntry (m ∷ []) = IsMark m × (is_ending m ≡ true)
IsEntry (m ∷ k ∷ ms) = IsMark m × (is_ending m ≡ false) × IsEntry (k ∷ ms)

entry-front : (m : Mark) (entry : List Mark) → IsMark m → is_ending m ≡ false → IsEntry entry → IsEntry (m ∷ entry)
entry-front m [] is goes_on entry = absurd entry
entry-front m (k ∷ ms) is goes_on entry = (is, goes_on, entry)

into_first : (m : Mark) (entries : List (List Mark)) → IsMark m → is_ending m ≡ false
    → AllByRecursion IsEntry entries → AllByRecursion IsEntry (into_first_entry m entries)
into_first m [] is goes_on all = tt
into_first m (entry ∷ entries) is goes_on all = (entry-front m entry is goes_on all.0, all.1)

pub entries_are : (marks : List Mark) → AllByRecursion IsMark marks → AllByRecursion IsEntry (entries_of marks)
entries_are [] are = tt
entries_are (m ∷ ms) are = at (entries_are ms are.1) (is_ending m) refl
  where
    at : AllByRecursion IsEntry (entries_of ms) → (b : Bool) → is_ending m ≡ b
        → AllByRecursion IsEntry (cond b ((m ∷ []) ∷ entries_of ms) (into_first_entry m (entries_of ms)))
    at later true e = ((are.0, e), later)
    at later false e = into_first m (entries_of ms) are.0 e later

-- an entry is a keyed call, or a refusal
abbrev pub IsKeyedEntry : List Mark → Type 0
IsKeyedEntry entry = (last_refusal entry ≡ None) × AllByRecursion IsKeyMark entry

pub record IsRefusedEntry (entry : List Mark) : Type 0 where
  pub reason : Reason
  pub heard : ℕ
  pub last : last_refusal entry ≡ Some (reason, heard)
  pub few : heard < 256

more_of : (m k : Mark) (ms : List Mark) → IsMark m → is_ending m ≡ false
    → IsKeyedEntry (k ∷ ms) ⊎ IsRefusedEntry (k ∷ ms)
    → IsKeyedEntry (m ∷ k ∷ ms) ⊎ IsRefusedEntry (m ∷ k ∷ ms)
more_of (Trunk t) k ms is goes_on (inl keyed) = inl (last_refusal-more (Trunk t) k ms ∙ keyed.0, (is, keyed.1))
more_of (Tone key pair) k ms is goes_on (inl keyed) =
    inl (last_refusal-more (Tone key pair) k ms ∙ keyed.0, (is, keyed.1))
more_of (Refused reason heard) k ms is goes_on (inl keyed) = absurd (false≢true (sym goes_on))
more_of m k ms is goes_on (inr refused) = inr (record {
  reason = refused.reason;
  heard = refused.heard;
  last = last_refusal-more m k ms ∙ refused.last;
  few = refused.few;
})

pub kind_of : (entry : List Mark) → IsEntry entry → IsKeyedEntry entry ⊎ IsRefusedEntry entry
kind_of [] entry = absurd entry
kind_of (Trunk t ∷ []) entry = absurd (false≢true entry.1)
kind_of (Tone key pair ∷ []) entry = inl (refl, (entry.0, tt))
kind_of (Refused r h ∷ []) entry = inr (record { reason = r; heard = h; last = refl; few = entry.0 })
kind_of (m ∷ k ∷ ms) entry = more_of m k ms entry.0 entry.1 (kind_of (k ∷ ms) entry.2)

-- a line with a byte is not the end
not_end : (xs : List ℕ) (byte : ℕ) (ys : List ℕ) (lines : List (List ℕ)) → is_end ((xs ++ (byte ∷ ys)) ∷ lines) ≡ false
not_end [] byte ys lines = refl
not_end (x ∷ xs) byte ys lines = refl

-- the text line of an entry
line-step : (place : PagePlace) (line rest : List ℕ) → Avoids 10 line → is_end (line ∷ pieces 10 rest) ≡ false
    → is_totals (pieces 32 line) ≡ false
    → entries_from place (pieces 10 (line ++ 10 ∷ rest))
    ≡ entry_and_rest (entry_of_fields place (pieces 32 line)) (λ e. entries_from (place_after place e) (pieces 10 rest))
unfolding entries_from
line-step place line rest avoids more other =
    ap (λ (lines : List (List ℕ)). entries_from place lines) (pieces-cut 10 line rest avoids)
    ∙ cond-false _ _ _ more ∙ cond-false _ _ _ other

keyed_text-line : (line n : ℕ) (entry : List Mark) (rest : List ℕ)
    → keyed_text line n entry ++ rest ≡ entry_line line n (keyed_rest entry) ++ 10 ∷ rest
keyed_text-line line n entry rest = simp append_assoc

refused_text-line : (line n : ℕ) (reason : Reason) (heard : ℕ) (rest : List ℕ)
    → refused_text line n reason heard ++ rest ≡ entry_line line n (refused_rest reason heard) ++ 10 ∷ rest
refused_text-line line n reason heard rest = simp append_assoc

abbrev goes : PagePlace → ℕ → ℕ → List Mark → PagePlace
goes place line n marks = place_after place (entry_with line n marks)

keyed-step : (place : PagePlace) (line n : ℕ) (entry : List Mark) (rest : List ℕ) (later : List Entry) → line < 10000
    → At place line n → AllByRecursion IsKeyMark entry → entries_from (goes place line n entry) (pieces 10 rest) ≡ Ok later
    → entries_from place (pieces 10 (keyed_text line n entry ++ rest)) ≡ Ok (entry_with line n entry ∷ later)
keyed-step place line n entry rest later below at are next =
    let text = entry_line line n (keyed_rest entry) in
    ap (λ (t : List ℕ). entries_from place (pieces 10 t)) (keyed_text-line line n entry rest)
    ∙ line-step place text rest
    (entry_line-no_line_feed line n (keyed_rest entry) below (keyed-no_line_feed entry are))
    (not_end (four_digits line) 32 (decimal n ++ (32 ∷ keyed_rest entry)) (pieces 10 rest))
    (keyed-not_totals line n entry below are)
    ∙ ap (λ (r : Result Entry PageFault). entry_and_rest r (λ e. entries_from (place_after place e) (pieces 10 rest)))
    (keyed-back place line n entry below at are)
    ∙ ap (λ (r : Result (List Entry) PageFault). before_entries (entry_with line n entry) r) next

refused-step : (place : PagePlace) (line n : ℕ) (reason : Reason) (heard : ℕ) (rest : List ℕ) (later : List Entry)
    → line < 10000 → At place line n → heard < 256
    → entries_from (goes place line n (Refused reason heard ∷ [])) (pieces 10 rest) ≡ Ok later
    → entries_from place (pieces 10 (refused_text line n reason heard ++ rest))
    ≡ Ok (entry_with line n (Refused reason heard ∷ []) ∷ later)
refused-step place line n reason heard rest later below at few next =
    let text = entry_line line n (refused_rest reason heard) in
    ap (λ (t : List ℕ). entries_from place (pieces 10 t)) (refused_text-line line n reason heard rest)
    ∙ line-step place text rest
    (entry_line-no_line_feed line n (refused_rest reason heard) below (refused-no_line_feed reason heard few))
    (not_end (four_digits line) 32 (decimal n ++ (32 ∷ refused_rest reason heard)) (pieces 10 rest))
    (refused-not_totals line n reason heard below few)
    ∙ ap (λ (r : Result Entry PageFault). entry_and_rest r (λ e. entries_from (place_after place e) (pieces 10 rest)))
    (refused-back place line n reason heard below at few)
    ∙ ap (λ (r : Result (List Entry) PageFault). before_entries (entry_with line n (Refused reason heard ∷ [])) r) next

entry-step : (place : PagePlace) (line n : ℕ) (entry : List Mark) (rest : List ℕ) (later : List Entry) → line < 10000
    → At place line n → IsKeyedEntry entry ⊎ IsRefusedEntry entry
    → entries_from (goes place line n (said_of entry)) (pieces 10 rest) ≡ Ok later
    → entries_from place (pieces 10 (entry_text line n entry ++ rest)) ≡ Ok (entry_with line n (said_of entry) ∷ later)
entry-step place line n entry rest later below at (inl keyed) next =
    ap (λ (o : Option (Reason × ℕ)). entries_from place (pieces 10 (entry_text_by line n entry o ++ rest))) keyed.0
    ∙ keyed-step place line n entry rest later below at keyed.1
    (ap (λ (o : Option (Reason × ℕ)). entries_from (goes place line n (said_by entry o)) (pieces 10 rest)) (sym keyed.0) ∙ next)
    ∙ sym (ap (λ (o : Option (Reason × ℕ)). Ok (entry_with line n (said_by entry o) ∷ later)) keyed.0)
entry-step place line n entry rest later below at (inr refused) next =
    ap (λ (o : Option (Reason × ℕ)). entries_from place (pieces 10 (entry_text_by line n entry o ++ rest))) refused.last
    ∙ refused-step place line n refused.reason refused.heard rest later below at refused.few
    (ap (λ (o : Option (Reason × ℕ)). entries_from (goes place line n (said_by entry o)) (pieces 10 rest)) (sym refused.last) ∙ next)
    ∙ sym (ap (λ (o : Option (Reason × ℕ)). Ok (entry_with line n (said_by entry o) ∷ later)) refused.last)

-- one where a test passes
abbrev one : Bool → ℕ
one b = cond b 1 0

-- the place after an entry that is refused, or keyed
abbrev next_by : PagePlace → ℕ → ℕ → Bool → PagePlace
next_by place line n b =
    cond b (place_with line n place.keyed (place.refused + 1)) (place_with line n (place.keyed + 1) place.refused)

record Goes (place next : PagePlace) (line n : ℕ) (b : Bool) : Type 0 where
  pub at : At next line (n + 1)
  pub keyed : next.keyed ≡ place.keyed + one (not b)
  pub refused : next.refused ≡ place.refused + one b

at-after : (line n keyed refused : ℕ) → At (place_with line n keyed refused) line (n + 1)
at-after line n keyed refused = record {
  low = omega arith;
  next = cond-true _ _ _ (eq-eqb line line refl);
}

goes-by : (place : PagePlace) (line n : ℕ) (b : Bool) → Goes place (next_by place line n b) line n b
goes-by place line n true = record {
  at = at-after line n place.keyed (place.refused + 1);
  keyed = omega arith;
  refused = refl;
}
goes-by place line n false = record {
  at = at-after line n (place.keyed + 1) place.refused;
  keyed = refl;
  refused = omega arith;
}

said-same : (entry : List Mark) → IsKeyedEntry entry ⊎ IsRefusedEntry entry → is_refused entry ≡ is_refused (said_of entry)
said-same entry (inl keyed) = sym (ap (λ (o : Option (Reason × ℕ)). is_refused (said_by entry o)) keyed.0)
said-same entry (inr refused) =
    ap (λ (o : Option (Reason × ℕ)). is_some o) refused.last
    ∙ sym (ap (λ (o : Option (Reason × ℕ)). is_refused (said_by entry o)) refused.last)

goes-on : (place : PagePlace) (line n : ℕ) (entry : List Mark) → IsKeyedEntry entry ⊎ IsRefusedEntry entry
    → Goes place (goes place line n (said_of entry)) line n (is_refused entry)
goes-on place line n entry kind =
    subst (λ c. Goes place (next_by place line n c) line n (is_refused entry)) (said-same entry kind)
    (goes-by place line n (is_refused entry))

-- how many entries pass a test
abbrev count_in : (List Mark → Bool) → List (List Mark) → ℕ
count_in test [] = 0
count_in test (entry ∷ entries) = one (test entry) + count_in test entries

one_more : (b : Bool) (n : ℕ) → one b + n ≡ cond b (1 + n) n
one_more true n = refl
one_more false n = omega arith

count_in-is : (test : List Mark → Bool) (entries : List (List Mark)) → count_in test entries ≡ count_by test entries
count_in-is test entries =
    is_count_by (count_in test) test refl (λ entry entries. one_more (test entry) (count_in test entries)) entries

-- the entries of a line
entries-back : (entries : List (List Mark)) (place : PagePlace) (line n : ℕ) → AllByRecursion IsEntry entries → line < 10000
    → At place line n → (rest : List ℕ) (later : List Entry)
    → ((next : PagePlace) (m : ℕ) → At next line m → next.keyed ≡ place.keyed + count_in is_keyed entries
    → next.refused ≡ place.refused + count_in is_refused entries → entries_from next (pieces 10 rest) ≡ Ok later)
    → entries_from place (pieces 10 (entries_text line n entries ++ rest)) ≡ Ok (entries_of_line line n entries ++ later)
unfolding entries_text
entries-back [] place line n all below at rest later next = next place n at (omega arith) (omega arith)
entries-back (entry ∷ entries) place line n all below at rest later next =
    let more = entries_text line (n + 1) entries ++ rest in
    let kind = kind_of entry all.0 in
    let on = goes-on place line n entry kind in
    ap (λ (t : List ℕ). entries_from place (pieces 10 t))
    (append_assoc (entry_text line n entry) (entries_text line (n + 1) entries) rest)
    ∙ entry-step place line n entry more (entries_of_line line (n + 1) entries ++ later) below at kind
    (entries-back entries (goes place line n (said_of entry)) line (n + 1) all.1 below on.at rest later
    (λ q m at_q keyed refused. next q m at_q (omega (arith, keyed, on.keyed)) (omega (arith, refused, on.refused))))

-- the next line
at-next : (place : PagePlace) (line m : ℕ) → At place line m → At place (line + 1) 1
at-next place line m at = record {
  low = omega (arith, at.low);
  next = cond-false _ _ _ (ne_eqb (line + 1) place.line (λ e. absurd (omega (arith, at.low))));
}

-- the tapes of the lines
tapes-back : (tapes : List (List Mark)) (place : PagePlace) (line : ℕ) → AllByRecursion AreMarks tapes → line + length tapes ≤ 10000
    → At place line 1 → (rest : List ℕ) (later : List Entry)
    → ((next : PagePlace) → next.keyed ≡ place.keyed + count_entries is_keyed tapes
    → next.refused ≡ place.refused + count_entries is_refused tapes → entries_from next (pieces 10 rest) ≡ Ok later)
    → entries_from place (pieces 10 (tapes_text line tapes ++ rest)) ≡ Ok (entries_of_tapes line tapes ++ later)
unfolding tapes_text
tapes-back [] place line all few at rest later next = next place (omega arith) (omega arith)
tapes-back (marks ∷ tapes) place line all few at rest later next =
    let entries = entries_of marks in
    let k = sum_by-cons (λ marks. count_by is_keyed (entries_of marks)) marks tapes in
    let r = sum_by-cons (λ marks. count_by is_refused (entries_of marks)) marks tapes in
    ap (λ (t : List ℕ). entries_from place (pieces 10 t))
    (append_assoc (tape_text line marks) (tapes_text (line + 1) tapes) rest)
    ∙ entries-back entries place line 1 (entries_are marks all.0) (omega arith) at
    (tapes_text (line + 1) tapes ++ rest) (entries_of_tapes (line + 1) tapes ++ later)
    (λ q m at_q keyed refused. tapes-back tapes q (line + 1) all.1 (omega arith) (at-next q line m at_q) rest later
    (λ last keyed_more refused_more. next last
    (omega (arith, keyed, keyed_more, k, count_in-is is_keyed entries))
    (omega (arith, refused, refused_more, r, count_in-is is_refused entries))))
    ∙ ap (λ (all : List Entry). Ok all)
    (sym (append_assoc (entries_of_line line 1 entries) (entries_of_tapes (line + 1) tapes) later))

-- the text line of totals
end-step : (place : PagePlace) (line rest : List ℕ) → Avoids 10 line → is_end (line ∷ pieces 10 rest) ≡ false
    → is_totals (pieces 32 line) ≡ true
    → entries_from place (pieces 10 (line ++ 10 ∷ rest)) ≡ end_of place (pieces 32 line) (pieces 10 rest)
unfolding entries_from
end-step place line rest avoids more totals =
    ap (λ (lines : List (List ℕ)). entries_from place lines) (pieces-cut 10 line rest avoids)
    ∙ cond-false _ _ _ more ∙ cond-true _ _ _ totals

end-last : (place : PagePlace) (fields lines : List (List ℕ)) → says_totals place fields ≡ true → is_end lines ≡ true
    → end_of place fields lines ≡ Ok []
end-last place fields lines says end = cond-true _ _ _ says ∙ cond-true _ _ _ end

totals-back : (k r : ℕ) (place : PagePlace) → place.keyed ≡ k → place.refused ≡ r
    → entries_from place (pieces 10 (totals_text k r)) ≡ Ok []
totals-back k r place keyed refused =
    let says : says_totals place (pieces 32 (totals_words k r)) ≡ true =
    ap (λ (fields : List (List ℕ)). says_totals place fields) (words-totals k r) ∙ are-totals k r place keyed refused in
    ap (λ (t : List ℕ). entries_from place (pieces 10 t)) (totals_text-words k r)
    ∙ end-step place (totals_words k r) [] (no_feed (totals_words k r) (IsLine-totals k r))
    (not_end (codes "KEYED") 32 (decimal k ++ (32 ∷ (codes "REFUSED" ++ (32 ∷ decimal r)))) (pieces 10 [])) (is_totals-totals k r)
    ∙ end-last place (pieces 32 (totals_words k r)) (pieces 10 []) says refl

pub pages_are_read_back : PagesAreReadBack
pages_are_read_back tapes few all =
    let k : ℕ = count_entries is_keyed tapes in
    let r : ℕ = count_entries is_refused tapes in
    let first : At first_place 0 1 = record { low = omega arith; next = refl } in
    tapes-back tapes first_place 0 all (omega (arith, few)) first (totals_text k r) []
    (λ place keyed refused. totals-back k r place (omega (arith, keyed)) (omega (arith, refused)))
    ∙ ap (λ (entries : List Entry). Ok entries) (append-nil (entries_of_tapes 0 tapes))
