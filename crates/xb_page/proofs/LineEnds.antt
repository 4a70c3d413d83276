-- Texts without CR LF.
use Rattle.std.proofs.Common.{◌≡◌, ◌≢◌, ◌∙◌, ◌≤◌, ◌<◌, ◌+◌, ◌-◌, ◌==◌, ◌&&◌, ℕ, Bool, true, false, List, [], ◌∷◌, ◌++◌, length, take, drop, set, codes, decimal, ne_eqb, Option, Some, None, refl, ap, ap₂, sym, append_assoc, append-nil, arith}
use Rattle.std.specs.Prelude.{slice_index_or}
use Rattle.std.proofs.lemmas.Bool.{cond-false, cond-true}
use Rattle.std.proofs.lemmas.Grind.{take-set_at}
use Rattle.std.proofs.lemmas.List.{drop-set-lt, drop_all, drop_more, take_rest}
use Rattle.xb_model.specs.declared.mark.Mark.{Mark}
use Rattle.xb_model.specs.declared.reason.Reason.{Reason}
use Rattle.xb_model.specs.Page.{count_entries, entries_text, entry_head, entry_text, entry_text_by, four_digits, is_keyed, is_refused, last_refusal, marks_text, page_text, reason_text, tape_text, tapes_text, totals_text}
use Rattle.xb_model.specs.Tapes.{entries_of}
use Rattle.xb_page.specs.LineEnds.{begins_with_crlf, lf_ended}
use Rattle.xb_page.proofs.Avoiding.{Avoids, both, weaker}
use Rattle.xb_page.proofs.EntryHeads.{IsWord-four_digits}
use Rattle.xb_page.proofs.PlainBytes.{IsLine, IsLine-word, IsWord-decimal, plain}
use Rattle.xb_page.proofs.ReadEntries.{IsLine-marks, IsWord-reason}

no_crlf : (x : ℕ) (xs : List ℕ) → x ≢ 13 → begins_with_crlf (x ∷ xs) ≡ false
no_crlf x [] other = refl
no_crlf x (y ∷ ys) other = ap (λ (b : Bool). b && (y == 10)) (ne_eqb x 13 other)

-- a text without a CR stays as it is
pub lf_ended-same : (xs : List ℕ) → Avoids 13 xs → lf_ended xs ≡ xs
unfolding lf_ended
lf_ended-same [] avoids = refl
lf_ended-same (x ∷ xs) avoids =
    cond-false _ _ _ (no_crlf x xs avoids.0) ∙ ap (λ (ys : List ℕ). x ∷ ys) (lf_ended-same xs avoids.1)

no_return : (xs : List ℕ) → IsLine xs → Avoids 13 xs
no_return xs is = weaker (λ byte. 32 ≤ byte) (λ byte. byte ≢ 13) (λ byte low e. absurd (omega arith)) xs is

-- the text of an entry, before what it says
abbrev Joined : List ℕ → List ℕ → Type 0
Joined xs ys = Avoids 13 xs → Avoids 13 ys → Avoids 13 (xs ++ ys)

join : (xs ys : List ℕ) → Joined xs ys
join xs ys first next = both (λ x. x ≢ 13) xs ys first next

word : (xs : List ℕ) → IsLine xs → Avoids 13 xs
word xs is = no_return xs is

feed : Avoids 13 (codes "\n")
feed = ((λ e. absurd (omega arith)), tt)

number : (n : ℕ) → Avoids 13 (decimal n)
number n = word (decimal n) (IsLine-word (decimal n) (IsWord-decimal n))

head : (line n : ℕ) → Avoids 13 (entry_head line n)
head line n =
    join (four_digits line ++ codes " ") (decimal n)
    (join (four_digits line) (codes " ") (word _ (IsLine-word _ (IsWord-four_digits line))) (word (codes " ") (plain 32 (codes " ") refl)))
    (number n)

entry_by : (line n : ℕ) (entry : List Mark) (refusal : Option (Reason × ℕ)) → Avoids 13 (entry_text_by line n entry refusal)
entry_by line n entry None =
    join (entry_head line n ++ codes " KEYED" ++ marks_text entry) (codes "\n")
    (join (entry_head line n ++ codes " KEYED") (marks_text entry)
    (join (entry_head line n) (codes " KEYED") (head line n) (word (codes " KEYED") (plain 32 (codes " KEYED") refl)))
    (word (marks_text entry) (IsLine-marks entry))) feed
entry_by line n entry (Some refusal) =
    let reason : List ℕ = reason_text refusal.0 in
    join (entry_head line n ++ codes " REFUSED " ++ reason ++ codes " " ++ decimal refusal.1) (codes "\n")
    (join (entry_head line n ++ codes " REFUSED " ++ reason ++ codes " ") (decimal refusal.1)
    (join (entry_head line n ++ codes " REFUSED " ++ reason) (codes " ")
    (join (entry_head line n ++ codes " REFUSED ") reason
    (join (entry_head line n) (codes " REFUSED ") (head line n) (word (codes " REFUSED ") (plain 32 (codes " REFUSED ") refl)))
    (word reason (IsLine-word reason (IsWord-reason refusal.0))))
    (word (codes " ") (plain 32 (codes " ") refl))) (number refusal.1)) feed

entries : (line n : ℕ) (all : List (List Mark)) → Avoids 13 (entries_text line n all)
unfolding entries_text
entries line n [] = tt
entries line n (entry ∷ all) =
    join (entry_text line n entry) (entries_text line (n + 1) all) (entry_by line n entry (last_refusal entry)) (entries line (n + 1) all)

tapes_from : (line : ℕ) (tapes : List (List Mark)) → Avoids 13 (tapes_text line tapes)
unfolding tapes_text
tapes_from line [] = tt
tapes_from line (marks ∷ tapes) =
    join (tape_text line marks) (tapes_text (line + 1) tapes) (entries line 1 (entries_of marks)) (tapes_from (line + 1) tapes)

totals : (k r : ℕ) → Avoids 13 (totals_text k r)
totals k r =
    join (codes "KEYED " ++ decimal k ++ codes " REFUSED " ++ decimal r) (codes "\n")
    (join (codes "KEYED " ++ decimal k ++ codes " REFUSED ") (decimal r)
    (join (codes "KEYED " ++ decimal k) (codes " REFUSED ")
    (join (codes "KEYED ") (decimal k) (word (codes "KEYED ") (plain 32 (codes "KEYED ") refl)) (number k))
    (word (codes " REFUSED ") (plain 32 (codes " REFUSED ") refl))) (number r)) feed

lf_ended-kept : (x : ℕ) (xs : List ℕ) → begins_with_crlf (x ∷ xs) ≡ false → lf_ended (x ∷ xs) ≡ x ∷ lf_ended xs
unfolding lf_ended
lf_ended-kept x xs other = cond-false _ _ _ other

lf_ended-left_out : (x : ℕ) (xs : List ℕ) → begins_with_crlf (x ∷ xs) ≡ true → lf_ended (x ∷ xs) ≡ lf_ended xs
unfolding lf_ended
lf_ended-left_out x xs is = cond-true _ _ _ is

-- a byte that stays is written after those that stayed
pub stays : (all now : List ℕ) (kept i d : ℕ) → kept ≤ i → i < length now
    → take kept now ++ lf_ended (drop i now) ≡ all → begins_with_crlf (drop i now) ≡ false
    → take (kept + 1) (set now kept (slice_index_or now i d)) ++ lf_ended (drop (i + 1) (set now kept (slice_index_or now i d))) ≡ all
stays all now kept i d low within built other =
    let x : ℕ = slice_index_or now i d in
    let cut : drop i now ≡ x ∷ drop (i + 1) now = drop_more now i d within in
    ap₂ (λ (first next : List ℕ). first ++ lf_ended next) (take-set_at now kept (kept + 1) x refl (omega arith))
    (drop-set-lt (i + 1) now kept x (omega arith))
    ∙ append_assoc (take kept now) (x ∷ []) (lf_ended (drop (i + 1) now))
    ∙ ap (λ (rest : List ℕ). take kept now ++ rest)
    (sym (ap lf_ended cut ∙ lf_ended-kept x (drop (i + 1) now) (ap begins_with_crlf (sym cut) ∙ other)))
    ∙ built

-- the same, as the loop writes it
pub written : (all now new : List ℕ) (kept kept' i d : ℕ) → kept ≤ i → i < length now → kept' ≡ kept + 1 → d ≡ slice_index_or now i d
    → new ≡ set now kept d → take kept now ++ lf_ended (drop i now) ≡ all → begins_with_crlf (drop i now) ≡ false
    → take kept' new ++ lf_ended (drop (i + 1) new) ≡ all
written all now new kept kept' i d low within count is wrote built other =
    ap₂ (λ (k : ℕ) (ns : List ℕ). take k ns ++ lf_ended (drop (i + 1) ns)) count (wrote ∙ ap (λ (x : ℕ). set now kept x) is)
    ∙ stays all now kept i d low within built other

-- what is asked of a part of the page
pub asked : (r : Bool) (text now : List ℕ) (i : ℕ) → text ≡ now → r ≡ begins_with_crlf (take (length text - i) (drop i text))
    → begins_with_crlf (drop i now) ≡ r
asked r text now i is says =
    sym (says ∙ ap begins_with_crlf (take_rest text i) ∙ ap (λ (xs : List ℕ). begins_with_crlf (drop i xs)) is)

-- a CR before an LF is left out
pub left_out : (all now : List ℕ) (kept i d : ℕ) → i < length now
    → take kept now ++ lf_ended (drop i now) ≡ all → begins_with_crlf (drop i now) ≡ true
    → take kept now ++ lf_ended (drop (i + 1) now) ≡ all
left_out all now kept i d within built is =
    let x : ℕ = slice_index_or now i d in
    let cut : drop i now ≡ x ∷ drop (i + 1) now = drop_more now i d within in
    ap (λ (rest : List ℕ). take kept now ++ rest)
    (sym (ap lf_ended cut ∙ lf_ended-left_out x (drop (i + 1) now) (ap begins_with_crlf (sym cut) ∙ is)))
    ∙ built

-- at the end what was kept is the text
pub at_end : (all now : List ℕ) (kept i : ℕ) → length now ≤ i → take kept now ++ lf_ended (drop i now) ≡ all → take kept now ≡ all
unfolding lf_ended
at_end all now kept i end built =
    sym (append-nil (take kept now)) ∙ ap (λ (rest : List ℕ). take kept now ++ lf_ended rest) (sym (drop_all i now end)) ∙ built

-- a page that is printed stays as it is
pub pages_end_at_lf : (tapes : List (List Mark)) → lf_ended (page_text tapes) ≡ page_text tapes
pages_end_at_lf tapes =
    let k : ℕ = count_entries is_keyed tapes in
    let r : ℕ = count_entries is_refused tapes in
    lf_ended-same (page_text tapes) (join (tapes_text 0 tapes) (totals_text k r) (tapes_from 0 tapes) (totals k r))
