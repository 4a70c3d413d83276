-- A page that is read is the text of its sheet, and the page of a sheet is read.
use Rattle.std.proofs.Common.{◌≡◌, ◌==◌, ℕ, Bool, true, false, not, ◌&&◌, cond, List, [], ◌∷◌, ◌++◌, length, decimal, codes, refl, sym, ap, ap₂, ◌∙◌, arith, append_assoc}
use Rattle.std.specs.Prelude.{Err, Ok, Result, bytes_eq}
use Rattle.std.specs.List.{join_with_byte, slice_split}
use Rattle.std.proofs.lemmas.Bool.{and_parts, cond-true, cond-false, eqb-true, false≢true}
use Rattle.std.proofs.lemmas.Slice.Eq.{bytes_eq-Decides}
use Rattle.std.proofs.lemmas.List.{nil_from_length}
use Rattle.std.proofs.lemmas.List.Splits.{join_with_byte-slice_split}
use Rattle.xb_model.specs.Page.{totals_text}
use Rattle.xb_page.specs.declared.fault.PageFault.{PageFault}
use Rattle.xb_page.specs.declared.fault.PageFault.TheVariants as fault
use Rattle.xb_page.specs.declared.page_place.PagePlace.{PagePlace}
use Rattle.xb_page.specs.PageLines.{Read, ends_line, has_more, place_and, read_lines, read_page, read_totals, read_with, start_at, words}
use Rattle.xb_page.specs.Places.{line_after, line_feed, space, text_line}
use Rattle.xb_page.specs.ReadPages.{after_entry, are_four, four_of, is_totals, says_totals}
use Rattle.xb_page.specs.Sheets.{Sheet, sheet_text, sheet_with}
use Rattle.xb_page.proofs.EntryHeads.{IsLine-totals, is_totals-totals, says_totals-totals, totals_text-words, totals_words}
use Rattle.xb_page.proofs.PlainBytes.{slice_split-line}
use Rattle.xb_page.proofs.ReadEntries.{Reads}

-- the totals end a page
read_totals-end : (entries : List ℕ) (place : PagePlace)
    → read_lines entries place (slice_split ends_line (totals_text place.keyed place.refused)) ≡ Ok (read_with entries place)
read_totals-end entries place =
    let text : List ℕ = totals_words place.keyed place.refused in
    let later : List (List ℕ) = slice_split ends_line [] in
    ap (λ (bytes : List ℕ). read_lines entries place (slice_split ends_line bytes)) (totals_text-words place.keyed place.refused)
    ∙ ap (read_lines entries place) (slice_split-line text [] (IsLine-totals place.keyed place.refused))
    ∙ cond-true (is_totals (words text)) (read_totals entries place text later)
    (place_and (after_entry place (words text)) (λ next. read_lines (entries ++ text ++ codes "\n") next later))
    (is_totals-totals place.keyed place.refused)
    ∙ cond-false (not (says_totals place (words text))) (Err (fault.Totals (text_line place))) (Ok (read_with entries place))
    (ap not (says_totals-totals place))

abbrev with_next : Sheet → ℕ → Result Read PageFault
with_next sheet next = Ok (record { sheet = sheet; next_line = next })

-- the page of a sheet that can be read is read
pub read_sheet : (from : ℕ) (sheet : Sheet) (place : PagePlace) → Reads (start_at from) sheet place
    → read_page from (sheet_text sheet) ≡ Ok (record { sheet = sheet; next_line = line_after place })
read_sheet from sheet place reads =
    let keyed : place.keyed ≡ sheet.keyed = omega (arith, reads.keyed_is) in
    let refused : place.refused ≡ sheet.refused = omega (arith, reads.refused_is) in
    reads.is [] (totals_text sheet.keyed sheet.refused)
    ∙ ap₂ (λ (k r : ℕ). read_lines sheet.entries place (slice_split ends_line (totals_text k r))) (sym keyed) (sym refused)
    ∙ read_totals-end sheet.entries place
    ∙ ap₂ (λ (k r : ℕ). with_next (sheet_with sheet.entries k r) (line_after place)) keyed refused

same_bytes : (xs ys : List ℕ) → bytes_eq xs ys ≡ true → xs ≡ ys
same_bytes xs ys t = (bytes_eq-Decides xs ys).0 t

-- fields that are totals, put together
four_words : (k r : ℕ) (fields : List (List ℕ)) → are_four k r (four_of fields) ≡ true
    → join_with_byte space fields ≡ totals_words k r
four_words k r [] says = absurd (false≢true says)
four_words k r (a ∷ []) says = absurd (false≢true says)
four_words k r (a ∷ b ∷ []) says = absurd (false≢true says)
four_words k r (a ∷ b ∷ c ∷ []) says = absurd (false≢true says)
four_words k r (a ∷ b ∷ c ∷ d ∷ e ∷ more) says = absurd (false≢true says)
four_words k r (a ∷ b ∷ c ∷ d ∷ []) says =
    let last = and_parts (bytes_eq a (codes "KEYED") && bytes_eq b (decimal k) && bytes_eq c (codes "REFUSED")) (bytes_eq d (decimal r)) says in
    let third = and_parts (bytes_eq a (codes "KEYED") && bytes_eq b (decimal k)) (bytes_eq c (codes "REFUSED")) last.0 in
    let first = and_parts (bytes_eq a (codes "KEYED")) (bytes_eq b (decimal k)) third.0 in
    ap (λ (x : List ℕ). x ++ space ∷ (b ++ space ∷ (c ++ space ∷ d))) (same_bytes a (codes "KEYED") first.0)
    ∙ ap (λ (x : List ℕ). codes "KEYED" ++ space ∷ (x ++ space ∷ (c ++ space ∷ d))) (same_bytes b (decimal k) first.1)
    ∙ ap (λ (x : List ℕ). codes "KEYED" ++ space ∷ (decimal k ++ space ∷ (x ++ space ∷ d))) (same_bytes c (codes "REFUSED") third.1)
    ∙ ap (λ (x : List ℕ). codes "KEYED" ++ space ∷ (decimal k ++ space ∷ (codes "REFUSED" ++ space ∷ x))) (same_bytes d (decimal r) last.1)

-- a text that is read as totals is them
text_of_totals : (place : PagePlace) (text : List ℕ) → says_totals place (words text) ≡ true
    → text ≡ totals_words place.keyed place.refused
text_of_totals place text says =
    sym (join_with_byte-slice_split space text) ∙ four_words place.keyed place.refused (words text) says

-- the text of lines
abbrev text_of : List (List ℕ) → List ℕ
text_of lines = join_with_byte line_feed lines

text_of-more : (text : List ℕ) (later : List (List ℕ)) → has_more later ≡ true → text_of (text ∷ later) ≡ text ++ line_feed ∷ text_of later
text_of-more text [] more = cc
text_of-more text (next ∷ later) more = refl

module _ (entries : List ℕ) (place : PagePlace) (text : List ℕ) (later : List (List ℕ)) (read : Read) (more : has_more later ≡ true) where
  -- the totals end the page
  accepted-totals : is_totals (words text) ≡ true → (says : says_totals place (words text) ≡ true) → text_of later ≡ []
      → read_with entries place ≡ read → entries ++ text_of (text ∷ later) ≡ sheet_text read.sheet
  accepted-totals first says none same =
      ap (λ (bytes : List ℕ). entries ++ bytes)
      (text_of-more text later more
      ∙ ap₂ (λ (t r : List ℕ). t ++ line_feed ∷ r) (text_of_totals place text says) none
      ∙ sym (totals_text-words place.keyed place.refused))
      ∙ ap (λ (r : Read). sheet_text r.sheet) same

  totals_case : (s z : Bool) → says_totals place (words text) ≡ s → (length (text_of later) == 0) ≡ z
      → is_totals (words text) ≡ true
      → cond (not s) (Err (fault.Totals (text_line place))) (cond z (Ok (read_with entries place)) (Err (fault.GoesOn (text_line place)))) ≡ Ok read
      → entries ++ text_of (text ∷ later) ≡ sheet_text read.sheet
  totals_case true true says none first e =
      let same : read_with entries place ≡ read = cc in
      accepted-totals first says (nil_from_length (text_of later) (eqb-true _ 0 none)) same
  totals_case true false says none first e = absurd (let no : ⊥ = cc in no)
  totals_case false z says none first e = absurd (let no : ⊥ = cc in no)

  -- an entry, and the rest
  entry_case : (found : Result PagePlace PageFault)
      → ((next : PagePlace) → read_lines (entries ++ text ++ codes "\n") next later ≡ Ok read
      → (entries ++ text ++ codes "\n") ++ text_of later ≡ sheet_text read.sheet)
      → place_and found (λ next. read_lines (entries ++ text ++ codes "\n") next later) ≡ Ok read
      → entries ++ text_of (text ∷ later) ≡ sheet_text read.sheet
  entry_case (Err f) rest e = absurd (let no : ⊥ = cc in no)
  entry_case (Ok next) rest e =
      let regroup : entries ++ (text ++ line_feed ∷ text_of later) ≡ (entries ++ text ++ codes "\n") ++ text_of later
      = simp append_assoc in
      ap (λ (bytes : List ℕ). entries ++ bytes) (text_of-more text later more)
      ∙ regroup
      ∙ rest next e

-- a page that is read is its sheet
accepted : (entries : List ℕ) (place : PagePlace) (lines : List (List ℕ)) (read : Read) → read_lines entries place lines ≡ Ok read
    → entries ++ text_of lines ≡ sheet_text read.sheet
accepted entries place [] read e = absurd (let no : ⊥ = cc in no)
accepted entries place (text ∷ later) read e =
    at (has_more later) (is_totals (words text)) refl refl (λ next. accepted (entries ++ text ++ codes "\n") next later read) e
  where
    at : (m t : Bool) → has_more later ≡ m → is_totals (words text) ≡ t
        → ((next : PagePlace) → read_lines (entries ++ text ++ codes "\n") next later ≡ Ok read
        → (entries ++ text ++ codes "\n") ++ text_of later ≡ sheet_text read.sheet)
        → cond (not m) (Err (fault.NoTotals (text_line place))) (cond t (read_totals entries place text later)
        (place_and (after_entry place (words text)) (λ next. read_lines (entries ++ text ++ codes "\n") next later))) ≡ Ok read
        → entries ++ text_of (text ∷ later) ≡ sheet_text read.sheet
    at true true more first rest e =
        totals_case entries place text later read more (says_totals place (words text)) (length (text_of later) == 0) refl refl first e
    at true false more first rest e = entry_case entries place text later read more (after_entry place (words text)) rest e
    at false t more first rest e = absurd (let no : ⊥ = cc in no)

pub accepted_page : (from : ℕ) (page : List ℕ) (read : Read) → read_page from page ≡ Ok read → page ≡ sheet_text read.sheet
accepted_page from page read e =
    sym (join_with_byte-slice_split line_feed page) ∙ accepted [] (start_at from) (slice_split ends_line page) read e
