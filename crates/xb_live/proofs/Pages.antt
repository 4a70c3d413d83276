-- What is printed of rows that end, sorted by line and number, is their page.
use Rattle.std.proofs.Common.{◌≡◌, ℕ, ◌+◌, Bool, cond, List, [], ◌∷◌, ◌++◌, refl, sym, ap, ◌∙◌, subst, arith}
use Rattle.std.specs.Prelude.{IsPermutation, count_by, sum_by}
use Rattle.std.specs.List.{flat_map}
use Rattle.std.proofs.lemmas.List.Sorted.{sum_by-IsPermutation}
use Rattle.std.proofs.lemmas.List.Sums.{sum_by-cons}
use Rattle.xb_model.specs.declared.line.TheConstants.{LINES}
use Rattle.xb_model.specs.declared.mark.Mark.{Mark}
use Rattle.xb_model.specs.LawfulLimits.{IsLawful}
use Rattle.xb_model.specs.Lines.{lines_below}
use Rattle.xb_model.specs.Page.{count_entries, is_keyed, is_refused, tapes_text, totals_text}
use Rattle.xb_model.specs.Rows.{LoopRow}
use Rattle.xb_model.specs.Tapes.{entries_of, joined_tape, tapes_of}
use Rattle.xb_routes.specs.Table.{Table}
use Rattle.xb_live.specs.Counting.{AreOnLines}
use Rattle.xb_live.specs.Entries.{Entry, Numbered, entries_of_rows, next_number, numbered_after}
use Rattle.xb_live.specs.Pages.{SortsIntoPage, last_line, page_line}
use Rattle.xb_live.specs.Texts.{with_closes}
use Rattle.xb_live.proofs.LineEntries.{all-below, line-none, line-sheet, numbered_entries}
use Rattle.xb_live.proofs.Sheets.{of_lines-all, of_lines-sheet, sheet, sheet-order, sheet-sum, sheet-text}
use Rattle.xb_live.proofs.AllTold.{entries-alone, tells_all}
use Rattle.xb_live.proofs.ToldRows.{told-all}

-- a sum over entries, with their numbers and without
numbered-sum : (f : List Mark → ℕ) (earlier entries : List Entry) → sum_by (λ (e : Entry). f e.what) entries ≡ sum_by (λ (e : Numbered). f e.marks) (numbered_after earlier entries)
unfolding numbered_after
numbered-sum f earlier [] = refl
numbered-sum f earlier (entry ∷ entries) =
    let first : Numbered = record { line = entry.line; number = next_number earlier entry.line; marks = entry.what } in
    sum_by-cons (λ (e : Entry). f e.what) entry entries
    ∙ ap (λ k. f entry.what + k) (numbered-sum f (earlier ++ entry ∷ []) entries)
    ∙ sym (sum_by-cons (λ (e : Numbered). f e.marks) first (numbered_after (earlier ++ entry ∷ []) entries))

module _ (table : Table) (lawful : IsLawful table.limits) (rows : List LoopRow) (on : AreOnLines rows) where
  abbrev tape : ℕ → List Mark
  tape l = joined_tape table.plan table.limits table.routes l rows

  abbrev tapes : List (List Mark)
  tapes = tapes_of table.plan table.limits table.routes rows

  abbrev sorted : List Numbered
  sorted = sheet (λ l. entries_of (tape l)) 0 LINES

  same : IsPermutation (numbered_entries table rows) sorted
  same =
      subst (IsPermutation (numbered_entries table rows))
      (of_lines-sheet (numbered_entries table rows) (λ l. entries_of (tape l)) 0 LINES (λ l below. line-sheet table lawful rows l (omega (arith, below))))
      (of_lines-all (numbered_entries table rows) LINES (all-below (numbered_entries table rows) LINES (line-none table lawful rows on)))

  counted : (test : List Mark → Bool) → count_by (λ (e : Entry). test e.what) (entries_of_rows table (with_closes rows)) ≡ count_entries test tapes
  unfolding lines_below
  counted test =
      let f : List Mark → ℕ = λ marks. cond (test marks) 1 0 in
      numbered-sum f [] (entries_of_rows table (with_closes rows))
      ∙ sym (sum_by-IsPermutation (λ (e : Numbered). f e.marks) (numbered_entries table rows) sorted same)
      ∙ sheet-sum f tape 0 LINES

  text : flat_map page_line sorted ≡ tapes_text 0 tapes
  unfolding lines_below
  text = sheet-text tape 0 LINES

  pub sorts_into_page : SortsIntoPage table rows
  sorts_into_page = record {
    whole = λ style. refl;
    tells = tells_all table lawful (with_closes rows);
    alone = λ style only. ap (λ text. text ++ last_line style table rows) (entries-alone style only table (with_closes rows));
    sorted = sorted;
    same = subst (λ entries. IsPermutation entries sorted) (sym (told-all table (with_closes rows))) same;
    order = sheet-order (λ l. entries_of (tape l)) 0 LINES;
    page =
        ap (λ front. front ++ totals_text (count_entries is_keyed tapes) (count_entries is_refused tapes)) (sym text)
        ∙ ap (λ k. flat_map page_line sorted ++ totals_text k (count_entries is_refused tapes)) (sym (counted is_keyed))
        ∙ ap (λ k. flat_map page_line sorted ++ totals_text (count_by (λ (e : Entry). is_keyed e.what) (entries_of_rows table (with_closes rows))) k) (sym (counted is_refused));
  }
