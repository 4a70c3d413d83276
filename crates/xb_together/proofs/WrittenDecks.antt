-- The decks of a split make the page of the deck that was split.
use Rattle.std.proofs.Common.{◌≡◌, ◌∙◌, ◌≤◌, ◌<◌, ◌+◌, ◌-◌, ◌^◌, ◌⊎◌, ℕ, List, [], ◌∷◌, ◌++◌, length, take, drop, Option, Some, None, IfSome, Result, Ok, Err, IsOk, refl, sym, ap, ap₂, subst, arith, inl, inr}
use Rattle.std.specs.Prelude.{codes, slice_index_or, slice_range, sum_by}
use Rattle.std.specs.Io.KnownBytes.{Appends}
use Rattle.std.specs.List.{All, AllByRecursion}
use Rattle.std.proofs.lemmas.Bool.{cases_lt}
use Rattle.std.proofs.lemmas.List.{drop-take, get_or-map, get_or-take, get_or_past, length-map, length-take-le, take-take}
use Rattle.std.proofs.lemmas.List.Elements.{All-from_recursion, recursion_from_All}
use Rattle.xb_model.specs.declared.line.TheConstants.{LINES}
use Rattle.xb_model.specs.Records.{rows_of}
use Rattle.xb_model.specs.Rows.{LoopRow}
use Rattle.xb_routes.specs.declared.fault.RouteFault.{RouteFault}
use Rattle.xb_routes.specs.Table.{Table}
use Rattle.xb_routes.specs.Text.{table_of_text}
use Rattle.xb_rows.specs.WrittenRows.{AreRows, text_of_rows}
use Rattle.xb_deck.specs.MadeDecks.{with_ends}
use Rattle.xb_office.specs.DeckPage.{page_of, says}
use Rattle.xb_parts.specs.declared.range.LineRange.{LineRange}
use Rattle.xb_parts.specs.Ranges.{Cover, CoverAll, rows_in}
use Rattle.xb_parts.specs.declared.load.Load.{Load}
use Rattle.xb_parts.specs.Counts.{AreLoadsOf, IsLoadOf, counted}
use Rattle.xb_parts.specs.Loads.{Fits}
use Rattle.xb_parts.specs.PartDecks.{deck_of_part, range_at}
use Rattle.xb_parts.specs.Joining.{Given, join_of}
use Rattle.xb_together.specs.SplitDecks.{HasItsPage, LeavesRoom, PlannedDecksMakeThePage, range_deck, ranges_of}
use Rattle.xb_together.specs.WrittenDecks.{HasPage, WrittenDecksMakeThePage}
use Rattle.xb_together.proofs.PlannedPages.{Cover-le}
use Rattle.xb_rows.proofs.ReadRows.{read_rows_are_rows}
use Rattle.xb_together.proofs.TableLines.{HasLines, tables_have_lines}

-- each line has a load
enough_loads : (rows : List LoopRow) (loads : List Load) → AreLoadsOf rows loads → LINES ≤ length loads
enough_loads rows loads are = at (cases_lt (length loads) LINES)
  where
    given : (d : Load) → length loads < LINES → d.records ≡ counted (length (rows_of (length loads) rows))
    given d short =
        ap (λ (load : Load). load.records) (sym (get_or_past loads (length loads) d (omega arith)))
        ∙ (are (length loads) d short).0

    at : (length loads < LINES) ⊎ (LINES ≤ length loads) → LINES ≤ length loads
    at (inl short) =
        let none = given (record { records = 0; bytes = 0 }) short in
        let one = given (record { records = 1; bytes = 0 }) short in
        absurd (omega (arith, none, one))
    at (inr enough) = enough

-- loads beyond the last line don't matter
loads-lines : (rows : List LoopRow) (loads : List Load) → AreLoadsOf rows loads → AreLoadsOf rows (take LINES loads)
loads-lines rows loads are l d below =
    subst (IsLoadOf (rows_of l rows)) (sym (get_or-take LINES loads l d below)) (are l d below)

range-lines : (loads : List Load) (a b : ℕ) → a ≤ b → b ≤ LINES → slice_range loads a b ≡ slice_range (take LINES loads) a b
range-lines loads a b up within =
    let n : ℕ = b - a in
    let to_b : a + n ≡ b = omega arith in
    let cut : (xs : List Load) → take n (drop a xs) ≡ drop a (take b xs) =
    λ xs. sym (drop-take a n xs) ∙ ap (λ (k : ℕ). drop a (take k xs)) to_b in
    cut loads ∙ ap (λ (xs : List Load). drop a xs) (sym (take-take b LINES loads within)) ∙ sym (cut (take LINES loads))

Fits-lines : (loads : List Load) (most : Load) (range : LineRange) → range.first ≤ range.end → range.end ≤ LINES
    → Fits loads most range → Fits (take LINES loads) most range
Fits-lines loads most range up within fits =
    subst (λ (xs : List Load). (sum_by (λ load. load.records) xs ≤ most.records) × (sum_by (λ load. load.bytes) xs ≤ most.bytes))
    (range-lines loads range.first range.end up within) fits

Fits-all : (loads : List Load) (most : Load) (a b : ℕ) (ranges : List LineRange) → b ≤ LINES → Cover a b ranges
    → AllByRecursion (Fits loads most) ranges → AllByRecursion (Fits (take LINES loads) most) ranges
Fits-all loads most a b [] within cover fit = tt
Fits-all loads most a b (range ∷ ranges) within cover fit =
    let first : range.first ≡ a = cover.0 in
    let up : a < range.end = cover.1 in
    let end : range.end ≤ b = Cover-le range.end b ranges cover.2 in (
      Fits-lines loads most range (omega arith) (omega arith) fit.0,
      Fits-all loads most range.end b ranges within cover.2 fit.1,
    )

-- a written deck has the page that is told of it
said : (o : Option (List ℕ)) (made page : List ℕ) → Appends (Some []) o made
    → IfSome o (λ deck. says deck ≡ Ok page) → says made ≡ Ok page
said None made page written told = absurd written
said (Some deck) made page written told = subst (λ (bytes : List ℕ). says bytes ≡ Ok page) written told

-- a text that is a table
table_in : (r : Result Table RouteFault) → IsOk r → (table : Table) × (r ≡ Ok table)
table_in (Ok table) is = (table, refl)
table_in (Err f) is = cc is

pub written_decks_make_the_page : PlannedDecksMakeThePage → WrittenDecksMakeThePage
written_decks_make_the_page planned deck list wanted decks parts split same pages =
    let lined : HasLines split.table = tables_have_lines deck split.table split.read.0 split.read.1 in
    let read = table_in (table_of_text split.table) split.plan.counted.0 in
    let table : Table = read.0 in
    let are_rows : AreRows split.rows = subst AreRows split.read.2 (read_rows_are_rows (2 ^ 64 - 1) split.read.0) in
    let is_table : table_of_text (with_ends lined.lines) ≡ Ok table = ap table_of_text (sym lined.is) ∙ read.1 in
    let cover : CoverAll (ranges_of parts) = subst CoverAll (sym same) split.plan.cover in
    let most : Load = split.plan.fit.0 in
    let room : LeavesRoom lined.lines most = record {
      records = split.plan.fit.1.records;
      bytes = omega (arith, split.plan.fit.1.bytes, ap length lined.is);
    } in
    let lines : List Load = take LINES split.loads in
    let fits : All (Fits lines most) (ranges_of parts) =
    All-from_recursion (Fits lines most) (ranges_of parts)
    (Fits-all split.loads most 0 LINES (ranges_of parts) (omega arith) cover
    (recursion_from_All (Fits split.loads most) (ranges_of parts) (subst (All (Fits split.loads most)) (sym same) split.plan.fit.2))) in
    let its : All (HasItsPage lined.lines split.rows) parts = λ i d below.
    let at : range_at split.ranges i ≡ (slice_index_or parts i d).lines =
    ap (λ (ranges : List LineRange). range_at ranges i) (sym same)
    ∙ get_or-map (λ (part : Given). part.lines) parts i d (record { first = 0; end = 0 }) below in
    let within : i < length split.ranges =
    omega (arith, below, length-map parts (λ (part : Given). part.lines), ap length same) in
    let made : deck_of_part split.table split.ranges split.rows i
    ≡ range_deck lined.lines split.rows (slice_index_or parts i d).lines =
    ap₂ (λ (table : List ℕ) (range : LineRange). table ++ codes "---\n" ++ text_of_rows (rows_in range split.rows)) lined.is at in
    subst (λ (bytes : List ℕ). says bytes ≡ Ok (slice_index_or parts i d).page) made
    (said (decks i) (deck_of_part split.table split.ranges split.rows i) (slice_index_or parts i d).page
    (split.written i within) (pages i d below)) in
    let joined : join_of parts ≡ Ok (page_of table split.rows) =
    planned lined.lines table split.rows lines most parts lined.are_lines is_table are_rows
    (loads-lines split.rows split.loads split.recounted)
    (length-take-le LINES split.loads (enough_loads split.rows split.loads split.recounted))
    room cover fits its in
    let has : HasPage deck (page_of table split.rows) = record {
      text = split.table;
      table = table;
      rows = split.rows;
      has_rows = split.read;
      is_table = read.1;
      is_page = refl;
    } in
    (page_of table split.rows, has, joined)
