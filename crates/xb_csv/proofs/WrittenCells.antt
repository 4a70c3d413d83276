-- Lines of cells that are written are read back: their cells, the columns of wires, and the levels of a row.
use Rattle.std.proofs.Common.{◌≡◌, ℕ, suc, ◌+◌, ◌<◌, ◌≤◌, ◌^◌, List, [], ◌∷◌, ◌++◌, true, false, cond, Option, Some, None, length, length-append, take, drop, get_or, map, refl, ap, sym, subst, ◌∙◌, add-one, arith, ne_eqb, not, ◌||◌}
use Rattle.std.proofs.Math.Seq.{split_at}
use Rattle.std.proofs.lemmas.List.{get_or-append-add, length-take-le, take_all}
use Rattle.std.proofs.lemmas.Option.{slice_get-get_or, slice_get-map}
use Rattle.std.proofs.lemmas.Bool.Decides.{nat_tests}
use Rattle.std.specs.Prelude.{Ok, Err, bytes_eq, ◌==◌, option_map, slice_get}
use Rattle.std.specs.List.{AllByRecursion, IsDistinct, list_all, list_any, position_from, slice_split}
use Rattle.std.specs.Option.{ok_or}
use Rattle.xb_contact.specs.declared.event.Event.{Event}
use Rattle.xb_contact.specs.declared.event.Event.TheVariants as events
use Rattle.xb_contact.specs.declared.event.Refusal.TheVariants as refusals
use Rattle.xb_contact.specs.declared.level.Level.{Level}
use Rattle.xb_contact.specs.declared.level.Level.TheVariants.{Open, Closed}
use Rattle.xb_contact.specs.Changes.{IsName}
use Rattle.xb_contact.specs.Steps.{is_before, result_and_then, result_map, then_later}
use Rattle.xb_contact.proofs.StepLemmas.{line_says}
use Rattle.xb_contact.proofs.Written.{AreOthers, others_differ, same_bytes}
use Rattle.xb_csv.specs.declared.row_times.Clock.{Clock}
use Rattle.xb_csv.specs.declared.columns.TableForm.{TableForm}
use Rattle.xb_csv.specs.Cells.{cell_number, cells_of, stands_after, trimmed}
use Rattle.xb_csv.specs.Tables.{TableState, column_by, column_of, columns_before, columns_for, columns_in, level_in, levels_from, line_of_form, row_at, row_says, row_time, table_ends, table_line_says, table_says}
use Rattle.xb_csv.specs.Written.{AreRows, TableRow, level_text, levels_said, rows_said}
use Rattle.xb_csv.specs.WrittenTables.{AreAmong, AreLabels, IsLabel, cells_line, levels_at, names_at, rows_at, timed_lines}
use Rattle.xb_csv.proofs.WrittenEdges.{BeginsBare, EndsBare, begins_more, ends_append, name_begins, name_ends, trimmed_same}
use Rattle.xb_csv.proofs.WrittenRows.{level_read, split_at_comma, split_none}

-- a cell without commas
abbrev pub IsOne : List ℕ → Type 0
IsOne cell = list_all (λ b. not (b == 44)) cell ≡ true

-- the cells of a line are those that it was made of
pub joined_pieces :
    (cell : List ℕ) (cells : List (List ℕ)) → AllByRecursion IsOne (cell ∷ cells)
    → slice_split (λ b. b == 44) (cells_line (cell ∷ cells)) ≡ cell ∷ cells
joined_pieces cell [] all = split_none cell all.0
joined_pieces cell (next ∷ cells) all =
    split_at_comma cell (cells_line (next ∷ cells)) all.0 ∙ ap (λ later. cell ∷ later) (joined_pieces next cells all.1)

pub label_trimmed : (label : List ℕ) → IsLabel label → trimmed label ≡ label
label_trimmed label is = trimmed_same label is.begins (is.some, is.ends)

labels-trimmed : (labels : List (List ℕ)) → AllByRecursion IsLabel labels → map trimmed labels ≡ labels
labels-trimmed [] all = refl
labels-trimmed (label ∷ labels) all =
    ap (λ first. first ∷ map trimmed labels) (label_trimmed label all.0)
    ∙ ap (λ later. label ∷ later) (labels-trimmed labels all.1)

labels-one : (labels : List (List ℕ)) → AllByRecursion IsLabel labels → AllByRecursion IsOne labels
labels-one [] all = tt
labels-one (label ∷ labels) all = (all.0.one, labels-one labels all.1)

pub joined_cells :
    (cell : List ℕ) (cells : List (List ℕ)) → AllByRecursion IsLabel (cell ∷ cells)
    → cells_of (cells_line (cell ∷ cells)) ≡ cell ∷ cells
unfolding cells_of
joined_cells cell cells all =
    ap (map trimmed) (joined_pieces cell cells (labels-one (cell ∷ cells) all)) ∙ labels-trimmed (cell ∷ cells) all

-- such a line has no blanks around it
pub joined_ends :
    (cell : List ℕ) (cells : List (List ℕ)) → AllByRecursion EndsBare (cell ∷ cells) → EndsBare (cells_line (cell ∷ cells))
joined_ends cell [] all = all.0
joined_ends cell (next ∷ cells) all =
    ends_append cell (44 ∷ cells_line (next ∷ cells))
    (ends_append (44 ∷ []) (cells_line (next ∷ cells)) (joined_ends next cells all.1))

joined-begins : (cell : List ℕ) (cells : List (List ℕ)) → IsLabel cell → BeginsBare (cells_line (cell ∷ cells))
joined-begins cell [] is = is.begins
joined-begins cell (next ∷ cells) is = begins_more cell (44 ∷ cells_line (next ∷ cells)) is.some is.begins

labels-end : (labels : List (List ℕ)) → AllByRecursion IsLabel labels → AllByRecursion EndsBare labels
labels-end [] all = tt
labels-end (label ∷ labels) all = ((all.0.some, all.0.ends), labels-end labels all.1)

pub bare_taken :
    (state : TableState) (line : List ℕ) → BeginsBare line → EndsBare line
    → table_line_says state line ≡ line_of_form state state.form line
bare_taken state line begins ends =
    ap (λ t. cond (length t == 0) (Ok ([], state)) (line_of_form state state.form t)) (trimmed_same line begins ends)
    ∙ ap (λ t. cond t (Ok ([], state)) (line_of_form state state.form line)) (ne_eqb (length line) 0 (λ e. absurd (omega (arith, ends.0))))

pub joined_taken :
    (state : TableState) (cell : List ℕ) (cells : List (List ℕ)) → AllByRecursion IsLabel (cell ∷ cells)
    → table_line_says state (cells_line (cell ∷ cells)) ≡ line_of_form state state.form (cells_line (cell ∷ cells))
joined_taken state cell cells all =
    bare_taken state (cells_line (cell ∷ cells)) (joined-begins cell cells all.0)
    (joined_ends cell cells (labels-end (cell ∷ cells) all))

-- levels and words are cells
level-label : (level : Level) → IsLabel (level_text level)
level-label Open = record {
  some = omega arith;
  begins = refl;
  ends = refl;
  one = refl;
}
level-label Closed = record {
  some = omega arith;
  begins = refl;
  ends = refl;
  one = refl;
}

pub levels_labels : (levels : List Level) → AllByRecursion IsLabel (map level_text levels)
levels_labels [] = tt
levels_labels (level ∷ levels) = (level-label level, levels_labels levels)

pub word_label : (word : List ℕ) → IsName word → IsOne word → IsLabel word
word_label word is one = record {
  some = is.0;
  begins = name_begins word is;
  ends = (name_ends word is).1;
  one = one;
}

-- the place of a name among others
position-at :
    (name : List ℕ) (before after : List (List ℕ)) (start : ℕ) → AreOthers name before
    → position_from (λ cell. bytes_eq cell name) start (before ++ name ∷ after) ≡ Some (start + length before)
position-at name [] after start others =
    let same : start ≡ start + 0 = omega arith in
    ap (λ t. cond t (Some start) (position_from (λ cell. bytes_eq cell name) (start + 1) after)) (same_bytes name)
    ∙ ap Some same
position-at name (own ∷ before) after start others =
    let same : start + 1 + length before ≡ start + length (own ∷ before) = omega arith in
    ap (λ t. cond t (Some start) (position_from (λ cell. bytes_eq cell name) (start + 1) (before ++ name ∷ after))) others.0
    ∙ position-at name before after (start + 1) others.1
    ∙ ap Some same

own-number :
    (cells : List (List ℕ)) (k : ℕ) → AreLabels cells → k < length cells → cell_number (get_or cells k []) cells ≡ Some k
unfolding cell_number
own-number cells k lawful within =
    let name : List ℕ = get_or cells k [] in
    let before : List (List ℕ) = take k cells in
    let after : List (List ℕ) = drop (suc k) cells in
    let all : cells ≡ before ++ name ∷ after = split_at cells k [] within in
    let Q : List (List ℕ) → Type 0 = λ them. IsDistinct bytes_eq them in
    let apart = others_differ name before after (subst Q all lawful.distinct) in
    let count : 0 + length before ≡ k = omega (arith, length-take-le k cells (omega arith)) in
    let whole : take 65535 cells ≡ cells = take_all 65535 cells (omega (arith, lawful.few)) in
    ap (position_from (λ cell. bytes_eq cell name) 0) (whole ∙ all)
    ∙ position-at name before after 0 apart.0
    ∙ ap Some count

others-none : (name : List ℕ) (names : List (List ℕ)) → AreOthers name names → list_any (λ cell. bytes_eq cell name) names ≡ false
others-none name [] all = refl
others-none name (own ∷ names) all =
    ap (λ t. t || list_any (λ cell. bytes_eq cell name) names) all.0 ∙ others-none name names all.1

own-once :
    (cells : List (List ℕ)) (k : ℕ) → AreLabels cells → k < length cells → stands_after (get_or cells k []) k cells ≡ false
unfolding stands_after
own-once cells k lawful within =
    let name : List ℕ = get_or cells k [] in
    let all : cells ≡ take k cells ++ name ∷ drop (suc k) cells = split_at cells k [] within in
    let Q : List (List ℕ) → Type 0 = λ them. IsDistinct bytes_eq them in
    let apart = others_differ name (take k cells) (drop (suc k) cells) (subst Q all lawful.distinct) in
    let whole : take 65535 cells ≡ cells = take_all 65535 cells (omega (arith, lawful.few)) in
    ap (λ them. list_any (λ cell. bytes_eq cell name) (drop (k + 1) them)) whole
    ∙ ap (λ n. list_any (λ cell. bytes_eq cell name) (drop n cells)) (add-one k)
    ∙ others-none name (drop (suc k) cells) apart.1

own-column :
    (own : ℕ) (cells : List (List ℕ)) (k : ℕ) → AreLabels cells → k < length cells
    → column_of own (get_or cells k []) cells ≡ Ok k
own-column own cells k lawful within =
    ap (column_by own (get_or cells k []) cells) (own-number cells k lawful within)
    ∙ ap (λ t. cond t (Err refusals.Twice) (Ok k)) (own-once cells k lawful within)

-- the columns of wires by their names
columns-found :
    (own : ℕ) (front channels : List (List ℕ)) (wires : List ℕ) → AreLabels (front ++ channels)
    → AreAmong wires (length channels)
    → columns_for own (front ++ channels) (names_at channels wires) ≡ Ok (map (λ wire. wire + length front) wires)
columns-found own front channels [] lawful all = refl
columns-found own front channels (wire ∷ wires) lawful all =
    let cells : List (List ℕ) = front ++ channels in
    let within : length front + wire < length cells = omega (arith, length-append front channels, all.0) in
    let place : length front + wire ≡ wire + length front = omega arith in
    let there : column_of own (get_or channels wire []) cells ≡ Ok (wire + length front) =
    ap (λ name. column_of own name cells) (sym (get_or-append-add front channels wire []))
    ∙ own-column own cells (length front + wire) lawful within
    ∙ ap Ok place in
    let rest = columns_for (own + 1) cells (names_at channels wires) in
    ap (result_and_then (λ column. result_map (λ later. column ∷ later) rest)) there
    ∙ ap (result_map (λ later. (wire + length front) ∷ later)) (columns-found (own + 1) front channels wires lawful all.1)

pub columns_found :
    (front channels : List (List ℕ)) (wires : List ℕ) → AreLabels (front ++ channels) → AreAmong wires (length channels)
    → columns_in (front ++ channels) (names_at channels wires) ≡ Ok (map (λ wire. wire + length front) wires)
columns_found front channels wires lawful all = columns-found 0 front channels wires lawful all

-- the levels of wires in their columns
get-after : (front cells : List (List ℕ)) (i : ℕ) → slice_get (front ++ cells) (length front + i) ≡ slice_get cells i
get-after [] cells i = let same : 0 + i ≡ i = omega arith in ap (slice_get cells) same
get-after (cell ∷ front) cells i =
    let next : length (cell ∷ front) + i ≡ suc (length front + i) = omega arith in
    ap (slice_get (cell ∷ (front ++ cells))) next ∙ get-after front cells i

levels-picked :
    (front : List (List ℕ)) (levels : List Level) (shift before wire : ℕ) (wires : List ℕ) → before + shift ≡ length front
    → AreAmong wires (length levels)
    → levels_from wire before (front ++ map level_text levels) (map (λ own. own + shift) wires)
    ≡ Ok (levels_said wire (levels_at levels wires))
levels-picked front levels shift before wire [] at all = refl
levels-picked front levels shift before wire (own ∷ wires) at all =
    let cells : List (List ℕ) = front ++ map level_text levels in
    let level : Level = get_or levels own Open in
    let rest = levels_from (wire + 1) before cells (map (λ own. own + shift) wires) in
    let place : before + (own + shift) ≡ length front + own = omega (arith, at) in
    let there : slice_get cells (before + (own + shift)) ≡ Some (level_text level) =
    ap (slice_get cells) place
    ∙ get-after front (map level_text levels) own
    ∙ slice_get-map level_text levels own
    ∙ ap (option_map level_text) (slice_get-get_or levels own Open all.0) in
    ap (λ cell. result_and_then (λ l. result_map (λ later. events.Level wire l ∷ later) rest) (level_in cell)) there
    ∙ ap (result_and_then (λ l. result_map (λ later. events.Level wire l ∷ later) rest)) (level_read level)
    ∙ ap (result_map (λ later. events.Level wire level ∷ later)) (levels-picked front levels shift before (wire + 1) wires at all.1)

-- among the rows of a table
abbrev pub among : TableForm → List (List ℕ) → List ℕ → ℕ → Clock → Option ℕ → Option ℕ → TableState
among form names wires shift clock rate last = record {
  form = form;
  names = names;
  columns = map (λ wire. wire + shift) wires;
  clock = clock;
  rate = rate;
  last = last;
}

-- a row
pub row_read :
    (form : TableForm) (names : List (List ℕ)) (wires : List ℕ) (shift : ℕ) (clock : Clock) (rate last : Option ℕ)
    (front : List (List ℕ)) (levels : List Level) (line first : List ℕ) (tick : ℕ)
    → cells_of line ≡ front ++ map level_text levels → slice_get (front ++ map level_text levels) 0 ≡ Some first
    → row_time clock last first ≡ Some tick → is_before tick last ≡ false → columns_before clock + shift ≡ length front
    → AreAmong wires (length levels)
    → row_says (among form names wires shift clock rate last) line
    ≡ Ok (events.At tick ∷ levels_said 0 (levels_at levels wires), among form names wires shift clock rate (Some tick))
row_read form names wires shift clock rate last front levels line first tick cells head time order at all =
    let state : TableState = among form names wires shift clock rate last in
    let after : TableState = among form names wires shift clock rate (Some tick) in
    let them : List (List ℕ) = front ++ map level_text levels in
    let found = levels_from 0 (columns_before clock) them (map (λ wire. wire + shift) wires) in
    ap (λ own. result_and_then (λ cell. result_and_then (row_at state own) (ok_or (row_time clock last cell) refusals.Time)) (ok_or (slice_get own 0) refusals.Columns)) cells
    ∙ ap (λ own. result_and_then (λ cell. result_and_then (row_at state them) (ok_or (row_time clock last cell) refusals.Time)) (ok_or own refusals.Columns)) head
    ∙ ap (λ own. result_and_then (row_at state them) (ok_or own refusals.Time)) time
    ∙ ap (λ t. cond t (Err refusals.Backwards) (result_map (λ said. (events.At tick ∷ said, after)) found)) order
    ∙ ap (result_map (λ said. (events.At tick ∷ said, after))) (levels-picked front levels shift (columns_before clock) 0 wires at all)

-- the rows of a table with times, after one at this tick: by what a row says, and that nothing is said at the end
pub timed_rest :
    (state : Option ℕ → TableState) (text : ℕ → List ℕ) (wires : List ℕ) (count low : ℕ) (Fits : ℕ → Type 0)
    → ((last : Option ℕ) (row : TableRow) → low ≤ row.tick → row.tick < 2 ^ 63 → Fits row.tick → length row.levels ≡ count
    → is_before row.tick last ≡ false
    → table_line_says (state last) (cells_line (text row.tick ∷ map level_text row.levels))
    ≡ Ok (events.At row.tick ∷ levels_said 0 (levels_at row.levels wires), state (Some row.tick)))
    → ((tick : ℕ) → table_ends (state (Some tick)) ≡ Ok [])
    → (tick : ℕ) (rows : List TableRow) → low ≤ tick → AreRows count tick rows → AllByRecursion (λ row. Fits row.tick) rows
    → table_says (state (Some tick)) (timed_lines text rows) ≡ Ok (rows_said (rows_at rows wires))
timed_rest state text wires count low Fits says ends tick [] late lawful fits = ends tick
timed_rest state text wires count low Fits says ends tick (row ∷ rows) late lawful fits =
    let next : tick ≤ row.tick = lawful.1 in
    let after : low ≤ row.tick = omega arith in
    let order : is_before row.tick (Some tick) ≡ false = grind (arith, nat_tests) in
    let own : List Event = events.At row.tick ∷ levels_said 0 (levels_at row.levels wires) in
    line_says table_line_says table_ends (state (Some tick)) (state (Some row.tick)) (cells_line (text row.tick ∷ map level_text row.levels))
    (timed_lines text rows) own (says (Some tick) row after lawful.2 fits.0 lawful.0 order)
    ∙ ap (then_later own) (timed_rest state text wires count low Fits says ends row.tick rows after lawful.3 fits.1)

any-fits : (rows : List TableRow) → AllByRecursion (λ row. Unit {0}) rows
any-fits [] = tt
any-fits (row ∷ rows) = (tt, any-fits rows)

-- all of them
pub timed_rows :
    (state : Option ℕ → TableState) (text : ℕ → List ℕ) (wires : List ℕ) (count low : ℕ)
    → ((last : Option ℕ) (row : TableRow) → low ≤ row.tick → row.tick < 2 ^ 63 → length row.levels ≡ count
    → is_before row.tick last ≡ false
    → table_line_says (state last) (cells_line (text row.tick ∷ map level_text row.levels))
    ≡ Ok (events.At row.tick ∷ levels_said 0 (levels_at row.levels wires), state (Some row.tick)))
    → ((tick : ℕ) → table_ends (state (Some tick)) ≡ Ok [])
    → (row : TableRow) (rows : List TableRow) → AreRows count low (row ∷ rows)
    → table_says (state None) (timed_lines text (row ∷ rows)) ≡ Ok (rows_said (rows_at (row ∷ rows) wires))
timed_rows state text wires count low says ends row rows lawful =
    let Fits : ℕ → Type 0 = λ tick. Unit {0} in
    let own : List Event = events.At row.tick ∷ levels_said 0 (levels_at row.levels wires) in
    line_says table_line_says table_ends (state None) (state (Some row.tick)) (cells_line (text row.tick ∷ map level_text row.levels))
    (timed_lines text rows) own (says None row lawful.1 lawful.2 lawful.0 refl)
    ∙ ap (then_later own) (timed_rest state text wires count low Fits
    (λ last row late early fits same order. says last row late early same order) ends row.tick rows lawful.1 lawful.3 (any-fits rows))
