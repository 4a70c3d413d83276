-- Tables of sigrok whose times are cut are read back as their samples.
use Rattle.std.proofs.Common.{◌≡◌, ℕ, ◌+◌, ◌*◌, ◌/◌, ◌%◌, ◌^◌, ◌<◌, ◌≤◌, List, [], ◌∷◌, true, false, cond, Option, Some, None, length, map, refl, ap, sym, subst, ◌∙◌, arith, eq-eqb, not}
use Rattle.std.proofs.lemmas.Bool.{and_parts}
use Rattle.std.proofs.lemmas.Bool.Decides.{nat_tests}
use Rattle.std.proofs.lemmas.Nat.{div-mul-add, le-div, mod-mul-add, mul-lt}
use Rattle.std.specs.Prelude.{Ok, decimal, is_some, nat_lt, ◌==◌, ◌&&◌, slice_get}
use Rattle.std.specs.Option.{option_and_then}
use Rattle.xb_contact.specs.declared.event.Event.{Event}
use Rattle.xb_contact.specs.declared.event.Event.TheVariants as events
use Rattle.xb_contact.specs.Numbers.{number_of}
use Rattle.xb_contact.specs.Steps.{is_before, result_and_then, said_before, then_later}
use Rattle.xb_contact.specs.Times.{scale_by}
use Rattle.xb_contact.proofs.StepLemmas.{line_is_quiet, line_says}
use Rattle.xb_contact.proofs.Written.{number_is_read}
use Rattle.xb_csv.specs.declared.row_times.Clock.TheVariants as clocks
use Rattle.xb_csv.specs.declared.columns.TableForm.TheVariants as forms
use Rattle.xb_csv.specs.declared.sample_periods.CutTimes.{CutTimes}
use Rattle.xb_csv.specs.Tables.{TableState, begins_rows, comment_says, counts_periods, cut_by, first_time, in_periods, row_says, scale_of_units, table_ends, table_line_says, times_decided}
use Rattle.xb_csv.specs.Written.{TableRow, level_text, levels_said}
use Rattle.xb_csv.specs.WrittenTables.{AreAmong, SigrokCutTimesAreRead, cells_line, cut_period, hertz, levels_at, logic_labels, names_at, time_label, timed_lines}
use Rattle.xb_csv.proofs.WrittenCells.{among, joined_cells, joined_taken, levels_labels, row_read, timed_rest}
use Rattle.xb_csv.proofs.WrittenSigrok.{headed, heading_read, rate_some}
use Rattle.xb_csv.proofs.WrittenTimes.{number_label, number_plain, times_header}

-- so many periods are read as so many
positive-is : (n : ℕ) → 0 < n → nat_lt 0 n ≡ true
positive-is n some = grind (arith, nat_tests)

periods-read : (tick period : ℕ) → 0 < period → in_periods period (tick * period) ≡ Some tick
periods-read tick period some =
    let time : ℕ = tick * period in
    let plus : time ≡ tick * period + 0 = omega arith in
    let whole : time % period ≡ 0 = ap (λ n. n % period) plus ∙ mod-mul-add tick period 0 some in
    let back : time / period ≡ tick = ap (λ n. n / period) plus ∙ div-mul-add tick period 0 some in
    ap (λ t. cond (t && (time % period == 0)) (Some (time / period)) None) (positive-is period some)
    ∙ ap (λ t. cond t (Some (time / period)) None) (eq-eqb (time % period) 0 whole)
    ∙ ap Some back

periods-counted : (tick period : ℕ) → 0 < tick → 0 < period → counts_periods period (Some (tick * period)) ≡ true
periods-counted tick period late some =
    ap (λ t. t && is_some (in_periods period (tick * period))) (positive-is (tick * period) (mul-lt 0 0 tick period late some))
    ∙ ap is_some (periods-read tick period some)

-- before the first row, and among the rows
abbrev pending : List (List ℕ) → List ℕ → ℕ → CutTimes → TableState
pending names wires rate cut = among forms.Sigrok names wires 0 (clocks.Undecided cut) (Some rate) None

abbrev counting : List (List ℕ) → List ℕ → ℕ → ℕ → Option ℕ → TableState
counting names wires rate period last = among forms.Sigrok names wires 0 (clocks.Periods period) (Some rate) last

-- the line of a row, of which the time is some periods
abbrev row-text : ℕ → TableRow → List ℕ
row-text period row = cells_line (decimal (row.tick * period) ∷ map level_text row.levels)

row-says :
    (names : List (List ℕ)) (wires : List ℕ) (rate count period : ℕ) (last : Option ℕ) (row : TableRow) → AreAmong wires count
    → 0 < period → row.tick * period < 2 ^ 64 → length row.levels ≡ count → is_before row.tick last ≡ false
    → row_says (counting names wires rate period last) (row-text period row)
    ≡ Ok (events.At row.tick ∷ levels_said 0 (levels_at row.levels wires), counting names wires rate period (Some row.tick))
row-says names wires rate count period last row all some small same order =
    let time : List ℕ = decimal (row.tick * period) in
    let P : ℕ → Type 0 = λ n. AreAmong wires n in
    row_read forms.Sigrok names wires 0 (clocks.Periods period) (Some rate) last (time ∷ []) row.levels (row-text period row) time row.tick
    (joined_cells time (map level_text row.levels) (number_label (row.tick * period) small, levels_labels row.levels)) refl
    (ap (option_and_then (in_periods period)) (number_is_read (row.tick * period) small) ∙ periods-read row.tick period some)
    order refl (subst P (sym same) all)

row-line :
    (names : List (List ℕ)) (wires : List ℕ) (rate count period : ℕ) → AreAmong wires count → 0 < period
    → (last : Option ℕ) (row : TableRow) → 1 ≤ row.tick → row.tick < 2 ^ 63 → row.tick * period < 2 ^ 64
    → length row.levels ≡ count → is_before row.tick last ≡ false
    → table_line_says (counting names wires rate period last) (row-text period row)
    ≡ Ok (events.At row.tick ∷ levels_said 0 (levels_at row.levels wires), counting names wires rate period (Some row.tick))
row-line names wires rate count period all some last row late early small same order =
    let state : TableState = counting names wires rate period last in
    let time : List ℕ = decimal (row.tick * period) in
    let line : List ℕ = row-text period row in
    joined_taken state time (map level_text row.levels) (number_label (row.tick * period) small, levels_labels row.levels)
    ∙ ap (λ t. cond t (comment_says state line) (row_says state line))
    (number_plain (row.tick * period) (map level_text row.levels) small)
    ∙ row-says names wires rate count period last row all some small same order

-- the first row tells that times are cut
first-line :
    (names : List (List ℕ)) (wires : List ℕ) (rate count : ℕ) (cut : CutTimes) (row : TableRow) → AreAmong wires count
    → cut.rate ≡ rate → 0 < cut.period → 1 ≤ row.tick → row.tick * cut.period < 2 ^ 64 → length row.levels ≡ count
    → table_line_says (pending names wires rate cut) (row-text cut.period row)
    ≡ Ok (events.Ticks (scale_by 1000 rate) ∷ events.At row.tick ∷ levels_said 0 (levels_at row.levels wires), counting names wires rate cut.period (Some row.tick))
first-line names wires rate count cut row all own some late small same =
    let state : TableState = pending names wires rate cut in
    let number : ℕ = row.tick * cut.period in
    let time : List ℕ = decimal number in
    let line : List ℕ = row-text cut.period row in
    let cells = joined_cells time (map level_text row.levels) (number_label number small, levels_labels row.levels) in
    joined_taken state time (map level_text row.levels) (number_label number small, levels_labels row.levels)
    ∙ ap (λ t. cond t (comment_says state line) (first_time state cut line)) (number_plain number (map level_text row.levels) small)
    ∙ ap (λ them. result_and_then (λ said. said_before said.0 (row_says said.1 line)) (times_decided state cut (option_and_then number_of (slice_get them 0)))) cells
    ∙ ap (λ found. result_and_then (λ said. said_before said.0 (row_says said.1 line)) (times_decided state cut found)) (number_is_read number small)
    ∙ ap (λ t. result_and_then (λ said. said_before said.0 (row_says said.1 line))
    (cond t (begins_rows state (clocks.Periods cut.period) (scale_by 1000 cut.rate)) (begins_rows state clocks.Ticks (scale_of_units cut.units))))
    (periods-counted row.tick cut.period (omega (arith, late)) some)
    ∙ ap (λ ticks. said_before (events.Ticks (scale_by 1000 ticks) ∷ []) (row_says (counting names wires rate cut.period None) line)) own
    ∙ ap (said_before (events.Ticks (scale_by 1000 rate) ∷ [])) (row-says names wires rate count cut.period None row all some small same refl)

pub sigrok_cut_times_are_read : SigrokCutTimesAreRead
sigrok_cut_times_are_read heading unit wires row rows is few cut all lawful fits =
    let channels : List (List ℕ) = heading.channels in
    let names : List (List ℕ) = names_at channels wires in
    let rate : ℕ = hertz heading in
    let runs : 0 < rate = omega (arith, rate_some heading.number heading.unit is.unit, is.rate) in
    let how : CutTimes = cut_by (1000 ^ unit) rate in
    let period : ℕ = cut_period heading unit in
    let text : ℕ → List ℕ = λ sample. decimal (sample * period) in
    let parts = and_parts (nat_lt rate (1000 ^ unit)) (not (1000 ^ unit % rate == 0)) cut in
    let shorter : rate < 1000 ^ unit = grind (arith, nat_tests, parts.0) in
    let least : 1 ≤ period = le-div 1 (1000 ^ unit) rate runs (omega (arith, shorter)) in
    let some : 0 < period = omega (arith, least) in
    let count : ℕ = length channels in
    let header : List ℕ = cells_line (time_label unit ∷ logic_labels channels) in
    let own : List Event = events.Ticks (scale_by 1000 rate) ∷ events.At row.tick ∷ levels_said 0 (levels_at row.levels wires) in
    heading_read heading wires (header ∷ timed_lines text (row ∷ rows)) is all
    ∙ line_is_quiet table_line_says table_ends (headed names wires rate) (pending names wires rate how) header
    (timed_lines text (row ∷ rows)) (times_header channels channels wires rate unit true few runs cut)
    ∙ line_says table_line_says table_ends (pending names wires rate how) (counting names wires rate period (Some row.tick))
    (row-text period row) (timed_lines text rows) own
    (first-line names wires rate count how row all refl some lawful.1 fits.0 lawful.0)
    ∙ ap (then_later own)
    (timed_rest (counting names wires rate period) text wires count 1 (λ tick. tick * period < 2 ^ 64)
    (row-line names wires rate count period all some) (λ tick. refl) row.tick rows lawful.1 lawful.3 fits.1)
