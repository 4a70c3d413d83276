-- Tables of Saleae Logic that are written are read back.
use Rattle.std.proofs.Common.{◌≡◌, ℕ, zero, suc, ◌+◌, ◌^◌, ◌<◌, ◌≤◌, List, [], ◌∷◌, true, false, cond, Option, Some, None, length, map, refl, ap, sym, subst, ◌∙◌, arith, ne_eqb, not}
use Rattle.std.proofs.lemmas.Bool.Decides.{nat_tests}
use Rattle.std.specs.Prelude.{Ok, Err, nat_lt, ◌==◌, slice_get}
use Rattle.std.specs.Option.{ok_or}
use Rattle.xb_contact.specs.declared.event.Event.{Event}
use Rattle.xb_contact.specs.declared.event.Event.TheVariants as events
use Rattle.xb_contact.specs.declared.event.Refusal.TheVariants as refusals
use Rattle.xb_contact.specs.declared.scale.TheConstants.{NANOSECONDS}
use Rattle.xb_contact.specs.Changes.{IsName}
use Rattle.xb_contact.specs.Steps.{is_before, result_and_then, then_later}
use Rattle.xb_contact.proofs.StepLemmas.{line_says}
use Rattle.xb_csv.specs.declared.row_times.Clock.TheVariants as clocks
use Rattle.xb_csv.specs.declared.columns.TableForm.TheVariants as forms
use Rattle.xb_csv.specs.Cells.{cells_of}
use Rattle.xb_csv.specs.Tables.{TableState, begins_rows, begun_table, columns_in, is_remark, is_seconds, saleae_begins, table_ends, table_line_says}
use Rattle.xb_csv.specs.Written.{TableRow, level_text, levels_said}
use Rattle.xb_csv.specs.WrittenTables.{AreAmong, AreLabels, IsLabel, SaleaeIsRead, cells_line, levels_at, names_at, seconds_label, signed_text, timed_lines}
use Rattle.xb_csv.proofs.WrittenSeconds.{signed_is_read, signed_nonempty, signed_pass}
use Rattle.xb_csv.proofs.WrittenCells.{among, columns_found, joined_cells, joined_taken, levels_labels, row_read, timed_rows, word_label}

-- a time is a cell
time-label : (tick : ℕ) → tick < 2 ^ 63 → IsLabel (signed_text tick)
time-label tick early =
    let is : IsName (signed_text tick) =
    (signed_nonempty tick early, signed_pass (nat_lt 32) (λ digit low. grind (arith, nat_tests)) refl refl tick early) in
    word_label (signed_text tick) is
    (signed_pass (λ b. not (b == 44)) (λ digit low. ap not (ne_eqb (48 + digit) 44 (λ e. absurd (omega arith)))) refl refl tick early)

-- among the rows
abbrev rowing : List (List ℕ) → List ℕ → Option ℕ → Option ℕ → TableState
rowing names wires rate last = among forms.Saleae names wires 1 clocks.Seconds rate last

seconds-is : (which : ℕ) → which < 4 → is_seconds (seconds_label which) ≡ true
seconds-is zero few = refl
seconds-is (suc zero) few = refl
seconds-is (suc (suc zero)) few = refl
seconds-is (suc (suc (suc zero))) few = refl
seconds-is (suc (suc (suc (suc which)))) few = absurd (omega arith)

-- a header that begins with `T` is no remark
no-remark : (which : ℕ) (channels : List (List ℕ)) → which < 4 → is_remark (cells_line (seconds_label which ∷ channels)) ≡ false
no-remark zero [] few = refl
no-remark zero (channel ∷ channels) few = refl
no-remark (suc zero) [] few = refl
no-remark (suc zero) (channel ∷ channels) few = refl
no-remark (suc (suc zero)) [] few = refl
no-remark (suc (suc zero)) (channel ∷ channels) few = refl
no-remark (suc (suc (suc zero))) [] few = refl
no-remark (suc (suc (suc zero))) (channel ∷ channels) few = refl
no-remark (suc (suc (suc (suc which)))) channels few = absurd (omega arith)

header-line :
    (which : ℕ) (channels : List (List ℕ)) (wires : List ℕ) (rate : Option ℕ) → which < 4
    → AreLabels (seconds_label which ∷ channels) → AreAmong wires (length channels)
    → table_line_says (begun_table forms.Saleae (names_at channels wires) rate) (cells_line (seconds_label which ∷ channels))
    ≡ Ok (events.Ticks NANOSECONDS ∷ [], rowing (names_at channels wires) wires rate None)
header-line which channels wires rate few lawful all =
    let label : List ℕ = seconds_label which in
    let names : List (List ℕ) = names_at channels wires in
    let begun : TableState = begun_table forms.Saleae names rate in
    let line : List ℕ = cells_line (label ∷ channels) in
    let cells = joined_cells label channels lawful.each in
    joined_taken begun label channels lawful.each
    ∙ ap (λ t. cond t (Ok ([], begun)) (result_and_then (λ first. cond (is_seconds first) (saleae_begins begun line) (Err refusals.Header)) (ok_or (slice_get (cells_of line) 0) refusals.Header))) (no-remark which channels few)
    ∙ ap (λ own. result_and_then (λ first. cond (is_seconds first) (saleae_begins begun line) (Err refusals.Header)) (ok_or (slice_get own 0) refusals.Header)) cells
    ∙ ap (λ t. cond t (saleae_begins begun line) (Err refusals.Header)) (seconds-is which few)
    ∙ ap (λ own. result_and_then (λ columns. begins_rows (record begun { columns = columns }) clocks.Seconds NANOSECONDS) (columns_in own names)) cells
    ∙ ap (result_and_then (λ columns. begins_rows (record begun { columns = columns }) clocks.Seconds NANOSECONDS)) (columns_found (label ∷ []) channels wires lawful all)

-- a row
time-line :
    (names : List (List ℕ)) (wires : List ℕ) (rate : Option ℕ) (count : ℕ) → AreAmong wires count
    → (last : Option ℕ) (row : TableRow) → 1 ≤ row.tick → row.tick < 2 ^ 63 → length row.levels ≡ count
    → is_before row.tick last ≡ false
    → table_line_says (rowing names wires rate last) (cells_line (signed_text row.tick ∷ map level_text row.levels))
    ≡ Ok (events.At row.tick ∷ levels_said 0 (levels_at row.levels wires), rowing names wires rate (Some row.tick))
time-line names wires rate count all last row late early same order =
    let state : TableState = rowing names wires rate last in
    let time : List ℕ = signed_text row.tick in
    let P : ℕ → Type 0 = λ n. AreAmong wires n in
    joined_taken state time (map level_text row.levels) (time-label row.tick early, levels_labels row.levels)
    ∙ row_read forms.Saleae names wires 1 clocks.Seconds rate last (time ∷ []) row.levels (cells_line (time ∷ map level_text row.levels))
    time row.tick (joined_cells time (map level_text row.levels) (time-label row.tick early, levels_labels row.levels)) refl
    (signed_is_read row.tick (omega arith) early) order refl (subst P (sym same) all)

pub saleae_is_read : SaleaeIsRead
saleae_is_read which channels rate wires row rows few labels all lawful =
    let names : List (List ℕ) = names_at channels wires in
    let ticks : List Event = events.Ticks NANOSECONDS ∷ [] in
    line_says table_line_says table_ends (begun_table forms.Saleae names rate) (rowing names wires rate None)
    (cells_line (seconds_label which ∷ channels)) (timed_lines signed_text (row ∷ rows)) ticks
    (header-line which channels wires rate few labels all)
    ∙ ap (then_later ticks)
    (timed_rows (rowing names wires rate) signed_text wires (length channels) 1 (time-line names wires rate (length channels) all)
    (λ tick. refl) row rows lawful)
