-- Tables of sigrok with a column of times that are written are read back.
use Rattle.std.proofs.Common.{◌≡◌, ℕ, zero, suc, ◌+◌, ◌%◌, ◌^◌, ◌<◌, ◌≤◌, List, [], ◌∷◌, ◌++◌, Bool, true, false, cond, Option, Some, None, length, map, refl, ap, sym, subst, ◌∙◌, arith, ne_eqb, not, codes, append-nil}
use Rattle.std.proofs.lemmas.Bool.Decides.{nat_tests}
use Rattle.std.proofs.lemmas.Fmt.{decimal_nonempty}
use Rattle.std.specs.Prelude.{Ok, decimal, nat_eq, nat_lt, ◌==◌, ◌&&◌, ◌||◌}
use Rattle.std.specs.List.{list_all, starts_with}
use Rattle.xb_contact.specs.declared.event.Event.{Event}
use Rattle.xb_contact.specs.declared.event.Event.TheVariants as events
use Rattle.xb_contact.specs.Numbers.{is_digit}
use Rattle.xb_contact.specs.Steps.{is_before, then_later}
use Rattle.xb_contact.proofs.StepLemmas.{line_says}
use Rattle.xb_contact.proofs.Written.{digits_are, number_is_read}
use Rattle.xb_csv.specs.declared.row_times.Clock.TheVariants as clocks
use Rattle.xb_csv.specs.declared.columns.TableForm.TheVariants as forms
use Rattle.xb_csv.specs.Tables.{TableState, begins_rows, comment_says, cut_by, cut_times, is_comment, row_says, scale_of_units, sigrok_by_units, table_ends, table_line_says, times_begin, units_of_label}
use Rattle.xb_csv.specs.Written.{TableRow, level_text, levels_said}
use Rattle.xb_csv.specs.WrittenTables.{AreAmong, IsLabel, SigrokTimesAreRead, cells_line, hertz, levels_at, logic_labels, names_at, time_label, time_scale, timed_lines}
use Rattle.xb_csv.proofs.WrittenSeconds.{no_start}
use Rattle.xb_csv.proofs.WrittenEdges.{decimal_name}
use Rattle.xb_csv.proofs.WrittenCells.{among, joined_cells, joined_taken, levels_labels, row_read, timed_rows, word_label}
use Rattle.xb_csv.proofs.WrittenSigrok.{headed, header_read, heading_read, logic_all, rate_some}

-- among rows with times
abbrev timing : List (List ℕ) → List ℕ → ℕ → Option ℕ → TableState
timing names wires rate last = among forms.Sigrok names wires 0 clocks.Ticks (Some rate) last

pub unit_label : (unit : ℕ) → unit < 5 → IsLabel (time_label unit)
unit_label zero few = record { some = omega arith; begins = refl; ends = refl; one = refl }
unit_label (suc zero) few = record { some = omega arith; begins = refl; ends = refl; one = refl }
unit_label (suc (suc zero)) few = record { some = omega arith; begins = refl; ends = refl; one = refl }
unit_label (suc (suc (suc zero))) few = record { some = omega arith; begins = refl; ends = refl; one = refl }
unit_label (suc (suc (suc (suc zero)))) few = record { some = omega arith; begins = refl; ends = refl; one = refl }
unit_label (suc (suc (suc (suc (suc unit))))) few = absurd (omega arith)

-- what a comment begins with is neither `s`, `m`, `n` nor `p`
pub unit_plain : (unit : ℕ) (cells : List (List ℕ)) → unit < 5 → is_comment (cells_line (time_label unit ∷ cells)) ≡ false
unit_plain zero [] few = refl
unit_plain zero (cell ∷ cells) few = refl
unit_plain (suc zero) [] few = refl
unit_plain (suc zero) (cell ∷ cells) few = refl
unit_plain (suc (suc zero)) [] few = refl
unit_plain (suc (suc zero)) (cell ∷ cells) few = refl
unit_plain (suc (suc (suc zero))) [] few = refl
unit_plain (suc (suc (suc zero))) (cell ∷ cells) few = refl
unit_plain (suc (suc (suc (suc zero)))) [] few = refl
unit_plain (suc (suc (suc (suc zero)))) (cell ∷ cells) few = refl
unit_plain (suc (suc (suc (suc (suc unit))))) cells few = absurd (omega arith)

pub units_read : (unit : ℕ) → unit < 5 → units_of_label (time_label unit) ≡ Some (1000 ^ unit)
units_read zero few = refl
units_read (suc zero) few = refl
units_read (suc (suc zero)) few = refl
units_read (suc (suc (suc zero))) few = refl
units_read (suc (suc (suc (suc zero)))) few = refl
units_read (suc (suc (suc (suc (suc unit))))) few = absurd (omega arith)

pub scale_read : (unit : ℕ) → unit < 5 → scale_of_units (1000 ^ unit) ≡ time_scale unit
scale_read zero few = refl
scale_read (suc zero) few = refl
scale_read (suc (suc zero)) few = refl
scale_read (suc (suc (suc zero))) few = refl
scale_read (suc (suc (suc (suc zero)))) few = refl
scale_read (suc (suc (suc (suc (suc unit))))) few = absurd (omega arith)

-- whether something of a sample is cut off
pub cut_read :
    (units rate : ℕ) (is : Bool) → 0 < rate → (nat_lt rate units && not (units % rate == 0)) ≡ is
    → cut_times units (Some rate) ≡ cond is (Some (cut_by units rate)) None
cut_read units rate is runs e =
    let positive : nat_lt 0 rate ≡ true = grind (arith, nat_tests) in
    ap (λ t. cond (t && (nat_lt rate units && not (units % rate == 0))) (Some (cut_by units rate)) None) positive
    ∙ ap (λ t. cond t (Some (cut_by units rate)) None) e

-- the header of times
pub times_header :
    (channels own : List (List ℕ)) (wires : List ℕ) (rate unit : ℕ) (is : Bool) → unit < 5 → 0 < rate
    → (nat_lt rate (1000 ^ unit) && not (1000 ^ unit % rate == 0)) ≡ is
    → table_line_says (headed (names_at channels wires) wires rate) (cells_line (time_label unit ∷ logic_labels own))
    ≡ times_begin (headed (names_at channels wires) wires rate) (1000 ^ unit) (cond is (Some (cut_by (1000 ^ unit) rate)) None)
times_header channels own wires rate unit is few runs cut =
    let state : TableState = headed (names_at channels wires) wires rate in
    let label : List ℕ = time_label unit in
    joined_taken state label (logic_labels own) (unit_label unit few, logic_all own)
    ∙ header_read channels wires rate (cells_line (label ∷ logic_labels own)) label (logic_labels own)
    (unit_plain unit (logic_labels own) few) (joined_cells label (logic_labels own) (unit_label unit few, logic_all own))
    ∙ ap (sigrok_by_units state (cells_line (label ∷ logic_labels own)) label) (units_read unit few)
    ∙ ap (times_begin state (1000 ^ unit)) (cut_read (1000 ^ unit) rate is runs cut)

-- no number begins a comment
digits-plain :
    (digits rest : List ℕ) → 0 < length digits → list_all is_digit digits ≡ true → is_comment (digits ++ rest) ≡ false
digits-plain digits rest some all =
    ap (λ t. t || starts_with nat_eq (digits ++ rest) (codes "META ")) (no_start 59 [] digits rest some all refl)
    ∙ no_start 77 (codes "ETA ") digits rest some all refl

pub number_plain : (number : ℕ) (cells : List (List ℕ)) → number < 2 ^ 64 → is_comment (cells_line (decimal number ∷ cells)) ≡ false
number_plain number [] small =
    ap is_comment (sym (append-nil (decimal number)))
    ∙ digits-plain (decimal number) [] (decimal_nonempty number small) (digits_are is_digit (λ digit low. grind (arith, nat_tests)) number small)
number_plain number (cell ∷ cells) small =
    digits-plain (decimal number) (44 ∷ cells_line (cell ∷ cells)) (decimal_nonempty number small)
    (digits_are is_digit (λ digit low. grind (arith, nat_tests)) number small)

pub number_label : (number : ℕ) → number < 2 ^ 64 → IsLabel (decimal number)
number_label number small =
    word_label (decimal number) (decimal_name number small)
    (digits_are (λ b. not (b == 44)) (λ digit low. ap not (ne_eqb (48 + digit) 44 (λ e. absurd (omega arith)))) number small)

-- a row with its time
time-line :
    (names : List (List ℕ)) (wires : List ℕ) (rate count : ℕ) → AreAmong wires count
    → (last : Option ℕ) (row : TableRow) → 0 ≤ row.tick → row.tick < 2 ^ 63 → length row.levels ≡ count
    → is_before row.tick last ≡ false
    → table_line_says (timing names wires rate last) (cells_line (decimal row.tick ∷ map level_text row.levels))
    ≡ Ok (events.At row.tick ∷ levels_said 0 (levels_at row.levels wires), timing names wires rate (Some row.tick))
time-line names wires rate count all last row late early same order =
    let state : TableState = timing names wires rate last in
    let time : List ℕ = decimal row.tick in
    let line : List ℕ = cells_line (time ∷ map level_text row.levels) in
    let small : row.tick < 2 ^ 64 = omega arith in
    let P : ℕ → Type 0 = λ n. AreAmong wires n in
    joined_taken state time (map level_text row.levels) (number_label row.tick small, levels_labels row.levels)
    ∙ ap (λ t. cond t (comment_says state line) (row_says state line)) (number_plain row.tick (map level_text row.levels) small)
    ∙ row_read forms.Sigrok names wires 0 clocks.Ticks (Some rate) last (time ∷ []) row.levels line time row.tick
    (joined_cells time (map level_text row.levels) (number_label row.tick small, levels_labels row.levels)) refl
    (number_is_read row.tick small) order refl (subst P (sym same) all)

pub sigrok_times_are_read : SigrokTimesAreRead
sigrok_times_are_read heading unit wires row rows is few whole all lawful =
    let channels : List (List ℕ) = heading.channels in
    let names : List (List ℕ) = names_at channels wires in
    let rate : ℕ = hertz heading in
    let runs : 0 < rate = omega (arith, rate_some heading.number heading.unit is.unit, is.rate) in
    let header : List ℕ = cells_line (time_label unit ∷ logic_labels channels) in
    let ticks : List Event = events.Ticks (time_scale unit) ∷ [] in
    heading_read heading wires (header ∷ timed_lines decimal (row ∷ rows)) is all
    ∙ line_says table_line_says table_ends (headed names wires rate) (timing names wires rate None) header
    (timed_lines decimal (row ∷ rows)) ticks
    (times_header channels channels wires rate unit false few runs whole
    ∙ ap (begins_rows (headed names wires rate) clocks.Ticks) (scale_read unit few))
    ∙ ap (then_later ticks)
    (timed_rows (timing names wires rate) decimal wires (length channels) 0 (time-line names wires rate (length channels) all)
    (λ tick. refl) row rows lawful)
