-- What is dialled, as makes and breaks (rotary dial).
use Rattle.std.specs.Prelude.{ℕ, zero, suc, max, List, [], ◌∷◌, ◌++◌, map, length, take, drop, if◌then◌else◌, ◌==◌}
use Rattle.std.specs.List.{flat_map}
use Rattle.xb_model.specs.declared.line.TheConstants.{LINES}
use Rattle.xb_model.specs.declared.signal.TheConstants.{MOST_PULSES}
use Rattle.xb_model.specs.Rows.{LoopRow, row_of}
use Rattle.xb_model.specs.Records.{Run, make, break}
use Rattle.xb_model.specs.Lines.{of_line, lines_below}
use Rattle.xb_calls.specs.declared.speed.Speed.{Speed}
use Rattle.xb_calls.specs.Calls.{DialledCall}
use Rattle.xb_calls.specs.declared.order.RowOrder.{RowOrder}
use Rattle.xb_calls.specs.declared.order.RowOrder.TheVariants.{ByLine, InTurn}

-- a digit has as many pulses as its value, and 0 has ten
abbrev pub pulse_count : ℕ → ℕ
pulse_count digit = if digit == 0 then MOST_PULSES else digit

-- n breaks, with a make between two of them, and the pause after the last
unfoldable pub pulses : Speed → ℕ → List Run
pulses speed zero = []
pulses speed (suc zero) = break speed.break_ms ∷ make speed.pause_ms ∷ []
pulses speed (suc (suc n)) = break speed.break_ms ∷ make speed.make_ms ∷ pulses speed (suc n)

-- the pulses of a digit
abbrev pub digit_runs : Speed → ℕ → List Run
digit_runs speed digit = pulses speed (pulse_count digit)

-- a call: the make that seizes, and the digits
abbrev pub call_runs : Speed → List ℕ → List Run
call_runs speed number = make speed.seize_ms ∷ flat_map (digit_runs speed) number

-- the calls of one line, with a break that hangs up between two of them
abbrev pub line_runs : Speed → List (List ℕ) → List Run
line_runs speed [] = []
line_runs speed (number ∷ []) = call_runs speed number
line_runs speed (number ∷ next ∷ more) =
    call_runs speed number ++ break speed.hang_up_ms ∷ line_runs speed (next ∷ more)

abbrev pub call_line : DialledCall → ℕ
call_line call = call.line

-- the numbers that line l dials, in order
abbrev pub numbers_on : ℕ → List DialledCall → List (List ℕ)
numbers_on l calls = map (λ call. call.digits) (of_line call_line l calls)

-- runs as rows of line l
abbrev pub on_line : ℕ → List Run → List LoopRow
on_line l runs = map (λ run. row_of l run.contact run.ms) runs

-- the rows of line l
abbrev pub line_rows : Speed → List DialledCall → ℕ → List LoopRow
line_rows speed calls l = on_line l (line_runs speed (numbers_on l calls))

-- the rows of each line, from line 0 on
abbrev pub rows_by_line : Speed → List DialledCall → List (List LoopRow)
rows_by_line speed calls = map (line_rows speed calls) (lines_below LINES)

-- lists, one after the other
abbrev pub joined_lists : {A : Type 0} → List (List A) → List A
joined_lists lists = flat_map (λ xs. xs) lists

-- the length of the longest list
abbrev pub longest : {A : Type 0} → List (List A) → ℕ
longest [] = 0
longest (xs ∷ lists) = max (length xs) (longest lists)

-- n rounds, in each of which every list that is not at its end gives its next item
unfoldable pub rounds : {A : Type 0} → ℕ → List (List A) → List A
rounds zero lists = []
rounds (suc n) lists = flat_map (take 1) lists ++ rounds n (map (drop 1) lists)

-- lists, one item of each in turn
abbrev pub in_turn : {A : Type 0} → List (List A) → List A
in_turn lists = rounds (longest lists) lists

-- lists in an order
abbrev pub in_order : {A : Type 0} → RowOrder → List (List A) → List A
in_order ByLine lists = joined_lists lists
in_order InTurn lists = in_turn lists

-- the rows of calls: those of one line after those of another, or one row of each in turn
abbrev pub dialled : RowOrder → Speed → List DialledCall → List LoopRow
dialled order speed calls = in_order order (rows_by_line speed calls)
