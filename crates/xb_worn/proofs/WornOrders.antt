-- In both orders the rows of each line are those of its calls, and they are heard.
use Rattle.std.proofs.Common.{◌≡◌, ℕ, ◌+◌, ◌<◌, ◌≤◌, Bool, true, false, List, [], ◌∷◌, None, refl, sym, ap, ◌∙◌, arith, take_all, ltb, ltb-true, ltb-false, ne_eqb}
use Rattle.std.specs.Prelude.{◌&&◌, nat_le}
use Rattle.std.specs.List.{AllByRecursion, list_all}
use Rattle.std.proofs.lemmas.Bool.{le-leb, leb-true}
use Rattle.xb_model.specs.declared.line.TheConstants.{LINES}
use Rattle.xb_model.specs.declared.row.TheConstants.{GREATEST_MS}
use Rattle.xb_model.specs.Records.{rows_of}
use Rattle.xb_model.specs.Rows.{LoopRow}
use Rattle.xb_calls.specs.declared.order.RowOrder.{RowOrder}
use Rattle.xb_calls.specs.declared.order.RowOrder.TheVariants.{ByLine, InTurn}
use Rattle.xb_calls.specs.declared.speed.Speed.{Speed}
use Rattle.xb_calls.specs.Speeds.{FitsSome}
use Rattle.xb_calls.specs.Dialling.{in_order, longest, on_line}
use Rattle.xb_calls.proofs.RowsOfLines.{AreOn, length-longest, lists_below, on-line, rounds-above, rounds-below, rows-above, rows-below}
use Rattle.xb_worn.specs.declared.pulse.SentPulse.{SentPulse}
use Rattle.xb_worn.specs.SentCalls.{AreSent, Lasts, PulseLasts, SentCall, calls_on, line_rows, line_runs}
use Rattle.xb_worn.specs.WornRows.{IsHeard, IsOnLine, is_time, misfit_from, pulse_fits, rows_by_line, times_fit}
use Rattle.xb_worn.proofs.HeardLines.{outcomes_are_heard}

-- the rows of a line are its own
own-on : (h : ℕ) (calls : List SentCall) (l : ℕ) → AreOn l (line_rows h calls l)
own-on h calls l = on-line l (line_runs h (calls_on l calls))

-- no call is on a line that the office does not have
no-calls : (calls : List SentCall) (l : ℕ) → AllByRecursion IsOnLine calls → LINES ≤ l → calls_on l calls ≡ []
no-calls [] l low above = refl
no-calls (call ∷ calls) l low above =
    rw (ne_eqb call.line l (λ e. omega (arith, e, above, low.0))) (no-calls calls l low.1 above)

of-all-lines : (h : ℕ) (calls : List SentCall) (rows : List LoopRow) → AllByRecursion IsOnLine calls
    → ((l : ℕ) → l < LINES → rows_of l rows ≡ line_rows h calls l)
    → ((l : ℕ) → LINES ≤ l → rows_of l rows ≡ [])
    → AreSent h calls rows
of-all-lines h calls rows low below above l = at (ltb l LINES) refl
  where
    at : (under : Bool) → ltb l LINES ≡ under → rows_of l rows ≡ line_rows h calls l
    at true e = below l (ltb-true l LINES e)
    at false e =
        let high : LINES ≤ l = ltb-false l LINES e in
        above l high ∙ sym (ap (λ own. on_line l (line_runs h own)) (no-calls calls l low high))

-- both orders
pub orders-sent : (order : RowOrder) (h : ℕ) (calls : List SentCall) → AllByRecursion IsOnLine calls
    → AreSent h calls (in_order order (rows_by_line h calls))
orders-sent ByLine h calls low =
    of-all-lines h calls (in_order ByLine (rows_by_line h calls)) low
    (rows-below (line_rows h calls) (own-on h calls) LINES)
    (rows-above (line_rows h calls) (own-on h calls) LINES)
orders-sent InTurn h calls low =
    let most = longest (lists_below (line_rows h calls) LINES) in
    of-all-lines h calls (in_order InTurn (rows_by_line h calls)) low
    (λ l below. rounds-below most (line_rows h calls) (own-on h calls) LINES l below
    ∙ take_all most (line_rows h calls l) (length-longest (line_rows h calls) LINES l below))
    (λ l above. rounds-above most (line_rows h calls) (own-on h calls) LINES l above)

-- both of two tests
both : (a b : Bool) → (a && b) ≡ true → (a ≡ true) × (b ≡ true)
both true true h = (refl, refl)
both true false h = (refl, h)
both false b h = (h, absurd (no h))
  where
    no : false ≡ true → ⊥
    no e = cc

pub time-lasts : (ms : ℕ) → is_time ms ≡ true → 0 < ms
time-lasts ms fits = let some : 1 ≤ ms = leb-true 1 ms (both _ _ fits).0 in omega (arith, some)

pulses-last : (pulses : List SentPulse) → list_all pulse_fits pulses ≡ true → AllByRecursion PulseLasts pulses
pulses-last [] fits = tt
pulses-last (pulse ∷ pulses) fits =
    let parts = both (pulse_fits pulse) (list_all pulse_fits pulses) fits in
    let times = both (is_time pulse.break_ms) (is_time pulse.make_ms) parts.0 in
    ((time-lasts pulse.break_ms times.0, time-lasts pulse.make_ms times.1), pulses-last pulses parts.1)

call-lasts : (call : SentCall) → times_fit call ≡ true → Lasts call
call-lasts call fits =
    let parts = both (is_time call.seize_ms) (list_all pulse_fits call.pulses) fits in
    record {
      seizes = time-lasts call.seize_ms parts.0;
      pulses = pulses-last call.pulses parts.1;
    }

-- where no call has a time that does not fit, no time is 0
pub calls-last : (n : ℕ) (calls : List SentCall) → misfit_from n calls ≡ None → AllByRecursion Lasts calls
calls-last n [] none = tt
calls-last n (call ∷ calls) none = at (calls-last (n + 1) calls) (times_fit call) refl
  where
    at : (misfit_from (n + 1) calls ≡ None → AllByRecursion Lasts calls)
        → (fit : Bool) → times_fit call ≡ fit → AllByRecursion Lasts (call ∷ calls)
    at rest true e = (call-lasts call e, rest (rw e at none))
    at rest false e = absurd (cc (rw e at none))

-- the rows are heard
pub rows-heard : (h : ℕ) (calls : List SentCall) (rows : List LoopRow) → is_time h ≡ true
    → misfit_from 1 calls ≡ None → AreSent h calls rows
    → IsHeard h calls rows
rows-heard h calls rows fits none sent plan limits long =
    outcomes_are_heard plan limits h calls rows (calls-last 1 calls none) (time-lasts h fits) long sent
