-- A row tells the register two things at most.
use Rattle.std.proofs.Common.{ℕ, ◌≤◌, ◌==◌, nat_le, List, length, arith}
use Rattle.std.proofs.lemmas.Bool.{cond_both}
use Rattle.xb_model.specs.declared.limits.Limits.{Limits}
use Rattle.xb_model.specs.declared.row.Contact.{Contact}
use Rattle.xb_model.specs.declared.row.Contact.TheVariants as contacts
use Rattle.xb_model.specs.declared.signal.Signal.{Signal}
use Rattle.xb_model.specs.declared.signal.Signal.TheVariants.{Seize, Digit, TimeOut, Release}
use Rattle.xb_model.specs.Rows.{LoopRow}
use Rattle.xb_pulse.specs.declared.state.Phase.{Phase}
use Rattle.xb_pulse.specs.declared.state.Phase.TheVariants.{OnHook, BetweenTrains, InBreak, InMake, TimedOut, Closed}
use Rattle.xb_pulse.specs.declared.state.Tally.{Tally}
use Rattle.xb_pulse.specs.Machine.{enter, with_first, longer, with_break, judge_timeout, judge_pause, take_make, lengthen_break, release_at, judge_release, take_close, take_row, signals_by}

abbrev AreFew : ℕ → List Signal → Type 0
AreFew most signals = length signals ≤ most

module _ (limits : Limits) where
  timeout_first : (signal : Signal) (total : ℕ) → AreFew 2 (with_first signal (judge_timeout limits total)).sent.items
  timeout_first signal total =
      cond_both (nat_le limits.timeout total) (with_first TimeOut (enter (TimedOut 0))) (enter (BetweenTrains total))
      (λ step. AreFew 2 (with_first signal step).sent.items) (λ _. omega arith) (λ _. omega arith)

  timeout_alone : (total : ℕ) → AreFew 2 (judge_timeout limits total).sent.items
  timeout_alone total =
      cond_both (nat_le limits.timeout total) (with_first TimeOut (enter (TimedOut 0))) (enter (BetweenTrains total))
      (λ step. AreFew 2 step.sent.items) (λ _. omega arith) (λ _. omega arith)

  pause_tells : (total : ℕ) (tally : Tally) → AreFew 2 (judge_pause limits total tally).sent.items
  pause_tells total tally =
      cond_both (nat_le limits.pause total) (with_first (Digit tally.breaks tally.bad) (judge_timeout limits total)) (enter (InMake total tally))
      (λ step. AreFew 2 step.sent.items) (λ _. timeout_first (Digit tally.breaks tally.bad) total) (λ _. omega arith)

  make_tells : (phase : Phase) (ms : ℕ) → AreFew 2 (take_make limits phase ms).sent.items
  make_tells OnHook ms = timeout_first Seize (longer 0 ms)
  make_tells (BetweenTrains total) ms = timeout_alone (longer total ms)
  make_tells (InBreak total tally) ms = pause_tells (longer 0 ms) (with_break limits total tally)
  make_tells (InMake total tally) ms = pause_tells (longer total ms) tally
  make_tells (TimedOut total) ms = omega arith
  make_tells Closed ms = omega arith

  release_tells : (total : ℕ) (phase : Phase) → AreFew 2 (release_at limits total phase).sent.items
  release_tells total phase =
      cond_both (nat_le limits.release total) (with_first Release (enter OnHook)) (enter phase)
      (λ step. AreFew 2 step.sent.items) (λ _. omega arith) (λ _. omega arith)

  break_tells : (phase : Phase) → AreFew 2 (judge_release limits phase).sent.items
  break_tells OnHook = omega arith
  break_tells (BetweenTrains total) = omega arith
  break_tells (InBreak total tally) = release_tells total (InBreak total tally)
  break_tells (InMake total tally) = omega arith
  break_tells (TimedOut total) = release_tells total (TimedOut total)
  break_tells Closed = omega arith

  close_tells : (phase : Phase) → AreFew 2 (take_close phase).sent.items
  close_tells OnHook = omega arith
  close_tells (BetweenTrains total) = omega arith
  close_tells (InBreak total tally) = omega arith
  close_tells (InMake total tally) = omega arith
  close_tells (TimedOut total) = omega arith
  close_tells Closed = omega arith

  row_tells : (phase : Phase) (contact : Contact) (ms : ℕ) → AreFew 2 (take_row limits phase contact ms).sent.items
  row_tells phase contacts.Make ms =
      cond_both (ms == 0) (enter phase) (take_make limits phase ms) (λ step. AreFew 2 step.sent.items)
      (λ _. omega arith) (λ _. make_tells phase ms)
  row_tells phase contacts.Brk ms =
      cond_both (ms == 0) (enter phase) (judge_release limits (lengthen_break limits phase ms)) (λ step. AreFew 2 step.sent.items)
      (λ _. omega arith) (λ _. break_tells (lengthen_break limits phase ms))
  row_tells phase contacts.Close ms = close_tells phase

-- whatever is known of the line
pub few_signals : (limits : Limits) (phase : Phase) (row : LoopRow) → length (signals_by limits phase row) ≤ 2
few_signals limits phase row = row_tells limits phase row.contact row.ms
