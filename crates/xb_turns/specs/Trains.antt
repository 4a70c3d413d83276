-- The pulses of a digit, run by run. The laws say what this comes to over all of them.
use Rattle.std.specs.Prelude.{ℕ, ◌+◌, ◌-◌, ◌^◌, ◌==◌, min, max, Option, Some, None, if◌then◌else◌}
use Rattle.xb_model.specs.declared.limits.Limits.{Limits}
use Rattle.xb_model.specs.declared.row.Contact.TheVariants.{Make, Brk}
use Rattle.xb_heard.specs.declared.fault.PulseFault.{PulseFault}
use Rattle.xb_heard.specs.Faults.{fault_at}
use Rattle.xb_turns.specs.declared.train.Spread.{Spread}
use Rattle.xb_turns.specs.declared.train.Timed.{Timed}
use Rattle.xb_turns.specs.declared.train.Train.{Train}
use Rattle.xb_turns.specs.declared.train.Wrong.{Wrong}

-- sums stop at 2^64 - 1
abbrev pub plus : ℕ → ℕ → ℕ
plus a b = min (a + b) (2 ^ 64 - 1)

abbrev pub one_more : ℕ → ℕ
one_more n = plus n 1

abbrev pub spread_of : ℕ → ℕ → Spread
spread_of least most = record { least = least; most = most }

abbrev pub wider : Spread → ℕ → Spread
wider spread ticks = spread_of (min spread.least ticks) (max spread.most ticks)

abbrev pub or_wider : Option Spread → ℕ → Spread
or_wider None ticks = spread_of ticks ticks
or_wider (Some spread) ticks = wider spread ticks

-- the fault that came first
abbrev pub or_fault : Option Wrong → Option PulseFault → ℕ → Option Wrong
or_fault (Some wrong) fault ms = Some wrong
or_fault None (Some fault) ms = Some (record { fault = fault; ms = ms })
or_fault None None ms = None

-- a first break
abbrev pub train_begun : Limits → Timed → Train
train_begun limits run = record {
  pulses = 1;
  first = run.from;
  last = run.from;
  broken = 0;
  breaks = spread_of run.ticks run.ticks;
  latest = run.ticks;
  makes = None;
  resting = 0;
  first_period = 0;
  last_period = 0;
  bounce = run.bounce;
  wrong = or_fault None (fault_at limits 1 Brk run.ms) run.ms;
}

-- a break more
abbrev pub with_break : Limits → Train → Timed → Train
with_break limits train run = record {
  pulses = one_more train.pulses;
  first = train.first;
  last = run.from;
  broken = plus train.broken train.latest;
  breaks = wider train.breaks run.ticks;
  latest = run.ticks;
  makes = Some (or_wider train.makes train.resting);
  resting = 0;
  first_period = if train.pulses == 1 then run.from - train.last else train.first_period;
  last_period = run.from - train.last;
  bounce = max train.bounce run.bounce;
  wrong = or_fault train.wrong (fault_at limits (one_more train.pulses) Brk run.ms) run.ms;
}

-- a make more
abbrev pub with_make : Limits → Train → Timed → Train
with_make limits train run = record train {
  resting = run.ticks;
  bounce = max train.bounce run.bounce;
  wrong = or_fault train.wrong (fault_at limits train.pulses Make run.ms) run.ms;
}
