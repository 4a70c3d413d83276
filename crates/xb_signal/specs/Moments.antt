-- Moments of a signal: the state of the noise, and how many samples of its second are over.
use Rattle.std.specs.Prelude.{ℕ, ◌+◌, ◌%◌}
use Rattle.xb_signal.specs.declared.moment.Moment.{Moment}
use Rattle.xb_chance.specs.Words.{state_after}

abbrev pub start : ℕ → Moment
start seed = record { noise = seed; place = 0 }

-- after so many samples more; 8,000 are a second
abbrev pub moment_after : Moment → ℕ → Moment
moment_after moment samples = record {
  noise = state_after moment.noise samples;
  place = (moment.place + samples) % 8000;
}
