-- What is said of a digit, as values.
use Rattle.std.specs.Prelude.{ℕ, ◌%◌, Bool, true, false, Option, Some, None}
use Rattle.xb_model.specs.declared.signal.TheConstants.{MOST_PULSES}
use Rattle.xb_model.specs.declared.row.Contact.TheVariants.{Make, Brk}
use Rattle.xb_heard.specs.declared.fault.Spoiler.{Spoiler}
use Rattle.xb_heard.specs.declared.row.DigitRow.{DigitRow}
use Rattle.xb_heard.specs.declared.row.Remark.{Remark}
use Rattle.xb_heard.specs.declared.row.Remark.TheVariants.{Good, Spoiled, Ignored}
use Rattle.xb_heard.specs.Figures.{extent_from, percent_of, speed_of, times_of}
use Rattle.xb_heard.specs.Digits.{DigitOfRuns}

-- the digit of so many pulses; none where it is spoiled
abbrev pub name_of : ℕ → Option Spoiler → Option ℕ
name_of pulses None = Some (pulses % MOST_PULSES)
name_of pulses (Some spoiler) = None

-- what is said of a digit that the register took, or did not: what spoils it is told of both
abbrev pub remark_of : Bool → Option Spoiler → Remark
remark_of false spoiler = Ignored spoiler
remark_of true None = Good
remark_of true (Some spoiler) = Spoiled spoiler

-- the row of a digit that the register took, or did not
abbrev pub row_of : Bool → DigitOfRuns → DigitRow
row_of taken digit = record {
  name = name_of (times_of digit.pulses).breaks digit.spoiler;
  pulses = (times_of digit.pulses).breaks;
  speed = speed_of digit.pulses;
  share = percent_of digit.pulses;
  breaks = extent_from Brk None digit.pulses;
  makes = extent_from Make None digit.pulses;
  pause = digit.pause.ms;
  remark = remark_of taken digit.spoiler;
}
