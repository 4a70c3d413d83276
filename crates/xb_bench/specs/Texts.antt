-- The lines of digits and of attempts that end. Each figure stands in a cell of its width.
use Rattle.std.specs.Prelude.{ℕ, ◌==◌, List, [], ◌++◌, Bool, true, false, Option, Some, None, codes, decimal, if◌then◌else◌}
use Rattle.xb_model.specs.declared.limits.Limits.{Limits}
use Rattle.xb_model.specs.Page.{four_digits}
use Rattle.xb_plot.specs.Names.{name_by}
use Rattle.xb_contact.specs.declared.scale.Scale.{Scale}
use Rattle.xb_report.specs.Cells.{at_right, gap, tenths_or_dash, tenths_text}
use Rattle.xb_report.specs.Words.{fault_text}
use Rattle.xb_turns.specs.declared.dial.Said.{Said}
use Rattle.xb_turns.specs.declared.dial.Said.TheVariants.{Digit, HungUp}
use Rattle.xb_turns.specs.declared.figures.Drift.{Drift}
use Rattle.xb_bench.specs.declared.setting.Setting.{Setting}
use Rattle.xb_turns.specs.declared.train.Spread.{Spread}
use Rattle.xb_turns.specs.declared.train.Train.{Train}
use Rattle.xb_turns.specs.declared.train.Wrong.{Wrong}
use Rattle.xb_turns.specs.Figures.{drift_of, share_of, speed_of, tenths_of_ms}
use Rattle.xb_turns.specs.Verdicts.{verdict_of, word_of}

-- the digit that a pause ended, or x where it is spoiled; a dash for pulses that none ended
abbrev pub name_text : Bool → Train → List ℕ
name_text false train = codes "-"
name_text true train = name_by train.pulses train.wrong

-- the least and the greatest of some times in ms; one figure where both are the same, and a dash where there is none
abbrev pub extent_of : Option ℕ → Option ℕ → List ℕ
extent_of None most = codes "-"
extent_of (Some least) None = tenths_text least
extent_of (Some least) (Some most) =
    if least == most then tenths_text least else tenths_text least ++ codes "-" ++ tenths_text most

abbrev pub spread_text : Scale → Option Spread → List ℕ
spread_text scale None = codes "-"
spread_text scale (Some spread) = extent_of (tenths_of_ms scale spread.least) (tenths_of_ms scale spread.most)

-- how the periods change, in percent, with its sign
abbrev pub sign_by : Bool → List ℕ
sign_by true = codes "-"
sign_by false = codes "+"

abbrev pub sign_of : Bool → ℕ → List ℕ
sign_of below tenths = if tenths == 0 then [] else sign_by below

abbrev pub signed_text : Bool → Option ℕ → List ℕ
signed_text below None = codes "-"
signed_text below (Some tenths) = sign_of below tenths ++ tenths_text tenths

abbrev pub drift_text : Drift → List ℕ
drift_text drift = signed_text drift.is_below drift.tenths

-- how many pulses, their speed and their share of break
abbrev pub figures_text : Scale → Train → List ℕ
figures_text scale train =
    gap ++ at_right 6 (decimal train.pulses) ++ gap ++ at_right 5 (tenths_or_dash (speed_of scale train))
    ++ gap ++ at_right 7 (tenths_or_dash (share_of train))

-- their breaks and their makes, how the periods change, and the longest bounce
abbrev pub times_text : Scale → Train → ℕ → List ℕ
times_text scale train bounce =
    gap ++ at_right 11 (spread_text scale (Some train.breaks)) ++ gap ++ at_right 11 (spread_text scale train.makes)
    ++ gap ++ at_right 7 (drift_text (drift_of train)) ++ gap ++ at_right 9 (tenths_or_dash (tenths_of_ms scale bounce))

-- what is wrong, in the words of the report
abbrev pub wrong_text : Limits → Option Wrong → List ℕ
wrong_text limits None = []
wrong_text limits (Some wrong) = gap ++ fault_text limits wrong.fault wrong.ms

abbrev pub verdict_text : Setting → Scale → Train → List ℕ
verdict_text setting scale train =
    word_of (verdict_of setting.windows train.pulses (speed_of scale train) (share_of train))

-- the line of a digit
abbrev pub digit_text : Setting → ℕ → Scale → Bool → Train → ℕ → List ℕ
digit_text setting line scale ended train bounce =
    four_digits line ++ gap ++ at_right 5 (name_text ended train) ++ figures_text scale train
    ++ times_text scale train bounce ++ gap ++ at_right 7 (verdict_text setting scale train)
    ++ wrong_text setting.limits train.wrong ++ codes "\n"

-- that of pulses that no pause ended, if there are any
abbrev pub unended_text : Setting → ℕ → Scale → Option (Train × ℕ) → List ℕ
unended_text setting line scale None = []
unended_text setting line scale (Some pulses) = digit_text setting line scale false pulses.0 pulses.1

-- that of an attempt that ended
abbrev pub ended_text : Setting → ℕ → Scale → Option (Train × ℕ) → List ℕ → List ℕ
ended_text setting line scale pulses why =
    unended_text setting line scale pulses ++ four_digits line ++ gap ++ why ++ codes "\n"

-- what is told of a line
abbrev pub said_text : Setting → ℕ → Scale → Said → List ℕ
said_text setting line scale (Digit train bounce) = digit_text setting line scale true train bounce
said_text setting line scale (HungUp pulses) = ended_text setting line scale pulses (codes "hung up")
