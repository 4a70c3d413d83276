-- How a dial is judged: by the tenths that are printed of a digit, and the windows that the first line states.
use Rattle.std.specs.Prelude.{ℕ, List, Bool, Option, Some, None, codes, nat_le, nat_lt, ◌&&◌, if◌then◌else◌}
use Rattle.xb_turns.specs.declared.windows.Window.{Window}
use Rattle.xb_turns.specs.declared.windows.Windows.{Windows}
use Rattle.xb_turns.specs.declared.verdict.TheConstants.{JUDGED_PULSES}
use Rattle.xb_turns.specs.declared.verdict.Verdict.{Verdict}
use Rattle.xb_turns.specs.declared.verdict.Verdict.TheVariants.{Good, Pass, Fast, Slow, High, Low}

abbrev pub is_within : Window → ℕ → Bool
is_within window tenths = nat_le window.least tenths && nat_le tenths window.most

-- the speed is judged first, and then the share of break
abbrev pub verdict_by : Windows → ℕ → ℕ → Verdict
verdict_by windows speed share =
    if nat_lt windows.accept.most speed then Fast
    else (if nat_lt speed windows.accept.least then Slow
    else (if nat_lt windows.share.most share then High
    else (if nat_lt share windows.share.least then Low
    else (if is_within windows.adjust speed then Good else Pass))))

-- of five pulses or more, and where there are both figures
abbrev pub verdict_of : Windows → ℕ → Option ℕ → Option ℕ → Option Verdict
verdict_of windows pulses None share = None
verdict_of windows pulses (Some speed) None = None
verdict_of windows pulses (Some speed) (Some share) =
    if nat_le JUDGED_PULSES pulses then Some (verdict_by windows speed share) else None

abbrev pub word_of : Option Verdict → List ℕ
word_of None = codes "-"
word_of (Some Good) = codes "GOOD"
word_of (Some Pass) = codes "PASS"
word_of (Some Fast) = codes "FAST"
word_of (Some Slow) = codes "SLOW"
word_of (Some High) = codes "HIGH"
word_of (Some Low) = codes "LOW"
