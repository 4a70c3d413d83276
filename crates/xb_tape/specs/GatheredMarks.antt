-- The marks of each line, gathered from those of all lines.
use Rattle.std.specs.Prelude.{◌≡◌, ℕ, ◌<◌, List, map, length}
use Rattle.xb_model.specs.declared.line.TheConstants.{LINES}
use Rattle.xb_model.specs.declared.mark.Mark.{Mark}
use Rattle.xb_model.specs.declared.on.On.{On}
use Rattle.xb_model.specs.Lines.{on_line_of, of_line}
use Rattle.xb_model.specs.Tapes.{marks_at}

-- the marks alone
abbrev pub whats_of : List (On Mark) → List Mark
whats_of marks = map (λ (mark : On Mark). mark.what) marks

-- each line has its own marks, in order
pub record AreTapes (tapes : List (List Mark)) (marks : List (On Mark)) : Type 0 where
  pub lines : length tapes ≡ LINES
  pub each : (l : ℕ) → l < LINES → marks_at tapes l ≡ whats_of (of_line on_line_of l marks)
