-- The digits of a line, drawn: a plot, and on a page their text lines below it.
use Rattle.std.specs.Prelude.{ℕ, List, ◌++◌, true}
use Rattle.std.specs.List.{flat_map}
use Rattle.xb_contact.specs.declared.scale.Scale.{Scale}
use Rattle.xb_plot.specs.declared.turns.Turn.{Turn}
use Rattle.xb_plot.specs.Pages.{part_text}
use Rattle.xb_plot.specs.Plots.{plot_text}
use Rattle.xb_plot.specs.Turns.{LastTurns}
use Rattle.xb_turns.specs.declared.sums.Sums.{Sums}
use Rattle.xb_bench.specs.declared.setting.Form.{Form}
use Rattle.xb_bench.specs.declared.setting.Form.TheVariants.{Page}
use Rattle.xb_bench.specs.declared.setting.Setting.{Setting}
use Rattle.xb_bench.specs.SummaryTexts.{sums_text}
use Rattle.xb_bench.specs.Texts.{digit_text}
use Rattle.xb_bench.specs.Windows.{columns_text}

-- the last digits of a line, how many older ones there were, and what all of them come to
pub record Drawing : Type 0 where
  pub setting : Setting
  pub line : ℕ
  pub scale : Scale
  pub sums : Sums
  pub last : LastTurns

abbrev pub drawing_of : Setting → ℕ → Scale → Sums → LastTurns → Drawing
drawing_of setting line scale sums last =
    record { setting = setting; line = line; scale = scale; sums = sums; last = last }

-- a digit as the line of it that is told, and those of all after the names of the columns
abbrev pub turn_text : Setting → ℕ → Scale → Turn → List ℕ
turn_text setting line scale turn = digit_text setting line scale true turn.train turn.bounce

abbrev pub lines_text : Setting → ℕ → Scale → List Turn → List ℕ
lines_text setting line scale turns = columns_text ++ flat_map (turn_text setting line scale) turns

abbrev pub plot_of : Drawing → List ℕ
plot_of drawing =
    plot_text drawing.setting.windows drawing.scale drawing.line (sums_text drawing.scale drawing.sums)
    drawing.last.older drawing.last.turns

-- a part of a page, or the plot alone
abbrev pub drawing_by : Form → Drawing → List ℕ
drawing_by Page drawing =
    part_text (plot_of drawing) (lines_text drawing.setting drawing.line drawing.scale drawing.last.turns)
drawing_by form drawing = plot_of drawing

abbrev pub drawing_text : Drawing → List ℕ
drawing_text drawing = drawing_by drawing.setting.form drawing
