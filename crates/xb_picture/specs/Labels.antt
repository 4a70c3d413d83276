-- What the texts of a picture say.
use Rattle.std.specs.Prelude.{ℕ, List, ◌++◌, Bool, true, false, codes, decimal}
use Rattle.xb_model.specs.declared.limits.Limits.{Limits}
use Rattle.xb_report.specs.Cells.{tenths_text}

abbrev pub limits_words : Limits → List ℕ
limits_words limits =
    codes "pulse: break of " ++ decimal limits.pulse_min ++ codes " to " ++ decimal limits.pulse_max
    ++ codes " ms; between pulses: make of " ++ decimal limits.make_min
    ++ codes " ms or more; digit ends: make of " ++ decimal limits.pause
    ++ codes " ms; hangs up: break of " ++ decimal limits.release
    ++ codes " ms; time-out: make of " ++ decimal limits.timeout ++ codes " ms"

abbrev pub tenths_with : ℕ → List ℕ → List ℕ
tenths_with tenths unit = tenths_text tenths ++ unit

abbrev pub left_out_text : ℕ → ℕ → List ℕ
left_out_text before after =
    codes "not drawn here: " ++ decimal before ++ codes " attempts before, " ++ decimal after
    ++ codes " after; --attempt K draws attempt K"

-- the record where a fault stands, of a digit that the register took, or did not
abbrev pub record_text : Bool → ℕ → List ℕ
record_text true number = codes "at record " ++ decimal number
record_text false number = codes "at record " ++ decimal number ++ codes ", ignored"
