-- Signs that XML and HTML keep for themselves.
use Rattle.std.specs.Prelude.{ℕ, ◌==◌, List, [], ◌∷◌, ◌++◌, codes, if◌then◌else◌}
use Rattle.std.specs.List.{flat_map}
use Rattle.xb_model.specs.declared.limits.Limits.{Limits}
use Rattle.xb_heard.specs.declared.fault.PulseFault.{PulseFault}
use Rattle.xb_heard.specs.declared.fault.Spoiler.{Spoiler}
use Rattle.xb_report.specs.Cells.{place_text}
use Rattle.xb_report.specs.Words.{fault_text}

-- a byte as XML wants it: the three signs that it keeps for itself are written by their names
abbrev pub marked_byte : ℕ → List ℕ
marked_byte b =
    if b == 60 then codes "&lt;" else (if b == 62 then codes "&gt;" else (if b == 38 then codes "&amp;" else b ∷ []))

abbrev pub marked : List ℕ → List ℕ
marked text = flat_map marked_byte text

-- the words of the report on a fault, so marked
abbrev pub fault_marked : Limits → PulseFault → ℕ → List ℕ
fault_marked limits fault ms = marked (fault_text limits fault ms)

-- what spoils a digit, and where, so marked
abbrev pub spoiler_marked : Limits → Spoiler → List ℕ
spoiler_marked limits spoiler =
    fault_marked limits spoiler.fault spoiler.run.ms ++ codes " at " ++ place_text spoiler.run
