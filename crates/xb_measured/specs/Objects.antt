-- The JSON object of a key.
use Rattle.std.specs.Prelude.{ℕ, List, codes, Option, Some, None, pos, ◌-ℤ◌}
use Rattle.serde_json.specs.Data.{Data, member, no_members, null, number, object, string, unsigned}
use Rattle.serde_json.specs.Find.{of_integer}
use Rattle.xb_measured.specs.declared.heard.Onsets.{Onsets}
use Rattle.xb_measured.specs.declared.figures.Figures.{Figures}
use Rattle.xb_measured.specs.declared.levels.TheConstants.{ZERO_DBM0}
use Rattle.xb_measured.specs.Meanings.{name_text}
use Rattle.xb_measured.specs.Verdicts.{misses, verdict_text}

-- the time before a key, null where no key came before
abbrev pub gap_data : Option ℕ → Data
gap_data None = null
gap_data (Some ms) = number (unsigned ms)

-- what tenths are over others, as a whole number
abbrev pub tenths_data : ℕ → ℕ → Data
tenths_data over under = number (of_integer (pos over -ℤ pos under))

-- how much later the higher tone began, null where that is not known
abbrev pub skew_data : Option Onsets → Data
skew_data None = null
skew_data (Some onsets) = tenths_data onsets.low onsets.high

-- what the line of a key says, in whole numbers, of which this is said
abbrev pub object_with : Figures → List ℕ → Data
object_with figures verdict = object
    (member (codes "at_ms") (number (unsigned figures.start_ms))
    (member (codes "gap_ms") (gap_data figures.gap_ms)
    (member (codes "high_dbm0_tenths") (tenths_data figures.high ZERO_DBM0)
    (member (codes "high_hz") (number (unsigned figures.high_hz))
    (member (codes "hole_ms") (number (unsigned figures.hole_ms))
    (member (codes "key") (string (name_text figures.meaning))
    (member (codes "length_ms") (number (unsigned figures.length_ms))
    (member (codes "low_dbm0_tenths") (tenths_data figures.low ZERO_DBM0)
    (member (codes "low_hz") (number (unsigned figures.low_hz))
    (member (codes "skew_ms_tenths") (skew_data figures.onsets)
    (member (codes "twist_db_tenths") (tenths_data figures.high figures.low)
    (member (codes "verdict") (string verdict) no_members))))))))))))

abbrev pub object_of : Figures → Data
object_of figures = object_with figures (verdict_text (misses figures))
