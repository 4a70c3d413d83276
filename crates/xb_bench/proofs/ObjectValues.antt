-- The objects have no float.
use Rattle.std.proofs.Common.{◌≡◌, ℕ, ℤ, pos, negsuc, List, Bool, true, false, Option, Some, None, refl}
use Rattle.serde_json.specs.Data.{number}
use Rattle.serde_json.specs.Find.{of_integer}
use Rattle.serde_json.specs.Written.{has_float}
use Rattle.xb_model.specs.declared.limits.Limits.{Limits}
use Rattle.xb_contact.specs.declared.scale.Scale.{Scale}
use Rattle.xb_bench.specs.declared.setting.Setting.{Setting}
use Rattle.xb_turns.specs.declared.windows.Windows.{Windows}
use Rattle.xb_turns.specs.declared.sums.Series.{Series}
use Rattle.xb_turns.specs.declared.sums.Sums.{Sums}
use Rattle.xb_turns.specs.declared.train.Spread.{Spread}
use Rattle.xb_turns.specs.declared.train.Train.{Train}
use Rattle.xb_turns.specs.declared.train.Wrong.{Wrong}
use Rattle.xb_turns.specs.declared.verdict.Verdict.{Verdict}
use Rattle.xb_turns.specs.Figures.{drift_of, share_of, speed_of, tenths_of_ms}
use Rattle.xb_bench.specs.Objects.{digit_object, drift_by, ended_object, extent_data, figure_data, name_by, name_data, series_data, signed_of, spread_data, summary_object, verdict_data, windows_object, wrong_data}
use Rattle.xb_turns.specs.Sums.{mean_of}
use Rattle.xb_turns.specs.Verdicts.{verdict_of}

none-in-figure : (figure : Option ℕ) → has_float (figure_data figure) ≡ false
none-in-figure None = refl
none-in-figure (Some tenths) = refl

none-in-whole : (z : ℤ) → has_float (number (of_integer z)) ≡ false
none-in-whole (pos n) = refl
none-in-whole (negsuc n) = refl

none-by : (below : Bool) (tenths : Option ℕ) → has_float (drift_by below tenths) ≡ false
none-by below None = refl
none-by below (Some tenths) = none-in-whole (signed_of below tenths)

none-in-extent : (least most : Option ℕ) → has_float (extent_data least most) ≡ false
none-in-extent least most = rw (none-in-figure least, none-in-figure most) refl

none-in-spread : (scale : Scale) (spread : Option Spread) → has_float (spread_data scale spread) ≡ false
none-in-spread scale None = refl
none-in-spread scale (Some spread) = none-in-extent (tenths_of_ms scale spread.least) (tenths_of_ms scale spread.most)

none-in-name-by : (pulses : ℕ) (wrong : Option Wrong) → has_float (name_by pulses wrong) ≡ false
none-in-name-by pulses None = refl
none-in-name-by pulses (Some wrong) = refl

none-in-name : (ended : Bool) (train : Train) → has_float (name_data ended train) ≡ false
none-in-name false train = refl
none-in-name true train = none-in-name-by train.pulses train.wrong

none-in-wrong : (limits : Limits) (wrong : Option Wrong) → has_float (wrong_data limits wrong) ≡ false
none-in-wrong limits None = refl
none-in-wrong limits (Some wrong) = refl

none-in-verdict : (verdict : Option Verdict) → has_float (verdict_data verdict) ≡ false
none-in-verdict None = refl
none-in-verdict (Some verdict) = refl

pub none-in-digit :
    (setting : Setting) (line : ℕ) (scale : Scale) (ended : Bool) (train : Train) (bounce : ℕ)
    → has_float (digit_object setting line scale ended train bounce) ≡ false
none-in-digit setting line scale ended train bounce =
    rw (
      none-in-figure (tenths_of_ms scale bounce),
      none-in-spread scale (Some train.breaks),
      none-in-name ended train,
      none-by (drift_of train).is_below (drift_of train).tenths,
      none-in-wrong setting.limits train.wrong,
      none-in-spread scale train.makes,
      none-in-figure (share_of train),
      none-in-figure (speed_of scale train),
      none-in-verdict (verdict_of setting.windows train.pulses (speed_of scale train) (share_of train)),
    ) refl

pub none-in-ended : (line : ℕ) (event : List ℕ) → has_float (ended_object line event) ≡ false
none-in-ended line event = refl

none-in-series : (series : Series) → has_float (series_data series) ≡ false
none-in-series series =
    rw (none-in-figure series.least, none-in-figure (mean_of series), none-in-figure series.most) refl

pub none-in-summary : (line : ℕ) (scale : Scale) (sums : Sums) → has_float (summary_object line scale sums) ≡ false
none-in-summary line scale sums =
    rw (none-in-figure (tenths_of_ms scale sums.bounce), none-in-series sums.share, none-in-series sums.speed) refl

pub none-in-windows : (windows : Windows) → has_float (windows_object windows) ≡ false
none-in-windows windows = refl
