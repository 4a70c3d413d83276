-- How signals sound unless something else is asked for.
use Rattle.std.specs.Prelude.{false}
use Rattle.xb_signal.specs.declared.form.Form.TheVariants.{Linear}
use Rattle.xb_signal.specs.declared.setting.Setting.{Setting}
use Rattle.xb_signal.specs.Shapes.{standard_shape}
use Rattle.xb_signal.specs.Steadies.{silent_steady}

abbrev pub standard_setting : Setting
standard_setting = record {
  low = 10000;
  high = 10000;
  shape = standard_shape;
  steady = silent_steady;
  noise_peak = 0;
  seed = 0;
  clip = false;
  form = Linear;
}
