-- The object of an entry has no float.
use Rattle.std.proofs.Common.{◌≡◌, ℕ, List, false, refl}
use Rattle.serde_json.specs.Written.{has_float}
use Rattle.xb_json.proofs.KeyValues.{no-floats-in-keys}
use Rattle.xb_model.specs.declared.order.Order.{Order}
use Rattle.xb_model.specs.declared.order.Order.TheVariants as orders
use Rattle.xb_tandem.specs.Objects.{object_of, pulses_object}

pub no-floats : (line n : ℕ) (order : Order) → has_float (object_of line n order) ≡ false
no-floats line n (orders.Refused reason heard) = refl
no-floats line n (orders.Key trunk sent) = rw (no-floats-in-keys sent) refl

pub no-floats-in-pulses : (line trunk : ℕ) (sent : List ℕ) → has_float (pulses_object line trunk sent) ≡ false
no-floats-in-pulses line trunk sent = refl
