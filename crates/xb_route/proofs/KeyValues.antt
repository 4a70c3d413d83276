-- An object of an answer has no float.
use Rattle.std.proofs.Common.{◌≡◌, ℕ, false, List, refl}
use Rattle.serde_json.specs.Written.{has_float}
use Rattle.xb_json.proofs.KeyValues.{no-floats-in-keys}
use Rattle.xb_model.specs.declared.order.Order.TheVariants as orders
use Rattle.xb_route.specs.declared.answer.Answer.{Answer}
use Rattle.xb_route.specs.declared.answer.Answer.TheVariants.{Dialled, Incomplete, Routed}
use Rattle.xb_route.specs.Objects.{object_of}

pub no-floats : (digits : List ℕ) (answer : Answer) → has_float (object_of digits answer) ≡ false
no-floats digits Incomplete = refl
no-floats digits (Routed number (orders.Refused reason heard)) = refl
no-floats digits (Routed number (orders.Key trunk sent)) = rw (no-floats-in-keys sent) refl
no-floats digits (Dialled number trunk sent) = refl
