-- The objects of entries have no float, and the order of marks is the one that they are of.
use Rattle.std.proofs.Common.{◌≡◌, ℕ, List, false, codes, Option, refl}
use Rattle.serde_json.specs.Written.{has_float}
use Rattle.xb_clock.specs.Objects.{with_time}
use Rattle.xb_clock.proofs.TimeValues.{with_time-no-floats}
use Rattle.xb_json.proofs.KeyValues.{no-floats-in-keys}
use Rattle.xb_model.specs.declared.mark.Mark.{Mark}
use Rattle.xb_model.specs.declared.mark.Mark.TheVariants as mark
use Rattle.xb_model.specs.declared.order.Order.{Order}
use Rattle.xb_model.specs.declared.order.Order.TheVariants as orders
use Rattle.xb_live.specs.Objects.{mark_object, object_by, object_of, order_in, timed_mark, timed_object}
use Rattle.xb_live.specs.TimedEntries.{TimedEntry}

no-floats-by : (told : TimedEntry) (order : Order) → has_float (object_by told order) ≡ false
no-floats-by told (orders.Refused reason heard) = refl
no-floats-by told (orders.Key trunk sent) = rw (no-floats-in-keys sent) refl

no-floats : (told : TimedEntry) → has_float (object_of told) ≡ false
no-floats told = no-floats-by told (order_in told.marks)

no-floats-in-mark : (line entry at : ℕ) (m : Mark) → has_float (mark_object line entry at m) ≡ false
no-floats-in-mark line entry at (mark.Trunk trunk) = refl
no-floats-in-mark line entry at (mark.Tone k pair) = refl
no-floats-in-mark line entry at (mark.Refused reason heard) = refl

pub timed-no-floats : (from at : Option (List ℕ)) (told : TimedEntry) → has_float (timed_object from at told) ≡ false
timed-no-floats from at told =
    with_time-no-floats (codes "from") from (with_time (codes "at") at (object_of told))
    (with_time-no-floats (codes "at") at (object_of told) (no-floats told))

pub timed-no-floats-in-mark : (time : Option (List ℕ)) (line entry at : ℕ) (m : Mark) → has_float (timed_mark time line entry at m) ≡ false
timed-no-floats-in-mark time line entry at m =
    with_time-no-floats (codes "at") time (mark_object line entry at m) (no-floats-in-mark line entry at m)
