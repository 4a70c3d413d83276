-- Entries with their times.
use Rattle.std.specs.Prelude.{Bool, true, false, List}
use Rattle.xb_model.specs.declared.mark.Mark.{Mark}
use Rattle.xb_model.specs.declared.order.Order.{Order}
use Rattle.xb_model.specs.declared.order.Order.TheVariants as orders
use Rattle.xb_model.specs.Keyings.{marks_of as marks_of_order}
use Rattle.xb_tone.specs.declared.entry.PlacedEntry.{PlacedEntry}

abbrev pub is_keying : Order → Bool
is_keying (orders.Key trunk digits) = true
is_keying (orders.Refused reason heard) = false

-- whether an entry was keyed
abbrev pub is_keyed : PlacedEntry → Bool
is_keyed entry = is_keying entry.order

-- what it puts on its line's tape
abbrev pub marks_of : PlacedEntry → List Mark
marks_of entry = marks_of_order entry.order
