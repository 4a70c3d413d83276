-- What the sender does ("Notes on Distance Dialing"; refusals are the profile's own).
use Rattle.xb_model.specs.declared.on.On.{On}
use Rattle.xb_model.specs.declared.mark.Mark.{Mark}
use Rattle.xb_model.specs.declared.order.Order.{Order}
use Rattle.xb_model.specs.Keyings.{marks_of}
use Rattle.xb_model.specs.Image.{Machine}
use Rattle.xb_model.specs.Stateless.{stateless}

-- each order gives its marks, whatever stood before
abbrev pub machine : Machine (On Order) (On Mark) (Unit {0})
machine = stateless marks_of
