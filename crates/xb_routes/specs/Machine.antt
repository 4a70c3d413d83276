-- What the translation does.
use Rattle.std.specs.Prelude.{◌≡◌, List, [], ◌∷◌, map}
use Rattle.xb_model.specs.Image.{Machine, image_on}
use Rattle.xb_model.specs.OnLines.{on_line}
use Rattle.xb_model.specs.Stateless.{stateless}
use Rattle.xb_model.specs.declared.on.On.{On}
use Rattle.xb_model.specs.declared.dialled.Dialled.{Dialled}
use Rattle.xb_model.specs.declared.order.Order.{Order}
use Rattle.xb_model.specs.declared.line.LineNo.{LineNo}
use Rattle.xb_model.specs.Routing.{CodedRoute, order_of}

-- each outcome gives its order
abbrev pub machine : List CodedRoute → Machine (On Dialled) (On Order) (Unit {0})
machine routes = stateless (λ outcome. order_of routes outcome ∷ [])

-- a stage gives what is dialled on a line its orders by these routes, one each, in order
abbrev pub GivesOrders : List CodedRoute → Machine (On Dialled) (On Order) (Unit {0}) → Type 0
GivesOrders routes stage = (line : LineNo) (outcomes : List Dialled)
    → image_on stage (on_line line outcomes) ≡ on_line line (map (order_of routes) outcomes)
