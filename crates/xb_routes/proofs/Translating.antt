-- What the translation makes of a line.
use Rattle.std.proofs.Common.{◌≡◌, List, [], ◌∷◌, map, ap, ◌∙◌}
use Rattle.std.proofs.lemmas.List.Concat.{flat_map_single}
use Rattle.xb_model.specs.declared.dialled.Dialled.{Dialled}
use Rattle.xb_model.specs.declared.line.LineNo.{LineNo}
use Rattle.xb_model.specs.Routing.{CodedRoute, order_of}
use Rattle.xb_model.specs.Image.{image_on}
use Rattle.xb_model.specs.OnLines.{on_line}
use Rattle.xb_model.proofs.Stateless.{image-stateless}
use Rattle.xb_routes.specs.Machine.{machine}

-- what is dialled on a line gives its orders, one each, in order
pub image-machine : (routes : List CodedRoute) (line : LineNo) (outcomes : List Dialled)
    → image_on (machine routes) (on_line line outcomes) ≡ on_line line (map (order_of routes) outcomes)
image-machine routes line outcomes =
    image-stateless (λ outcome. order_of routes outcome ∷ []) line outcomes
    ∙ ap (on_line line) (flat_map_single (order_of routes) outcomes)
