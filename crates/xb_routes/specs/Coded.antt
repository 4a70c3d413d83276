-- What a route of the table says.
use Rattle.xb_model.specs.Routing.{CodedRoute, coded_route}
use Rattle.xb_routes.specs.declared.route.Route.{Route}
use Rattle.xb_routes.specs.declared.route.Entry.{Entry}

-- a route with its code
abbrev pub coded : Entry → CodedRoute
coded entry = coded_route entry.code entry.route.trunk entry.route.deleted entry.route.prefixed

-- a route without its code
abbrev pub uncoded : CodedRoute → Route
uncoded route = record { trunk = route.trunk; deleted = route.deleted; prefixed = route.prefixed }
