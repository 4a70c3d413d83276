-- The text of each fault.
use Rattle.std.specs.Prelude.{ℕ, ◌++◌, List, codes, decimal}
use Rattle.xb_routes.specs.declared.fault.RouteFault.{RouteFault}
use Rattle.xb_routes.specs.declared.fault.RouteFault.TheVariants as route

-- of a route table
abbrev pub route_text : RouteFault → List ℕ
route_text route.NotToml = codes "not TOML"
route_text route.Plan = codes "plan is neither 7 nor 10"
route_text (route.Limits number) = codes "limit " ++ decimal number ++ codes " is wrong"
route_text route.TooMany = codes "more than 1000 routes"
route_text (route.Shape number) = codes "route " ++ decimal number ++ codes " has a wrong shape"
route_text (route.Code number) = codes "route " ++ decimal number ++ codes " has a wrong code"
route_text (route.Trunk number) = codes "route " ++ decimal number ++ codes " has a wrong trunk"
route_text (route.Delete number) = codes "route " ++ decimal number ++ codes " has a wrong delete"
route_text (route.Prefix number) = codes "route " ++ decimal number ++ codes " has a wrong prefix"
route_text (route.NothingToKey number) = codes "route " ++ decimal number ++ codes " keys no digit"
route_text (route.Twice number) = codes "route " ++ decimal number ++ codes " repeats a code"
route_text route.NoMemory = codes "out of memory"
