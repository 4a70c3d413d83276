-- Routes, and one more.
use Rattle.std.specs.Prelude.{ℕ, ◌==◌, if◌then◌else◌, List, Option, Some, None}
use Rattle.xb_structs.specs.declared.route.PlainRoute.{PlainRoute}
use Rattle.xb_structs.specs.Routes.{numbered}

-- the first of two that is there
abbrev pub or_else : {X : Type 0} → Option X → Option X → Option X
or_else None other = other
or_else (Some x) other = Some x

-- the route with a number, where one route more is added after the others
abbrev pub numbered_with : PlainRoute → ℕ → List PlainRoute → Option PlainRoute
numbered_with route number routes =
    or_else (numbered number routes) (if route.code == number then Some route else None)
