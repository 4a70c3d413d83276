-- Where the route of each code stands in a table.
use Rattle.std.specs.Prelude.{◌≡◌, ℕ, suc, ◌+◌, ◌*◌, nat_eq, nat_le, if◌then◌else◌, List, [], ◌∷◌, length, take, Option, Some, None, option_map}
use Rattle.std.specs.HashMap as hash
use Rattle.std.specs.HashMap.{HashMap}
use Rattle.std.specs.List.{AllByRecursion}
use Rattle.xb_model.specs.Routing.{CodedRoute}
use Rattle.xb_routes.specs.Codes.{AreDigits, IsCodeLength}
use Rattle.xb_routes.specs.Text.{has_code}

-- the place of the first route that has the code
abbrev pub place_of : List ℕ → List CodedRoute → Option ℕ
place_of code [] = None
place_of code (route ∷ routes) = if has_code code route then Some 0 else option_map suc (place_of code routes)

-- the place of the first route whose code is the first n digits
abbrev pub place_of_first : ℕ → List ℕ → List CodedRoute → Option ℕ
place_of_first n digits routes = if nat_le n (length digits) then place_of (take n digits) routes else None

-- the decimal number that n and then digits write
abbrev pub number_from : ℕ → List ℕ → ℕ
number_from n [] = n
number_from n (digit ∷ digits) = number_from (10 * n + digit) digits

-- the number that 1 and then the digits of a code write: no two codes have the same
abbrev pub code_number : List ℕ → ℕ
code_number digits = number_from 1 digits

-- each route has a code of a possible length, and the index holds the place of each code's route
pub record IsIndex {S : Type 0} (index : HashMap ℕ ℕ S) (routes : List CodedRoute) : Type 0 where
  pub lengths : AllByRecursion (λ route. IsCodeLength (length route.code)) routes
  pub places : (code : List ℕ) → AreDigits code → hash.get nat_eq index (code_number code)
      ≡ place_of code routes
