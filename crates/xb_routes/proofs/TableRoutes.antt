-- The routes of a table that a text writes are as tables have them.
use Rattle.std.proofs.Common.{◌≡◌, ◌<◌, ◌-◌, ℕ, ltb, Bool, true, false, cond, List, [], ◌∷◌, map, Option, Some, None, Ok, Err, refl, subst, arith, ℤ, pos, negsuc}
use Rattle.std.specs.Prelude.{length, nat_le, option_and_then, option_map}
use Rattle.std.specs.Char.{is_ascii_digit}
use Rattle.std.proofs.lemmas.Bool.{ltb-true}
use Rattle.std.proofs.lemmas.Bool.Decides.{nat_tests}
use Rattle.toml.specs.Data.{Data}
use Rattle.xb_model.specs.declared.digit.TheConstants.{DIGITS}
use Rattle.xb_model.specs.declared.digits.TheConstants.{PREFIX_DIGITS}
use Rattle.xb_model.specs.declared.plan.Plan.{Plan}
use Rattle.xb_model.specs.declared.trunk.TheConstants.{TRUNKS}
use Rattle.xb_model.specs.Digits.{digit_of_ascii}
use Rattle.xb_model.specs.Page.{zero_byte}
use Rattle.xb_model.specs.Routing.{AreRoutes, CodedRoute, IsRoute, coded_route}
use Rattle.xb_routes.specs.declared.fault.RouteFault.TheVariants as fault
use Rattle.xb_routes.specs.Codes.{AreDigits, code_of, digits_of_text, number_length}
use Rattle.xb_routes.specs.Keys.{FourKeys, keys_of}
use Rattle.xb_routes.specs.Steps.{or_fault}
use Rattle.xb_routes.specs.Table.{Table}
use Rattle.xb_routes.specs.Text.{deleted_of, if_keying, prefixed_of, route_of, table_of_text, trunk_of}
use Rattle.xb_routes.proofs.ByText.{text-accepted}

trunk-below : (z : ℤ) (trunk : ℕ) → trunk_of z ≡ Some trunk → trunk < TRUNKS
trunk-below (negsuc n) trunk e = absurd (let no : ⊥ = cc in no)
trunk-below (pos n) trunk e = by (ltb n TRUNKS) refl e
  where
    by : (b : Bool) → ltb n TRUNKS ≡ b → cond b (Some n) None ≡ Some trunk → trunk < TRUNKS
    by false is e = absurd (let no : ⊥ = cc in no)
    by true is e = let same : n ≡ trunk = cc in omega (arith, ltb-true n TRUNKS is, same)

digit-below : (c d : ℕ) → digit_of_ascii c ≡ Some d → d < DIGITS
digit-below c d e = by (is_ascii_digit c) refl e
  where
    by : (b : Bool) → is_ascii_digit c ≡ b → cond b (Some (c - zero_byte)) None ≡ Some d → d < DIGITS
    by false is e = absurd (let no : ⊥ = cc in no)
    by true is e = grind (arith, nat_tests, is, e)

digits-are : (text digits : List ℕ) → digits_of_text text ≡ Some digits → AreDigits digits
digits-are [] digits e = let same : [] ≡ digits = cc in subst (λ ds. AreDigits ds) same tt
digits-are (c ∷ text) digits e = by (digit_of_ascii c) (digits_of_text text) refl (digits-are text) e
  where
    by : (d : Option ℕ) (rest : Option (List ℕ)) → digit_of_ascii c ≡ d → ((ds : List ℕ) → rest ≡ Some ds → AreDigits ds)
        → option_and_then (λ d. option_map (λ ds. d ∷ ds) rest) d ≡ Some digits → AreDigits digits
    by None rest is are e = absurd (let no : ⊥ = cc in no)
    by (Some d) None is are e = absurd (let no : ⊥ = cc in no)
    by (Some d) (Some ds) is are e =
        let same : d ∷ ds ≡ digits = cc in subst (λ ds. AreDigits ds) same (digit-below c d is, are ds refl)

prefix-digits : (text : Option (List ℕ)) (digits : List ℕ) → prefixed_of text ≡ Some digits → AreDigits digits
prefix-digits None digits e = let same : [] ≡ digits = cc in subst (λ ds. AreDigits ds) same tt
prefix-digits (Some text) digits e = by (nat_le (length text) PREFIX_DIGITS) e
  where
    by : (b : Bool) → cond b (digits_of_text text) None ≡ Some digits → AreDigits digits
    by false e = absurd (let no : ⊥ = cc in no)
    by true e = digits-are text digits e

module _ (plan : Plan) (i : ℕ) (route : CodedRoute) where
  keyed : (found : CodedRoute) → IsRoute found → if_keying plan i found ≡ Ok route → IsRoute route
  keyed found is e = by _ e
    where
      by : (b : Bool) → cond b (Err (fault.NothingToKey i)) (Ok found) ≡ Ok route → IsRoute route
      by true e = absurd (let no : ⊥ = cc in no)
      by false e = let same : found ≡ route = cc in subst (λ r. IsRoute r) same is

  prefixed : (code : List ℕ) (trunk deleted : ℕ) (prefix : Option (List ℕ)) → trunk < TRUNKS
      → ((digits : List ℕ) → prefix ≡ Some digits → AreDigits digits)
      → or_fault (fault.Prefix i) prefix (λ prefix. if_keying plan i (coded_route code trunk deleted prefix)) ≡ Ok route
      → IsRoute route
  prefixed code trunk deleted None below are e = absurd (let no : ⊥ = cc in no)
  prefixed code trunk deleted (Some digits) below are e = keyed (coded_route code trunk deleted digits) (below, are digits refl) e

  deletes : (code : List ℕ) (trunk : ℕ) (deleted : Option ℕ) (prefix : Option (List ℕ)) → trunk < TRUNKS
      → ((digits : List ℕ) → prefix ≡ Some digits → AreDigits digits)
      → or_fault (fault.Delete i) deleted (λ deleted.
      or_fault (fault.Prefix i) prefix (λ prefix. if_keying plan i (coded_route code trunk deleted prefix))) ≡ Ok route
      → IsRoute route
  deletes code trunk None prefix below are e = absurd (let no : ⊥ = cc in no)
  deletes code trunk (Some deleted) prefix below are e = prefixed code trunk deleted prefix below are e

  trunked : (k : FourKeys) (code : List ℕ) (trunk : Option ℕ) → ((n : ℕ) → trunk ≡ Some n → n < TRUNKS)
      → or_fault (fault.Trunk i) trunk (λ trunk.
      or_fault (fault.Delete i) (deleted_of (number_length plan code) k.delete) (λ deleted.
      or_fault (fault.Prefix i) (prefixed_of k.prefix) (λ prefix. if_keying plan i (coded_route code trunk deleted prefix)))) ≡ Ok route
      → IsRoute route
  trunked k code None below e = absurd (let no : ⊥ = cc in no)
  trunked k code (Some trunk) below e =
      deletes code trunk (deleted_of (number_length plan code) k.delete) (prefixed_of k.prefix) (below trunk refl)
      (prefix-digits k.prefix) e

  coded : (k : FourKeys) (code : Option (List ℕ))
      → or_fault (fault.Code i) code (λ code.
      or_fault (fault.Trunk i) (trunk_of k.trunk) (λ trunk.
      or_fault (fault.Delete i) (deleted_of (number_length plan code) k.delete) (λ deleted.
      or_fault (fault.Prefix i) (prefixed_of k.prefix) (λ prefix. if_keying plan i (coded_route code trunk deleted prefix))))) ≡ Ok route
      → IsRoute route
  coded k None e = absurd (let no : ⊥ = cc in no)
  coded k (Some code) e = trunked k code (trunk_of k.trunk) (trunk-below k.trunk) e

  route-is : (keys : Option FourKeys) → route_of plan i keys ≡ Ok route → IsRoute route
  route-is None e = absurd (let no : ⊥ = cc in no)
  route-is (Some k) e = coded k (code_of plan k.code) e

routes-are : (plan : Plan) (items : List (ℕ × Data)) (routes : List CodedRoute)
    → map (λ p. route_of plan p.0 (keys_of p.1)) items ≡ map Ok routes → AreRoutes routes
routes-are plan [] [] e = tt
routes-are plan [] (route ∷ routes) e = absurd (let no : ⊥ = cc in no)
routes-are plan (p ∷ items) [] e = absurd (let no : ⊥ = cc in no)
routes-are plan (p ∷ items) (route ∷ routes) e =
    let first : route_of plan p.0 (keys_of p.1) ≡ Ok route = cc in
    let rest : map (λ p. route_of plan p.0 (keys_of p.1)) items ≡ map Ok routes = cc in
    (route-is plan p.0 route (keys_of p.1) first, routes-are plan items routes rest)

pub table-routes : (text : List ℕ) (table : Table) → table_of_text text ≡ Ok table → AreRoutes table.routes
table-routes text table e =
    let writes = (text-accepted text table).0 e in
    routes-are table.plan _ table.routes writes.routes.alone
