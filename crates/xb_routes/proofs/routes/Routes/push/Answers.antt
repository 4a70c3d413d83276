use Rattle.std.proofs.Common.{◌≡◌, ◌++◌, ◌∷◌, [], ◌∙◌, ap, length, map, arith}
use Rattle.std.proofs.lemmas.List.{length-map, map-append}
use Rattle.xb_routes.specs.Coded.{coded}
use Rattle.xb_routes.specs.Places.{code_number}
use Rattle.xb_routes.proofs.Index.{index-push}
use Rattle.xb_routes.proofs.routes.Routes.push.Goals as goal

pub invariant_of-self-2 : goal.invariant_of-self-2
invariant_of-self-2 c =
    let entries = c.self.inside.entries.items in
    let digits = rw c.digits.ensures.value at c.code_number-number.ensures.digits in
    let number : c.code_number-number.result ≡ code_number c.args.entry.code = c.code_number-number.ensures.number ∙ ap code_number c.digits.ensures.value in
    let none = rw (← c.self.view_is) at c.requires in
    let place : c.len.result ≡ length (map coded entries) =
    omega (arith, c.len.ensures, c.in_ok-reserve.ensures.len, length-map entries coded) in
    let updates = rw (number, place) at c.in_ok-insert.ensures.updates in
    let items = c.push_reserved.ensures.items ∙ ap (λ xs. xs ++ c.args.entry ∷ []) c.in_ok-reserve.ensures.items in
    rw (items, map-append)
    (index-push c.self.inside.places (map coded entries) c.self.invariant c.insert.new.self (coded c.args.entry) c.digits.ensures.length digits none updates)
