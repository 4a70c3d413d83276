use Rattle.std.proofs.Common.{◌≡◌, ◌++◌, ◌∷◌, [], codes, get_or, map, ap, ◌∙◌, subst, take_all, rules}
use Rattle.serde_json.specs.Data.{array, string}
use Rattle.serde_json.specs.View.{items_of, view}
use Rattle.xb_json.proofs.KeyValues.{digit_key, keys-end, keys-more}
use Rattle.xb_json.proofs.keys.keys_of.Goals as goal

pub loop-digit-preserved : goal.loop-digit-preserved
loop-digit-preserved c =
    let digits = c.args.digits.now in
    let i = c.loop-digit.digit-index in
    let value = c.in_ok-try_from_str-2.field-0 in
    let items : c.push-in-loop-digit.new.self.items ≡ c.loop-digit.keys.items ++ value ∷ [] = search rules in
    let is : view value ≡ digit_key (get_or digits i c.digit-item.result) = search rules in
    ap (map view) items
    ∙ keys-more c.loop-digit.keys.items value digits i c.digit-item.result c.loop-digit-test.true c.loop-digit.invariant is

pub returns : goal.returns
returns c =
    let digits = c.args.digits.now in
    let value = c.in_ok-try_from_str-3.field-0 in
    let items : c.push-2.new.self.items ≡ c.loop-digit.keys.items ++ value ∷ [] = search rules in
    let is : view value ≡ string (codes "ST") = search rules in
    let so_far : map view c.loop-digit.keys.items ≡ string (codes "KP") ∷ map digit_key digits
    = subst (λ front. map view c.loop-digit.keys.items ≡ string (codes "KP") ∷ map digit_key front)
    (take_all c.loop-digit.digit-index digits c.loop-digit-test.false) c.loop-digit.invariant in
    let keys = ap (λ keys. array (items_of keys))
    (ap (map view) items ∙ keys-end c.loop-digit.keys.items value digits so_far is) in
    c.from.ensures ∙ keys
