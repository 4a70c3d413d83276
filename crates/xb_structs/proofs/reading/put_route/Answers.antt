use Rattle.std.proofs.Common.{rules}
use Rattle.std.proofs.lemmas.List.Sorted.{answers_always}
use Rattle.xb_structs.proofs.Searching.{searched, rise_inserted, with_inserted, with_present, IsAt, IsGap}
use Rattle.xb_structs.proofs.reading.put_route.Goals as goal

gap : (c : goal.In_ok-insert) → IsGap c.args.routes.now.items c.args.route.code c.in-Err.place
gap c =
    let by_key = c.binary_search_by_key.ensures.position (λ route. route.code) (answers_always _ _ _ (λ f a r g called. search rules)) in
    let at = searched c.deref.result.now (rw c.deref.ensures.value c.requires) c.args.route.code c.binary_search_by_key.result c.binary_search_by_key.ensures.bound by_key in
    rw c.deref.ensures.value at (rw c.in-Err.is at at.absent)

pub returns-in_ok-insert-clause-rise : goal.returns-in_ok-insert-clause-rise
returns-in_ok-insert-clause-rise c = rw c.in_ok-insert.ensures.items (rise_inserted c.args.routes.now.items c.args.route c.in-Err.place (gap c) c.requires)

pub returns-in_ok-insert-clause-numbered : goal.returns-in_ok-insert-clause-numbered
returns-in_ok-insert-clause-numbered c = λ number. rw c.in_ok-insert.ensures.items (with_inserted c.args.routes.now.items c.args.route c.in-Err.place (gap c) number)

pub returns-in_default-clause-numbered : goal.returns-in_default-clause-numbered
returns-in_default-clause-numbered c = λ number.
    let by_key = c.binary_search_by_key.ensures.position (λ route. route.code) (answers_always _ _ _ (λ f a r g called. search rules)) in
    let at = searched c.deref.result.now (rw c.deref.ensures.value c.requires) c.args.route.code c.binary_search_by_key.result c.binary_search_by_key.ensures.bound by_key in
    let here : IsAt c.args.routes.now.items c.args.route.code c.in_default.field-0 = rw c.deref.ensures.value at (rw c.in_default.is at at.found) in
    with_present c.args.routes.now.items c.args.route c.in_default.field-0 c.requires here number
