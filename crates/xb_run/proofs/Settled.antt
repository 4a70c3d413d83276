-- The two ends of a ring in one thread.
use Rattle.std.proofs.Common.{◌≡◌, true, List, ◌++◌, sym, ap, ◌∙◌}
use Rattle.xb_flow.specs.declared.flow.Flow.{Flow}
use Rattle.xb_flow.specs.Flows.{items_of, has_end, flow_of, IsEnded}
use Rattle.xb_flow.proofs.Flows.{flow-whole, has_end-flow}

-- what was received, where it ends with an End, is all of what was sent, where that does
pub whole : {T : Type 0} (ins known outs : List (Flow T)) → ins ++ known ≡ outs → IsEnded ins → IsEnded outs → ins ≡ outs
whole ins known outs fifo ended sends =
    let over : has_end ins ≡ true = ap has_end ended ∙ has_end-flow (items_of ins) true in
    let same : items_of ins ≡ items_of outs = (flow-whole ins known (items_of outs) true (fifo ∙ sends) over).0 in
    ended ∙ ap (λ xs. flow_of xs true) same ∙ sym sends
