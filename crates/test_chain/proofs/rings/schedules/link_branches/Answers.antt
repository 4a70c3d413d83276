use Rattle.std.proofs.Common.{◌≡◌, ℕ, zero, suc, ◌<◌, [], ◌∷◌, length, get_or, arith}
use Rattle.std.proofs.lemmas.List.Elements.{All-append}
use Rattle.rtrb.specs.Ring.{sent, received}
use Rattle.test_chain.proofs.rings.schedules.link_branches.Goals as goal

-- a list of one
all_one : {X : Type 0} (P : X → Type 0) (x : X) → P x → (k : ℕ) (d : X) → k < length (x ∷ []) → P (get_or (x ∷ []) k d)
all_one P x h zero d k = h
all_one P x h (suc j) d k = absurd (omega (arith, k))

pub loop-branch-preserved : goal.loop-branch-preserved
loop-branch-preserved c =
    let l = c.loop-branch in
    let p = c.push_reserved.ensures in
    let q = c.push_reserved-in-loop-branch.ensures in
    let r = c.push_reserved-in-loop-branch-2.ensures in
    record {
      outputs_room = omega (arith, q.capacity, l.invariant.outputs_room);
      stations_room = omega (arith, p.capacity, l.invariant.stations_room);
      inputs_room = omega (arith, r.capacity, l.invariant.inputs_room);
      outputs_len = omega (arith, q.len, l.invariant.outputs_len);
      stations_len = omega (arith, p.len, l.invariant.stations_len);
      inputs_len = omega (arith, r.len, l.invariant.inputs_len);
      outputs = rw q.items (All-append (λ p. sent p ≡ []) l.outputs.items (c.in_ok-output.output ∷ []) l.invariant.outputs (all_one (λ p. sent p ≡ []) c.in_ok-output.output c.in_ok-output.ensures.producer.0));
      inputs = rw r.items (All-append (λ c. received c ≡ []) l.inputs.items (c.in_ok-pieces.input ∷ []) l.invariant.inputs (all_one (λ c. received c ≡ []) c.in_ok-pieces.input c.in_ok-pieces.ensures.consumer.0));
    }
