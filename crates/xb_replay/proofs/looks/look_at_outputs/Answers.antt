use Rattle.std.proofs.Common.{◌<◌, ◌∙◌, get_or, length, refl, sym, subst, arith}
use Rattle.rtrb.specs.Ring.{IsPair}
use Rattle.xb_model.specs.declared.on.On.{On}
use Rattle.xb_model.specs.declared.order.Order.{Order}
use Rattle.xb_flow.specs.Rings.{IsRing, ProducersLooked}
use Rattle.xb_flow.proofs.Rings.{pair_kept}
use Rattle.xb_replay.specs.Looks.{InputLooked}
use Rattle.xb_run.specs.Posts.{SenderPost, Output}
use Rattle.xb_replay.proofs.Sets.{related-set, same-set, upto-set}
use Rattle.xb_replay.proofs.LookSteps.{ring_kept, outputs-on, outputs-kept, input-on}
use Rattle.xb_replay.proofs.looks.look_at_outputs.Goals as goal

pub loop-j-init : goal.loop-j-init
loop-j-init c = record {
  rest = refl;
  looked = (refl, λ j p h. (((refl, refl, refl, refl), refl), refl, omega arith));
  seen = (refl, λ j s h. (refl, refl));
  same = λ i s h. refl;
  rings = λ i p s h. absurd (omega arith);
}

pub look-requires : goal.look-requires
look-requires c =
    let inv = c.loop-j.invariant in
    let j = c.loop-j.j in
    let o = c.index_mut-sender.result.now in
    let all = c.args.senders.now in
    let below : j < length all.items = omega (arith, c.loop-j-test.true, c.len-j-end.ensures, all.ok.0) in
    let within : j < length c.args.deal.now.producers = omega (arith, c.loop-j-test.true, c.len-j-end.ensures, c.requires.count) in (
      subst (λ n. j < n) (sym inv.looked.0) within,
      λ p. subst (λ (z : SenderPost). IsPair (get_or c.loop-j.deal.producers j p) z.consumer) (sym (c.index_mut-sender.ensures.value ∙ inv.same j o (omega arith)))
          (pair_kept (get_or c.args.deal.now.producers j p) (get_or c.loop-j.deal.producers j p) (get_or all.items j o).consumer (get_or all.items j o).consumer (inv.looked.1 j p within).0 ((refl, refl, refl, refl), refl) (c.requires.pairs j p o below)),
    )

pub loop-j-preserved : goal.loop-j-preserved
loop-j-preserved c =
    let inv = c.loop-j.invariant in
    let j = c.loop-j.j in
    let o = c.index_mut-sender.result.now in
    let e = c.look.ensures in
    let xs = c.args.senders.now.items in
    let ys = c.loop-j.senders.items in
    let ps = c.loop-j.deal.producers in
    let qs = c.look.new.up.producers in
    let z = c.look.new.self in
    let below : j < length ys = omega (arith, c.loop-j-test.true, c.len-j-end.ensures, c.args.senders.now.ok.0, inv.seen.0) in
    let more : ProducersLooked ps qs = e.up.1 in
    let rings = upto-set xs ys j o z inv.seen.0 below (λ i (s : SenderPost). (p : Output (On Order)) → IsRing (get_or qs i p) s.consumer) (λ p. e.ring.1 p)
    (λ i s h p.
    let within : i < length ps = omega (arith, h, e.ring.0, e.up.1.0) in
    ring_kept (get_or ps i p) (get_or qs i p) (get_or ys i s).consumer (more.1 i p within).0 (more.1 i p within).1 (inv.rings i p s h)) in
    record {
      rest = outputs-kept c.args.deal.now c.loop-j.deal c.look.new.up inv.rest e.up.0;
      looked = outputs-on c.args.deal.now.producers ps qs inv.looked more;
      seen = related-set xs ys j o z inv.seen.0 below InputLooked (λ a b d. input-on a b d) inv.seen.1 c.index_mut-sender.ensures.value (e.rest, e.consumer.1);
      same = same-set xs ys j o z inv.seen.0 below inv.same;
      rings = λ i p s h. rings i s h p;
    }
