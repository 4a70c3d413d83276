use Rattle.std.proofs.Common.{◌≡◌, ◌≢◌, ◌<◌, ◌∙◌, get_or, length, refl, sym, ap, subst, arith, ⊎_elim}
use Rattle.std.proofs.lemmas.Bool.{cases_eq}
use Rattle.rtrb.specs.Ring.{received, IsPair}
use Rattle.xb_model.specs.declared.mark.Mark.{Mark}
use Rattle.xb_model.specs.declared.on.On.{On}
use Rattle.xb_flow.specs.Rings.{IsRing}
use Rattle.xb_replay.specs.Looks.{OutputLooked}
use Rattle.xb_run.specs.Posts.{SenderPost, Input}
use Rattle.xb_replay.proofs.Sets.{related-set, same-set, upto-set}
use Rattle.xb_replay.proofs.LookSteps.{output-on, inputs-kept, one-ring}
use Rattle.xb_replay.proofs.looks.look_at_inputs.Goals as goal

pub loop-k-init : goal.loop-k-init
loop-k-init c = record {
  rest = refl;
  looked = (refl, λ j x h. refl);
  seen = (refl, λ j s h. (refl, refl));
  same = λ i s h. refl;
  still = λ i x h. refl;
  rings = λ i s x h. absurd (omega arith);
}

pub look-requires-clause-within : goal.look-requires-clause-within
look-requires-clause-within c =
    let inv = c.loop-k.invariant in
    omega (arith, c.loop-k-test.true, c.len-k-end.ensures, c.requires.count, inv.looked.0)

pub look-requires-clause-pair : goal.look-requires-clause-pair
look-requires-clause-pair c =
    let inv = c.loop-k.invariant in
    let k = c.loop-k.k in
    let o = c.index_mut-sender.result.now in
    let all = c.args.senders.now in
    let below : k < length all.items = omega (arith, c.loop-k-test.true, c.len-k-end.ensures, all.ok.0) in
    λ x. (
      omega arith,
      λ p. subst (λ (z : SenderPost). IsPair z.producer (get_or c.loop-k.gather.consumers k x)) (sym (c.index_mut-sender.ensures.value ∙ inv.same k o (omega arith)))
          (subst (IsPair (get_or all.items k o).producer) (sym (inv.still k x (omega arith))) (c.requires.pairs k o x below)),
    )

pub loop-k-preserved : goal.loop-k-preserved
loop-k-preserved c =
    let inv = c.loop-k.invariant in
    let k = c.loop-k.k in
    let o = c.index_mut-sender.result.now in
    let e = c.look.ensures in
    let xs = c.args.senders.now.items in
    let ys = c.loop-k.senders.items in
    let ds = c.look.new.self.consumers in
    let z = c.look.new.up in
    let below : k < length ys = omega (arith, c.loop-k-test.true, c.len-k-end.ensures, c.args.senders.now.ok.0, inv.seen.0) in
    let rings = upto-set xs ys k o z inv.seen.0 below (λ i (s : SenderPost). (x : Input (On Mark)) → IsRing s.producer (get_or ds i x)) (λ x. one-ring _ _ (e.ring x))
    (λ i s h x.
    let other : i ≢ k = λ w. absurd (omega (arith, h, w)) in
    subst (IsRing (get_or ys i s).producer) (sym (e.consumers.2 i x other)) (inv.rings i s x h)) in
    record {
      rest = inputs-kept c.args.gather.now c.loop-k.gather c.look.new.self inv.rest e.rest;
      looked = (
        e.consumers.0 ∙ inv.looked.0,
        λ i x h.
            ⊎_elim
            (λ same. subst (λ m. received (get_or ds m x) ≡ received (get_or c.args.gather.now.consumers m x)) (sym same) ((e.consumers.1 x).1 ∙ inv.looked.1 k x (subst (λ m. m < length c.args.gather.now.consumers) same h)))
            (λ other. ap received (e.consumers.2 i x other) ∙ inv.looked.1 i x h)
            (cases_eq i k),
      );
      seen = related-set xs ys k o z inv.seen.0 below OutputLooked (λ a b d. output-on a b d) inv.seen.1 c.index_mut-sender.ensures.value (e.up.0, e.up.1.1);
      same = same-set xs ys k o z inv.seen.0 below inv.same;
      still = λ i x h. let other : i ≢ k = λ w. absurd (omega (arith, h, w)) in e.consumers.2 i x other ∙ inv.still i x (omega arith);
      rings = λ i s x h. rings i s h x;
    }
