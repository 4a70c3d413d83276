use Rattle.std.proofs.Common.{sym, ◌∙◌, arith, rules}
use Rattle.xb_model.proofs.Images.{image_after-none}
use Rattle.xb_model.proofs.States.{states_fresh, state_held, states_more, image_more}
use Rattle.xb_model.proofs.image.image_of.Goals as goal

pub loop-item-init : goal.loop-item-init
loop-item-init g c = record {
  can = tt;
  finite = tt;
  states = states_fresh _ _ _ c.in_ok-states.ensures.lines (λ k d h. let made = c.in_ok-states.ensures.made k d h in search rules);
  all = c.new-all.ensures.items ∙ sym (image_after-none _ _ _);
  empty = c.in_ok-sent.ensures.items;
  room = omega (arith, c.in_ok-sent.ensures.exact);
}

pub loop-item-preserved : goal.loop-item-preserved
loop-item-preserved g c =
    let line = g.S.In.OnLine.line_of in
    let m = g.S.LineStage.machine c.args.stage.now in
    let inv = c.loop-item.invariant in
    let lent = c.get_mut-state.ensures in
    let earlier = c.loop-item.yielded in
    let x = c.in-Some.item in
    let before = c.get_mut-state.result.now in
    let is = state_held line m earlier x c.loop-item.states c.line-line.result before inv.states lent.below c.line-line.ensures (lent.value before) in
    record {
      can = tt;
      finite = tt;
      states = states_more line m earlier x before is c.loop-item.states c.line-line.result c.step.new.state inv.states lent.lines lent.below c.line-line.ensures c.step.ensures.state;
      all = image_more line m earlier x before is c.loop-item.all.items c.step.new.out.items c.append.new.self.items inv.all c.step.ensures.out c.in_ok-append.ensures.items;
      empty = c.in_ok-append.ensures.other_items;
      room = omega (arith, c.in_ok-append.ensures.other_capacity, c.step.ensures.room, inv.room);
    }
