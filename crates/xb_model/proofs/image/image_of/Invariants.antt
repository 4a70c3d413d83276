use Rattle.std.proofs.Common.{◌≡◌, ◌≤◌, [], vec_capacity}
use Rattle.xb_model.specs.Image.{image}
use Rattle.xb_model.specs.States.{AreStates}
use Rattle.xb_model.specs.declared.stage.TheConstants.{OUTPUT_ROOM}
use Rattle.xb_model.proofs.image.image_of.Given as goal

abbrev pub invariant-loop-item : goal.invariant-loop-item
invariant-loop-item g l = record {
  can : (goal.iterator-loop-item g).can_next l.item-iterator;
  finite : (goal.iterator-loop-item g).is_finite l.item-iterator;
  states : AreStates g.S.In.OnLine.line_of (g.S.LineStage.machine l.stage) l.states l.yielded;
  all : l.all.items ≡ image g.S.In.OnLine.line_of (g.S.LineStage.machine l.stage) l.yielded;
  empty : l.sent.items ≡ [];
  room : OUTPUT_ROOM ≤ vec_capacity l.sent;
}
