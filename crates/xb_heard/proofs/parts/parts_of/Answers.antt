use Rattle.std.proofs.Common.{arith, sym, ap, ◌∙◌, refl, ◌+◌}
use Rattle.std.proofs.lemmas.List.{take_rest, length-drop}
use Rattle.xb_heard.specs.Parts.{cuts, part_in}
use Rattle.std.proofs.Common.{map}
use Rattle.xb_heard.proofs.CutParts.{parts-more, parts-end, left-some, left-none}
use Rattle.xb_heard.proofs.parts.parts_of.Goals as goal
use Rattle.xb_heard.proofs.parts.parts_of.Goals.{then-not-is_empty+in_ok-push-2, else-not-is_empty}

pub loop-i-preserved : goal.loop-i-preserved
loop-i-preserved c =
    record {
      within = rw take_rest (omega (arith, length-drop (c.in-Some.i + 1) c.loop-i.rest.now));
      parts = parts-more (cuts c.args.limits c.args.cut) c.loop-i.parts.items _ _ c.loop-i.rest.now _ c.in-Some.i _
          c.in_ok-push.ensures.items refl (sym c.in-Some.ensures.place) c.loop-i.invariant.parts;
    }

pub returns : goal.returns
returns c =
    let left = parts-end (cuts c.args.limits c.args.cut) c.loop-i.parts.items c.loop-i.rest.now _
    (sym c.in_default.ensures.place) c.loop-i.invariant.parts in
    elim c.if-not-is_empty.branch [
      | then-not-is_empty+in_ok-push-2 w ↦ left-some c.loop-i.parts.items _ _ c.loop-i.rest.now _
          (ap (λ parts. parts.items) w.parts-is ∙ w.in_ok-push-2.ensures.items) refl w.if-not-is_empty.ensures left
      | else-not-is_empty w ↦ ap (λ parts. map part_in parts.items) w.parts-is
          ∙ left-none c.loop-i.parts.items c.loop-i.rest.now _ w.if-not-is_empty.ensures left
    ]
