use Rattle.std.proofs.Common.{rules, ◌≤◌, ◌++◌, ◌∷◌, [], cond, map, sym, ap, ◌∙◌, subst, append-nil}
use Rattle.xb_model.specs.Rows.{LoopRow}
use Rattle.xb_flow.specs.declared.flow.Flow.TheVariants.{Item}
use Rattle.xb_posts.specs.declared.filling.TheConstants.{AHEAD}
use Rattle.xb_posts.proofs.Fillings.{fills-fault, fills-row}
use Rattle.xb_posts.proofs.Slices.{rows_push}
use Rattle.xb_posts.proofs.filling.fill.Goals as goal

-- the row was heard, and is held
pub loop-source-preserved-then-hears : goal.loop-source-preserved-then-hears
loop-source-preserved-then-hears g c =
    let inv = c.loop-source.invariant in
    let p = c.push_reserved.ensures in
    let row : LoopRow = c.in-Ok-Some.row in
    record {
      room = subst (λ n. AHEAD ≤ n) (sym p.capacity) inv.room;
      few = search rules;
      rows = rw p.items (rows_push c.loop-source.held.items row inv.rows);
      fills = fills-row _ _ _ _ _ _ inv.fills row _ c.hears.result _ _ (rw c.in-Ok-Some.field-0-is at c.in-Ok-Some.ensures) c.hears.ensures
          (p.items ∙ ap (λ b. c.loop-source.held.items ++ map Item (cond b (row ∷ []) [])) (sym c.if-hears.true));
    }

-- it was not
pub loop-source-preserved : goal.loop-source-preserved
loop-source-preserved g c =
    let inv = c.loop-source.invariant in
    let row : LoopRow = c.in-Ok-Some.row in
    record {
      room = inv.room;
      few = inv.few;
      rows = inv.rows;
      fills = fills-row _ _ _ _ _ _ inv.fills row _ c.hears.result _ _ (rw c.in-Ok-Some.field-0-is at c.in-Ok-Some.ensures) c.hears.ensures
          (sym (append-nil _) ∙ ap (λ b. c.loop-source.held.items ++ map Item (cond b (row ∷ []) [])) (sym c.if-hears.false));
    }

pub returns-in-Err-clause-fills : goal.returns-in-Err-clause-fills
returns-in-Err-clause-fills g c = fills-fault _ _ _ _ _ _ c.loop-source.invariant.fills c.in-Err.fault _ c.in-Err.ensures
