use Rattle.std.proofs.Common.{◌≡◌, ◌+◌, ◌++◌, ◌∷◌, [], arith, length, subst}
use Rattle.std.specs.Prelude.{Ok}
use Rattle.std.proofs.lemmas.List.{length_push}
use Rattle.xb_rows.specs.Scanning.{GivesRead}
use Rattle.xb_parts.proofs.StreamedRows.{HasGiven-more}
use Rattle.xb_parts.proofs.counting.count_rows.Goals as goal

pub loop-preserved : goal.loop-preserved
loop-preserved g c =
    let gives = subst (λ r. GivesRead c.loop.rows (Ok r) c.next_row.new.self) c.in-Some.is c.in_ok-row.ensures in
    let more : length (c.loop.invariant.0 ++ c.in-Some.row ∷ []) ≡ length c.loop.invariant.0 + 1 = length_push c.loop.invariant.0 c.in-Some.row in
    (c.loop.invariant.0 ++ c.in-Some.row ∷ [], omega (arith, more, c.loop.invariant.1), HasGiven-more c.loop.invariant.0 c.args.rows.now c.loop.rows c.next_row.new.self c.in-Some.row c.loop.invariant.2 gives, c.count_row.ensures c.loop.invariant.0 c.loop.invariant.3)
