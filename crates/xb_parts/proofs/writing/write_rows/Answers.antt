use Rattle.std.proofs.Common.{◌≡◌, ◌+◌, ◌++◌, ◌∷◌, [], arith, length, refl, sym, subst}
use Rattle.std.proofs.lemmas.List.{length_push}
use Rattle.std.specs.Prelude.{Ok}
use Rattle.xb_parts.specs.PartDecks.{records_of_part}
use Rattle.xb_rows.specs.Scanning.{GivesRead}
use Rattle.xb_parts.proofs.StreamedRows.{HasGiven-more, HasGiven-start}
use Rattle.xb_parts.proofs.WrittenParts.{Gets-as, Gets-none, Gets-trans, records_of_part-append}
use Rattle.xb_parts.proofs.writing.write_rows.Goals as goal

pub loop-preserved : goal.loop-preserved
loop-preserved g c =
    let gives = subst (λ r. GivesRead c.loop.rows (Ok r) c.next_row.new.self) c.in-Some.is c.in_ok-row.ensures in
    let gets = Gets-trans (records_of_part c.args.ranges.now c.loop.invariant.0) (records_of_part c.args.ranges.now (c.in-Some.row ∷ [])) (g.D.PartDecks.contents c.args.decks.now)
    (g.D.PartDecks.contents c.loop.decks) (g.D.PartDecks.contents c.write_to_parts.new.decks) c.loop.invariant.4 c.in_default.ensures in
    let more : length (c.loop.invariant.0 ++ c.in-Some.row ∷ []) ≡ length c.loop.invariant.0 + 1 = length_push c.loop.invariant.0 c.in-Some.row in (
      c.loop.invariant.0 ++ c.in-Some.row ∷ [],
      omega (arith, more, c.loop.invariant.1),
      HasGiven-more c.loop.invariant.0 c.args.rows.now c.loop.rows c.next_row.new.self c.in-Some.row c.loop.invariant.2 gives,
      c.count_row.ensures c.loop.invariant.0 c.loop.invariant.3,
      Gets-as _ _ (g.D.PartDecks.contents c.args.decks.now) (g.D.PartDecks.contents c.write_to_parts.new.decks)
          (λ i. sym (records_of_part-append c.args.ranges.now c.loop.invariant.0 (c.in-Some.row ∷ []) i)) gets,
    )

pub loop-init : goal.loop-init
loop-init g c = (
  [],
  refl,
  HasGiven-start c.args.rows.now,
  c.in_ok-loads.ensures.loads,
  Gets-none (g.D.PartDecks.contents c.args.decks.now),
)
