use Rattle.std.proofs.Common.{refl, inl, inr}
use Rattle.std.specs.Prelude.{string_bytes}
use Rattle.std.proofs.KnownBytes.{Keeps-trans}
use Rattle.xb_parts.specs.Splits.{IsTable}
use Rattle.xb_parts.proofs.Refusals.{begun_ended, list_left}
use Rattle.xb_parts.proofs.SplitDecks.{has_table, is_split, kept_then}
use Rattle.xb_parts.proofs.splitting.make_and_name.Goals as goal

pub returns-in-Err-clause-made : goal.returns-in-Err-clause-made
returns-in-Err-clause-made g c parts ready =
    let deck = g.F.SplitFiles.bytes c.args.files.now c.args.request.now.big.now in
    let taken = has_table deck c.args.plan.now.table.items c.args.rows.now IsTable ready.opened ready.plan.counted.0 in
    let folder = c.args.request.now.folder.now in
    let files = c.make_parts.new.files in (
      c.in-Err.ensures.fault deck parts taken,
      list_left deck (g.F.SplitFiles.fresh c.args.files.now) parts c.in-Err.fault (g.F.SplitFiles.named files folder)
          (g.F.SplitFiles.listed c.args.files.now folder) (g.F.SplitFiles.listed files folder)
          (c.in-Err.ensures.list folder),
    )

pub name-requires : goal.name-requires
name-requires g c =
    let deck = g.F.SplitFiles.bytes c.args.files.now c.args.request.now.big.now in
    let whole = is_split deck c.requires.ready.0 (g.F.SplitFiles.fresh c.args.files.now) (g.F.Parts.PartDecks.contents c.in-Ok.parts) (g.F.Parts.PartDecks.contents c.in-Ok.parts) c.args.plan.now.table.items c.args.plan.now.loads
    c.args.plan.now.ranges.items (string_bytes c.args.plan.now.list) c.args.rows.now c.requires.ready.1 c.in-Ok.ensures.made (λ i. refl) in
    record {
      whole = rw (c.in-Ok.ensures.fresh, c.in-Ok.ensures.deck, c.deref.ensures) (c.requires.ready.0, whole);
      kept = c.in-Ok.ensures.kept;
    }

pub returns-in-Err-name-clause-none_left : goal.returns-in-Err-name-clause-none_left
returns-in-Err-name-clause-none_left g c =
    begun_ended c.args.request.now.folder.now (g.F.SplitFiles.unfinished c.args.files.now)
    (g.F.SplitFiles.unfinished c.make_parts.new.files) (g.F.SplitFiles.unfinished c.name.new.self)
    c.in-Ok.ensures.begun c.in-Err-name.ensures.ended

pub returns-in-Err-name-clause-made : goal.returns-in-Err-name-clause-made
returns-in-Err-name-clause-made g c parts ready =
    let deck = g.F.SplitFiles.bytes c.args.files.now c.args.request.now.big.now in
    let old = g.F.SplitFiles.listed c.args.files.now c.args.request.now.folder.now in
    let mid = g.F.SplitFiles.listed c.make_parts.new.files c.args.request.now.folder.now in
    let new = g.F.SplitFiles.listed c.name.new.self c.args.request.now.folder.now in
    let none = c.in-Ok.ensures.list c.args.request.now.folder.now in (
      tt,
      elim (c.in-Err-name.ensures.maybe c.args.request.now.folder.now) [
        | inl kept ↦ inl (Keeps-trans old mid new none kept)
        | inr named ↦ inr (
          c.deref.result.now,
          rw c.deref.ensures (is_split deck parts (g.F.SplitFiles.fresh c.args.files.now) (g.F.Parts.PartDecks.contents c.in-Ok.parts)
              (g.F.SplitFiles.named c.name.new.self c.args.request.now.folder.now) c.args.plan.now.table.items c.args.plan.now.loads c.args.plan.now.ranges.items
              (string_bytes c.args.plan.now.list) c.args.rows.now ready c.in-Ok.ensures.made named.decks),
          kept_then old mid new c.deref.result.now none named.listed,
        )
      ],
    )

pub returns-in-Ok-name-clause-none_left : goal.returns-in-Ok-name-clause-none_left
returns-in-Ok-name-clause-none_left g c =
    begun_ended c.args.request.now.folder.now (g.F.SplitFiles.unfinished c.args.files.now)
    (g.F.SplitFiles.unfinished c.make_parts.new.files) (g.F.SplitFiles.unfinished c.name.new.self)
    c.in-Ok.ensures.begun c.in-Ok-name.ensures.ended

pub returns-in-Ok-name-clause-made : goal.returns-in-Ok-name-clause-made
returns-in-Ok-name-clause-made g c parts ready =
    let deck = g.F.SplitFiles.bytes c.args.files.now c.args.request.now.big.now in
    let old = g.F.SplitFiles.listed c.args.files.now c.args.request.now.folder.now in
    let mid = g.F.SplitFiles.listed c.make_parts.new.files c.args.request.now.folder.now in
    let new = g.F.SplitFiles.listed c.name.new.self c.args.request.now.folder.now in
    let none = c.in-Ok.ensures.list c.args.request.now.folder.now in
    let named = c.in-Ok-name.ensures.named in (
      c.deref.result.now,
      rw c.deref.ensures (is_split deck parts (g.F.SplitFiles.fresh c.args.files.now) (g.F.Parts.PartDecks.contents c.in-Ok.parts)
          (g.F.SplitFiles.named c.name.new.self c.args.request.now.folder.now) c.args.plan.now.table.items c.args.plan.now.loads c.args.plan.now.ranges.items
          (string_bytes c.args.plan.now.list) c.args.rows.now ready c.in-Ok.ensures.made named.decks),
      kept_then old mid new c.deref.result.now none named.listed,
    )
