use Rattle.std.proofs.lemmas.Bool.Decides.{Decides-eqb}
use Rattle.std.proofs.lemmas.Slice.Eq.{strip_prefix_is}
use Rattle.xb_rows.proofs.PlainRecords.{header_after}
use Rattle.xb_rows.proofs.plain.after_header.Goals as goal

pub returns : goal.returns
returns c =
    let found = rw c.as_slice.ensures at (strip_prefix_is Decides-eqb c.args.text.now c.as_slice.result.now c.strip_prefix.result c.strip_prefix.ensures.cases) in
    header_after c.args.text.now c.strip_prefix.result found
