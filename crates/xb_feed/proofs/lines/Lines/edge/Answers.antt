use Rattle.xb_feed.proofs.lines.Lines.edge.Goals as goal

-- what `edge_line` says of the scale and the wires that are there
pub returns-clause-can : goal.returns-clause-can
returns-clause-can g c =
    rw (c.in-Some.is, ← c.deref_mut.ensures.value, ← c.unwrap_or-first.ensures) c.edge_line.ensures.can
