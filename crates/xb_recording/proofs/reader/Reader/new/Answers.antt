use Rattle.xb_recording.proofs.RefusedLemmas.{reader_refusals}
use Rattle.xb_recording.proofs.SaidLemmas.{reader_begins}
use Rattle.xb_recording.proofs.reader.Reader.new.Goals as goal

pub returns-clause-begun : goal.returns-clause-begun
returns-clause-begun c =
    λ text later rest. reader_begins c.args.format c.args.wanted.now c.in_ok-source.source c.source_of.new.events.items
    c.new.result.items c.new.ensures.items c.in_ok-source.ensures.begun text later rest

pub returns-clause-refusals : goal.returns-clause-refusals
returns-clause-refusals c =
    λ text refusal k. reader_refusals c.args.format c.args.wanted.now c.in_ok-source.source c.source_of.new.events.items
    c.new.result.items c.new.ensures.items c.in_ok-source.ensures.begun text refusal k
