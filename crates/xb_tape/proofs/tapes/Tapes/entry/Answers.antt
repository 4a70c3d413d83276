use Rattle.std.proofs.Common.{ap, ◌∙◌}
use Rattle.std.proofs.lemmas.Iterator.Consumers.{nth_from_yields_List, YieldsList-from_first}
use Rattle.xb_model.specs.Tapes.{entries_of}
use Rattle.xb_tape.proofs.tapes.Tapes.entry.Goals as goal

pub returns : goal.returns
returns c =
    nth_from_yields_List c.nth.result c.nth.new.self c.args.k c.nth.ensures.ran
    (YieldsList-from_first (λ entry. entry.now) (λ each. entries_of each.marks.now) _ (ap entries_of (c.entries.ensures ∙ c.marks.ensures.value)))
