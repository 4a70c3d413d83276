use Rattle.std.proofs.Common.{◌≡◌, [], sym, rules, ◌∙◌}
use Rattle.xb_model.specs.Tapes.{entries_of}
use Rattle.xb_tape.proofs.FirstEntry.{entries_of-none, entries_of-first}
use Rattle.xb_tape.proofs.entries.EachEntryIterator.next.Goals as goal

pub returns-in_err-last-clause-steps : goal.returns-in_err-last-clause-steps
returns-in_err-last-clause-steps c =
    let none : entries_of c.args.self.now.marks.now ≡ []
    = entries_of-none c.args.self.now.marks.now (sym c.first_ending.ensures ∙ c.in_err-last.was) in
    search rules

pub returns-clause-steps : goal.returns-clause-steps
returns-clause-steps c =
    rw (c.split_at.ensures.front, c.split_at.ensures.back)
    (entries_of-first c.args.self.now.marks.now c.in_ok-last.last (sym c.first_ending.ensures ∙ c.in_ok-last.was))

pub returns-clause-goes : goal.returns-clause-goes
returns-clause-goes c = let steps = returns-clause-steps c in search rules
