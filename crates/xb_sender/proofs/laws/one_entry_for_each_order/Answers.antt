use Rattle.xb_model.specs.Keyings.{marks_of}
use Rattle.xb_model.proofs.Entries.{marks_of-last, entries_of-append, entries_of-flat_map}
use Rattle.xb_sender.proofs.laws.one_entry_for_each_order.Goals as goal

pub returns-clause-first : goal.returns-clause-first
returns-clause-first c = λ order marks. entries_of-append (marks_of order) marks (marks_of-last order)

pub returns-clause-all : goal.returns-clause-all
returns-clause-all c = entries_of-flat_map
