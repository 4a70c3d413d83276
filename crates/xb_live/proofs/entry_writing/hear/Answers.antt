use Rattle.std.proofs.Common.{◌++◌, ◌∷◌, [], sym, subst}
use Rattle.xb_live.specs.Writing.{AreSignals, Hears}
use Rattle.xb_live.proofs.entry_writing.hear.Goals as goal

pub returns-in-Objects-clause-heard : goal.returns-in-Objects-clause-heard
returns-in-Objects-clause-heard c = λ table rows before.
    subst (λ form. Hears form table c.take.new.self (rows ++ c.args.row ∷ [])) (sym c.in-Objects.is)
    (c.take.ensures.heard table rows (subst (λ form. Hears form table c.args.hearings.now rows) c.in-Objects.is before))

pub returns-in-MarkObjects-clause-heard : goal.returns-in-MarkObjects-clause-heard
returns-in-MarkObjects-clause-heard c = λ table rows before.
    subst (λ form. Hears form table c.take-in-MarkObjects.new.self (rows ++ c.args.row ∷ [])) (sym c.in-MarkObjects.is)
    (c.take-in-MarkObjects.ensures.heard table rows (subst (λ form. Hears form table c.args.hearings.now rows) c.in-MarkObjects.is before))

pub returns-in-Events-clause-heard : goal.returns-in-Events-clause-heard
returns-in-Events-clause-heard c = λ table rows before.
    subst (λ form. Hears form table c.take-in-Events.new.self (rows ++ c.args.row ∷ [])) (sym c.in-Events.is)
    (c.take-in-Events.ensures.heard table rows (subst (λ form. Hears form table c.args.hearings.now rows) c.in-Events.is before))

pub returns-in-Events-clause-signals : goal.returns-in-Events-clause-signals
returns-in-Events-clause-signals c = λ table rows before.
    subst (λ form. AreSignals form table rows c.args.row c.take-in-Events.result.items) (sym c.in-Events.is)
    (c.take-in-Events.ensures.signals table rows (subst (λ form. Hears form table c.args.hearings.now rows) c.in-Events.is before))
