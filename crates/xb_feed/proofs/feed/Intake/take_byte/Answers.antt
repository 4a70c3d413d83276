use Rattle.std.proofs.Common.{◌≡◌, ◌∷◌, [], Err, refl, rules}
use Rattle.xb_feed.specs.Feeding.{Follows}
use Rattle.xb_feed.proofs.Fed.{goes_on, halts_late, halts_refused}
use Rattle.xb_feed.proofs.feed.Intake.take_byte.Goals as goal

pub returns-clause-taken : goal.returns-clause-taken
returns-clause-taken g c =
    let reader = c.take_byte.new.self in
    let said = c.take_byte.new.events.items in
    let follows : Follows c.args.self.now.reader reader (c.args.byte ∷ []) said = record {
      takes = search rules;
      refusals = search rules;
      form = search rules;
      place = search rules;
    } in
    goes_on g.C.Follow.rules c.args.self.now c.take_events.new.self reader (c.args.byte ∷ []) said follows c.in_ok-take_events.ensures.reader
    c.in_ok-take_events.ensures.put

pub returns-in-Err-clause-fault : goal.returns-in-Err-clause-fault
returns-in-Err-clause-fault g c =
    halts_refused g.C.Follow.rules c.args.self.now _ (c.args.byte ∷ []) c.in-Err.refusal c.fault_of.result c.fault_of.ensures
    c.in-Err.ensures.refused c.in-Err.ensures.place refl

pub returns-in_err-take_events-clause-fault : goal.returns-in_err-take_events-clause-fault
returns-in_err-take_events-clause-fault g c =
    let fault : c.from_residual.result ≡ Err c.in_err-take_events.field-0.0 = search rules in
    rw fault
    (halts_late g.C.Follow.rules c.args.self.now c.take_events.new.self c.take_byte.new.self (c.args.byte ∷ []) c.take_byte.new.events.items
    c.in_err-take_events.field-0.0 (search rules) c.take_byte.ensures.place c.take_events.ensures.reader
    c.in_err-take_events.ensures.late)
