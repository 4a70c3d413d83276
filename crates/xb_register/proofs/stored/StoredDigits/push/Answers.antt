use Rattle.xb_register.proofs.Patterns.{push_digit, push_stored}
use Rattle.xb_register.proofs.stored.StoredDigits.push.Goals as goal

pub invariant_of-self : goal.invariant_of-self
invariant_of-self c =
    push_stored c.self.inside.patterns.items c.push.new.self.items c.args.pattern c.args.self.now
    c.self.view_is c.push.ensures.items c.self.invariant c.requires.room c.requires.digit

pub returns : goal.returns
returns c =
    push_digit c.self.inside.patterns.items c.push.new.self.items c.args.pattern c.args.self.now
    c.self.view_is c.push.ensures.items
