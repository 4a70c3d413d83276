use Rattle.std.proofs.Common.{[], append-nil, sym}
use Rattle.std.proofs.lemmas.Result.{IfErr-weaker, on_ok_weaker}
use Rattle.xb_contact.specs.Steps.{Adds}
use Rattle.xb_contact.proofs.StepLemmas.{ends_after, refused_to_end}
use Rattle.xb_csv.specs.Gpiomons.{gpiomon_ends, gpiomon_line_says, gpiomon_state}
use Rattle.xb_csv.proofs.gpiomon.Gpiomon.end.Goals as goal

pub returns-clause-said : goal.returns-clause-said
returns-clause-said c =
    let before = gpiomon_state c.args.self.now in
    let now = gpiomon_state c.take_line.new.self in
    let old = c.args.events.now.items in
    let new = c.take_line.new.events.items in
    on_ok_weaker c.take_line.result
    (λ (said : Adds (gpiomon_line_says before c.args.line.now) old new now).
    ends_after gpiomon_line_says gpiomon_ends c.args.line.now old new new before now c.requires said (sym (append-nil new)))
    c.take_line.ensures.said

pub returns-clause-refused : goal.returns-clause-refused
returns-clause-refused c =
    IfErr-weaker c.take_line.result _ _
    (λ refusal refused other. refused_to_end gpiomon_line_says gpiomon_ends c.args.line.now [] (gpiomon_state c.args.self.now)
    refusal (refused other))
    c.take_line.ensures.refused
