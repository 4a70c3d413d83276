use Rattle.std.proofs.Common.{◌≡◌, [], List, append-nil, subst, sym}
use Rattle.std.proofs.lemmas.Result.{IfErr-weaker, on_ok_weaker}
use Rattle.std.specs.Prelude.{Ok, Result}
use Rattle.xb_contact.specs.declared.event.Event.{Event}
use Rattle.xb_contact.specs.declared.event.Refusal.{Refusal}
use Rattle.xb_contact.specs.Steps.{AddsAll}
use Rattle.xb_contact.proofs.StepLemmas.{ends_after, refused_at_end}
use Rattle.xb_vcd.specs.VcdChanges.{vcd_state}
use Rattle.xb_vcd.specs.VcdTexts.{end_says, vcd_ends, vcd_line_says}
use Rattle.xb_vcd.proofs.vcd.Vcd.end.Goals as goal

pub returns-clause-said : goal.returns-clause-said
returns-clause-said c =
    let new = c.take_line.new.events.items in
    let now = vcd_state c.take_line.new.self in
    let P : Result (List Event) Refusal → Type 0 = λ left. AddsAll left new new in
    on_ok_weaker c.end_at.result
    (λ (ended : end_says now.place ≡ Ok []).
    ends_after vcd_line_says vcd_ends c.args.line.now c.args.events.now.items new new (vcd_state c.args.self.now) now
    c.requires c.in_ok-take_line.ensures.said (subst P (sym ended) (sym (append-nil new))))
    c.end_at.ensures.said

pub returns-clause-refused : goal.returns-clause-refused
returns-clause-refused c =
    IfErr-weaker c.end_at.result _ _
    (λ refusal refused other. refused_at_end vcd_line_says vcd_ends c.args.line.now c.args.events.now.items
    c.take_line.new.events.items (vcd_state c.args.self.now) (vcd_state c.take_line.new.self) refusal c.requires
    c.in_ok-take_line.ensures.said refused)
    c.end_at.ensures.refused
