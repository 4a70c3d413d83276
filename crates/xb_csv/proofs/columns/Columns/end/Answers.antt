use Rattle.std.proofs.lemmas.Result.{IfErr-weaker, on_ok_weaker}
use Rattle.xb_contact.specs.Steps.{AddsAll}
use Rattle.xb_contact.proofs.StepLemmas.{ends_after, refused_at_end}
use Rattle.xb_csv.specs.Tables.{table_ends, table_line_says, table_state}
use Rattle.xb_csv.proofs.columns.Columns.end.Goals as goal

pub returns-clause-said : goal.returns-clause-said
returns-clause-said c =
    let said = c.take_line.new.events.items in
    let all = c.say_end.new.events.items in
    let now = table_state c.take_line.new.self in
    on_ok_weaker c.say_end.result
    (λ (ended : AddsAll (table_ends now) said all).
    ends_after table_line_says table_ends c.args.line.now c.args.events.now.items said all (table_state c.args.self.now) now
    c.requires c.in_ok-take_line.ensures.said ended)
    c.say_end.ensures.said

pub returns-clause-refused : goal.returns-clause-refused
returns-clause-refused c =
    IfErr-weaker c.say_end.result _ _
    (λ refusal refused other. refused_at_end table_line_says table_ends c.args.line.now c.args.events.now.items
    c.take_line.new.events.items (table_state c.args.self.now) (table_state c.take_line.new.self) refusal c.requires
    c.in_ok-take_line.ensures.said (refused other))
    c.say_end.ensures.refused
