use Rattle.std.proofs.Common.{◌∙◌, ap}
use Rattle.xb_clock.specs.Clocks.{text_in, time_at}
use Rattle.xb_live.specs.Objects.{line_of, timed_object}
use Rattle.xb_live.specs.TimedEntries.{TimedEntry, told_with}
use Rattle.xb_clock.proofs.TimesTold.{told-time}
use Rattle.xb_live.proofs.entry_text.text_of_object.Goals as goal

pub returns-clause-text : goal.returns-clause-text
returns-clause-text c = λ clock tells.
    let told : TimedEntry = told_with c.args.line c.args.number c.args.entry.now c.args.heard.now in
    let times = c.in-Some.times in
    c.in_ok-object_line.ensures
    ∙ ap (λ from. line_of (timed_object from (text_in times.at) told)) (told-time c.args.since clock told.began (text_in times.from) tells c.in-Some.ensures.told.from)
    ∙ ap (λ at. line_of (timed_object (time_at c.args.since clock told.began) at told)) (told-time c.args.since clock told.at (text_in times.at) tells c.in-Some.ensures.told.at)
