use Rattle.std.proofs.Common.{◌∙◌, ap}
use Rattle.std.specs.List.{flat_map}
use Rattle.xb_clock.specs.Clocks.{text_in}
use Rattle.xb_live.specs.Objects.{line_of, timed_mark}
use Rattle.xb_live.specs.TimedEntries.{TimedEntry, told_with}
use Rattle.xb_clock.proofs.TimesTold.{told-time}
use Rattle.xb_live.proofs.entry_text.text_of_mark_objects.Goals as goal

pub returns-clause-text : goal.returns-clause-text
returns-clause-text c = λ clock tells.
    let told : TimedEntry = told_with c.args.line c.args.number c.args.entry.now c.args.heard.now in
    let times = c.in-Some.times in
    c.in_ok-mark_object_lines.ensures
    ∙ ap (λ time. flat_map (λ mark. line_of (timed_mark time told.line told.number told.at mark)) told.marks) (told-time c.args.since clock told.at (text_in times.at) tells c.in-Some.ensures.told.at)
