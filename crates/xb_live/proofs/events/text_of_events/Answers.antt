use Rattle.std.proofs.Common.{◌≡◌, ap, ◌∙◌, [], sym}
use Rattle.std.specs.List.{flat_map}
use Rattle.std.proofs.lemmas.List.Folds.{flat_map-map}
use Rattle.xb_clock.specs.Clocks.{text_in}
use Rattle.xb_live.specs.EventObjects.{line_at, object_by}
use Rattle.xb_live.specs.declared.entry_text.EntryForm.TheVariants.{Events}
use Rattle.xb_live.specs.Events.{event_with}
use Rattle.xb_live.specs.Texts.{event_text}
use Rattle.xb_live.proofs.EventTexts.{no-text, some-events}
use Rattle.xb_clock.proofs.TimesTold.{told-time}
use Rattle.xb_live.proofs.events.text_of_events.Goals as goal

pub returns-then-not-has_events-clause-text : goal.returns-then-not-has_events-clause-text
returns-then-not-has_events-clause-text c = λ clock tells.
    let empty : c.new.result.items ≡ [] = c.new.ensures.items in
    empty ∙ sym (no-text c.args.since clock c.args.line c.args.heard.now c.args.signals.now (sym c.if-not-has_events.ensures))

pub returns-in_default-clause-fault : goal.returns-in_default-clause-fault
returns-in_default-clause-fault c =
    (sym c.get.ensures.value, some-events c.args.signals.now (sym c.if-not-has_events.ensures), c.in_default.ensures.late)

pub returns-clause-text : goal.returns-clause-text
returns-clause-text c = λ clock tells.
    c.in_ok-event_lines.ensures
    ∙ ap (λ time. flat_map (λ signal. line_at time (object_by c.args.line c.args.heard.now.at c.args.heard.now.dialled signal)) c.args.signals.now)
    (told-time c.args.since clock c.args.heard.now.at (text_in c.in-Some.time) tells c.in-Some.ensures.told)
    ∙ sym (flat_map-map (event_text (Events c.args.since) clock) (event_with c.args.line c.args.heard.now) c.args.signals.now)
