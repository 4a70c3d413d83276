use Rattle.std.proofs.Common.{ap, append_assoc, string_bytes, ◌∙◌, ◌++◌}
use Rattle.std.proofs.lemmas.Result.{on_ok_weaker}
use Rattle.xb_loop.specs.BounceLines.{answers_noted, bounces_noted, edges_noted, note_of}
use Rattle.xb_loop.proofs.contact.ContactFollowCommon.note.Goals as goal

pub returns : goal.returns
returns c =
    let old = string_bytes c.args.notes.now in
    let first = bounces_noted c.self.inside.common.said c.args.scale c.args.line c.self.inside.tally.bounces in
    let second = edges_noted c.self.inside.common.lossy c.args.line c.self.inside.repeats in
    let third = answers_noted c.args.line c.self.inside.answers in
    on_ok_weaker c.note_answers.result
    (λ noted.
    noted
    ∙ ap (λ text. text ++ third)
    (c.in_ok-note_lost.ensures
    ∙ ap (λ text. text ++ second)
    (c.in_ok-note_bounces.ensures
    ∙ ap (λ bounces. old ++ bounces_noted c.self.inside.common.said c.args.scale c.args.line bounces) c.bounces.ensures))
    ∙ ap (λ text. text ++ third) (append_assoc old first second)
    ∙ append_assoc old (first ++ second) third
    ∙ ap (λ v. old ++ note_of c.args.scale c.args.line v) c.self.view_is)
    c.note_answers.ensures
