use Rattle.std.proofs.Common.{[], ◌∷◌, subst, sym}
use Rattle.std.proofs.lemmas.Result.{IfErr-weaker}
use Rattle.xb_contact.specs.declared.event.Refusal.{Refusal}
use Rattle.xb_recording.specs.declared.reader.Source.{Source}
use Rattle.xb_recording.specs.Says.{SourceRefused}
use Rattle.xb_recording.proofs.RefusedLemmas.{head_ends}
use Rattle.xb_recording.proofs.reader.end_source.Goals as goal

pub returns-in-Vcd-clause-refused : goal.returns-in-Vcd-clause-refused
returns-in-Vcd-clause-refused c =
    IfErr-weaker c.end.result _ _
    (λ refusal refused other wanted.
    let P : Source → Type 0 = λ s. SourceRefused wanted s (c.args.line.now ∷ []) [] refusal in
    subst P (sym c.in-Vcd.is) (refused other))
    c.end.ensures.refused

pub returns-in-Columns-clause-refused : goal.returns-in-Columns-clause-refused
returns-in-Columns-clause-refused c =
    IfErr-weaker c.end-in-Columns.result _ _
    (λ refusal refused other wanted.
    let P : Source → Type 0 = λ s. SourceRefused wanted s (c.args.line.now ∷ []) [] refusal in
    subst P (sym c.in-Columns.is) (refused other))
    c.end-in-Columns.ensures.refused

pub returns-in-Gpiomon-clause-refused : goal.returns-in-Gpiomon-clause-refused
returns-in-Gpiomon-clause-refused c =
    IfErr-weaker c.end-in-Gpiomon.result _ _
    (λ refusal refused other wanted.
    let P : Source → Type 0 = λ s. SourceRefused wanted s (c.args.line.now ∷ []) [] refusal in
    subst P (sym c.in-Gpiomon.is) (refused other))
    c.end-in-Gpiomon.ensures.refused

pub returns-in-WavHead-clause-refused : goal.returns-in-WavHead-clause-refused
returns-in-WavHead-clause-refused c = λ other wanted.
    let P : Refusal → Type 0 = λ refusal. SourceRefused wanted c.args.source.now (c.args.line.now ∷ []) [] refusal in
    subst P (sym c.end_head.ensures.only)
    (head_ends wanted c.args.source.now c.in-WavHead.head (c.args.line.now ∷ []) c.in-WavHead.is c.end_head.ensures.ended)

pub returns-in-Sound-clause-refused : goal.returns-in-Sound-clause-refused
returns-in-Sound-clause-refused c =
    IfErr-weaker c.end-in-Sound.result _ _
    (λ refusal refused other wanted.
    let P : Source → Type 0 = λ s. SourceRefused wanted s (c.args.line.now ∷ []) [] refusal in
    subst P (sym c.in-Sound.is) (refused other))
    c.end-in-Sound.ensures.refused
