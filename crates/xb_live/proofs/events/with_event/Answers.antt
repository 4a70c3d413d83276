use Rattle.std.proofs.Common.{◌≡◌, ◌++◌, codes, ap, sym, ◌∙◌, append_assoc}
use Rattle.json.specs.Print.{print}
use Rattle.xb_clock.specs.Clocks.{text_in}
use Rattle.xb_live.specs.EventObjects.{object_by}
use Rattle.xb_live.specs.EventTokens.{tokens_in}
use Rattle.xb_live.proofs.EventTexts.{event-line}
use Rattle.xb_live.proofs.events.with_event.Goals as goal

pub returns : goal.returns
returns c =
    let lines = c.args.lines.items in
    let time = text_in c.args.time.now in
    let heard = c.args.heard.now in
    let tokens = tokens_in time (object_by c.args.line heard.at heard.dialled c.args.signal) in
    let before : c.write_event.new.out.before ≡ lines = c.in_ok-write_event.ensures.before ∙ c.new-out.ensures.before in
    let written : c.write_event.new.out.tokens ≡ tokens =
    c.in_ok-write_event.ensures.tokens ∙ ap (λ first. first ++ tokens) c.new-out.ensures.tokens in
    c.in_ok-push.ensures.items
    ∙ ap (λ items. items ++ codes "\n") (c.into_inner-lines.ensures.items
    ∙ ap (λ first. first ++ print c.write_event.new.out.tokens) before ∙ ap (λ ts. lines ++ print ts) written)
    ∙ append_assoc lines (print tokens) (codes "\n")
    ∙ ap (λ text. lines ++ text) (event-line time c.args.line heard.at heard.dialled c.args.signal (sym c.if-not-is_event.ensures))
