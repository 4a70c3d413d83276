use Rattle.std.proofs.Common.{◌≡◌, ◌∙◌, ap}
use Rattle.xb_clock.specs.Clocks.{text_in, time_at}
use Rattle.xb_clock.proofs.TimesTold.{told-time}
use Rattle.xb_rx.specs.Timed.{key_at, object_text}
use Rattle.xb_rx.proofs.timed.key_line.Goals as goal

pub returns-clause-line : goal.returns-clause-line
returns-clause-line c = λ clock tells.
    let since = c.args.since in
    let ms = c.args.figures.now.start_ms in
    let at : text_in c.in_ok-at.at ≡ time_at since clock ms =
    told-time since clock ms (text_in c.in_ok-at.at) tells c.in_ok-at.ensures.told in
    c.in_ok-line.ensures ∙ ap (λ time. object_text (key_at time c.args.figures.now)) at
