use Rattle.std.proofs.Common.{◌++◌, ap, decimal, rules, string_bytes, ◌∙◌}
use Rattle.std.proofs.lemmas.Result.{on_ok_weaker}
use Rattle.xb_loop.proofs.BounceTexts.{micros_none, micros_written, pushed}
use Rattle.xb_loop.proofs.bounce_lines.write_micros.Goals as goal

pub returns-then-scale-eq0 : goal.returns-then-scale-eq0
returns-then-scale-eq0 c =
    pushed c.push_str.result _ _ _ _ c.push_str.ensures.bytes
    (micros_none c.args.scale c.args.ticks c.if-scale-eq0.true)

pub returns : goal.returns
returns c =
    on_ok_weaker c.write_thousands.result
    (λ e. e ∙ ap (λ n. string_bytes c.args.said.now ++ decimal n)
    (micros_written c.args.scale c.args.ticks c.from-per_ms.result c.from.result c.from-2.result c.if-scale-eq0.false
    (search rules) (search rules) (search rules)))
    c.write_thousands.ensures
