use Rattle.std.proofs.Common.{codes, refl, string_bytes}
use Rattle.std.proofs.lemmas.Result.{on_ok_weaker}
use Rattle.xb_loop.proofs.BounceTexts.{bounces_written, pushed}
use Rattle.xb_loop.proofs.bounce_lines.say_bounces.Goals as goal

pub returns : goal.returns
returns c =
    on_ok_weaker c.push_str.result
    (bounces_written (string_bytes c.args.said.now) (string_bytes c.write.new.self) (string_bytes c.write_micros.new.said)
    (string_bytes c.push_str.new.self) c.args.scale c.args.line c.get-number.result c.args.bounces
    c.get-number.ensures.value c.in_ok-write.ensures.bytes c.in_ok-write_micros.ensures)
    (pushed c.push_str.result (string_bytes c.write_micros.new.said) (string_bytes c.push_str.new.self) (codes " us\n")
    (codes " us\n") c.push_str.ensures.bytes refl)
