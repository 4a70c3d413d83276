use Rattle.std.proofs.Common.{◌≡◌, ◌∙◌, ◌++◌, codes, string_bytes}
use Rattle.std.proofs.lemmas.Result.{IfOk-weaker}
use Rattle.xb_measured.specs.Meters.{loudness_text}
use Rattle.xb_measured.proofs.Meters.{not-silent}
use Rattle.xb_measured.proofs.meter.loudness_text.Goals as goal

pub returns : goal.returns
returns c =
    IfOk-weaker c.format.result
    (λ text. string_bytes text ≡ codes "peak " ++ (string_bytes c.in_ok-peak.peak ++ (codes " dBm0, mean "
    ++ (string_bytes c.in_ok-mean.mean ++ codes " dBm0"))))
    (λ text. string_bytes text ≡ loudness_text c.args.samples c.args.peak c.args.squares)
    (λ text e. e ∙ not-silent c.args.samples c.args.peak c.args.squares (string_bytes c.in_ok-peak.peak)
    (string_bytes c.in_ok-mean.mean) c.if-peak-eq0.false c.in_ok-peak.ensures c.in_ok-mean.ensures)
    c.format.ensures.ok
