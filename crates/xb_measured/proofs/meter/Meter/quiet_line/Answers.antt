use Rattle.std.proofs.Common.{◌≡◌, ◌∙◌, ◌++◌, codes, ap, string_bytes}
use Rattle.std.proofs.lemmas.Result.{IfOk-weaker}
use Rattle.xb_measured.specs.Meters.{Metered, quiet_line}
use Rattle.xb_measured.proofs.Meters.{line-of, meter_with}
use Rattle.xb_measured.proofs.meter.Meter.quiet_line.Goals as goal

pub returns : goal.returns
returns c =
    let m : Metered = meter_with c.self.inside.samples c.self.inside.peak c.self.inside.squares in
    let same : m ≡ c.args.self.now = c.self.view_is in
    IfOk-weaker c.format.result
    (λ text. string_bytes text ≡ codes "mfrx: no key is heard in " ++ (string_bytes c.in_ok-seconds.seconds
    ++ (codes " s: " ++ (string_bytes c.in_ok-loudness.loudness ++ codes "\n"))))
    (λ text. string_bytes text ≡ quiet_line c.args.self.now)
    (λ text e. e ∙ line-of m (string_bytes c.in_ok-seconds.seconds) (string_bytes c.in_ok-loudness.loudness)
    c.in_ok-seconds.ensures c.in_ok-loudness.ensures ∙ ap (λ (x : Metered). quiet_line x) same)
    c.format.ensures.ok
