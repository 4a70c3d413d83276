use Rattle.std.proofs.Common.{◌≡◌, ◌∙◌, ◌*◌, ℕ, ap, string_bytes}
use Rattle.std.proofs.lemmas.Result.{IfOk-weaker}
use Rattle.xb_measured.specs.declared.levels.TheConstants.{ZERO_DBM0}
use Rattle.xb_measured.specs.Levels.{tenths_of, tenths_text}
use Rattle.xb_measured.specs.Meters.{peak_text}
use Rattle.xb_measured.proofs.meter.peak_text.Goals as goal

pub returns : goal.returns
returns c =
    let level : c.tenths_of-level.result ≡ tenths_of (c.args.peak * c.args.peak) =
    c.tenths_of-level.ensures ∙ ap (λ (n : ℕ). tenths_of n) c.from.ensures in
    IfOk-weaker c.tenths_text.result
    (λ text. string_bytes text ≡ tenths_text c.tenths_of-level.result ZERO_DBM0)
    (λ text. string_bytes text ≡ peak_text c.args.peak)
    (λ text e. e ∙ ap (λ (t : ℕ). tenths_text t ZERO_DBM0) level)
    c.tenths_text.ensures
