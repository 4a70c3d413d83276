use Rattle.std.proofs.Common.{◌≡◌, ◌∙◌, ◌+◌, ◌*◌, ◌/◌, ℕ, ap, string_bytes}
use Rattle.std.proofs.lemmas.Result.{IfOk-weaker}
use Rattle.xb_measured.specs.declared.levels.TheConstants.{ZERO_DBM0}
use Rattle.xb_measured.specs.Levels.{tenths_of, tenths_text}
use Rattle.xb_measured.specs.Meters.{mean_text}
use Rattle.xb_measured.proofs.meter.mean_text.Goals as goal

pub returns : goal.returns
returns c =
    let level : c.tenths_of-level.result ≡ tenths_of (2000 * c.args.squares / c.args.samples) =
    c.tenths_of-level.ensures ∙ ap (λ (n : ℕ). tenths_of (2000 * c.args.squares / n)) c.from.ensures in
    IfOk-weaker c.tenths_text.result
    (λ text. string_bytes text ≡ tenths_text c.tenths_of-level.result (ZERO_DBM0 + 300))
    (λ text. string_bytes text ≡ mean_text c.args.samples c.args.squares)
    (λ text e. e ∙ ap (λ (t : ℕ). tenths_text t (ZERO_DBM0 + 300)) level)
    c.tenths_text.ensures
