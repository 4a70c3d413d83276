use Rattle.std.proofs.Common.{rules, ◌≡◌, ◌∙◌, ◌<◌, ◌≤◌, unsigned_abs, ℕ, ◌+◌, ◌-◌, ap, sym, arith, FitsSigned}
use Rattle.std.specs.Prelude.{max}
use Rattle.std.specs.Int.{w32}
use Rattle.xb_signal.specs.Steadies.{mains_sample, peak_from}
use Rattle.xb_signal.proofs.Steadies.{peak-begun, peak-next, peak-over}
use Rattle.xb_signal.proofs.steady.mains_peak.Goals as goal

pub loop-n-init : goal.loop-n-init
loop-n-init c = record { peak = peak-begun c.args.amplitude; small = omega arith }

pub loop-n-preserved : goal.loop-n-preserved
loop-n-preserved c =
    let n = c.loop-n.n in
    let below : n < 400 = search rules in
    let s = c.mains_sample-sample.result in
    let fits : FitsSigned w32 s = search rules in
    let size : c.unsigned_abs.result ≡ unsigned_abs (mains_sample c.args.amplitude n) = search rules in
    let greater : c.max-peak.result ≡ max c.loop-n.peak (unsigned_abs (mains_sample c.args.amplitude n)) =
    search rules in
    record {
      peak =
          ap (λ (peak : ℕ). max peak (peak_from c.args.amplitude (n + 1) (400 - (n + 1)))) greater
          ∙ peak-next c.args.amplitude n c.loop-n.peak below
          ∙ c.loop-n.invariant.peak;
      small = search rules;
    }

pub returns-clause-value : goal.returns-clause-value
returns-clause-value c =
    let over : 400 ≤ c.loop-n.n = search rules in
    sym (peak-over c.args.amplitude c.loop-n.n c.loop-n.peak over) ∙ c.loop-n.invariant.peak
