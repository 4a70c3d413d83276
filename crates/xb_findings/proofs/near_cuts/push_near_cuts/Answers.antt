use Rattle.std.proofs.Common.{refl, arith}
use Rattle.xb_findings.proofs.TextLines.{few_lines}
use Rattle.xb_findings.proofs.near_cuts.push_near_cuts.Goals as goal

pub loop-left-init : goal.loop-left-init
loop-left-init c =
    let few = few_lines c.args.text.now in
    record {
      found = refl;
      few = omega (arith, few);
    }
