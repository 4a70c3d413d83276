use Rattle.std.proofs.Common.{◌≡◌, ◌∙◌, length, refl, arith}
use Rattle.std.proofs.lemmas.Bool.{both_ways, le-leb, leb-true}
use Rattle.xb_parts.proofs.EvenRanges.{few, not_enough}
use Rattle.xb_parts.proofs.planning.are_enough.Goals as goal

pub returns-in-Ok-clause-enough : goal.returns-in-Ok-clause-enough
returns-in-Ok-clause-enough c =
    let ranges = c.in-Ok.ranges.items in
    let plan = c.in-Ok.ensures in
    let count : c.len.result ≡ length ranges = c.len.ensures ∙ c.in-Ok.ranges.ok.0 in (
      λ enough. (ranges, plan.cover, plan.fit, omega (arith, count, leb-true _ _ enough)),
      λ enough.
          let least = few c.args.loads.now c.args.most ranges plan.lines plan.cover plan.full c.args.parts enough in
          le-leb _ _ (omega (arith, count, least)),
    )

pub returns-in-Err-Line-clause-enough : goal.returns-in-Err-Line-clause-enough
returns-in-Err-Line-clause-enough c =
    let plan = c.in-Err-Line.ensures in
    let fault = rw c.in-Err-Line.field-0-is at plan.too_much in (
      λ enough. absurd (both_ways _ refl enough),
      λ enough.
          absurd (not_enough c.args.parts c.in-Err-Line.field-0-0 c.args.loads.now c.args.most plan.lines fault.0 fault.1 enough),
    )
