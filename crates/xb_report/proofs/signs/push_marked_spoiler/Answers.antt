use Rattle.std.proofs.Common.{List, ℕ, ◌++◌, ap, arith, codes, string_bytes}
use Rattle.xb_report.specs.Cells.{place_text}
use Rattle.xb_report.proofs.Marks.{marked-fault}
use Rattle.xb_report.proofs.Pushed.{as_defined}
use Rattle.xb_report.proofs.signs.push_marked_spoiler.Goals as goal

pub returns : goal.returns
returns c =
    let spoiler = c.args.spoiler in
    let fault = marked-fault c.args.limits spoiler.fault spoiler.run.ms (omega arith) (omega arith) (omega arith) (omega arith) in
    as_defined c.push_spoiler_with.result (string_bytes c.args.out.now) _ _ _ c.push_spoiler_with.ensures
    (ap (λ (t : List ℕ). t ++ codes " at " ++ place_text spoiler.run) fault)
