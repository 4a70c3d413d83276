use Rattle.std.proofs.Common.{ap, append-nil, sym, ◌∙◌}
use Rattle.std.specs.List.{flat_map}
use Rattle.xb_report.proofs.Pushed.{as_defined}
use Rattle.xb_bench.specs.Benches.{told_left, told_text}
use Rattle.xb_bench.proofs.bench.push_left.Goals as goal

pub returns-in-Some : goal.returns-in-Some
returns-in-Some c =
    as_defined c.push_told.result _ _ _ _ c.push_told.ensures
    (sym (append-nil _)
    ∙ ap (λ left. flat_map told_text (told_left c.args.setting c.args.line c.args.scale left)) (sym c.in-Some.is))
