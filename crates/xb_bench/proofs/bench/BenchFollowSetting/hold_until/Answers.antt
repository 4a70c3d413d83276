use Rattle.std.proofs.Common.{ap}
use Rattle.std.specs.List.{flat_map}
use Rattle.xb_report.proofs.Pushed.{as_defined}
use Rattle.xb_bench.specs.Benches.{told_by, told_text}
use Rattle.xb_bench.proofs.bench.BenchFollowSetting.hold_until.Goals as goal

pub returns-clause-text : goal.returns-clause-text
returns-clause-text c =
    as_defined c.push_any.result _ _ _ _ c.push_any.ensures
    (ap (λ said. flat_map told_text (told_by c.args.self.now.setting c.args.line c.args.self.now.scale said))
    c.hold-said.ensures.said)
