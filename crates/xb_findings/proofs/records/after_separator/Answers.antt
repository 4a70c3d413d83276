use Rattle.std.proofs.Common.{◌+◌, ◌∙◌, ap}
use Rattle.std.proofs.lemmas.List.{take_rest}
use Rattle.xb_findings.specs.Records.{after_place}
use Rattle.xb_findings.proofs.records.after_separator.Goals as goal

pub returns-in-Some : goal.returns-in-Some
returns-in-Some c =
    take_rest c.args.text.now (c.in-Some.n + 1) ∙ ap (λ place. after_place c.args.text.now place) c.in-Some.ensures
