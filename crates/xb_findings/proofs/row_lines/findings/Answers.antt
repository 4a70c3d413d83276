use Rattle.std.proofs.Common.{[], true, ap, ◌∙◌}
use Rattle.xb_findings.specs.DeckFaults.{faults_of_deck}
use Rattle.xb_findings.specs.Tallies.{Tallied}
use Rattle.xb_findings.proofs.Tellings.{all_told, told_is}
use Rattle.xb_findings.proofs.row_lines.findings.Goals as goal

pub returns : goal.returns
returns c =
    let faults = faults_of_deck c.args.deck.now in
    ap (λ (tally : Tallied). tally.told) c.in_ok-read_lines.ensures.found ∙ told_is true faults ∙ all_told [] faults
