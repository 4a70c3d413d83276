use Rattle.std.proofs.Common.{◌++◌, sym, ap, ◌∙◌, map}
use Rattle.xb_deck.specs.Deck.{deck_parts}
use Rattle.xb_findings.specs.DeckFaults.{faults_of_rows}
use Rattle.xb_findings.specs.Kept.{kept_line_of, kept_of_deck}
use Rattle.xb_findings.specs.Places.{faults_of_table}
use Rattle.xb_findings.specs.Tallies.{nothing_told, with_all}
use Rattle.xb_findings.proofs.Tellings.{with_all-append}
use Rattle.xb_findings.proofs.TakenLines.{faults_are}
use Rattle.xb_findings.proofs.row_lines.read_lines.Goals as goal

pub returns : goal.returns
returns c =
    let deck = c.args.deck.now in
    let rows = faults_of_rows deck (deck_parts deck) in
    record {
      found =
          c.in_ok-read_rows_of.ensures.found ∙ ap (λ tally. with_all tally rows) c.in_ok-tally.ensures
          ∙ sym (with_all-append (nothing_told c.args.all) (faults_of_table deck) rows)
          ∙ sym (ap (λ faults. with_all (nothing_told c.args.all) faults) (faults_are deck c.requires));
      kept =
          c.in_ok-read_rows_of.ensures.kept
          ∙ ap (λ items. map kept_line_of items ++ kept_of_deck deck) c.new-kept.ensures.items;
    }
