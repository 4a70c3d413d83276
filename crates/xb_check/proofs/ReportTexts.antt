-- That the text of what is told one after the other is the report.
use Rattle.std.proofs.Common.{◌≡◌, ◌∙◌, ℕ, Bool, List, ◌++◌, sym, ap}
use Rattle.std.specs.List.{flat_map}
use Rattle.std.proofs.Math.Path.{fun_ext}
use Rattle.xb_findings.specs.declared.finding.What.{What}
use Rattle.xb_findings.specs.DeckFaults.{faults_of_deck}
use Rattle.xb_findings.specs.Findings.{Found}
use Rattle.xb_findings.specs.Tallies.{nothing_told, with_all}
use Rattle.xb_findings.specs.Told.{each_kind, told}
use Rattle.xb_findings.proofs.Tellings.{told_is, untold_is}
use Rattle.xb_check.specs.Judged.{judged}
use Rattle.xb_check.specs.Reports.{found_text, more_text, report_text, told_of, told_text}
use Rattle.xb_check.specs.TallyTexts.{more_of, text_of_tally}

-- the text of what is told of a list
pub text_is : (name : List ℕ) (all : Bool) (found : List Found)
    → text_of_tally name (with_all (nothing_told all) found) ≡ told_text name all found
text_is name all found =
    ap (λ those. flat_map (found_text name) those ++ flat_map (more_of name (with_all (nothing_told all) found)) each_kind)
    (told_is all found)
    ∙ ap (λ (more : What → List ℕ). flat_map (found_text name) (told all found) ++ flat_map more each_kind)
    (fun_ext (λ wrong. ap (λ n. more_text name n wrong) (untold_is all found wrong)))

-- the report of a text
pub report_is : (name : List ℕ) (all : Bool) (deck : List ℕ)
    → report_text name all deck
    ≡ text_of_tally name (with_all (nothing_told all) (faults_of_deck deck))
    ++ text_of_tally name (with_all (nothing_told all) (told_of (judged deck) deck))
unfolding report_text
report_is name all deck = sym (ap (λ text. text ++ text_of_tally name (with_all (nothing_told all) (told_of (judged deck) deck)))
    (text_is name all (faults_of_deck deck))
    ∙ ap (λ text. told_text name all (faults_of_deck deck) ++ text) (text_is name all (told_of (judged deck) deck)))
