-- What is told by how many of each kind were counted.
use Rattle.std.specs.Prelude.{ℕ, List, ◌++◌}
use Rattle.std.specs.List.{flat_map}
use Rattle.xb_findings.specs.declared.finding.What.{What}
use Rattle.xb_check.specs.Reports.{found_text, more_text}
use Rattle.xb_findings.specs.Tallies.{Tallied, untold_of}
use Rattle.xb_findings.specs.Told.{each_kind}

abbrev pub more_of : List ℕ → Tallied → What → List ℕ
more_of name tally wrong = more_text name (untold_of wrong tally) wrong

abbrev pub text_of_tally : List ℕ → Tallied → List ℕ
text_of_tally name tally = flat_map (found_text name) tally.told ++ flat_map (more_of name tally) each_kind
