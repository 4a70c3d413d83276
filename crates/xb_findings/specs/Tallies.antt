-- How what was found is told, one after the other.
use Rattle.std.specs.Prelude.{ℕ, ◌+◌, ◌-◌, ◌||◌, nat_lt, min, List, [], ◌∷◌, ◌++◌, Bool, if◌then◌else◌, map, replicate, get_or, set}
use Rattle.xb_findings.specs.declared.finding.What.{What}
use Rattle.xb_findings.specs.declared.tally.Tally.{Tally}
use Rattle.xb_findings.specs.declared.tally.TheConstants.{MOST_COUNTED, TOLD_OF_A_KIND}
use Rattle.xb_findings.specs.Findings.{Found, found_of}
use Rattle.xb_findings.specs.Told.{kind_of}

-- whether all are told, those that are, and how many of each kind there are
pub record Tallied : Type 0 where
  pub all : Bool
  pub told : List Found
  pub counts : List ℕ

abbrev pub tallied : Tally → Tallied
tallied tally = record { all = tally.all; told = map found_of tally.told.items; counts = tally.counts }

abbrev pub nothing_told : Bool → Tallied
nothing_told all = record { all = all; told = []; counts = replicate 24 0 }

abbrev pub with_one : Found → Tallied → Tallied
with_one found tally =
    let count = get_or tally.counts (kind_of found.what) 0 in
    record {
      all = tally.all;
      told = tally.told ++ (if tally.all || nat_lt count TOLD_OF_A_KIND then found ∷ [] else []);
      counts = set tally.counts (kind_of found.what) (min (count + 1) MOST_COUNTED);
    }

-- more was found
abbrev pub with_all : Tallied → List Found → Tallied
with_all tally [] = tally
with_all tally (found ∷ later) = with_all (with_one found tally) later

-- how many of a kind are not told
abbrev pub untold_of : What → Tallied → ℕ
untold_of what tally = if tally.all then 0 else get_or tally.counts (kind_of what) 0 - TOLD_OF_A_KIND
