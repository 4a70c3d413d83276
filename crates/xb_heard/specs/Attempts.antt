-- The attempts of a line, as they were heard.
use Rattle.std.specs.Prelude.{List, [], ◌∷◌, ◌++◌, map, Option, is_some, if◌then◌else◌}
use Rattle.std.specs.List.{find, flat_map}
use Rattle.xb_model.specs.declared.limits.Limits.{Limits}
use Rattle.xb_model.specs.declared.dialled.Dialled.{Dialled}
use Rattle.xb_model.specs.declared.plan.Plan.{Plan}
use Rattle.xb_model.specs.Numbers.{outcome_of}
use Rattle.xb_model.specs.Records.{Attempt}
use Rattle.xb_heard.specs.declared.run.PlacedRun.{PlacedRun}
use Rattle.xb_heard.specs.declared.parts.Cut.TheVariants.{AtReleases}
use Rattle.xb_heard.specs.declared.attempt.HeardAttempt.{HeardAttempt}
use Rattle.xb_heard.specs.PlacedRuns.{run_in}
use Rattle.xb_heard.specs.Parts.{RunsPart, parts_of, times_out, without_idle, has_placed}
use Rattle.xb_heard.specs.Digits.{DigitOfRuns, digit_in, digits_of, runs_in_digit, unfinished_of}

-- the runs of an attempt, its digits, the pulses that no pause ended, the make that timed it out and the
-- break that released it, if there is one, and what came of it
pub record AttemptOfRuns : Type 0 where
  pub runs : List PlacedRun
  pub digits : List DigitOfRuns
  pub unfinished : List PlacedRun
  pub timeout : Option PlacedRun
  pub release : Option PlacedRun
  pub outcome : Dialled

-- what an attempt in the code says
abbrev pub attempt_in : HeardAttempt → AttemptOfRuns
attempt_in attempt = record {
  runs = attempt.runs.now;
  digits = map digit_in attempt.digits.items;
  unfinished = attempt.unfinished.now;
  timeout = attempt.timeout;
  release = attempt.release;
  outcome = attempt.outcome;
}

-- the attempt of a part that a release ends, or nothing
abbrev pub attempt_by : Plan → Limits → List PlacedRun → Option PlacedRun → AttemptOfRuns
attempt_by plan limits runs release = record {
  runs = runs;
  digits = digits_of limits runs;
  unfinished = unfinished_of limits runs;
  timeout = find (times_out limits) runs;
  release = release;
  outcome = outcome_of plan limits (map run_in runs);
}

-- the attempts of parts: an empty part is none
abbrev pub attempts_of_parts : Plan → Limits → List RunsPart → List AttemptOfRuns
attempts_of_parts plan limits [] = []
attempts_of_parts plan limits (part ∷ parts) =
    if has_placed part.inner then attempt_by plan limits part.inner part.last ∷ attempts_of_parts plan limits parts
    else attempts_of_parts plan limits parts

-- the attempts that are heard in runs
abbrev pub heard_attempts : Plan → Limits → List PlacedRun → List AttemptOfRuns
heard_attempts plan limits runs = attempts_of_parts plan limits (parts_of limits AtReleases (without_idle runs))

-- an attempt without places
abbrev pub attempt_alone : AttemptOfRuns → Attempt
attempt_alone attempt = record { runs = map run_in attempt.runs; released = is_some attempt.release }

-- the run that seizes a register
abbrev pub front_of : List PlacedRun → List PlacedRun
front_of [] = []
front_of (run ∷ rest) = run ∷ []

-- the parts of an attempt, in order
abbrev pub all_parts : AttemptOfRuns → List PlacedRun
all_parts attempt = front_of attempt.runs ++ (flat_map runs_in_digit attempt.digits ++ attempt.unfinished)

-- what came of attempts
abbrev pub outcomes_told : List AttemptOfRuns → List Dialled
outcomes_told attempts = map (λ attempt. attempt.outcome) attempts
