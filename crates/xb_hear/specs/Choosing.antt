-- Which lines have a refused attempt, and which are chosen.
use Rattle.std.specs.Prelude.{◌==◌, ◌&&◌, Bool, true, false, not, List, length}
use Rattle.std.specs.List.{list_any}
use Rattle.xb_model.specs.declared.dialled.Dialled.{Dialled}
use Rattle.xb_model.specs.declared.dialled.Dialled.TheVariants as dialled
use Rattle.xb_heard.specs.Attempts.{AttemptOfRuns}
use Rattle.xb_hear.specs.declared.request.Choice.{Choice}
use Rattle.xb_hear.specs.declared.request.Choice.TheVariants as choice

-- whether the register refused an attempt
abbrev pub is_refused : Dialled → Bool
is_refused (dialled.Number digits) = false
is_refused (dialled.Refused reason heard) = true

-- whether it refused one of a line's attempts
abbrev pub has_refused : List AttemptOfRuns → Bool
has_refused attempts = list_any (λ attempt. is_refused attempt.outcome) attempts

-- whether a line with these attempts is chosen
abbrev pub is_chosen : Choice → List AttemptOfRuns → Bool
is_chosen choice.All attempts = not (length attempts == 0)
is_chosen choice.Refused attempts = has_refused attempts

-- whether it is chosen, and has a refused attempt
abbrev pub is_chosen_refused : Choice → List AttemptOfRuns → Bool
is_chosen_refused chosen attempts = is_chosen chosen attempts && has_refused attempts

-- whether it is chosen, and has none
abbrev pub is_chosen_other : Choice → List AttemptOfRuns → Bool
is_chosen_other chosen attempts = is_chosen chosen attempts && not (has_refused attempts)
