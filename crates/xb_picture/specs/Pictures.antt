-- What the picture of a line says.
use Rattle.std.specs.Prelude.{ℕ, ◌+◌, ◌-◌, List, [], ◌∷◌, ◌++◌, codes, drop, length, min, nat_lt, take, if◌then◌else◌}
use Rattle.xb_model.specs.declared.limits.Limits.{Limits}
use Rattle.xb_model.specs.Page.{four_digits}
use Rattle.xb_heard.specs.Attempts.{AttemptOfRuns}
use Rattle.xb_picture.specs.Labels.{left_out_text, limits_words}
use Rattle.xb_picture.specs.Attempts.{attempt_words}

-- the line and its limits
abbrev pub title_words : Limits → ℕ → List (List ℕ)
title_words limits line = (codes "line " ++ four_digits line) ∷ limits_words limits ∷ []

-- attempts, from attempt n on
abbrev pub attempts_words : Limits → ℕ → List AttemptOfRuns → List (List ℕ)
attempts_words limits n [] = []
attempts_words limits n (attempt ∷ attempts) =
    attempt_words limits n attempt ++ attempts_words limits (n + 1) attempts

-- how many attempts stand before those that are drawn, and how many after them, if there are any
abbrev pub others_words : ℕ → ℕ → List (List ℕ)
others_words before after = if nat_lt 0 (before + after) then left_out_text before after ∷ [] else []

-- the picture of a line: of all its attempts, so many of them after the first so many
abbrev pub picture_words : Limits → ℕ → ℕ → ℕ → List AttemptOfRuns → List (List ℕ)
picture_words limits line before count attempts =
    title_words limits line
    ++ others_words (min before (length attempts)) (length attempts - before - count)
    ++ attempts_words limits (min before (length attempts) + 1) (take count (drop before attempts))
