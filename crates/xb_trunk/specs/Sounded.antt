-- The samples that the rows of a line write on its trunk, 8 in a ms.
use Rattle.std.specs.Prelude.{ℕ, ◌*◌, ◌-◌, List, [], ◌∷◌, ◌++◌, drop, fold, length, replicate, take, ℤ, pos}
use Rattle.xb_model.specs.declared.mark.Mark.{Mark}
use Rattle.xb_sound.specs.declared.cadence.Cadence.{Cadence}
use Rattle.xb_sound.specs.Sounds.{sound_of}

-- a row of the line: how many ms it lasts, and the marks that it completes
pub record Step : Type 0 where
  pub ms : ℕ
  pub marks : List Mark

abbrev pub step_of : ℕ → List Mark → Step
step_of ms marks = record { ms = ms; marks = marks }

-- a trunk: its cadence, and the samples that wait to be heard
pub record Waits : Type 0 where
  pub cadence : Cadence
  pub waiting : List ℤ

-- so many samples: the first of these, and silence where they are too few
abbrev pub fitted : ℕ → List ℤ → List ℤ
fitted n samples = take n samples ++ replicate (n - length samples) (pos 0)

-- what waits with the end of a row: what the row has left of it, and then the sound of its marks
abbrev pub left_by : Cadence → List ℤ → Step → List ℤ
left_by cadence waiting step = drop (step.ms * 8) waiting ++ sound_of cadence step.marks

-- the samples that rows write, before which these wait: each row as many as it lasts
abbrev pub sounded : Cadence → List ℤ → List Step → List ℤ
sounded cadence waiting [] = []
sounded cadence waiting (step ∷ steps) =
    fitted (step.ms * 8) waiting ++ sounded cadence (left_by cadence waiting step) steps

-- what still waits after rows
abbrev pub waiting_after : Cadence → List ℤ → List Step → List ℤ
waiting_after cadence waiting steps = fold (left_by cadence) waiting steps

-- all that is heard of rows that end: what they write, and what waits after them
abbrev pub whole_sound : Cadence → List ℤ → List Step → List ℤ
whole_sound cadence waiting steps = sounded cadence waiting steps ++ waiting_after cadence waiting steps
