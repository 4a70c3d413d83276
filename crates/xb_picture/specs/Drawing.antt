-- The picture of a line, as a text.
use Rattle.std.specs.Prelude.{ℕ, ◌≡◌, ◌-◌, List, Option, Some, None}
use Rattle.xb_model.specs.declared.limits.Limits.{Limits}
use Rattle.xb_heard.specs.Attempts.{AttemptOfRuns}
use Rattle.xb_svg.specs.Drawings.{Looks, drawing_text}
use Rattle.xb_picture.specs.declared.picture.TheConstants.{MOST_ATTEMPTS}
use Rattle.xb_picture.specs.Pictures.{picture_words}

-- how many attempts stand before those that are drawn
abbrev pub skipped : Option ℕ → ℕ
skipped None = 0
skipped (Some attempt) = attempt - 1

-- how many are drawn at most
abbrev pub many : Option ℕ → ℕ
many None = MOST_ATTEMPTS
many (Some attempt) = 1

-- a picture of a line, of one of its attempts or of the first ones: what it says is what was heard
pub record IsPicture (limits : Limits) (line : ℕ) (attempt : Option ℕ) (attempts : List AttemptOfRuns)
    (text : List ℕ) : Type 0 where
  pub looks : Looks
  pub is : text ≡ drawing_text looks (picture_words limits line (skipped attempt) (many attempt) attempts)
