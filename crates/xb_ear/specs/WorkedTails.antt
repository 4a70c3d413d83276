-- Tails, as worked by hand.
use Rattle.std.specs.Prelude.{◌≡◌, ℕ, ◌++◌, ◌∷◌, replicate, Option, Some, None}
use Rattle.xb_model.specs.declared.key.Key.TheVariants.{Digit}
use Rattle.xb_model.specs.MfPairs.{mf_pair}
use Rattle.xb_ear.specs.declared.sight.Sight.{Sight}
use Rattle.xb_ear.specs.Tails.{without_tail}

-- a window that sees the pair of a digit, and holds so much of its lower tone, and as much of its higher one
abbrev pub of_digit : ℕ → ℕ → Option Sight
of_digit digit level = Some (record { pair = mf_pair (Digit digit); low = level; high = level })

-- beside 100 of a 1: 300 of the same pair are three times as much, and 600 of another six times; where six windows in a
-- row held more this is a tail
pub record TailsAreAsWorked : Type 0 where
  pub same_level : without_tail (replicate 64 (of_digit 1 100)) (of_digit 1 100) ≡ of_digit 1 100
  pub same_pair : without_tail (replicate 6 (of_digit 1 300)) (of_digit 1 100) ≡ of_digit 1 100
  pub tail : without_tail (replicate 6 (of_digit 1 301)) (of_digit 1 100) ≡ None
  pub other_pair : without_tail (replicate 6 (of_digit 2 600)) (of_digit 1 100) ≡ of_digit 1 100
  pub tail_of_another : without_tail (replicate 6 (of_digit 2 601)) (of_digit 1 100) ≡ None
  pub across_an_edge : without_tail (replicate 5 (of_digit 1 900)) (of_digit 1 100) ≡ of_digit 1 100
  pub not_in_a_row : without_tail (replicate 5 (of_digit 1 900) ++ (None ∷ replicate 5 (of_digit 1 900))) (of_digit 1 100)
      ≡ of_digit 1 100
  pub silence : without_tail (replicate 64 None) (of_digit 1 100) ≡ of_digit 1 100
