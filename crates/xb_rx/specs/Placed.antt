-- The keyings among keys that are heard, each with the place where it begins.
use Rattle.std.specs.Prelude.{ℕ, List, [], ◌∷◌, Option, Some, None, drop, map}
use Rattle.xb_measured.specs.declared.heard.Heard.{Heard}
use Rattle.xb_measured.specs.Figures.{start_ms}
use Rattle.xb_measured.specs.DoubtLines.{began_ms}
use Rattle.xb_measured.specs.Keyings.{digits_in, keying_at}

-- when its KP begins, in ms from the first sample, and its digits
pub record Placed : Type 0 where
  pub at : ℕ
  pub digits : List ℕ

abbrev pub placed_with : ℕ → List ℕ → Placed
placed_with at digits = record { at = at; digits = digits }

abbrev pub one_placed : Heard → Option (List ℕ) → List Placed → List Placed
one_placed key None later = later
one_placed key (Some digits) later = placed_with (start_ms key) digits ∷ later

-- each keying, in order
unfoldable pub placed : List Heard → List Placed
placed [] = []
placed (key ∷ keys) = one_placed key (keying_at key keys) (placed keys)

-- the digits of each
abbrev pub numbers_of : List Placed → List (List ℕ)
numbers_of placed = map (λ (p : Placed). p.digits) placed

-- the keying that an ST completes after these keys, a KP and digits
abbrev pub placed_of : List Heard → Placed
placed_of begun = placed_with (began_ms begun) (digits_in (drop 1 begun))
