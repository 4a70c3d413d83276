-- Worked characters: which digit each dials.
use Rattle.std.specs.Prelude.{◌≡◌, [], ◌∷◌, codes, map, Some, None}
use Rattle.xb_model.specs.Letters.{digit_of_character}

-- each letter, and what is none
pub record LettersOfTheDial : Type 0 where
  pub capitals : map digit_of_character (codes "ABCDEFGHIJKLMNOP")
      ≡ map Some (2 ∷ 2 ∷ 2 ∷ 3 ∷ 3 ∷ 3 ∷ 4 ∷ 4 ∷ 4 ∷ 5 ∷ 5 ∷ 5 ∷ 6 ∷ 6 ∷ 6 ∷ 7 ∷ [])
  pub last_capitals : map digit_of_character (codes "QRSTUVWXYZ")
      ≡ None ∷ Some 7 ∷ Some 7 ∷ Some 8 ∷ Some 8 ∷ Some 8 ∷ Some 9 ∷ Some 9 ∷ Some 9 ∷ None ∷ []
  pub small : map digit_of_character (codes "pe") ≡ Some 7 ∷ Some 3 ∷ []
  pub digits : map digit_of_character (codes "059") ≡ Some 0 ∷ Some 5 ∷ Some 9 ∷ []
  pub others : map digit_of_character (codes "@[`{/:*#+") ≡
      None ∷ None ∷ None ∷ None ∷ None ∷ None ∷ None ∷ None ∷ None ∷ []
