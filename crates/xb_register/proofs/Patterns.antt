-- Digits that are kept as patterns.
use Rattle.std.proofs.Common.{◌≡◌, ℕ, ◌+◌, ◌<◌, ◌≤◌, List, [], ◌∷◌, ◌++◌, length, Bool, Option, Some, None, refl, ap, sym, ◌∙◌, rules, arith, length-append}
use Rattle.std.specs.Prelude.{take, get_or, is_some, IsTrue}
use Rattle.std.specs.List.{cons_option}
use Rattle.std.specs.Option.{option_to_list}
use Rattle.std.proofs.lemmas.List.{take_more}
use Rattle.std.proofs.lemmas.List.Elements.{filter_map-append}
use Rattle.xb_model.specs.TwoOfFive.{digit_of_pattern}
use Rattle.xb_model.specs.declared.digits.TheConstants.{NUMBER_DIGITS}
use Rattle.xb_register.specs.Stored.{digits_of, IsStored}

-- one pattern more
pub digits_of-push : (patterns : List (List Bool)) (pattern : List Bool)
    → digits_of (patterns ++ pattern ∷ []) ≡ digits_of patterns ++ option_to_list (digit_of_pattern pattern)
digits_of-push patterns pattern =
    filter_map-append digit_of_pattern patterns (pattern ∷ []) ∙ at (digit_of_pattern pattern)
  where
    at : (o : Option ℕ) → digits_of patterns ++ cons_option o [] ≡ digits_of patterns ++ option_to_list o
    at None = refl
    at (Some d) = refl

-- the first patterns of a list, and one more
pub digits_of-take : (patterns : List (List Bool)) (i : ℕ) (d : List Bool) → i < length patterns
    → digits_of (take (i + 1) patterns)
    ≡ digits_of (take i patterns) ++ option_to_list (digit_of_pattern (get_or patterns i d))
digits_of-take patterns i d h = rw (take_more patterns i d h) (digits_of-push (take i patterns) (get_or patterns i d))

-- a pattern that is pushed adds its digit to those read
pub push_digit : (patterns after : List (List Bool)) (pattern : List Bool) (digits : List ℕ)
    → digits_of patterns ≡ digits
    → after ≡ patterns ++ pattern ∷ []
    → digits_of after ≡ digits ++ option_to_list (digit_of_pattern pattern)
push_digit patterns after pattern digits view pushed = rw (pushed, digits_of-push patterns pattern, view)

-- where the pattern is a digit and there is room, what is stored stays so
pub push_stored : (patterns after : List (List Bool)) (pattern : List Bool) (digits : List ℕ)
    → digits_of patterns ≡ digits
    → after ≡ patterns ++ pattern ∷ []
    → IsStored patterns
    → length digits < NUMBER_DIGITS
    → IsTrue (is_some (digit_of_pattern pattern))
    → IsStored after
push_stored patterns after pattern digits view pushed stored room some =
    record {
      digits = at (digit_of_pattern pattern) some (push_digit patterns after pattern digits view pushed);
      within = rw pushed (simp length-append (omega (arith, ap length view, stored.digits)));
    }
  where
    at : (o : Option ℕ) → IsTrue (is_some o) → digits_of after ≡ digits ++ option_to_list o
        → length (digits_of after) ≡ length after
    at None t e = absurd (search rules)
    at (Some d) t e = rw (e, pushed) (simp length-append (omega (arith, ap length view, stored.digits)))

-- one turn of reading the patterns back
pub read_more : (patterns : List (List Bool)) (i : ℕ) (p : List Bool) (o : Option ℕ) (before after : List ℕ)
    → i < length patterns
    → p ≡ get_or patterns i p
    → o ≡ digit_of_pattern p
    → before ≡ digits_of (take i patterns)
    → length before ≤ i
    → after ≡ before ++ option_to_list o
    → (after ≡ digits_of (take (i + 1) patterns)) × (length after ≤ i + 1)
read_more patterns i p o before after h at_i is e b a =
    (rw (a, is ∙ ap digit_of_pattern at_i, e) (sym (digits_of-take patterns i p h)), one_more o a)
  where
    one_more : (o : Option ℕ) → after ≡ before ++ option_to_list o → length after ≤ i + 1
    one_more None a = rw a (simp length-append (omega arith))
    one_more (Some x) a = rw a (simp length-append (omega arith))
