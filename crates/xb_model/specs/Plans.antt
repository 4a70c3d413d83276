-- The length of a number. N is 2 to 9, X is 0 to 9.
use Rattle.std.specs.Prelude.{ℕ, List, [], ◌∷◌, Bool, not, ◌&&◌, if◌then◌else◌, nat_le, ◌==◌, Option, Some, None}
use Rattle.xb_model.specs.declared.plan.Plan.{Plan}
use Rattle.xb_model.specs.declared.plan.Plan.TheVariants.{Seven, Ten}

-- the plan whose longest numbers have so many digits
abbrev pub plan_of_digits : ℕ → Option Plan
plan_of_digits digits = if digits == 7 then Some Seven else (if digits == 10 then Some Ten else None)

-- N11
abbrev pub is_service_code : ℕ → ℕ → ℕ → Bool
is_service_code a b c = nat_le 2 a && (b == 1 && c == 1)

-- N0X, or N1X other than N11
abbrev pub is_area_code : ℕ → ℕ → ℕ → Bool
is_area_code a b c = nat_le 2 a && (nat_le b 1 && not (is_service_code a b c))

-- the length of the other numbers
abbrev pub length_of_others : Plan → Bool → ℕ
length_of_others Seven area = 7
length_of_others Ten area = if area then 10 else 7

-- the length of a number that begins with three digits, the first not 0: three for N11; in plan Ten
-- ten for N0X and N1X; seven for anything else
abbrev pub length_after_three : Plan → ℕ → ℕ → ℕ → ℕ
length_after_three plan a b c = if is_service_code a b c then 3
    else length_of_others plan (is_area_code a b c)

abbrev pub length_after : Plan → ℕ → List ℕ → Option ℕ
length_after plan a (b ∷ c ∷ rest) = Some (length_after_three plan a b c)
length_after plan a _ = None

-- the length of a number that begins with these digits, once they tell: one where the first is 0,
-- and else by the first three
abbrev pub plan_len : Plan → List ℕ → Option ℕ
plan_len plan [] = None
plan_len plan (a ∷ rest) = if a == 0 then Some 1 else length_after plan a rest
