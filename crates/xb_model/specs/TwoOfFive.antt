-- Two out of five.
use Rattle.std.specs.Prelude.{ℕ, ◌+◌, List, [], ◌∷◌, Bool, true, false, if◌then◌else◌, ◌==◌, Option, Some, None}

-- what the operated elements stand for, given what each of the five does
abbrev pub operated : List ℕ → List Bool → List ℕ
operated [] bits = []
operated (x ∷ xs) [] = []
operated (x ∷ xs) (bit ∷ bits) = if bit then x ∷ operated xs bits else operated xs bits

abbrev pub weights : List ℕ
weights = 0 ∷ 1 ∷ 2 ∷ 4 ∷ 7 ∷ []

-- the sum of two weights, 11 being 0
abbrev pub digit_of_weights : List ℕ → Option ℕ
digit_of_weights (a ∷ b ∷ []) = Some (if a + b == 11 then 0 else a + b)
digit_of_weights _ = None

-- a pattern is a digit where exactly two elements operate
abbrev pub digit_of_pattern : List Bool → Option ℕ
digit_of_pattern bits = digit_of_weights (operated weights bits)

-- the elements 0, 1, 2, 4 and 7
abbrev pub five : Bool → Bool → Bool → Bool → Bool → List Bool
five zero one two four seven = zero ∷ one ∷ two ∷ four ∷ seven ∷ []

-- no element operates
abbrev pub at_rest : List Bool
at_rest = five false false false false false

-- the pattern of a digit of so many pulses
abbrev pub good_pattern : ℕ → List Bool
good_pattern n =
    if n == 1 then five true true false false false else (
    if n == 2 then five true false true false false else (
    if n == 3 then five false true true false false else (
    if n == 4 then five true false false true false else (
    if n == 5 then five false true false true false else (
    if n == 6 then five false false true true false else (
    if n == 7 then five true false false false true else (
    if n == 8 then five false true false false true else (
    if n == 9 then five false false true false true else (
    if n == 10 then five false false false true true else at_rest)))))))))

-- the pattern of a train of so many pulses, none of it where the train is bad
abbrev pub pattern_of_count : ℕ → Bool → List Bool
pattern_of_count n bad = if bad then at_rest else good_pattern n
