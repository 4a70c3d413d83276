-- The weights of the low-pass of a sound.
use Rattle.std.specs.Prelude.{ℕ, List, [], ◌∷◌, ◌++◌, map, reverse, slice_index_or, ℤ, pos, neg_ℤ}

-- sin (2 pi 3700 d / 192000) / (pi d) under a Kaiser window of beta 6.6, 96 places to each side, times what makes the
-- sum 240,000, each rounded. It goes to and fro about zero: the sizes from the end of the window to its middle, where
-- it is 9,245
abbrev pub third_lobe : List ℕ
third_lobe =
    7 ∷ 10 ∷ 12 ∷ 15 ∷ 18 ∷ 20 ∷ 23 ∷ 26 ∷ 28 ∷ 29 ∷ 30 ∷ 30 ∷ 29 ∷ 27 ∷ 23 ∷ 18 ∷ 11 ∷ 2 ∷ []

abbrev pub second_lobe : List ℕ
second_lobe =
    9 ∷ 22 ∷ 37 ∷ 54 ∷ 72 ∷ 92 ∷ 113 ∷ 135 ∷ 157 ∷ 180 ∷ 202 ∷ 223 ∷ 242 ∷ 258 ∷ 271 ∷ 280 ∷ 285 ∷ 283 ∷ 276
    ∷ 262 ∷ 240 ∷ 210 ∷ 172 ∷ 126 ∷ 71 ∷ 7 ∷ []

abbrev pub first_lobe : List ℕ
first_lobe =
    64 ∷ 143 ∷ 230 ∷ 322 ∷ 419 ∷ 519 ∷ 621 ∷ 724 ∷ 824 ∷ 920 ∷ 1010 ∷ 1092 ∷ 1162 ∷ 1218 ∷ 1258 ∷ 1279 ∷ 1279
    ∷ 1255 ∷ 1206 ∷ 1129 ∷ 1023 ∷ 886 ∷ 717 ∷ 516 ∷ 282 ∷ 15 ∷ []

abbrev pub rise : List ℕ
rise =
    283 ∷ 613 ∷ 971 ∷ 1358 ∷ 1769 ∷ 2203 ∷ 2656 ∷ 3125 ∷ 3605 ∷ 4093 ∷ 4583 ∷ 5072 ∷ 5554 ∷ 6025 ∷ 6480 ∷ 6914
    ∷ 7323 ∷ 7701 ∷ 8046 ∷ 8354 ∷ 8620 ∷ 8841 ∷ 9017 ∷ 9143 ∷ 9220 ∷ []

abbrev pub below_zero : List ℕ → List ℤ
below_zero sizes = map (λ n. neg_ℤ (pos n)) sizes

abbrev pub half : List ℤ
half = below_zero third_lobe ++ map pos second_lobe ++ below_zero first_lobe ++ map pos rise

-- 192 of them: none at place 0, and to both sides of place 96 the same
unfoldable pub weights : List ℤ
weights = pos 0 ∷ half ++ pos 9245 ∷ reverse half

abbrev pub weight_at : ℕ → ℤ
weight_at place = slice_index_or weights place (pos 0)
