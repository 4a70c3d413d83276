-- Words that are known (Rosetta Code, "Pseudo-random numbers/Splitmix64").
use Rattle.std.specs.Prelude.{◌≡◌, ℕ, List, [], ◌∷◌, map}
use Rattle.xb_chance.specs.Words.{state_after, word_of}

-- the first five of the seed 1234567
abbrev pub WordsAreKnown : Type 0
WordsAreKnown =
    map (λ (n : ℕ). word_of (state_after 1234567 n)) (1 ∷ 2 ∷ 3 ∷ 4 ∷ 5 ∷ [])
    ≡ 6457827717110365317 ∷ 3203168211198807973 ∷ 9817491932198370423 ∷ 4593380528125082431
    ∷ 16408922859458223821 ∷ []
