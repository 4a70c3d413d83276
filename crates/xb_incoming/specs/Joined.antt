-- What comes of the keys of keyings.
use Rattle.std.specs.Prelude.{◌≡◌, ℕ, List, [], ◌∷◌, ◌++◌, map, false}
use Rattle.std.specs.List.{flat_map}
use Rattle.xb_incoming.specs.declared.key.Symbol.{Symbol}
use Rattle.xb_incoming.specs.declared.key.Symbol.TheVariants.{Digit, Kp, St}
use Rattle.xb_incoming.specs.declared.key.TimedKey.{TimedKey}
use Rattle.xb_incoming.specs.Attempts.{is_kp, number_of, outcomes, times_out}

-- what the keys are
abbrev pub symbols_of : List TimedKey → List Symbol
symbols_of keys = map (λ (key : TimedKey). key.what) keys

-- the keys of a keying, and of keyings one after the other
abbrev pub keying_symbols : List ℕ → List Symbol
keying_symbols digits = Kp ∷ (map (λ d. Digit d) digits ++ St ∷ [])

abbrev pub keyed_symbols : List (List ℕ) → List Symbol
keyed_symbols numbers = flat_map keying_symbols numbers

-- no silence before a key is a time-out, but where the key is a KP
abbrev pub InTime : ℕ → ℕ → List TimedKey → Type 0
InTime limit last [] = Unit {0}
InTime limit last (key ∷ keys) =
    (is_kp key.what ≡ false → times_out limit last key.begin_ms ≡ false) × InTime limit key.end_ms keys

-- one outcome for each keying, in order, whatever silence lies between two
abbrev pub KeyedIsRegistered : Type 0
KeyedIsRegistered = (limit : ℕ) (numbers : List (List ℕ)) (keys : List TimedKey)
    → symbols_of keys ≡ keyed_symbols numbers → InTime limit 0 keys → outcomes limit keys ≡ map number_of numbers
