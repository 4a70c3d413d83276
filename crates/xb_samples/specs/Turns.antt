-- Samples that go to and fro, which no contact does that is held for two samples.
use Rattle.std.specs.Prelude.{◌≡◌, ℕ, zero, suc, ◌+◌, List, [], ◌∷◌, ◌++◌, Bool, true, false, Option, Some, None, bit_and, bit_or, map, nat_eq, nat_le, nat_lt, not, ◌&&◌, ◌||◌, if◌then◌else◌}
use Rattle.xb_samples.specs.declared.turns.TheConstants.{MOST_TURNS}
use Rattle.xb_samples.specs.declared.turns.Turns.{Turns}

-- a sample goes back: it is another one than the one before, and the same as the one before that
abbrev pub goes_back : ℕ → ℕ → ℕ → Bool
goes_back before last sample = nat_eq before sample && not (nat_eq last sample)

-- how many samples that follow two go back in a row
abbrev pub turns_from : ℕ → ℕ → List ℕ → ℕ
turns_from before last [] = 0
turns_from before last (sample ∷ rest) = if goes_back before last sample then 1 + turns_from last sample rest else 0

-- samples go to and fro: somewhere 250 in a row go back
abbrev pub go_to_and_fro : List ℕ → Bool
go_to_and_fro [] = false
go_to_and_fro (first ∷ []) = false
go_to_and_fro (first ∷ second ∷ rest) =
    nat_le MOST_TURNS (turns_from first second rest) || go_to_and_fro (second ∷ rest)

-- all bits of these, and of those of masks
abbrev pub any_from : ℕ → List ℕ → ℕ
any_from bits [] = bits
any_from bits (mask ∷ masks) = any_from (bit_or bits mask) masks

-- the wires that are asked for, in each sample
abbrev pub wires_alone : List ℕ → List ℕ → List ℕ
wires_alone masks samples = map (λ sample. bit_and sample (any_from 0 masks)) samples

-- what is known of samples one by one: the bits of the wires, the last two of these alone, and how many in a
-- row went back, up to 250
pub record TurnsState : Type 0 where
  pub mask : ℕ
  pub before : Option ℕ
  pub last : Option ℕ
  pub count : ℕ

abbrev pub turns_of : ℕ → Option ℕ → Option ℕ → ℕ → TurnsState
turns_of mask before last count = record { mask = mask; before = before; last = last; count = count }

abbrev pub turns_state : Turns → TurnsState
turns_state turns = turns_of turns.mask turns.before turns.last turns.count

abbrev pub new_turns : List ℕ → TurnsState
new_turns masks = turns_of (any_from 0 masks) None None 0

abbrev pub is_it : Option ℕ → ℕ → Bool
is_it None sample = false
is_it (Some own) sample = nat_eq own sample

abbrev pub count_after : ℕ → Bool → ℕ
count_after count back = if back then (if nat_lt count MOST_TURNS then count + 1 else MOST_TURNS) else 0

abbrev pub turns_after : TurnsState → ℕ → TurnsState
turns_after state sample =
    turns_of state.mask state.last (Some (bit_and sample state.mask))
    (count_after state.count
    (is_it state.before (bit_and sample state.mask) && not (is_it state.last (bit_and sample state.mask))))

abbrev pub are_too_many : TurnsState → Bool
are_too_many state = nat_le MOST_TURNS state.count

-- a contact is held for two samples: each sample between two others is the same as one of them
abbrev pub are_held : List ℕ → Bool
are_held [] = true
are_held (first ∷ []) = true
are_held (first ∷ second ∷ []) = true
are_held (first ∷ second ∷ third ∷ rest) =
    (nat_eq first second || nat_eq second third) && are_held (second ∷ third ∷ rest)

-- two samples, so many times over
abbrev pub pairs : ℕ → ℕ → ℕ → List ℕ → List ℕ
pairs zero low high rest = rest
pairs (suc more) low high rest = low ∷ high ∷ pairs more low high rest

-- what is held never goes to and fro; and two different samples do, 126 times over, wherever they stand
pub record TurnsAreTold : Type 0 where
  pub held : (samples : List ℕ) → are_held samples ≡ true → go_to_and_fro samples ≡ false
  pub pairs :
      (before after : List ℕ) (low high : ℕ) → nat_eq low high ≡ false
      → go_to_and_fro (before ++ pairs 126 low high after) ≡ true
