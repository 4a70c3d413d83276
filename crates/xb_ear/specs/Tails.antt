-- The tails of keys. In a room, and where a line echoes, a key goes on sounding after its end, and a window may see its
-- pair there again.
use Rattle.std.specs.Prelude.{ℕ, ◌+◌, ◌*◌, ◌/◌, List, [], ◌∷◌, Bool, false, ◌||◌, if◌then◌else◌, nat_le, nat_lt, Option, Some, None}
use Rattle.xb_ear.specs.declared.sight.Sight.{Sight}
use Rattle.xb_ear.specs.declared.echo_tails.TheConstants.{TAIL_OTHER, TAIL_ROW, TAIL_WEAKER}
use Rattle.xb_ear.specs.Hearings.{is_same}

-- what both tones hold that a window sees
abbrev pub strength : Option Sight → ℕ
strength None = 0
strength (Some sight) = sight.low + sight.high

-- what counts of a window before one that sees this: less where it saw another pair
abbrev pub counted : Option Sight → Option Sight → ℕ
counted seen before = if is_same seen before then strength before else strength before / TAIL_OTHER

-- whether TAIL_ROW windows in a row each held more than TAIL_WEAKER times as much, where n just before these did
abbrev pub outdone_from : ℕ → List (Option Sight) → Option Sight → Bool
outdone_from n [] seen = false
outdone_from n (before ∷ later) seen =
    if nat_lt (TAIL_WEAKER * strength seen) (counted seen before)
    then nat_le TAIL_ROW (n + 1) || outdone_from (n + 1) later seen
    else outdone_from 0 later seen

abbrev pub is_outdone : List (Option Sight) → Option Sight → Bool
is_outdone before seen = outdone_from 0 before seen

-- what a window sees but for tails
abbrev pub without_tail : List (Option Sight) → Option Sight → Option Sight
without_tail before seen = if is_outdone before seen then None else seen
