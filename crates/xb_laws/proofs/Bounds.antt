-- What is computed of the bounds of each level.
use Rattle.std.proofs.Common.{◌≡◌, ℕ, ◌+◌, ◌<◌, ◌≤◌, Bool, true, arith, refl, inl, inr}
use Rattle.std.specs.List.{list_all, range_with_len}
use Rattle.std.proofs.lemmas.Bool.{cases_lt}
use Rattle.xb_signal.specs.Levels.{amplitudes, table_at}
use Rattle.xb_sound.proofs.SineTables.{holds_below}
use Rattle.xb_laws.proofs.Caps.{cap_at, caps}
use Rattle.xb_laws.proofs.Tests.{bounds_test}

abbrev pub bounds_at : ℕ → Bool
bounds_at i = bounds_test (table_at i) (cap_at i) (i + 472)

-- of 43 levels in a row
abbrev are_bounded : ℕ → Bool
are_bounded start = list_all bounds_at (range_with_len start 43)

-- and of all below those that come next
abbrev AreBelow : ℕ → Type 0
AreBelow next = (i : ℕ) → 100 ≤ i → i < next → bounds_at i ≡ true

more : (start next : ℕ) → next ≡ start + 43 → are_bounded start ≡ true → AreBelow start → AreBelow next
more start next at tested before i least most = elim (cases_lt i start) [
  | inl below ↦ before i least below
  | inr above ↦ holds_below bounds_at 43 start tested i above (omega (arith, at, most))
]

none : AreBelow 100
none i least most = absurd (omega (arith, least, most))

from100 : are_bounded 100 ≡ true
unfolding amplitudes caps
from100 = refl

from143 : are_bounded 143 ≡ true
unfolding amplitudes caps
from143 = refl

from186 : are_bounded 186 ≡ true
unfolding amplitudes caps
from186 = refl

from229 : are_bounded 229 ≡ true
unfolding amplitudes caps
from229 = refl

from272 : are_bounded 272 ≡ true
unfolding amplitudes caps
from272 = refl

from315 : are_bounded 315 ≡ true
unfolding amplitudes caps
from315 = refl

from358 : are_bounded 358 ≡ true
unfolding amplitudes caps
from358 = refl

-- of each level of -30.0 to 0.0 dBm0
pub bounds : AreBelow 401
bounds =
    more 358 401 refl from358
    (more 315 358 refl from315
    (more 272 315 refl from272
    (more 229 272 refl from229
    (more 186 229 refl from186
    (more 143 186 refl from143
    (more 100 143 refl from100 none))))))
