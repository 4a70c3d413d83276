-- The small steps of a deal: what it holds after each event.
use Rattle.std.specs.Prelude.{ℕ, ◌+◌, nat_lt, Bool, if◌then◌else◌}
use Rattle.xb_flow.specs.declared.flow.Flow.{Flow}
use Rattle.xb_flow.specs.declared.flow.Flow.TheVariants.{Item, End}
use Rattle.xb_branches.specs.declared.held.Held.{Held}
use Rattle.xb_branches.specs.declared.held.Held.TheVariants.{Nothing, One, Ends, Over}

-- something is held
abbrev pub CanSend : {T : Type 0} → Held T → Type 0
CanSend Nothing = ⊥
CanSend (One x) = Unit {0}
CanSend Ends = Unit {0}
CanSend Over = ⊥

-- what is held after an item or the End was received
abbrev pub holding_of : {T : Type 0} → Flow T → Held T
holding_of (Item x) = One x
holding_of End = Ends

-- the output that it is for: the End goes to output 0 first
abbrev pub place_of : {T : Type 0} → Flow T → ℕ → ℕ
place_of (Item x) place = place
place_of End place = 0

-- the place after a place, of n in turn
abbrev pub next_place : ℕ → ℕ → ℕ
next_place n place = if nat_lt (place + 1) n then place + 1 else 0

-- what is sent of what is held
abbrev pub released : {T : Type 0} → Held T → Flow T
released Nothing = End
released (One x) = Item x
released Ends = End
released Over = End

-- what is held after that, where it went to the last output or to another
abbrev pub left_of : {T : Type 0} → Held T → Bool → Held T
left_of Nothing last = Nothing
left_of (One x) last = Nothing
left_of Ends last = if last then Over else Ends
left_of Over last = Over
