-- What a deal holds, and what one turn of it does.
use Rattle.std.specs.Prelude.{◌≡◌, ◌⊎◌, ℕ, ◌-◌, ◌%◌, ◌<◌, ◌≤◌, ◌==◌, nat_lt, Bool, true, false, List, [], ◌∷◌, ◌++◌, length, slice_index_or, if◌then◌else◌}
use Rattle.rtrb.specs.declared.producer.Producer.{Producer}
use Rattle.rtrb.specs.declared.consumer.Consumer.{Consumer}
use Rattle.rtrb.specs.Ring.{sent, received, known_free, known_items, SameProducer, SameConsumer}
use Rattle.xb_flow.specs.Rings.{ProducersLooked}
use Rattle.xb_branches.specs.DealSteps.{CanSend}
use Rattle.xb_flow.specs.declared.flow.Flow.{Flow}
use Rattle.xb_flow.specs.declared.flow.Flow.TheVariants.{Item, End}
use Rattle.xb_flow.specs.declared.turn.Turn.{Turn}
use Rattle.xb_flow.specs.declared.turn.Turn.TheVariants.{Idle, Blocked, Moved, Ended}
use Rattle.xb_branches.specs.declared.held.Held.{Held}
use Rattle.xb_branches.specs.declared.held.Held.TheVariants.{Nothing, One, Ends, Over}
use Rattle.xb_flow.specs.Flows.{items_of, has_end, flow_of, IsFlow, IsEnded}
use Rattle.xb_branches.specs.Dealt.{dealt}
use Rattle.xb_branches.specs.declared.branches.TheConstants.{MOST_BRANCHES}

-- what clauses see of a deal: its ends, what it holds, and the output that this is for
pub record DealView (C P T : Type 0) : Type 0 where
  pub consumer : C
  pub producers : List P
  pub held : Held T
  pub place : ℕ

-- what is held for output j
abbrev pub held_for : {T : Type 0} → Held T → ℕ → ℕ → List (Flow T)
held_for Nothing place j = []
held_for (One x) place j = if place == j then Item x ∷ [] else []
held_for Ends place j = if nat_lt j place then [] else End ∷ []
held_for Over place j = []

-- which output comes next of n, after `count` items and the End, or without it
abbrev pub IsPlace : {T : Type 0} → Held T → ℕ → ℕ → ℕ → Bool → Type 0
IsPlace Nothing place n count ended = (ended ≡ false) × (place ≡ count % n)
IsPlace (One x) place n count ended = (ended ≡ false) × (0 < count) × (place ≡ (count - 1) % n)
IsPlace Ends place n count ended = (ended ≡ true) × (place < n)
IsPlace Over place n count ended = ended ≡ true

-- each output is the same end, and was sent what was sent before, and y at the place
abbrev pub SendsAt : {T A Q : Type 0} → List (Producer T A Q) → ℕ → List T → List (Producer T A Q) → Type 0
SendsAt {T} {A} {Q} ps place y qs =
    (length qs ≡ length ps)
    × ((j : ℕ) (p : Producer T A Q) → j < length ps →
    SameProducer (slice_index_or ps j p) (slice_index_or qs j p)
    × (sent (slice_index_or qs j p) ≡ sent (slice_index_or ps j p) ++ (if place == j then y else [])))

-- a deal, with its ends
abbrev pub DealOf : Type 0 → Type 0 → Type 0 → Type 0 → Type 0
DealOf T A P Q = DealView (Consumer (Flow T) A P) (Producer (Flow T) A Q) T

module _ {T A P Q : Type 0} where
  -- what went to each output, followed by what is held for it, is the items dealt to it, and after
  -- the End of the input one End
  pub record DealLaw (d : DealOf T A P Q) : Type 0 where
    pub least : 1 ≤ length d.producers
    pub most : length d.producers ≤ MOST_BRANCHES
    pub law : (j : ℕ) (p : Producer (Flow T) A Q) → j < length d.producers →
        let ins = received d.consumer in
        sent (slice_index_or d.producers j p) ++ held_for d.held d.place j
        ≡ flow_of (dealt (length d.producers) j (items_of ins)) (has_end ins)
    pub formed : IsFlow (received d.consumer)
    pub at :
        let ins = received d.consumer in
        IsPlace d.held d.place (length d.producers) (length (items_of ins)) (has_end ins)

  -- all was received, up to and with one End, and each output was sent the items dealt to it and
  -- one End; nothing is held
  pub record HasDealt (d : DealOf T A P Q) : Type 0 where
    pub input : IsEnded (received d.consumer)
    pub outputs : (j : ℕ) (p : Producer (Flow T) A Q) → j < length d.producers →
        sent (slice_index_or d.producers j p)
        ≡ flow_of (dealt (length d.producers) j (items_of (received d.consumer))) true
    pub nothing_held : d.held ≡ Over

  -- the same ends
  abbrev pub SameDeal : DealOf T A P Q → DealOf T A P Q → Type 0
  SameDeal old new =
      SameConsumer old.consumer new.consumer
      × (length new.producers ≡ length old.producers)
      × ((j : ℕ) (p : Producer (Flow T) A Q) → j < length old.producers →
      SameProducer (slice_index_or old.producers j p) (slice_index_or new.producers j p))

  -- one turn. Idle: an item is wanted, and none is known of. Blocked: something is held, and no room
  -- for it is known of. Moved: one item or End was received, or what is held was sent to one output
  abbrev pub IsDealTurn : DealOf T A P Q → Turn → DealOf T A P Q → Type 0
  IsDealTurn old Idle new =
      (new ≡ record old { consumer = new.consumer }) × (received new.consumer ≡ received old.consumer)
      × (old.held ≡ Nothing) × (known_items old.consumer ≡ []) × (known_items new.consumer ≡ [])
  IsDealTurn old Blocked new =
      (new ≡ record old { producers = new.producers }) × ProducersLooked old.producers new.producers
      × CanSend old.held
      × ((p : Producer (Flow T) A Q) → known_free (slice_index_or new.producers old.place p) ≡ 0)
  IsDealTurn old Moved new =
      ((x : Flow T) × (received new.consumer ≡ received old.consumer ++ x ∷ [])
      × (new.producers ≡ old.producers) × (old.held ≡ Nothing))
      ⊎ ((y : Flow T) × (new.consumer ≡ old.consumer)
      × SendsAt old.producers old.place (y ∷ []) new.producers × CanSend old.held)
  IsDealTurn old Ended new = (new ≡ old) × (old.held ≡ Over)
