-- What a station holds, and what one turn of it does.
use Rattle.std.specs.Prelude.{◌≡◌, ◌≢◌, ◌⊎◌, ℕ, ◌≤◌, Bool, true, false, List, [], ◌∷◌, ◌++◌, length, reverse, vec_capacity}
use Rattle.std.specs.declared.vec.Vec.{Vec}
use Rattle.rtrb.specs.declared.producer.Producer.{Producer}
use Rattle.rtrb.specs.declared.consumer.Consumer.{Consumer}
use Rattle.rtrb.specs.Ring.{sent, received, known_free, known_items, SameProducer, SameConsumer}
use Rattle.xb_flow.specs.declared.flow.Flow.{Flow}
use Rattle.xb_flow.specs.declared.turn.Turn.{Turn}
use Rattle.xb_flow.specs.declared.turn.Turn.TheVariants.{Idle, Blocked, Moved, Ended}
use Rattle.xb_station.specs.declared.phase.Phase.{Phase}
use Rattle.xb_station.specs.declared.phase.Phase.TheVariants.{Open, Ending, Over}
use Rattle.xb_model.specs.declared.stage.TheConstants.{OUTPUT_ROOM}
use Rattle.xb_model.specs.Image.{Machine, image}
use Rattle.xb_model.specs.States.{AreStates}
use Rattle.xb_station.specs.FlowImages.{flow_image}
use Rattle.xb_flow.specs.Flows.{items_of, has_end, flow_of, IsFlow, IsEnded, counted}

-- what clauses see of a station: its stage, its two ends, and what it holds to be sent
pub record StationView (S C P T : Type 0) : Type 0 where
  pub stage : S
  pub consumer : C
  pub producer : P
  pub pending : List T

-- the End was received, and is to be sent
abbrev pub end_is_pending : Phase → Bool
end_is_pending Open = false
end_is_pending Ending = true
end_is_pending Over = false

-- the End was received
abbrev pub is_closed : Phase → Bool
is_closed Open = false
is_closed Ending = true
is_closed Over = true

-- the End was sent
abbrev pub is_over : Phase → Bool
is_over Open = false
is_over Ending = false
is_over Over = true

module _ {I O S : Type 0} (line : I → ℕ) (machine : Machine I O S) where
  -- the fields of a station agree: its states are those of the lines, what it sent followed by what
  -- it holds, from the last on, is the image of what it received, and it counted that
  pub record FieldsAgree
      {Z : Type 0} (states : List S) (pending : Vec O Z) (phase : Phase) (taken : ℕ)
      (ins : List (Flow I)) (outs : List (Flow O))
      : Type 0 where
    pub lines : AreStates line machine states (items_of ins)
    pub room : OUTPUT_ROOM ≤ vec_capacity pending
    pub law : outs ++ flow_of (reverse pending.items) (end_is_pending phase) ≡ flow_image line machine ins
    pub closed : has_end ins ≡ is_closed phase
    pub over : has_end outs ≡ is_over phase
    pub formed : IsFlow ins
    pub none : is_closed phase ≡ true → pending.items ≡ []
    pub count : taken ≡ counted (length (items_of ins))

  -- what was sent, followed by what is pending, is the image of what was received; once the End was
  -- sent nothing is pending, and the End was received
  pub record StationLaw (ins : List (Flow I)) (outs pending : List (Flow O)) : Type 0 where
    pub image_of : outs ++ pending ≡ flow_image line machine ins
    pub formed : IsFlow ins
    pub whole : has_end outs ≡ true → (has_end ins ≡ true) × (pending ≡ [])

  -- all was received, up to and with one End, and the image of that was sent, with one End
  pub record HasPassed (ins : List (Flow I)) (outs : List (Flow O)) : Type 0 where
    pub input : IsEnded ins
    pub output : outs ≡ flow_of (image line machine (items_of ins)) true

-- a station, with its ends
abbrev pub StationOf : Type 0 → Type 0 → Type 0 → Type 0 → Type 0 → Type 0 → Type 0
StationOf S I O A P Q = StationView S (Consumer I A P) (Producer O A Q) O

module _ {S I O A P Q : Type 0} where
  -- the same stage, between the same ends
  abbrev pub SameStation : StationOf S I O A P Q → StationOf S I O A P Q → Type 0
  SameStation old new =
      (new.stage ≡ old.stage)
      × SameConsumer old.consumer new.consumer
      × SameProducer old.producer new.producer

  -- no event: nothing was received or sent, and what is pending is the same
  abbrev pub Stays : StationOf S I O A P Q → StationOf S I O A P Q → Type 0
  Stays old new =
      (received new.consumer ≡ received old.consumer)
      × (sent new.producer ≡ sent old.producer)
      × (new.pending ≡ old.pending)

  -- one turn. Idle: an item is wanted, and none is known of. Blocked: something is pending, and no
  -- room is known of. Moved: one item or End was received, or the first of what is pending was sent
  abbrev pub IsStationTurn : StationOf S I O A P Q → Turn → StationOf S I O A P Q → Type 0
  IsStationTurn old Idle new =
      Stays old new × (old.pending ≡ []) × (known_items old.consumer ≡ []) × (known_items new.consumer ≡ [])
  IsStationTurn old Blocked new =
      Stays old new × (old.pending ≢ []) × (known_free old.producer ≡ 0) × (known_free new.producer ≡ 0)
  IsStationTurn old Moved new =
      ((x : I) × (received new.consumer ≡ received old.consumer ++ x ∷ [])
      × (sent new.producer ≡ sent old.producer) × (old.pending ≡ []))
      ⊎ ((y : O) × (received new.consumer ≡ received old.consumer)
      × (sent new.producer ≡ sent old.producer ++ y ∷ []) × (old.pending ≡ y ∷ new.pending))
  IsStationTurn old Ended new = new ≡ old
