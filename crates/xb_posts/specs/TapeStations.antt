-- What a tape station holds, and what one turn of it does.
use Rattle.std.specs.Prelude.{◌≡◌, Bool, true, false, List, [], ◌∷◌, ◌++◌, Result, Ok, Err}
use Rattle.rtrb.specs.declared.consumer.Consumer.{Consumer}
use Rattle.rtrb.specs.Ring.{received, known_items, ConsumerLooked}
use Rattle.xb_model.specs.declared.on.On.{On}
use Rattle.xb_model.specs.declared.mark.Mark.{Mark}
use Rattle.xb_flow.specs.declared.flow.Flow.{Flow}
use Rattle.xb_flow.specs.declared.turn.Turn.{Turn}
use Rattle.xb_flow.specs.declared.turn.Turn.TheVariants.{Idle, Blocked, Moved, Ended}
use Rattle.xb_flow.specs.Flows.{items_of, has_end, IsFlow}
use Rattle.xb_tape.specs.GatheredMarks.{AreTapes}

-- what clauses see of a tape station: its end, the tapes of the lines, and whether marks were dropped
-- because memory ran out
pub record TapeView (C : Type 0) : Type 0 where
  pub consumer : C
  pub tapes : List (List Mark)
  pub lost : Bool

-- a turn that ended
abbrev pub is_ended : Turn → Bool
is_ended Idle = false
is_ended Blocked = false
is_ended Moved = false
is_ended Ended = true

abbrev pub TapeOf : Type 0 → Type 0 → Type 0
TapeOf A P = TapeView (Consumer (Flow (On Mark)) A P)

module _ {A P : Type 0} where
  -- the End was received
  abbrev pub has_ended : TapeOf A P → Bool
  has_ended tape = has_end (received tape.consumer)

  -- unless marks were dropped, each line has its marks of those that were received, in order
  pub record TapeLaw (tape : TapeOf A P) : Type 0 where
    pub formed : IsFlow (received tape.consumer)
    pub marks : tape.lost ≡ false → AreTapes tape.tapes (items_of (received tape.consumer))

  -- one turn. Idle: no item is known of. Moved: one mark or the End was received. Memory ran out:
  -- nothing was received, and the tapes are the same
  abbrev pub IsTapeTurn : {E : Type 0} → TapeOf A P → Result Turn E → TapeOf A P → Type 0
  IsTapeTurn old (Ok Idle) new =
      (new ≡ record old { consumer = new.consumer }) × ConsumerLooked old.consumer new.consumer
      × (known_items old.consumer ≡ []) × (known_items new.consumer ≡ [])
  IsTapeTurn old (Ok Blocked) new = ⊥
  IsTapeTurn old (Ok Moved) new =
      ((x : Flow (On Mark)) × (received new.consumer ≡ received old.consumer ++ x ∷ []))
      × (new.lost ≡ old.lost)
  IsTapeTurn old (Ok Ended) new = new ≡ old
  IsTapeTurn old (Err error) new =
      (new ≡ record old { consumer = new.consumer }) × ConsumerLooked old.consumer new.consumer
      × (has_ended old ≡ false)
