-- What a feed holds, and what one turn of it does.
use Rattle.std.specs.Prelude.{◌≡◌, ◌⊎◌, ℕ, ◌<◌, ◌≤◌, Bool, true, false, if◌then◌else◌, List, [], ◌++◌, length, map, Option, Some, None, Result, Ok, Err, vec_len, vec_capacity}
use Rattle.std.specs.declared.vec.Vec.{Vec}
use Rattle.rtrb.specs.declared.producer.Producer.{Producer}
use Rattle.rtrb.specs.Ring.{sent, known_free, ProducerLooked}
use Rattle.xb_model.specs.declared.fault.RowFault.{RowFault}
use Rattle.xb_model.specs.Rows.{LoopRow}
use Rattle.xb_model.specs.Sources.{Rest, told}
use Rattle.xb_flow.specs.declared.flow.Flow.{Flow}
use Rattle.xb_flow.specs.declared.flow.Flow.TheVariants.{Item}
use Rattle.xb_flow.specs.declared.turn.Turn.{Turn}
use Rattle.xb_flow.specs.declared.turn.Turn.TheVariants.{Idle, Blocked, Moved, Ended}
use Rattle.xb_flow.specs.Flows.{items_of, has_end, IsFlow, counted}
use Rattle.xb_posts.specs.Fillings.{MayGive, GaveAll, GaveRows, held_and_left, held_with}
use Rattle.xb_posts.specs.declared.course.Course.{Course}
use Rattle.xb_posts.specs.declared.course.Course.TheVariants.{Going, Stopped, Over}
use Rattle.xb_posts.specs.declared.filling.TheConstants.{AHEAD}
use Rattle.xb_closes.specs.declared.line_use.LineUse.{LineUse}

-- what clauses see of a feed: what its source has still to give, its end, the rows that it holds, what
-- the rows so far leave of the lines, and whether it has met the source's stop
pub record FeedView (P : Type 0) : Type 0 where
  pub rest : Rest
  pub producer : P
  pub held : List (Flow LoopRow)
  pub uses : List LineUse
  pub met : Bool

-- the source's stop was met
abbrev pub has_met : Course → Bool
has_met Going = false
has_met (Stopped stop) = true
has_met (Over stop) = true

-- the End was sent
abbrev pub is_over : Course → Bool
is_over Going = false
is_over (Stopped stop) = false
is_over (Over stop) = true

-- a stop that was met is all that the source has still to tell
abbrev pub IsAt : Course → Rest → Type 0
IsAt Going rest = Unit {0}
IsAt (Stopped stop) rest = rest ≡ told stop
IsAt (Over stop) rest = rest ≡ told stop

-- rows alone, without an End
abbrev pub AreRows : List (Flow LoopRow) → Type 0
AreRows held = held ≡ map Item (items_of held)

-- the fields of a feed agree: it holds a few rows and has room for more, knows of the stop and the End
-- how far it has come, and counted what it sent
pub record FeedAgrees
    {Z : Type 0} (rest : Rest) (held : Vec (Flow LoopRow) Z) (course : Course) (given : ℕ)
    (outs : List (Flow LoopRow))
    : Type 0 where
  pub room : AHEAD ≤ vec_capacity held
  pub few : vec_len held ≤ AHEAD
  pub rows : AreRows held.items
  pub at : IsAt course rest
  pub over : has_end outs ≡ is_over course
  pub formed : IsFlow outs
  pub count : given ≡ counted (length (items_of outs))

-- what the stop makes of a feed that has sent everything
abbrev pub result_of : Option RowFault → Result (Unit {0}) RowFault
result_of None = Ok tt
result_of (Some fault) = Err fault

-- one event: one item, or a slice of rows
abbrev pub IsOnePush : List (Flow LoopRow) → Type 0
IsOnePush items = (length items ≡ 1) ⊎ ((2 ≤ length items) × (length items ≤ AHEAD) × AreRows items)

-- of what was held the first item was sent, or all of it; where nothing was, one item: a close or the
-- End
abbrev pub SendsHeld : (ready items held : List (Flow LoopRow)) → Type 0
SendsHeld ready items held =
    ((ready ≡ items ++ held) × (2 ≤ length items → held ≡ []))
    ⊎ ((ready ≡ []) × (length items ≡ 1) × (held ≡ []))

abbrev pub FeedOf : Type 0 → Type 0 → Type 0
FeedOf A P = FeedView (Producer (Flow LoopRow) A P)

module _ {A P : Type 0} where
  -- the End was sent
  abbrev pub has_fed : FeedOf A P → Bool
  has_fed feed = has_end (sent feed.producer)

  -- what is still to be sent, if the source gives these rows and stops so
  abbrev pub to_come : FeedOf A P → List LoopRow → Option RowFault → List (Flow LoopRow)
  to_come feed rows stop =
      if has_fed feed then [] else held_and_left feed.held feed.uses rows stop

  -- whatever the source may give from now on, it gives that after rows that it may have given before,
  -- and what was sent, followed by what is still to be sent, is the same
  pub record FeedsOn (old new : FeedOf A P) : Type 0 where
    pub earlier : (rows : List LoopRow) (stop : Option RowFault) → MayGive new.rest rows stop →
        (all : List LoopRow) × MayGive old.rest all stop
        × (sent new.producer ++ to_come new rows stop ≡ sent old.producer ++ to_come old all stop)

  -- what is still held has not room for all of it
  abbrev pub HoldsWhatDoesNotFit : FeedOf A P → Type 0
  HoldsWhatDoesNotFit feed = (feed.held ≡ []) ⊎ (known_free feed.producer < length feed.held)

  -- the source gave these rows, and then met its stop
  abbrev pub MeetsStop : FeedOf A P → List LoopRow → Option RowFault → FeedOf A P → Type 0
  MeetsStop old taken stop new =
      (old.met ≡ false) × (new.met ≡ true) × GaveAll old.rest taken stop new.rest

  -- the source gave these rows alone: as many as make the feed hold all that it can, or none where its
  -- stop was met before
  abbrev pub TakesRows : FeedOf A P → List LoopRow → FeedOf A P → Type 0
  TakesRows old taken new =
      (new.met ≡ old.met) × GaveRows old.rest taken new.rest
      × (((old.met ≡ true) × (taken ≡ []))
      ⊎ ((old.met ≡ false) × (length (held_with old.held old.uses taken) ≡ AHEAD)))

  -- these rows were taken ahead, and a stop that was met after them is an end
  abbrev pub TakesAhead : FeedOf A P → List LoopRow → FeedOf A P → Type 0
  TakesAhead old taken new = TakesRows old taken new ⊎ MeetsStop old taken None new

  -- the first of what was still to be sent was sent, by one event
  pub record SendsOne (old new : FeedOf A P) : Type 0 where
    pub items : List (Flow LoopRow)
    pub sends : sent new.producer ≡ sent old.producer ++ items
    pub event : IsOnePush items
    pub held : SendsHeld old.held items new.held
    pub fits : HoldsWhatDoesNotFit new
    pub rest : new.rest ≡ old.rest
    pub met : new.met ≡ old.met
    pub feeds_on : FeedsOn old new

  -- one event: rows were taken ahead, and then one item was sent, or a slice of all the rows that were
  -- held by then. So no slice has a close that the feed made, and a fault of the source is no event
  pub record HasMoved (old new : FeedOf A P) : Type 0 where
    pub taken : List LoopRow
    pub takes : TakesAhead old taken new
    pub items : List (Flow LoopRow)
    pub sends : sent new.producer ≡ sent old.producer ++ items
    pub event : IsOnePush items
    pub held : SendsHeld (held_with old.held old.uses taken) items new.held

  -- one turn. Blocked: no room is known of, and nothing is taken from the source. A fault: it was met,
  -- after the rows that are held now, and nothing was sent
  abbrev pub IsFeedTurn : FeedOf A P → Result Turn RowFault → FeedOf A P → Type 0
  IsFeedTurn old (Ok Idle) new = ⊥
  IsFeedTurn old (Ok Blocked) new =
      (new ≡ record old { producer = new.producer }) × ProducerLooked old.producer new.producer
      × (known_free old.producer ≡ 0) × (known_free new.producer ≡ 0)
  IsFeedTurn old (Ok Moved) new = HasMoved old new
  IsFeedTurn old (Ok Ended) new = new ≡ old
  IsFeedTurn old (Err fault) new =
      (sent new.producer ≡ sent old.producer) × (taken : List LoopRow)
      × (new.held ≡ held_with old.held old.uses taken) × MeetsStop old taken (Some fault) new

  -- all was sent of rows that the source may have given, up to its stop, with one End
  pub record HasFed (old : FeedOf A P) (result : Result (Unit {0}) RowFault) (new : FeedOf A P) : Type 0 where
    pub rows : List LoopRow
    pub stop : Option RowFault
    pub may_give : MayGive old.rest rows stop
    pub result_is : result ≡ result_of stop
    pub sends : sent new.producer ≡ sent old.producer ++ to_come old rows stop
