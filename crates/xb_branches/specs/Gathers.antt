-- What a gather holds, and what one turn of it does.
use Rattle.std.specs.Prelude.{◌≡◌, ◌⊎◌, ℕ, ◌<◌, ◌≤◌, Bool, true, false, List, [], ◌∷◌, ◌++◌, map, length, slice_index_or, slice_set}
use Rattle.std.specs.List.{list_all}
use Rattle.rtrb.specs.declared.producer.Producer.{Producer}
use Rattle.rtrb.specs.declared.consumer.Consumer.{Consumer}
use Rattle.rtrb.specs.Ring.{sent, received, known_free, known_items, SameConsumer, SameProducer, ProducerLooked}
use Rattle.xb_flow.specs.declared.flow.Flow.{Flow}
use Rattle.xb_flow.specs.declared.turn.Turn.{Turn}
use Rattle.xb_flow.specs.declared.turn.Turn.TheVariants.{Idle, Blocked, Moved, Ended}
use Rattle.xb_branches.specs.declared.gathered.Gathered.{Gathered}
use Rattle.xb_branches.specs.declared.gathered.Gathered.TheVariants.{Over}
use Rattle.xb_flow.specs.Flows.{has_end, flow_of, IsFlow, IsEnded}
use Rattle.xb_branches.specs.GatherSteps.{items_at, ended_in, to_send, CanGather, Awaits}
use Rattle.xb_branches.specs.Merged.{merged, stop, piece_at}
use Rattle.xb_branches.specs.declared.branches.TheConstants.{MOST_BRANCHES}

-- what clauses see of a gather: its ends, what it holds, and the input to take from next
pub record GatherView (C P T : Type 0) : Type 0 where
  pub consumers : List C
  pub producer : P
  pub held : Gathered T
  pub place : ℕ

module _ {T : Type 0} (ends : T → Bool) where
  -- what was sent, followed by what is held, is merged of what was received, and once the End of
  -- every input was received one End; before the first End nothing was received that merging leaves
  -- out; where an item is wanted, it is of an input that is there
  pub record GatherLawOf
      (ins : List (List (Flow T))) (outs : List (Flow T)) (held : Gathered T) (place : ℕ)
      : Type 0 where
    pub least : 1 ≤ length ins
    pub most : length ins ≤ MOST_BRANCHES
    pub law : outs ++ to_send held ≡ flow_of (merged ends (length ins) (items_at ins)) (list_all has_end ins)
    pub formed : (j : ℕ) → j < length ins → IsFlow (slice_index_or ins j [])
    pub none_left_out : ((j : ℕ) → j < length ins → ended_in ins j ≡ false) →
        (k : ℕ) → stop ends (length ins) (items_at ins) < k → piece_at ends (length ins) (items_at ins) k ≡ []
    pub within : Awaits held → place < length ins

  -- of each input all was received, up to and with one End, and what is merged of that was sent, with
  -- one End; nothing is held
  pub record HasMergedOf (ins : List (List (Flow T))) (outs : List (Flow T)) (held : Gathered T)
      : Type 0 where
    pub inputs : (j : ℕ) → j < length ins → IsEnded (slice_index_or ins j [])
    pub output : outs ≡ flow_of (merged ends (length ins) (items_at ins)) true
    pub nothing_held : held ≡ Over

-- a gather, with its ends
abbrev pub GatherOf : Type 0 → Type 0 → Type 0 → Type 0 → Type 0
GatherOf T A P Q = GatherView (Consumer (Flow T) A P) (Producer (Flow T) A Q) T

module _ {T A P Q : Type 0} where
  -- the law of a gather, over what its ends received and sent
  abbrev pub GatherLaw : (T → Bool) → GatherOf T A P Q → Type 0
  GatherLaw ends g = GatherLawOf ends (map received g.consumers) (sent g.producer) g.held g.place

  -- what holds of a gather that has ended, over what its ends received and sent
  abbrev pub HasMerged : (T → Bool) → GatherOf T A P Q → Type 0
  HasMerged ends g = HasMergedOf ends (map received g.consumers) (sent g.producer) g.held

  -- the same ends
  abbrev pub SameGather : GatherOf T A P Q → GatherOf T A P Q → Type 0
  SameGather old new =
      (length new.consumers ≡ length old.consumers)
      × ((j : ℕ) (c : Consumer (Flow T) A P) → j < length old.consumers →
      SameConsumer (slice_index_or old.consumers j c) (slice_index_or new.consumers j c))
      × SameProducer old.producer new.producer

  -- what was received of each input stays, but for one more of the input at the place
  abbrev pub TakesAt : GatherOf T A P Q → Flow T → GatherOf T A P Q → Type 0
  TakesAt old x new =
      let ins = map received old.consumers in
      map received new.consumers ≡ slice_set ins old.place (slice_index_or ins old.place [] ++ x ∷ [])

  -- no item of the input at the place is known
  abbrev pub NoneKnownAt : GatherOf T A P Q → ℕ → Type 0
  NoneKnownAt g place = (c : Consumer (Flow T) A P) → known_items (slice_index_or g.consumers place c) ≡ []

  -- one turn. Idle: an item of the input at the place is wanted, and none is known of. Blocked:
  -- something is held, and no room is known of. Moved: one item or End of that input was received, or
  -- what is held was sent
  abbrev pub IsGatherTurn : GatherOf T A P Q → Turn → GatherOf T A P Q → Type 0
  IsGatherTurn old Idle new =
      (new ≡ record old { consumers = new.consumers })
      × (map received new.consumers ≡ map received old.consumers)
      × Awaits old.held × NoneKnownAt old old.place × NoneKnownAt new old.place
  IsGatherTurn old Blocked new =
      (new ≡ record old { producer = new.producer }) × ProducerLooked old.producer new.producer
      × CanGather old.held × (known_free old.producer ≡ 0) × (known_free new.producer ≡ 0)
  IsGatherTurn old Moved new =
      ((x : Flow T) × TakesAt old x new × (new.producer ≡ old.producer) × Awaits old.held)
      ⊎ ((y : Flow T) × (new.consumers ≡ old.consumers)
      × (sent new.producer ≡ sent old.producer ++ y ∷ []) × CanGather old.held)
  IsGatherTurn old Ended new = (new ≡ old) × (old.held ≡ Over)
