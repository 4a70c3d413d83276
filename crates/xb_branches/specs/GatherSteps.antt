-- What a gather knows of its inputs, and its small steps.
use Rattle.std.specs.Prelude.{◌≡◌, ◌≢◌, ℕ, ◌+◌, ◌%◌, ◌<◌, ◌≤◌, ◌==◌, ◌||◌, nat_lt, Bool, true, false, List, [], ◌∷◌, ◌++◌, length, slice_index_or, if◌then◌else◌}
use Rattle.std.specs.List.{sum_by}
use Rattle.xb_flow.specs.declared.flow.Flow.{Flow}
use Rattle.xb_flow.specs.declared.flow.Flow.TheVariants.{Item, End}
use Rattle.xb_branches.specs.declared.gathered.Gathered.{Gathered}
use Rattle.xb_branches.specs.declared.gathered.Gathered.TheVariants.{Wants, One, Closing, Ends, Over}
use Rattle.xb_flow.specs.Flows.{items_of, has_end, flow_of, IsFlow}
use Rattle.xb_branches.specs.DealSteps.{next_place}
use Rattle.xb_branches.specs.Merged.{IsMerged, Merges}
use Rattle.xb_branches.specs.declared.branches.TheConstants.{MOST_BRANCHES}

-- the items of input j, of what was received by each
abbrev pub items_at : {T : Type 0} → List (List (Flow T)) → ℕ → List T
items_at ins j = items_of (slice_index_or ins j [])

-- whether the End of input j was received
abbrev pub ended_in : {T : Type 0} → List (List (Flow T)) → ℕ → Bool
ended_in ins j = has_end (slice_index_or ins j [])

-- how many items were received in all
abbrev pub items_in : {T : Type 0} → List (List (Flow T)) → ℕ
items_in ins = sum_by (λ xs. length (items_of xs)) ins

-- what is held to be sent
abbrev pub to_send : {T : Type 0} → Gathered T → List (Flow T)
to_send Wants = []
to_send (One x) = Item x ∷ []
to_send (Closing first) = []
to_send Ends = End ∷ []
to_send Over = []

-- whether the End of every input was received
abbrev pub all_ended : {T : Type 0} → Gathered T → Bool
all_ended Wants = false
all_ended (One x) = false
all_ended (Closing first) = false
all_ended Ends = true
all_ended Over = true

module _ {T : Type 0} (ends : T → Bool) where
  -- no End was received, and nothing that merging leaves out
  pub record Open (n : ℕ) (ins : List (List (Flow T))) (place : ℕ) (items : List T) : Type 0 where
    pub count : ℕ
    pub at : place ≡ count % n
    pub merges : Merges ends n (items_at ins) count items
    pub none_ended : (j : ℕ) → j < n → ended_in ins j ≡ false

  -- the End of input `first` was received, and then those of the inputs below `next`
  pub record Closes (n : ℕ) (ins : List (List (Flow T))) (first next : ℕ) (items : List T) : Type 0 where
    pub merges : IsMerged ends n (items_at ins) items
    pub stuck : merges.last % n ≡ first
    pub within : first < n
    pub some_ended : (j : ℕ) → j < n → ended_in ins j ≡ ((j == first) || nat_lt j next)

  -- how far the inputs were received, by what is held
  abbrev pub HasGathered : ℕ → Gathered T → List (List (Flow T)) → ℕ → List T → Type 0
  HasGathered n Wants ins place items = Open n ins place items
  HasGathered n (One x) ins place items = Open n ins place items
  HasGathered n (Closing first) ins place items =
      Closes n ins first place items × (place < n) × (place ≢ first)
  HasGathered n Ends ins place items =
      IsMerged ends n (items_at ins) items × ((j : ℕ) → j < n → ended_in ins j ≡ true)
  HasGathered n Over ins place items =
      IsMerged ends n (items_at ins) items × ((j : ℕ) → j < n → ended_in ins j ≡ true)

  -- the fields of a gather agree: what it sent followed by what it holds is merged of what it received
  pub record GatherAgrees
      (ins : List (List (Flow T))) (outs : List (Flow T)) (held : Gathered T) (place : ℕ)
      : Type 0 where
    pub least : 1 ≤ length ins
    pub most : length ins ≤ MOST_BRANCHES
    pub items : List T
    pub law : outs ++ to_send held ≡ flow_of items (all_ended held)
    pub gathered : HasGathered (length ins) held ins place items
    pub formed : (j : ℕ) → j < length ins → IsFlow (slice_index_or ins j [])

-- what is held once the End of input `first` was received, and then those of the inputs below
-- `next`; and the input to take from next
abbrev pub close_next : {T : Type 0} → ℕ → ℕ → ℕ → Gathered T × ℕ
close_next n first next =
    let at = (if next == first then next + 1 else next) in
    if nat_lt at n then (Closing first, at) else (Ends, at)

-- the same, after input `place` gave an item that is dropped, or its End
abbrev pub closed_by : {T : Type 0} → ℕ → ℕ → ℕ → Flow T → Gathered T × ℕ
closed_by n first place (Item x) = (Closing first, place)
closed_by n first place End = close_next n first (place + 1)

-- the same, after input `place` gave an item, or the first End
abbrev pub gathered_of : {T : Type 0} → (T → Bool) → ℕ → ℕ → Flow T → Gathered T × ℕ
gathered_of ends n place (Item x) = (One x, (if ends x then next_place n place else place))
gathered_of ends n place End = close_next n place 0

-- the same, whatever is held; where nothing is wanted it stays
abbrev pub held_after : {T : Type 0} → (T → Bool) → ℕ → ℕ → Gathered T → Flow T → Gathered T × ℕ
held_after ends n place Wants taken = gathered_of ends n place taken
held_after ends n place (One x) taken = (One x, place)
held_after ends n place (Closing first) taken = closed_by n first place taken
held_after ends n place Ends taken = (Ends, place)
held_after ends n place Over taken = (Over, place)

-- something is held that is to be sent
abbrev pub CanGather : {T : Type 0} → Gathered T → Type 0
CanGather Wants = ⊥
CanGather (One x) = Unit {0}
CanGather (Closing first) = ⊥
CanGather Ends = Unit {0}
CanGather Over = ⊥

-- an item of the input at the place is wanted
abbrev pub Awaits : {T : Type 0} → Gathered T → Type 0
Awaits Wants = Unit {0}
Awaits (One x) = ⊥
Awaits (Closing first) = Unit {0}
Awaits Ends = ⊥
Awaits Over = ⊥

-- what is sent of what is held
abbrev pub sent_of : {T : Type 0} → Gathered T → Flow T
sent_of Wants = End
sent_of (One x) = Item x
sent_of (Closing first) = End
sent_of Ends = End
sent_of Over = End

-- what is held after that
abbrev pub left_of : {T : Type 0} → Gathered T → Gathered T
left_of Wants = Wants
left_of (One x) = Wants
left_of (Closing first) = Closing first
left_of Ends = Over
left_of Over = Over
