-- What one turn of a post does.
use Rattle.std.specs.Prelude.{◌≡◌, ◌≢◌, ◌⊎◌, ◌↔◌, ℕ, ◌<◌, ◌==◌, true, List, [], ◌∷◌, ◌++◌, if◌then◌else◌, map, length, slice_index_or}
use Rattle.std.specs.List.{All}
use mathlib.Core.List.{IsPrefix}
use Rattle.rtrb.specs.Ring.{sent, received, known_free}
use Rattle.xb_model.specs.declared.mark.Mark.{Mark}
use Rattle.xb_model.specs.declared.on.On.{On}
use Rattle.xb_model.specs.declared.order.Order.{Order}
use Rattle.xb_flow.specs.declared.flow.Flow.{Flow}
use Rattle.xb_branches.specs.declared.held.Held.TheVariants.{Nothing}
use Rattle.xb_flow.specs.declared.post.Post.{Post}
use Rattle.xb_flow.specs.declared.post.Post.TheVariants.{Feed, Pulse, Register, Translate, Deal, Send, Gather, Tape}
use Rattle.xb_flow.specs.declared.turn.Turn.{Turn}
use Rattle.xb_flow.specs.declared.turn.Turn.TheVariants.{Idle, Blocked, Moved, Ended}
use Rattle.xb_branches.specs.DealSteps.{CanSend}
use Rattle.xb_flow.specs.Flows.{has_end}
use Rattle.xb_branches.specs.GatherSteps.{Awaits, CanGather}
use Rattle.xb_branches.specs.Gathers.{TakesAt}
use Rattle.xb_station.specs.Stations.{Stays as StationStays}
use Rattle.xb_posts.specs.Feeds.{HasMoved}
use Rattle.xb_run.specs.Posts.{Input, Output, FeedPost, StationPost, SenderPost, DealPost, GatherPost, TapePost, Posts}
use Rattle.xb_replay.specs.World.{World}

-- the rows, the route table and the number of senders are the same
pub record SameRecords (old new : World) : Type 0 where
  pub rows : new.rows ≡ old.rows
  pub table : new.table ≡ old.table
  pub senders : length new.posts.senders ≡ length old.posts.senders

-- ---- which posts are there, and which have ended
abbrev pub IsThere : Posts → Post → Type 0
IsThere posts Feed = Unit {0}
IsThere posts Pulse = Unit {0}
IsThere posts Register = Unit {0}
IsThere posts Translate = Unit {0}
IsThere posts Deal = Unit {0}
IsThere posts (Send j) = j < length posts.senders
IsThere posts Gather = Unit {0}
IsThere posts Tape = Unit {0}

-- the post has sent its End, a deal to each output; the tape has received it
abbrev pub HasEnded : Posts → Post → Type 0
HasEnded posts Feed = has_end (sent posts.feed.producer) ≡ true
HasEnded posts Pulse = has_end (sent posts.pulse.producer) ≡ true
HasEnded posts Register = has_end (sent posts.register.producer) ≡ true
HasEnded posts Translate = has_end (sent posts.translate.producer) ≡ true
HasEnded posts Deal = All (λ output. has_end (sent output) ≡ true) posts.deal.producers
HasEnded posts (Send j) =
    (j < length posts.senders)
    × ((s : SenderPost) → has_end (sent (slice_index_or posts.senders j s).producer) ≡ true)
HasEnded posts Gather = has_end (sent posts.gather.producer) ≡ true
HasEnded posts Tape = has_end (received posts.tape.consumer) ≡ true

abbrev pub AllEnded : Posts → Type 0
AllEnded posts = (post : Post) → IsThere posts post → HasEnded posts post

abbrev pub NoneEnded : Posts → Type 0
NoneEnded posts = (post : Post) → HasEnded posts post → ⊥

-- ---- a post that waits for an item
-- a station holds nothing, and took all that was sent to it
abbrev pub StationWaits : {S I O : Type 0} → List (Flow I) → StationPost S I O → Type 0
StationWaits sent_to s = (s.pending ≡ []) × (received s.consumer ≡ sent_to)

abbrev pub DealWaits : List (Flow (On Order)) → DealPost → Type 0
DealWaits sent_to d = (d.held ≡ Nothing) × (received d.consumer ≡ sent_to)

-- a gather wants an item of the input at the place, and took all that was sent to that
abbrev pub GatherWaits : List SenderPost → GatherPost → Type 0
GatherWaits senders g =
    Awaits g.held × (g.place < length g.consumers)
    × ((s : SenderPost) (c : Input (On Mark)) →
    received (slice_index_or g.consumers g.place c) ≡ sent (slice_index_or senders g.place s).producer)

-- the post isn't there, or wants an item and its ring is empty
abbrev pub Waits : Posts → Post → Type 0
Waits posts Feed = ⊥
Waits posts Pulse = StationWaits (sent posts.feed.producer) posts.pulse
Waits posts Register = StationWaits (sent posts.pulse.producer) posts.register
Waits posts Translate = StationWaits (sent posts.register.producer) posts.translate
Waits posts Deal = DealWaits (sent posts.translate.producer) posts.deal
Waits posts (Send j) = j < length posts.senders → (p : Output (On Order)) (s : SenderPost) →
    StationWaits (sent (slice_index_or posts.deal.producers j p)) (slice_index_or posts.senders j s)
Waits posts Gather = GatherWaits posts.senders posts.gather
Waits posts Tape = received posts.tape.consumer ≡ sent posts.gather.producer

-- ---- a post that holds an item and knows of no room for it
abbrev pub StationHasNoRoom : {S I O : Type 0} → StationPost S I O → Type 0
StationHasNoRoom s = (s.pending ≢ []) × (known_free s.producer ≡ 0)

abbrev pub HasNoRoom : Posts → Post → Type 0
HasNoRoom posts Feed = known_free posts.feed.producer ≡ 0
HasNoRoom posts Pulse = StationHasNoRoom posts.pulse
HasNoRoom posts Register = StationHasNoRoom posts.register
HasNoRoom posts Translate = StationHasNoRoom posts.translate
HasNoRoom posts Deal =
    CanSend posts.deal.held
    × ((p : Output (On Order)) → known_free (slice_index_or posts.deal.producers posts.deal.place p) ≡ 0)
HasNoRoom posts (Send j) =
    (j < length posts.senders) × ((s : SenderPost) → StationHasNoRoom (slice_index_or posts.senders j s))
HasNoRoom posts Gather = CanGather posts.gather.held × (known_free posts.gather.producer ≡ 0)
HasNoRoom posts Tape = ⊥

-- ---- no event of a post: nothing was received or sent, and what it holds is the same
abbrev pub FeedStays : FeedPost → FeedPost → Type 0
FeedStays old new =
    (new ≡ record old { producer = new.producer }) × (sent new.producer ≡ sent old.producer)

abbrev pub OutputsStay : List (Output (On Order)) → List (Output (On Order)) → Type 0
OutputsStay old new =
    (length new ≡ length old)
    × ((j : ℕ) (p : Output (On Order)) → j < length old →
    sent (slice_index_or new j p) ≡ sent (slice_index_or old j p))

abbrev pub DealStays : DealPost → DealPost → Type 0
DealStays old new =
    (received new.consumer ≡ received old.consumer) × OutputsStay old.producers new.producers
    × (new.held ≡ old.held) × (new.place ≡ old.place)

abbrev pub GatherStays : GatherPost → GatherPost → Type 0
GatherStays old new =
    (map received new.consumers ≡ map received old.consumers) × (sent new.producer ≡ sent old.producer)
    × (new.held ≡ old.held) × (new.place ≡ old.place)

abbrev pub TapeStays : TapePost → TapePost → Type 0
TapeStays old new =
    (new ≡ record old { consumer = new.consumer }) × (received new.consumer ≡ received old.consumer)

abbrev pub Stays : Posts → Post → Posts → Type 0
Stays old Feed new = FeedStays old.feed new.feed
Stays old Pulse new = StationStays old.pulse new.pulse
Stays old Register new = StationStays old.register new.register
Stays old Translate new = StationStays old.translate new.translate
Stays old Deal new = DealStays old.deal new.deal
Stays old (Send j) new = (s : SenderPost) → j < length old.senders →
    StationStays (slice_index_or old.senders j s) (slice_index_or new.senders j s)
Stays old Gather new = GatherStays old.gather new.gather
Stays old Tape new = TapeStays old.tape new.tape

-- no event of any other post
abbrev pub OthersStay : Posts → Post → Posts → Type 0
OthersStay old post new = (other : Post) → other ≢ post → Stays old other new

-- ---- one event of a post; that of the feed is said by HasMoved
-- the first item that was sent and not received was received
abbrev pub Takes : {T : Type 0} → List (Flow T) → Input T → Input T → Type 0
Takes {T} sent_to old new =
    (x : Flow T) × (rest : List (Flow T)) × (sent_to ≡ received old ++ x ∷ rest)
    × (received new ≡ received old ++ x ∷ [])

-- a station that held nothing took an item, or it sent the first that it held
abbrev pub StationMoves : {S I O : Type 0} → List (Flow I) → StationPost S I O → StationPost S I O → Type 0
StationMoves {S} {I} {O} sent_to old new =
    (Takes sent_to old.consumer new.consumer × (sent new.producer ≡ sent old.producer) × (old.pending ≡ []))
    ⊎ ((y : Flow O) × (received new.consumer ≡ received old.consumer)
    × (sent new.producer ≡ sent old.producer ++ y ∷ []) × (old.pending ≡ y ∷ new.pending))

-- what was sent to each output is the same, but for y to the output at the place
abbrev pub SendsTo : ℕ → Flow (On Order) → List (Output (On Order)) → List (Output (On Order)) → Type 0
SendsTo place y old new = (j : ℕ) (p : Output (On Order)) → j < length old →
    sent (slice_index_or new j p) ≡ sent (slice_index_or old j p) ++ (if place == j then y ∷ [] else [])

-- a deal that held nothing took an item, or it sent what it held to the output at the place
abbrev pub DealMoves : List (Flow (On Order)) → DealPost → DealPost → Type 0
DealMoves sent_to old new =
    (Takes sent_to old.consumer new.consumer × OutputsStay old.producers new.producers × (old.held ≡ Nothing))
    ⊎ ((y : Flow (On Order)) × (received new.consumer ≡ received old.consumer)
    × SendsTo old.place y old.producers new.producers × CanSend old.held)

-- x is the first item that was sent to the input at the place, and not received
abbrev pub IsNext : List SenderPost → GatherPost → Flow (On Mark) → Type 0
IsNext senders old x = (s : SenderPost) (c : Input (On Mark)) →
    IsPrefix (received (slice_index_or old.consumers old.place c) ++ x ∷ [])
    (sent (slice_index_or senders old.place s).producer)

-- a gather took the item that it wanted, or it sent what it held
abbrev pub GatherMoves : List SenderPost → GatherPost → GatherPost → Type 0
GatherMoves senders old new =
    ((x : Flow (On Mark)) × TakesAt old x new × IsNext senders old x × (sent new.producer ≡ sent old.producer)
    × Awaits old.held)
    ⊎ ((y : Flow (On Mark)) × (map received new.consumers ≡ map received old.consumers)
    × (sent new.producer ≡ sent old.producer ++ y ∷ []) × CanGather old.held)

abbrev pub Moves : Posts → Post → Posts → Type 0
Moves old Feed new = HasMoved old.feed new.feed
Moves old Pulse new = StationMoves (sent old.feed.producer) old.pulse new.pulse
Moves old Register new = StationMoves (sent old.pulse.producer) old.register new.register
Moves old Translate new = StationMoves (sent old.register.producer) old.translate new.translate
Moves old Deal new = DealMoves (sent old.translate.producer) old.deal new.deal
Moves old (Send j) new = (j < length old.senders) × ((p : Output (On Order)) (s : SenderPost) →
    StationMoves (sent (slice_index_or old.deal.producers j p)) (slice_index_or old.senders j s)
    (slice_index_or new.senders j s))
Moves old Gather new = GatherMoves old.senders old.gather new.gather
Moves old Tape new = Takes (sent old.gather.producer) old.tape.consumer new.tape.consumer

-- ---- one turn
abbrev pub IsTurn : Posts → Post → Turn → Posts → Type 0
IsTurn old post Idle new = Waits old post × Stays old post new
IsTurn old post Blocked new = HasNoRoom old post × Stays old post new
IsTurn old post Moved new = Moves old post new
IsTurn old post Ended new = HasEnded old post × Stays old post new

-- a turn that made this: what it did, and that nothing else changed
pub record HasTurned (old : World) (post : Post) (turn : Turn) (new : World) : Type 0 where
  pub records : SameRecords old new
  pub event : IsTurn old.posts post turn new.posts
  pub ended : (turn ≡ Ended) ↔ HasEnded old.posts post
  pub others : OthersStay old.posts post new.posts

-- a turn of the tape station that ran out of memory: nothing changed
pub record HasRefused (old new : World) : Type 0 where
  pub records : SameRecords old new
  pub stays : Stays old.posts Tape new.posts
  pub going : HasEnded old.posts Tape → ⊥
  pub others : OthersStay old.posts Tape new.posts
