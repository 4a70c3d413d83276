-- The turn of a post, between the looks at its rings.
use Rattle.std.proofs.Common.{◌≡◌, ℕ, ◌<◌, false, length, get_or, List, [], ◌∷◌, ◌++◌, Result, Ok, Err, IfOk, OnErr, true, ◌↔◌, refl, sym, ap, ◌∙◌, subst, inl, inr, ⊎_elim, append-nil, append_assoc, arith}
use Rattle.rtrb.specs.Ring.{sent, received, known_free, known_items, ProducerLooked, ConsumerLooked}
use Rattle.xb_model.specs.declared.mark.Mark.{Mark}
use Rattle.xb_model.specs.declared.on.On.{On}
use Rattle.xb_model.specs.declared.order.Order.{Order}
use Rattle.xb_flow.specs.declared.flow.Flow.{Flow}
use Rattle.xb_flow.specs.declared.post.Post.{Post}
use Rattle.xb_flow.specs.declared.post.Post.TheVariants.{Send}
use Rattle.xb_flow.specs.declared.turn.Turn.{Turn}
use Rattle.xb_flow.specs.declared.turn.Turn.TheVariants.{Idle, Blocked, Moved, Ended}
use Rattle.xb_flow.specs.Flows.{has_end}
use Rattle.xb_flow.specs.Rings.{IsRing}
use Rattle.xb_station.specs.Stations.{IsStationTurn, Stays as StationStays}
use Rattle.xb_posts.specs.Feeds.{IsFeedTurn, HasMoved, SendsHeld, TakesAhead}
use Rattle.xb_posts.specs.Fillings.{held_with}
use Rattle.xb_posts.specs.TapeStations.{IsTapeTurn}
use Rattle.xb_replay.specs.Looks.{InputLooked, OutputLooked}
use Rattle.xb_replay.specs.Turns.{FeedStays, StationWaits, StationHasNoRoom, StationMoves, TapeStays, Takes, Waits, HasNoRoom, Moves, HasEnded, Stays, IsTurn}
use Rattle.xb_run.specs.Posts.{Input, Output, FeedPost, StationPost, SenderPost, TapePost, Posts}
use Rattle.xb_replay.proofs.LookSteps.{feed-on}

-- ---- one turn of any post
-- by what it returned
abbrev pub Turned : (waits has_no_room moves ended stays : Type 0) → Turn → Type 0
Turned waits has_no_room moves ended stays Idle = waits × stays
Turned waits has_no_room moves ended stays Blocked = has_no_room × stays
Turned waits has_no_room moves ended stays Moved = moves
Turned waits has_no_room moves ended stays Ended = ended × stays

pub is-turn : (old : Posts) (post : Post) (turn : Turn) (new : Posts)
    → Turned (Waits old post) (HasNoRoom old post) (Moves old post new) (HasEnded old post) (Stays old post new) turn → IsTurn old post turn new
is-turn old post Idle new t = t
is-turn old post Blocked new t = t
is-turn old post Moved new t = t
is-turn old post Ended new t = t

-- returned values that are the same
abbrev pub returned : {X : Type 0} (E : Type 0) → X → Result X E
returned E x = Ok x

pub ok_same : {X E : Type 0} (x y : X) → returned E x ≡ returned E y → x ≡ y
ok_same x y e = cc e

-- whether it ended depends on what was sent or received alone
pub ended-same : {X R : Type 0} (result ended : R) (of : List (Flow X)) (now : List (Flow X)) → now ≡ of
    → (result ≡ ended) ↔ (has_end now ≡ true) → (result ≡ ended) ↔ (has_end of ≡ true)
ended-same result ended of now e h = subst (λ xs. (result ≡ ended) ↔ (has_end xs ≡ true)) e h

-- ---- an item of a ring
module _ {T : Type 0} (up now later : Output T) where
  -- what is received next is the first that was sent and not received
  pub takes : (a d : Input T) (x : Flow T) → received d ≡ received a ++ x ∷ [] → IsRing later d → sent later ≡ sent up → Takes (sent up) a d
  takes a d x more ring same = (
    x,
    known_items d,
    sym same ∙ (sym ring.fifo ∙ (ap (λ zs. zs ++ known_items d) more ∙ append_assoc (received a) (x ∷ []) (known_items d))),
    more,
  )

  -- and where no item is known after a look, the ring is empty
  pub empty : (a b : Input T) → received b ≡ received a → IsRing now b → sent now ≡ sent up → known_items b ≡ [] → received a ≡ sent up
  empty a b same ring before none = sym same ∙ (sym (append-nil (received b)) ∙ (ap (λ zs. received b ++ zs) (sym none) ∙ (ring.fifo ∙ before)))

-- where no room is known of after a look, none was before
pub no_room : {T : Type 0} (p q r : Output T) → p ≡ q → ProducerLooked q r → known_free r ≡ 0 → known_free p ≡ 0
no_room p q r e look none = ap known_free e ∙ omega (arith, look.2, none)

-- ---- a station
abbrev pub StationTurned : {S I O : Type 0} → List (Flow I) → StationPost S I O → StationPost S I O → Turn → Type 0
StationTurned up old new =
    Turned (StationWaits up old) (StationHasNoRoom old) (StationMoves up old new) (has_end (sent old.producer) ≡ true) (StationStays old new)

module _ {S I O : Type 0} (a b : StationPost S I O) where
  -- looks at one of its rings
  pub input-stays : InputLooked a b → StationStays a b
  input-stays e = (e.1, ap (λ (s : StationPost S I O). sent s.producer) e.0, ap (λ (s : StationPost S I O). s.pending) e.0)

  pub output-stays : OutputLooked a b → StationStays a b
  output-stays e = (ap (λ (s : StationPost S I O). received s.consumer) e.0, e.1, ap (λ (s : StationPost S I O). s.pending) e.0)

-- looks, a turn, looks
module _ {S I O : Type 0} (up now later : Output I) (a b c d e f : StationPost S I O)
    (ab : InputLooked a b) (ring : IsRing now b.consumer) (before : sent now ≡ sent up)
    (bc : (c ≡ record b { producer = c.producer }) × ProducerLooked b.producer c.producer)
    (de : OutputLooked d e) (ef : InputLooked e f) (again : IsRing later f.consumer) (after : sent later ≡ sent up) where
  received-c : received c.consumer ≡ received a.consumer
  received-c = ap (λ (s : StationPost S I O). received s.consumer) bc.0 ∙ ab.1

  pub sent-c : sent c.producer ≡ sent a.producer
  sent-c = bc.1.1 ∙ ap (λ (s : StationPost S I O). sent s.producer) ab.0

  pending-c : c.pending ≡ a.pending
  pending-c = ap (λ (s : StationPost S I O). s.pending) bc.0 ∙ ap (λ (s : StationPost S I O). s.pending) ab.0

  received-f : received f.consumer ≡ received d.consumer
  received-f = ef.1 ∙ ap (λ (s : StationPost S I O). received s.consumer) de.0

  sent-f : sent f.producer ≡ sent d.producer
  sent-f = ap (λ (s : StationPost S I O). sent s.producer) ef.0 ∙ de.1

  pending-f : f.pending ≡ d.pending
  pending-f = ap (λ (s : StationPost S I O). s.pending) ef.0 ∙ ap (λ (s : StationPost S I O). s.pending) de.0

  stays : received d.consumer ≡ received c.consumer → sent d.producer ≡ sent c.producer → d.pending ≡ c.pending → StationStays a f
  stays x y z = (received-f ∙ (x ∙ received-c), sent-f ∙ (y ∙ sent-c), pending-f ∙ (z ∙ pending-c))

  -- no room was known of before the looks, either
  room : known_free c.producer ≡ 0 → known_free a.producer ≡ 0
  room none = no_room a.producer b.producer c.producer (sym (ap (λ (s : StationPost S I O). s.producer) ab.0)) bc.1 none

  pub station-turned : (turn : Turn) → IsStationTurn c turn d → (turn ≡ Ended) ↔ (has_end (sent a.producer) ≡ true) → StationTurned (sent up) a f turn
  station-turned Idle t h = (
    (
      sym pending-c ∙ t.1,
      empty up now later a.consumer b.consumer ab.1 ring before (sym (ap (λ (s : StationPost S I O). known_items s.consumer) bc.0) ∙ t.2),
    ),
    stays t.0.0 t.0.1 t.0.2,
  )
  station-turned Blocked t h = (((λ none. t.1 (pending-c ∙ none)), room t.2), stays t.0.0 t.0.1 t.0.2)
  station-turned Moved t h =
      ⊎_elim
      (λ took. inl (
        takes up now later a.consumer f.consumer took.0 (received-f ∙ (took.1 ∙ ap (λ zs. zs ++ took.0 ∷ []) received-c)) again after,
        sent-f ∙ (took.2 ∙ sent-c),
        sym pending-c ∙ took.3,
      ))
      (λ gave. inr (
        gave.0,
        received-f ∙ (gave.1 ∙ received-c),
        sent-f ∙ (gave.2 ∙ ap (λ zs. zs ++ gave.0 ∷ []) sent-c),
        sym pending-c ∙ (gave.3 ∙ ap (λ zs. gave.0 ∷ zs) (sym pending-f)),
      ))
      t
  station-turned Ended t h = (
    h.0 refl,
    stays (ap (λ (s : StationPost S I O). received s.consumer) t) (ap (λ (s : StationPost S I O). sent s.producer) t) (ap (λ (s : StationPost S I O). s.pending) t),
  )

-- a sender that is there
pub sender-turned : (old new : Posts) (j : ℕ) → j < length old.senders → (turn : Turn)
    → ((p : Output (On Order)) (s : SenderPost) → StationTurned (sent (get_or old.deal.producers j p)) (get_or old.senders j s) (get_or new.senders j s) turn)
    → Turned (Waits old (Send j)) (HasNoRoom old (Send j)) (Moves old (Send j) new) (HasEnded old (Send j)) (Stays old (Send j) new) turn
sender-turned old new j there Idle t = (λ h p s. (t p s).0, λ s h. (t old.translate.producer s).1)
sender-turned old new j there Blocked t = ((there, λ s. (t old.translate.producer s).0), λ s h. (t old.translate.producer s).1)
sender-turned old new j there Moved t = (there, t)
sender-turned old new j there Ended t = ((there, λ s. (t old.translate.producer s).0), λ s h. (t old.translate.producer s).1)

-- ---- the feed
abbrev pub FeedTurned : FeedPost → FeedPost → Turn → Type 0
FeedTurned old new = Turned ⊥ (known_free old.producer ≡ 0) (HasMoved old new) (has_end (sent old.producer) ≡ true) (FeedStays old new)

module _ (a b c d : FeedPost) (ab : (b ≡ record a { producer = b.producer }) × ProducerLooked a.producer b.producer)
    (cd : (d ≡ record c { producer = d.producer }) × ProducerLooked c.producer d.producer) where
  feed-stays : c ≡ record b { producer = c.producer } → sent c.producer ≡ sent b.producer → FeedStays a d
  feed-stays same sends = (feed-on a c d (feed-on a b c ab.0 same) cd.0, cd.1.1 ∙ (sends ∙ ab.1.1))

  pub feed-ended : {E : Type 0} (result : Result Turn E) (turn : Turn) → result ≡ Ok turn
      → (result ≡ Ok Ended) ↔ (has_end (sent b.producer) ≡ true) → (turn ≡ Ended) ↔ (has_end (sent a.producer) ≡ true)
  feed-ended result turn is h = (
    λ e. ap has_end (sym ab.1.1) ∙ h.0 (is ∙ ap Ok e),
    λ over. ok_same turn Ended (sym is ∙ h.1 (ap has_end ab.1.1 ∙ over)),
  )

  pub feed-turned : (turn : Turn) → IsFeedTurn b (Ok turn) c → (turn ≡ Ended) ↔ (has_end (sent a.producer) ≡ true) → FeedTurned a d turn
  feed-turned Idle t h = absurd t
  feed-turned Blocked t h = (no_room a.producer a.producer b.producer refl ab.1 t.2, feed-stays t.0 t.1.1)
  feed-turned Moved t h = record {
    taken = t.taken;
    takes = subst (λ (z : FeedPost). TakesAhead a t.taken z) (sym cd.0) (subst (λ (z : FeedPost). TakesAhead z t.taken c) ab.0 t.takes);
    items = t.items;
    sends = cd.1.1 ∙ (t.sends ∙ ap (λ zs. zs ++ t.items) ab.1.1);
    event = t.event;
    held =
        subst (λ (z : FeedPost). SendsHeld (held_with a.held a.uses t.taken) t.items z.held) (sym cd.0)
        (subst (λ (z : FeedPost). SendsHeld (held_with z.held z.uses t.taken) t.items c.held) ab.0 t.held);
  }
  feed-turned Ended t h = (
    h.0 refl,
    feed-stays (subst (λ z. c ≡ record z { producer = c.producer }) t refl) (ap (λ (f : FeedPost). sent f.producer) t),
  )

-- ---- the tape station
abbrev pub TapeTurned : List (Flow (On Mark)) → TapePost → TapePost → Turn → Type 0
TapeTurned up old new =
    Turned (received old.consumer ≡ up) ⊥ (Takes up old.consumer new.consumer) (has_end (received old.consumer) ≡ true) (TapeStays old new)

-- two looks
pub tape-on : (a b c : TapePost) → TapeStays a b → TapeStays b c → TapeStays a c
tape-on a b c e f = (f.0 ∙ ap (λ (t : TapePost). record t { consumer = c.consumer }) e.0, f.1 ∙ e.1)

module _ (up now later : Output (On Mark)) (a b c d : TapePost)
    (ab : (b ≡ record a { consumer = b.consumer }) × ConsumerLooked a.consumer b.consumer) (ring : IsRing now b.consumer) (before : sent now ≡ sent up)
    (cd : (d ≡ record c { consumer = d.consumer }) × ConsumerLooked c.consumer d.consumer) (again : IsRing later d.consumer) (after : sent later ≡ sent up) where
  tape-stays : c ≡ record b { consumer = c.consumer } → received c.consumer ≡ received b.consumer → TapeStays a d
  tape-stays same takes = (
    cd.0 ∙ ap (λ (t : TapePost). record t { consumer = d.consumer }) (same ∙ ap (λ (t : TapePost). record t { consumer = c.consumer }) ab.0),
    cd.1.1 ∙ (takes ∙ ab.1.1),
  )

  pub tape-ended : {E : Type 0} (result : Result Turn E) → (result ≡ Ok Ended) ↔ (has_end (received b.consumer) ≡ true)
      → (result ≡ Ok Ended) ↔ (has_end (received a.consumer) ≡ true)
  tape-ended result = ended-same result (Ok Ended) (received a.consumer) (received b.consumer) ab.1.1

  pub tape-turned : {E : Type 0} (result : Result Turn E) → IsTapeTurn b result c → (result ≡ Ok Ended) ↔ (has_end (received a.consumer) ≡ true)
      → IfOk result (TapeTurned (sent up) a d)
  tape-turned (Ok Idle) t h = (empty up now later a.consumer b.consumer ab.1.1 ring before t.2, tape-stays t.0 t.1.1)
  tape-turned (Ok Blocked) t h = absurd t
  tape-turned (Ok Moved) t h = takes up now later a.consumer d.consumer t.0.0 (cd.1.1 ∙ (t.0.1 ∙ ap (λ zs. zs ++ t.0.0 ∷ []) ab.1.1)) again after
  tape-turned (Ok Ended) t h = (
    h.0 refl,
    tape-stays (subst (λ z. c ≡ record z { consumer = c.consumer }) t refl) (ap (λ (x : TapePost). received x.consumer) t),
  )
  tape-turned (Err error) t h = tt

  pub tape-refused : {E : Type 0} (result : Result Turn E) → IsTapeTurn b result c → OnErr result (TapeStays a d)
  tape-refused (Ok turn) t = tt
  tape-refused (Err error) t = tape-stays t.0 t.1.1

-- a turn that is refused drops no mark, and no other does
pub tape-kept : {E : Type 0} (a b c d : TapePost) → b ≡ record a { consumer = b.consumer } → d ≡ record c { consumer = d.consumer }
    → (result : Result Turn E) → IsTapeTurn b result c → a.lost ≡ false → d.lost ≡ false
tape-kept {E} a b c d ab cd result t kept = ap (λ (x : TapePost). x.lost) cd ∙ (at result t ∙ (ap (λ (x : TapePost). x.lost) ab ∙ kept))
  where
    at : (result : Result Turn E) → IsTapeTurn b result c → c.lost ≡ b.lost
    at (Ok Idle) t = ap (λ (x : TapePost). x.lost) t.0
    at (Ok Blocked) t = absurd t
    at (Ok Moved) t = t.1
    at (Ok Ended) t = ap (λ (x : TapePost). x.lost) t
    at (Err error) t = ap (λ (x : TapePost). x.lost) t.0
