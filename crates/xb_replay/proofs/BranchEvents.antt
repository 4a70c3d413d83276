-- The turns of a deal and of a gather, between the looks at their rings.
use Rattle.std.proofs.Common.{◌≡◌, ℕ, ◌-◌, ◌<◌, true, cond, eqb, List, [], ◌∷◌, ◌++◌, map, length, get_or, set, refl, sym, ap, ◌∙◌, ◌↔◌, subst, inl, inr, ⊎_elim, arith, get_or-set_same}
use Rattle.std.specs.List.{All}
use Rattle.std.proofs.lemmas.List.{get_or-map, length-map}
use Rattle.std.proofs.lemmas.Nat.{mod_below}
use Rattle.rtrb.specs.Ring.{sent, received, known_free, known_items, ProducerLooked}
use Rattle.xb_model.specs.declared.mark.Mark.{Mark}
use Rattle.xb_model.specs.declared.on.On.{On}
use Rattle.xb_model.specs.declared.order.Order.{Order}
use Rattle.xb_model.specs.Keyings.{is_ending}
use Rattle.xb_flow.specs.declared.flow.Flow.{Flow}
use Rattle.xb_branches.specs.declared.held.Held.{Held}
use Rattle.xb_branches.specs.declared.held.Held.TheVariants.{Nothing, One, Ends, Over}
use Rattle.xb_flow.specs.declared.turn.Turn.{Turn}
use Rattle.xb_flow.specs.declared.turn.Turn.TheVariants.{Idle, Blocked, Moved, Ended}
use Rattle.xb_branches.specs.DealSteps.{CanSend}
use Rattle.xb_branches.specs.Deals.{DealLaw, IsDealTurn, IsPlace}
use Rattle.xb_flow.specs.Flows.{items_of, has_end}
use Rattle.xb_branches.specs.GatherSteps.{Awaits, CanGather}
use Rattle.xb_branches.specs.Gathers.{GatherLaw, IsGatherTurn, TakesAt}
use Rattle.xb_flow.specs.Rings.{IsRing, ProducersLooked}
use Rattle.xb_flow.proofs.Rings.{map_same}
use Rattle.xb_replay.specs.Looks.{ConsumersLooked}
use Rattle.xb_replay.specs.Turns.{OutputsStay, DealStays, DealWaits, DealMoves, GatherStays, GatherWaits, GatherMoves, IsNext}
use Rattle.xb_run.specs.Posts.{Output, SenderPost, DealPost, GatherPost}
use Rattle.xb_run.specs.Rings.{AreGathered}
use Rattle.xb_replay.proofs.Events.{Turned, takes, empty, no_room}

-- ---- the deal
abbrev pub DealTurned : List (Flow (On Order)) → DealPost → DealPost → Turn → Type 0
DealTurned up old new =
    Turned (DealWaits up old) (CanSend old.held × ((p : Output (On Order)) → known_free (get_or old.producers old.place p) ≡ 0))
    (DealMoves up old new) (All (λ p. has_end (sent p) ≡ true) old.producers) (DealStays old new)

-- where something is held, it is for an output that is there
pub deal-place_below : (d : DealPost) → DealLaw d → CanSend d.held → d.place < length d.producers
deal-place_below d law = at d.held law.at
  where
    n : ℕ
    n = length d.producers

    at : (h : Held (On Order)) → IsPlace h d.place n (length (items_of (received d.consumer))) (has_end (received d.consumer)) → CanSend h → d.place < n
    at Nothing p can = absurd can
    at (One x) p can = subst (λ m. m < n) (sym p.2) (mod_below (length (items_of (received d.consumer)) - 1) n law.least)
    at Ends p can = p.1
    at Over p can = absurd can

pub outputs-on : (xs ys zs : List (Output (On Order))) → OutputsStay xs ys → OutputsStay ys zs → OutputsStay xs zs
outputs-on xs ys zs e f = (f.0 ∙ e.0, λ j p h. f.1 j p (subst (λ n. j < n) (sym e.0) h) ∙ e.1 j p h)

pub outputs-looked : (xs ys : List (Output (On Order))) → ProducersLooked xs ys → OutputsStay xs ys
outputs-looked xs ys e = (e.0, λ j p h. (e.1 j p h).1)

pub outputs-same : (xs ys : List (Output (On Order))) → ys ≡ xs → OutputsStay xs ys
outputs-same xs ys e = (ap length e, λ j p h. ap (λ zs. sent (get_or zs j p)) e)

-- whether all outputs have their End depends on what was sent to them alone
pub outputs-ended : (ps qs : List (Output (On Order))) (turn : Turn) → OutputsStay ps qs
    → (turn ≡ Ended) ↔ All (λ p. has_end (sent p) ≡ true) qs → (turn ≡ Ended) ↔ All (λ p. has_end (sent p) ≡ true) ps
outputs-ended ps qs turn same h = (
  λ e j p below. ap has_end (sym (same.1 j p below)) ∙ h.0 e j p (subst (λ n. j < n) (sym same.0) below),
  λ all. h.1 (λ j p below.
      let k : j < length ps = subst (λ n. j < n) same.0 below in
      ap has_end (same.1 j p k) ∙ all j p k),
)

module _ (up now later : Output (On Order)) (a b c d e f : DealPost)
    (ab : (b ≡ record a { consumer = b.consumer }) × (received b.consumer ≡ received a.consumer)) (ring : IsRing now b.consumer) (before : sent now ≡ sent up)
    (bc : (c ≡ record b { producers = c.producers }) × ProducersLooked b.producers c.producers)
    (de : (e ≡ record d { producers = e.producers }) × ProducersLooked d.producers e.producers)
    (ef : (f ≡ record e { consumer = f.consumer }) × (received f.consumer ≡ received e.consumer)) (again : IsRing later f.consumer) (after : sent later ≡ sent up)
    (place_below : CanSend a.held → a.place < length a.producers) where
  deal-in : received c.consumer ≡ received a.consumer
  deal-in = ap (λ (x : DealPost). received x.consumer) bc.0 ∙ ab.1

  deal-producers : b.producers ≡ a.producers
  deal-producers = ap (λ (x : DealPost). x.producers) ab.0

  deal-out : OutputsStay a.producers c.producers
  deal-out = outputs-on a.producers b.producers c.producers (outputs-same a.producers b.producers deal-producers) (outputs-looked b.producers c.producers bc.1)

  deal-held : c.held ≡ a.held
  deal-held = ap (λ (x : DealPost). x.held) bc.0 ∙ ap (λ (x : DealPost). x.held) ab.0

  deal-place : c.place ≡ a.place
  deal-place = ap (λ (x : DealPost). x.place) bc.0 ∙ ap (λ (x : DealPost). x.place) ab.0

  deal-in-f : received f.consumer ≡ received d.consumer
  deal-in-f = ef.1 ∙ ap (λ (x : DealPost). received x.consumer) de.0

  deal-out-f : OutputsStay d.producers f.producers
  deal-out-f = outputs-on d.producers e.producers f.producers (outputs-looked d.producers e.producers de.1) (outputs-same e.producers f.producers (ap (λ (x : DealPost). x.producers) ef.0))

  deal-held-f : f.held ≡ d.held
  deal-held-f = ap (λ (x : DealPost). x.held) ef.0 ∙ ap (λ (x : DealPost). x.held) de.0

  deal-place-f : f.place ≡ d.place
  deal-place-f = ap (λ (x : DealPost). x.place) ef.0 ∙ ap (λ (x : DealPost). x.place) de.0

  deal-stays : received d.consumer ≡ received c.consumer → OutputsStay c.producers d.producers → d.held ≡ c.held → d.place ≡ c.place → DealStays a f
  deal-stays x y z p = (
    deal-in-f ∙ (x ∙ deal-in),
    outputs-on a.producers d.producers f.producers (outputs-on a.producers c.producers d.producers deal-out y) deal-out-f,
    deal-held-f ∙ (z ∙ deal-held),
    deal-place-f ∙ (p ∙ deal-place),
  )

  pub deal-turned : (turn : Turn) → IsDealTurn c turn d → (turn ≡ Ended) ↔ All (λ p. has_end (sent p) ≡ true) a.producers → DealTurned (sent up) a f turn
  deal-turned Idle t h = (
    (
      sym deal-held ∙ t.2,
      empty up now later a.consumer b.consumer ab.1 ring before (sym (ap (λ (x : DealPost). known_items x.consumer) bc.0) ∙ t.3),
    ),
    deal-stays t.1 (outputs-same c.producers d.producers (ap (λ (x : DealPost). x.producers) t.0)) (ap (λ (x : DealPost). x.held) t.0) (ap (λ (x : DealPost). x.place) t.0),
  )
  deal-turned Blocked t h = (
    (
      subst CanSend deal-held t.2,
      (λ p.
          let within = place_below (subst CanSend deal-held t.2) in
          let look = subst (λ ps. ProducersLooked ps c.producers) deal-producers bc.1 in
          let one = look.1 a.place p within in
          let two = t.1.1 a.place p (subst (λ n. a.place < n) (sym look.0) within) in
          let none : known_free (get_or d.producers a.place p) ≡ 0 = subst (λ k. known_free (get_or d.producers k p) ≡ 0) deal-place (t.3 p) in
          omega (arith, one.2, two.2, none)),
    ),
    deal-stays (ap (λ (x : DealPost). received x.consumer) t.0) (outputs-looked c.producers d.producers t.1) (ap (λ (x : DealPost). x.held) t.0) (ap (λ (x : DealPost). x.place) t.0),
  )
  deal-turned Moved t h =
      ⊎_elim
      (λ took. inl (
        takes up now later a.consumer f.consumer took.0 (deal-in-f ∙ (took.1 ∙ ap (λ zs. zs ++ took.0 ∷ []) deal-in)) again after,
        outputs-on a.producers d.producers f.producers (outputs-on a.producers c.producers d.producers deal-out (outputs-same c.producers d.producers took.2)) deal-out-f,
        sym deal-held ∙ took.3,
      ))
      (λ gave. inr (
        gave.0,
        deal-in-f ∙ (ap received gave.1 ∙ deal-in),
        (λ j p h.
            let k : j < length c.producers = subst (λ n. j < n) (sym deal-out.0) h in
            deal-out-f.1 j p (subst (λ n. j < n) (sym gave.2.0) k)
            ∙ ((gave.2.1 j p k).1
            ∙ (ap (λ zs. zs ++ cond (eqb c.place j) (gave.0 ∷ []) []) (deal-out.1 j p h)
            ∙ ap (λ m. sent (get_or a.producers j p) ++ cond (eqb m j) (gave.0 ∷ []) []) deal-place))),
        subst CanSend deal-held gave.3,
      ))
      t
  deal-turned Ended t h = (
    h.0 refl,
    deal-stays (ap (λ (x : DealPost). received x.consumer) t.0) (outputs-same c.producers d.producers (ap (λ (x : DealPost). x.producers) t.0)) (ap (λ (x : DealPost). x.held) t.0) (ap (λ (x : DealPost). x.place) t.0),
  )

-- ---- the gather
abbrev pub GatherTurned : List SenderPost → GatherPost → GatherPost → Turn → Type 0
GatherTurned ups old new =
    Turned (GatherWaits ups old) (CanGather old.held × (known_free old.producer ≡ 0)) (GatherMoves ups old new)
    (has_end (sent old.producer) ≡ true) (GatherStays old new)

-- where an item is wanted, it is of an input that is there
pub gather-place_below : (g : GatherPost) → GatherLaw (λ mark. is_ending mark.what) g → Awaits g.held → g.place < length g.consumers
gather-place_below g law awaits = subst (λ n. g.place < n) (length-map g.consumers received) (law.within awaits)

module _ (ups nows : List SenderPost) (a b c d e f : GatherPost)
    (ab : (b ≡ record a { consumers = b.consumers }) × ConsumersLooked a.consumers b.consumers) (rings : AreGathered nows b.consumers)
    (before : (length nows ≡ length ups) × ((j : ℕ) (s : SenderPost) → j < length ups → sent (get_or nows j s).producer ≡ sent (get_or ups j s).producer))
    (bc : (c ≡ record b { producer = c.producer }) × ProducerLooked b.producer c.producer)
    (de : (e ≡ record d { producer = e.producer }) × ProducerLooked d.producer e.producer)
    (ef : (f ≡ record e { consumers = f.consumers }) × ConsumersLooked e.consumers f.consumers)
    (laters : List SenderPost) (again : AreGathered laters f.consumers)
    (after : (length laters ≡ length ups) × ((j : ℕ) (s : SenderPost) → j < length ups → sent (get_or laters j s).producer ≡ sent (get_or ups j s).producer))
    (same_count : length f.consumers ≡ length a.consumers) (counted : length a.consumers ≡ length ups) (place_below : Awaits a.held → a.place < length ups) where
  gather-in : map received c.consumers ≡ map received a.consumers
  gather-in = ap (λ (x : GatherPost). map received x.consumers) bc.0 ∙ map_same received a.consumers b.consumers ab.1.0 ab.1.1

  gather-out : sent c.producer ≡ sent a.producer
  gather-out = bc.1.1 ∙ ap (λ (x : GatherPost). sent x.producer) ab.0

  gather-held : c.held ≡ a.held
  gather-held = ap (λ (x : GatherPost). x.held) bc.0 ∙ ap (λ (x : GatherPost). x.held) ab.0

  gather-place : c.place ≡ a.place
  gather-place = ap (λ (x : GatherPost). x.place) bc.0 ∙ ap (λ (x : GatherPost). x.place) ab.0

  gather-in-f : map received f.consumers ≡ map received d.consumers
  gather-in-f = map_same received e.consumers f.consumers ef.1.0 ef.1.1 ∙ ap (λ (x : GatherPost). map received x.consumers) de.0

  gather-out-f : sent f.producer ≡ sent d.producer
  gather-out-f = ap (λ (x : GatherPost). sent x.producer) ef.0 ∙ de.1.1

  gather-held-f : f.held ≡ d.held
  gather-held-f = ap (λ (x : GatherPost). x.held) ef.0 ∙ ap (λ (x : GatherPost). x.held) de.0

  gather-place-f : f.place ≡ d.place
  gather-place-f = ap (λ (x : GatherPost). x.place) ef.0 ∙ ap (λ (x : GatherPost). x.place) de.0

  gather-stays : map received d.consumers ≡ map received c.consumers → sent d.producer ≡ sent c.producer → d.held ≡ c.held → d.place ≡ c.place → GatherStays a f
  gather-stays x y z p = (gather-in-f ∙ (x ∙ gather-in), gather-out-f ∙ (y ∙ gather-out), gather-held-f ∙ (z ∙ gather-held), gather-place-f ∙ (p ∙ gather-place))

  gather-takes : (x : Flow (On Mark)) → TakesAt c x d → TakesAt a x f
  gather-takes x took =
      gather-in-f
      ∙ (took
      ∙ (ap (λ ins. set ins c.place (get_or ins c.place [] ++ x ∷ [])) gather-in
      ∙ ap (λ m. set (map received a.consumers) m (get_or (map received a.consumers) m [] ++ x ∷ [])) gather-place))

  -- what was taken is what comes next in its ring
  next : (x : Flow (On Mark)) → TakesAt a x f → a.place < length ups → IsNext ups a x
  next x took within s y =
      let j = a.place in
      let ins : List (List (Flow (On Mark))) = map received a.consumers in
      let in_a : j < length a.consumers = subst (λ n. j < n) (sym counted) within in
      let in_ins : j < length ins = subst (λ n. j < n) (sym (length-map a.consumers received)) in_a in
      let in_f : j < length f.consumers = subst (λ n. j < n) (sym same_count) in_a in
      let was : get_or ins j [] ≡ received (get_or a.consumers j y) = get_or-map received a.consumers j y [] in_a in
      let now : received (get_or f.consumers j y) ≡ received (get_or a.consumers j y) ++ x ∷ [] =
      sym (get_or-map received f.consumers j y [] in_f) ∙ (ap (λ zs. get_or zs j []) took ∙ (get_or-set_same ins j (get_or ins j [] ++ x ∷ []) [] in_ins ∙ ap (λ zs. zs ++ x ∷ []) was)) in
      let ring = again j s y (subst (λ n. j < n) (sym after.0) within) in
      (known_items (get_or f.consumers j y), ap (λ zs. zs ++ known_items (get_or f.consumers j y)) (sym now) ∙ (ring.fifo ∙ after.1 j s within))

  pub gather-turned : (turn : Turn) → IsGatherTurn c turn d → (turn ≡ Ended) ↔ (has_end (sent a.producer) ≡ true) → GatherTurned ups a f turn
  gather-turned Idle t h =
      let awaits : Awaits a.held = subst Awaits gather-held t.2 in (
        (
          awaits,
          subst (λ n. a.place < n) (sym counted) (place_below awaits),
          (λ s x.
              let j = a.place in
              let within = place_below awaits in
              let ring = rings j s x (subst (λ n. j < n) (sym before.0) within) in
              let none : known_items (get_or b.consumers j x) ≡ [] = subst (λ k. known_items (get_or b.consumers k x) ≡ []) gather-place (sym (ap (λ (y : GatherPost). known_items (get_or y.consumers c.place x)) bc.0) ∙ t.3 x) in
              empty (get_or ups j s).producer (get_or nows j s).producer (get_or nows j s).producer (get_or a.consumers j x) (get_or b.consumers j x) (ab.1.1 j x (subst (λ n. j < n) (sym counted) within)) ring (before.1 j s within) none),
        ),
        gather-stays t.1 (ap (λ (x : GatherPost). sent x.producer) t.0) (ap (λ (x : GatherPost). x.held) t.0) (ap (λ (x : GatherPost). x.place) t.0),
      )
  gather-turned Blocked t h = (
    (
      subst CanGather gather-held t.2,
      no_room a.producer b.producer c.producer (sym (ap (λ (x : GatherPost). x.producer) ab.0)) bc.1 t.3,
    ),
    gather-stays (ap (λ (x : GatherPost). map received x.consumers) t.0) t.1.1 (ap (λ (x : GatherPost). x.held) t.0) (ap (λ (x : GatherPost). x.place) t.0),
  )
  gather-turned Moved t h =
      ⊎_elim
      (λ took. inl (
        took.0,
        gather-takes took.0 took.1,
        next took.0 (gather-takes took.0 took.1) (place_below (subst Awaits gather-held took.3)),
        gather-out-f ∙ (ap sent took.2 ∙ gather-out),
        subst Awaits gather-held took.3,
      ))
      (λ gave. inr (
        gave.0,
        gather-in-f ∙ (ap (map received) gave.1 ∙ gather-in),
        gather-out-f ∙ (gave.2 ∙ ap (λ zs. zs ++ gave.0 ∷ []) gather-out),
        subst CanGather gather-held gave.3,
      ))
      t
  gather-turned Ended t h = (
    h.0 refl,
    gather-stays (ap (λ (x : GatherPost). map received x.consumers) t.0) (ap (λ (x : GatherPost). sent x.producer) t.0) (ap (λ (x : GatherPost). x.held) t.0) (ap (λ (x : GatherPost). x.place) t.0),
  )
