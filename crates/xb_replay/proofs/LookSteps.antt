-- Looks at rings, one after another, and what they keep.
use Rattle.std.proofs.Common.{◌≡◌, ◌≢◌, ℕ, ◌<◌, List, [], ◌∷◌, length, get_or, set, refl, sym, ap, ◌∙◌, subst, length-set, arith, ⊎_elim, get_or-set_same, get_or-set_other}
use Rattle.std.proofs.lemmas.Bool.{cases_eq}
use Rattle.rtrb.specs.Ring.{sent, received, SameProducer}
use Rattle.xb_model.specs.declared.on.On.{On}
use Rattle.xb_model.specs.declared.order.Order.{Order}
use Rattle.xb_model.specs.Keyings.{is_ending}
use Rattle.xb_model.specs.Image.{Machine}
use Rattle.xb_flow.specs.declared.flow.Flow.{Flow}
use Rattle.xb_branches.specs.Gathers.{GatherLaw, GatherLawOf}
use Rattle.xb_flow.specs.Rings.{IsRing, IsRingAt, ProducersLooked}
use Rattle.xb_station.specs.Stations.{StationLaw}
use Rattle.xb_flow.proofs.Rings.{only_one, pair_kept, producer_on, map_same}
use Rattle.xb_replay.specs.Looks.{InputLooked, OutputLooked, AllInputsLooked, AllOutputsLooked, ConsumersLooked}
use Rattle.xb_run.specs.Laws.{KeepsImage}
use Rattle.xb_run.specs.Posts.{Input, Output, FeedPost, StationPost, SenderPost, DealPost, GatherPost}

-- a look at the producer leaves what the consumer knows
pub ring_kept : {T : Type 0} (p q : Output T) (c : Input T) → SameProducer p q → sent q ≡ sent p → IsRing p c → IsRing q c
ring_kept p q c h e r = record { pair = pair_kept p q c c h ((refl, refl, refl, refl), refl) r.pair; fifo = r.fifo ∙ sym e }

-- the law of a station speaks of its lists alone
pub law-same : {I O S : Type 0} (line : I → ℕ) (m : Machine I O S) (ins ins' : List (Flow I)) (outs outs' pending pending' : List (Flow O))
    → ins' ≡ ins → outs' ≡ outs → pending' ≡ pending → StationLaw line m ins outs pending → StationLaw line m ins' outs' pending'
law-same line m ins ins' outs outs' pending pending' a b e l = rw (a, b, e) l

module _ {S I O Q : Type 0} (line : I → ℕ) (m : Machine I O Q) (a b : StationPost S I O) where
  -- a look at its input keeps the law of a station
  pub input-law : InputLooked a b → KeepsImage line m a → KeepsImage line m b
  input-law e l = law-same line m (received a.consumer) (received b.consumer) (sent a.producer) (sent b.producer) a.pending b.pending e.1 (ap (λ (s : StationPost S I O). sent s.producer) e.0) (ap (λ (s : StationPost S I O). s.pending) e.0) l

  -- and so does one at its output
  pub output-law : OutputLooked a b → KeepsImage line m a → KeepsImage line m b
  output-law e l = law-same line m (received a.consumer) (received b.consumer) (sent a.producer) (sent b.producer) a.pending b.pending (ap (λ (s : StationPost S I O). received s.consumer) e.0) e.1 (ap (λ (s : StationPost S I O). s.pending) e.0) l

module _ {S I O : Type 0} (a b : StationPost S I O) where
  -- a look at its input leaves its output, and the other way round
  pub input-ring : InputLooked a b → (c : Input O) → IsRing a.producer c → IsRing b.producer c
  input-ring e c r = subst (λ p. IsRing p c) (sym (ap (λ (s : StationPost S I O). s.producer) e.0)) r

  pub output-ring : OutputLooked a b → (p : Output I) → IsRing p a.consumer → IsRing p b.consumer
  output-ring e p r = subst (λ c. IsRing p c) (sym (ap (λ (s : StationPost S I O). s.consumer) e.0)) r

  pub input-stage : InputLooked a b → b.stage ≡ a.stage
  input-stage e = ap (λ (s : StationPost S I O). s.stage) e.0

  pub output-stage : OutputLooked a b → b.stage ≡ a.stage
  output-stage e = ap (λ (s : StationPost S I O). s.stage) e.0

  -- one look after another
  pub input-on : (c : StationPost S I O) → InputLooked a b → InputLooked b c → InputLooked a c
  input-on c e f = (f.0 ∙ ap (λ (s : StationPost S I O). record s { consumer = c.consumer }) e.0, f.1 ∙ e.1)

  pub output-on : (c : StationPost S I O) → OutputLooked a b → OutputLooked b c → OutputLooked a c
  output-on c e f = (f.0 ∙ ap (λ (s : StationPost S I O). record s { producer = c.producer }) e.0, f.1 ∙ e.1)

-- looks at both rings, a turn, and looks again: the stage stays
pub mid-stage : {S I O : Type 0} (a b c d e f : StationPost S I O) → b ≡ record a { consumer = b.consumer } → c ≡ record b { producer = c.producer } → d.stage ≡ c.stage → e ≡ record d { producer = e.producer } → f ≡ record e { consumer = f.consumer } → f.stage ≡ a.stage
mid-stage {S} {I} {O} a b c d e f ab bc cd de ef =
    let stage : StationPost S I O → S = λ s. s.stage in
    ap stage ef ∙ (ap stage de ∙ (cd ∙ (ap stage bc ∙ ap stage ab)))

-- a look at the output of a station, and then one at its input
pub mid-ring : {S I O : Type 0} (e f : StationPost S I O) (c : Input O) → f ≡ record e { consumer = f.consumer } → IsRing e.producer c → IsRing f.producer c
mid-ring {S} {I} {O} e f c ef r = subst (λ p. IsRing p c) (sym (ap (λ (s : StationPost S I O). s.producer) ef)) r

-- two looks at the output of a feed
pub feed-on : (a b c : FeedPost) → b ≡ record a { producer = b.producer } → c ≡ record b { producer = c.producer } → c ≡ record a { producer = c.producer }
feed-on a b c e f = f ∙ ap (λ (s : FeedPost). record s { producer = c.producer }) e

-- two looks at the input of a deal
pub deal-on : (a b c : DealPost) → b ≡ record a { consumer = b.consumer } → c ≡ record b { consumer = c.consumer } → c ≡ record a { consumer = c.consumer }
deal-on a b c e f = f ∙ ap (λ (d : DealPost). record d { consumer = c.consumer }) e

-- and at its outputs
pub outputs-on : (ps qs rs : List (Output (On Order))) → ProducersLooked ps qs → ProducersLooked qs rs → ProducersLooked ps rs
outputs-on ps qs rs e f = (
  f.0 ∙ e.0,
  λ j p h.
      let a = e.1 j p h in
      let b = f.1 j p (subst (λ n. j < n) (sym e.0) h) in
      (producer_on (get_or ps j p) (get_or qs j p) (get_or rs j p) a.0 b.0, b.1 ∙ a.1, omega (arith, a.2, b.2)),
)

-- two looks at each of the senders
pub all-inputs-on : (xs ys zs : List SenderPost) → AllInputsLooked xs ys → AllInputsLooked ys zs → AllInputsLooked xs zs
all-inputs-on xs ys zs e f = (f.0 ∙ e.0, λ j s h. input-on (get_or xs j s) (get_or ys j s) (get_or zs j s) (e.1 j s h) (f.1 j s (subst (λ n. j < n) (sym e.0) h)))

pub all-outputs-on : (xs ys zs : List SenderPost) → AllOutputsLooked xs ys → AllOutputsLooked ys zs → AllOutputsLooked xs zs
all-outputs-on xs ys zs e f = (f.0 ∙ e.0, λ j s h. output-on (get_or xs j s) (get_or ys j s) (get_or zs j s) (e.1 j s h) (f.1 j s (subst (λ n. j < n) (sym e.0) h)))

-- looks at the inputs of a gather keep its law
pub gather-looked : (a b : GatherPost) → b ≡ record a { consumers = b.consumers } → ConsumersLooked a.consumers b.consumers → GatherLaw (λ mark. is_ending mark.what) a → GatherLaw (λ mark. is_ending mark.what) b
gather-looked a b e f g =
    subst (λ (z : GatherPost). GatherLaw (λ mark. is_ending mark.what) z) (sym e)
    (subst (λ ins. GatherLawOf (λ mark. is_ending mark.what) ins (sent a.producer) a.held a.place) (sym (map_same received a.consumers b.consumers f.0 f.1)) g)

-- two looks at the inputs of a gather
pub inputs-kept : (a b c : GatherPost) → b ≡ record a { consumers = b.consumers } → c ≡ record b { consumers = c.consumers } → c ≡ record a { consumers = c.consumers }
inputs-kept a b c e f = f ∙ ap (λ (g : GatherPost). record g { consumers = c.consumers }) e

-- two looks at the outputs of a deal
pub outputs-kept : (a b c : DealPost) → b ≡ record a { producers = b.producers } → c ≡ record b { producers = c.producers } → c ≡ record a { producers = c.producers }
outputs-kept a b c e f = f ∙ ap (λ (d : DealPost). record d { producers = c.producers }) e

-- and at the output of a gather
pub gather-on : (a b c : GatherPost) → b ≡ record a { producer = b.producer } → c ≡ record b { producer = c.producer } → c ≡ record a { producer = c.producer }
gather-on a b c e f = f ∙ ap (λ (g : GatherPost). record g { producer = c.producer }) e

-- the only ring of a post
pub one-ring : {T : Type 0} (p : Output T) (c : Input T) → IsRingAt (p ∷ []) 0 c → IsRing p c
one-ring p c r = only_one (λ q. IsRing q c) p 0 r

-- what holds of each element after one is replaced
pub each-set : {X : Type 0} (P : ℕ → X → Type 0) (xs : List X) (i : ℕ) (x : X) → i < length xs → P i x → ((j : ℕ) (d : X) → j < length xs → j ≢ i → P j (get_or xs j d))
    → (j : ℕ) (d : X) → j < length (set xs i x) → P j (get_or (set xs i x) j d)
each-set P xs i x below here others j d h =
    let k : j < length xs = subst (λ n. j < n) (length-set xs i x) h in
    ⊎_elim
    (λ same. subst (λ m. P m (get_or (set xs i x) m d)) (sym same) (subst (P i) (sym (get_or-set_same xs i x d below)) here))
    (λ other. subst (P j) (sym (get_or-set_other xs i j x d other)) (others j d k other))
    (cases_eq j i)
