-- The two ends of a ring, and looks at both.
use Rattle.std.specs.Prelude.{◌≡◌, ◌≢◌, ℕ, ◌<◌, List, slice_index_or, ◌++◌, length}
use Rattle.std.specs.List.{HoldsAt}
use Rattle.rtrb.specs.declared.producer.Producer.{Producer}
use Rattle.rtrb.specs.declared.consumer.Consumer.{Consumer}
use Rattle.rtrb.specs.Ring.{sent, received, known_items, IsPair, ProducerLooked, ConsumerLooked}

module _ {T A P : Type 0} where
  -- the two ends of a ring, and the consumer knows of every item that was sent and not received
  pub record IsRing (p : Producer T A P) (c : Consumer T A P) : Type 0 where
    pub pair : IsPair p c
    pub fifo : received c ++ known_items c ≡ sent p

  -- c is the other end of producer j
  abbrev pub IsPairAt : List (Producer T A P) → ℕ → Consumer T A P → Type 0
  IsPairAt ps j c = (j < length ps) × HoldsAt (λ p. IsPair p c) ps j

  -- c is the other end of producer j, and knows of every item that this sent and c did not receive
  abbrev pub IsRingAt : List (Producer T A P) → ℕ → Consumer T A P → Type 0
  IsRingAt ps j c = (j < length ps) × HoldsAt (λ p. IsRing p c) ps j

  -- the same producers: nothing was sent, and more room may be known of
  abbrev pub ProducersLooked : List (Producer T A P) → List (Producer T A P) → Type 0
  ProducersLooked ps qs =
      (length qs ≡ length ps)
      × ((j : ℕ) (p : Producer T A P) → j < length ps →
      ProducerLooked (slice_index_or ps j p) (slice_index_or qs j p))

  -- consumer k looked, and the others are the same
  abbrev pub ConsumerLookedAt : List (Consumer T A P) → ℕ → List (Consumer T A P) → Type 0
  ConsumerLookedAt cs k ds =
      (length ds ≡ length cs)
      × ((c : Consumer T A P) → ConsumerLooked (slice_index_or cs k c) (slice_index_or ds k c))
      × ((i : ℕ) (c : Consumer T A P) → i ≢ k → slice_index_or ds i c ≡ slice_index_or cs i c)
