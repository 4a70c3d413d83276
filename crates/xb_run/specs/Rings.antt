-- The rings between the posts.
use Rattle.std.specs.Prelude.{◌≡◌, ℕ, ◌<◌, List, [], length, slice_index_or}
use Rattle.std.specs.List.{All}
use Rattle.rtrb.specs.Ring.{sent, received, producer_capacity}
use Rattle.xb_model.specs.declared.mark.Mark.{Mark}
use Rattle.xb_model.specs.declared.on.On.{On}
use Rattle.xb_model.specs.declared.order.Order.{Order}
use Rattle.xb_flow.specs.Rings.{IsRing}
use Rattle.xb_run.specs.Laws.{SenderLaw}
use Rattle.xb_run.specs.Posts.{IsBlankStation, Output, Input, SenderPost, Posts}

-- the two ends of a ring with room for so many items, through which nothing went
abbrev pub IsNewRing : {T : Type 0} → ℕ → Output T → Input T → Type 0
IsNewRing ring output input =
    IsRing output input × (producer_capacity output ≡ ring) × (sent output ≡ []) × (received input ≡ [])

-- each sender takes from the output of the deal that has its number
abbrev pub AreDealt : List (Output (On Order)) → List SenderPost → Type 0
AreDealt outputs senders = (j : ℕ) (output : Output (On Order)) (sender : SenderPost) → j < length senders
    → IsRing (slice_index_or outputs j output) (slice_index_or senders j sender).consumer

-- and sends to the input of the gather that has its number
abbrev pub AreGathered : List SenderPost → List (Input (On Mark)) → Type 0
AreGathered senders inputs = (j : ℕ) (sender : SenderPost) (input : Input (On Mark)) → j < length senders
    → IsRing (slice_index_or senders j sender).producer (slice_index_or inputs j input)

-- so many branches, each an output of the deal, a sender and an input of the gather
pub record AreBranches
    (count ring : ℕ) (outputs : List (Output (On Order))) (senders : List SenderPost)
    (inputs : List (Input (On Mark)))
    : Type 0 where
  pub outputs_len : length outputs ≡ count
  pub senders_len : length senders ≡ count
  pub inputs_len : length inputs ≡ count
  pub dealt : AreDealt outputs senders
  pub gathered : AreGathered senders inputs
  pub dealt_room : All (λ output. producer_capacity output ≡ ring) outputs
  pub gathered_room : All (λ sender. producer_capacity sender.producer ≡ ring) senders
  pub blank_outputs : All (λ output. sent output ≡ []) outputs
  pub blank_senders : All IsBlankStation senders
  pub lawful_senders : All SenderLaw senders
  pub blank_inputs : All (λ input. received input ≡ []) inputs

-- each ring lies between its two posts: what was received of it, followed by what its consumer knows
-- of, was sent into it
pub record AreLinked (posts : Posts) : Type 0 where
  pub rows : IsRing posts.feed.producer posts.pulse.consumer
  pub signals : IsRing posts.pulse.producer posts.register.consumer
  pub dialled : IsRing posts.register.producer posts.translate.consumer
  pub orders : IsRing posts.translate.producer posts.deal.consumer
  pub outputs : length posts.deal.producers ≡ length posts.senders
  pub inputs : length posts.gather.consumers ≡ length posts.senders
  pub dealt : AreDealt posts.deal.producers posts.senders
  pub gathered : AreGathered posts.senders posts.gather.consumers
  pub marks : IsRing posts.gather.producer posts.tape.consumer

-- each ring has room for so many items
pub record HaveRoom (ring : ℕ) (posts : Posts) : Type 0 where
  pub rows : producer_capacity posts.feed.producer ≡ ring
  pub signals : producer_capacity posts.pulse.producer ≡ ring
  pub dialled : producer_capacity posts.register.producer ≡ ring
  pub orders : producer_capacity posts.translate.producer ≡ ring
  pub dealt : All (λ output. producer_capacity output ≡ ring) posts.deal.producers
  pub gathered : All (λ sender. producer_capacity sender.producer ≡ ring) posts.senders
  pub marks : producer_capacity posts.gather.producer ≡ ring
