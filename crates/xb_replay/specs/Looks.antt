-- Looks at the rings between the posts.
use Rattle.std.specs.Prelude.{◌≡◌, ℕ, ◌<◌, List, length, slice_index_or}
use Rattle.rtrb.specs.Ring.{sent, received, IsPair}
use Rattle.xb_model.specs.declared.mark.Mark.{Mark}
use Rattle.xb_model.specs.declared.on.On.{On}
use Rattle.xb_model.specs.declared.order.Order.{Order}
use Rattle.xb_run.specs.Posts.{Input, Output, StationPost, SenderPost}

-- sender j takes from output j
abbrev pub ArePairedOutputs : List (Output (On Order)) → List SenderPost → Type 0
ArePairedOutputs outputs senders = (j : ℕ) (output : Output (On Order)) (sender : SenderPost) → j < length senders
    → IsPair (slice_index_or outputs j output) (slice_index_or senders j sender).consumer

-- sender j sends to input j
abbrev pub ArePairedInputs : List SenderPost → List (Input (On Mark)) → Type 0
ArePairedInputs senders inputs = (j : ℕ) (sender : SenderPost) (input : Input (On Mark)) → j < length senders
    → IsPair (slice_index_or senders j sender).producer (slice_index_or inputs j input)

module _ {S I O : Type 0} where
  -- a look at the input of a station: nothing was received, and all else is the same
  abbrev pub InputLooked : StationPost S I O → StationPost S I O → Type 0
  InputLooked old new =
      (new ≡ record old { consumer = new.consumer }) × (received new.consumer ≡ received old.consumer)

  -- a look at its output: nothing was sent, and all else is the same
  abbrev pub OutputLooked : StationPost S I O → StationPost S I O → Type 0
  OutputLooked old new =
      (new ≡ record old { producer = new.producer }) × (sent new.producer ≡ sent old.producer)

  -- looks at the input of each station, and at the output of each
  abbrev pub AllInputsLooked : List (StationPost S I O) → List (StationPost S I O) → Type 0
  AllInputsLooked old new =
      (length new ≡ length old)
      × ((j : ℕ) (s : StationPost S I O) → j < length old →
      InputLooked (slice_index_or old j s) (slice_index_or new j s))

  abbrev pub AllOutputsLooked : List (StationPost S I O) → List (StationPost S I O) → Type 0
  AllOutputsLooked old new =
      (length new ≡ length old)
      × ((j : ℕ) (s : StationPost S I O) → j < length old →
      OutputLooked (slice_index_or old j s) (slice_index_or new j s))

-- looks at the inputs of a gather
abbrev pub ConsumersLooked : List (Input (On Mark)) → List (Input (On Mark)) → Type 0
ConsumersLooked old new =
    (length new ≡ length old)
    × ((j : ℕ) (c : Input (On Mark)) → j < length old →
    received (slice_index_or new j c) ≡ received (slice_index_or old j c))
