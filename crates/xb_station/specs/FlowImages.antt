-- The image of items as they go through a ring.
use Rattle.std.specs.Prelude.{ℕ, List}
use Rattle.xb_model.specs.Image.{Machine, image}
use Rattle.xb_flow.specs.Flows.{items_of, has_end, flow_of}
use Rattle.xb_flow.specs.declared.flow.Flow.{Flow}

-- the image of what went through a ring: an End gives one End, and closes it
abbrev pub flow_image : {I O S : Type 0} → (I → ℕ) → Machine I O S → List (Flow I) → List (Flow O)
flow_image line machine xs = flow_of (image line machine (items_of xs)) (has_end xs)
