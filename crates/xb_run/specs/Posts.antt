-- The posts of the chain, as one value.
use Rattle.std.specs.Prelude.{◌≡◌, ℕ, List, []}
use Rattle.std.specs.List.{All}
use Rattle.std.specs.declared.alloc.Global.{Global}
use Rattle.rtrb.specs.declared.AnyItems.{AnyItems}
use Rattle.rtrb.specs.declared.producer.Producer.{Producer}
use Rattle.rtrb.specs.declared.consumer.Consumer.{Consumer}
use Rattle.rtrb.specs.Ring.{sent, received}
use Rattle.xb_model.specs.declared.dialled.Dialled.{Dialled}
use Rattle.xb_model.specs.declared.limits.Limits.{Limits}
use Rattle.xb_model.specs.declared.mark.Mark.{Mark}
use Rattle.xb_model.specs.declared.on.On.{On}
use Rattle.xb_model.specs.declared.order.Order.{Order}
use Rattle.xb_model.specs.declared.plan.Plan.{Plan}
use Rattle.xb_model.specs.declared.signal.Signal.{Signal}
use Rattle.xb_model.specs.Rows.{LoopRow}
use Rattle.xb_model.specs.Tapes.{marks_at}
use Rattle.xb_flow.specs.declared.flow.Flow.{Flow}
use Rattle.xb_branches.specs.declared.gathered.Gathered.TheVariants.{Wants}
use Rattle.xb_branches.specs.declared.held.Held.TheVariants.{Nothing}
use Rattle.xb_branches.specs.Deals.{DealView}
use Rattle.xb_branches.specs.Gathers.{GatherView}
use Rattle.xb_station.specs.Stations.{StationView}
use Rattle.xb_routes.specs.Table.{Table}
use Rattle.xb_sender.specs.declared.sender.Sender.{Sender}
use Rattle.xb_posts.specs.Feeds.{FeedView}
use Rattle.xb_posts.specs.TapeStations.{TapeView}

-- the end by which a post sends, and the one by which it receives
abbrev pub Output : Type 0 → Type 0
Output T = Producer (Flow T) Global AnyItems

abbrev pub Input : Type 0 → Type 0
Input T = Consumer (Flow T) Global AnyItems

-- the kinds of posts
abbrev pub FeedPost : Type 0
FeedPost = FeedView (Output LoopRow)

abbrev pub StationPost : Type 0 → Type 0 → Type 0 → Type 0
StationPost S I O = StationView S (Input I) (Output O) (Flow O)

abbrev pub SenderPost : Type 0
SenderPost = StationPost Sender (On Order) (On Mark)

abbrev pub DealPost : Type 0
DealPost = DealView (Input (On Order)) (Output (On Order)) (On Order)

abbrev pub GatherPost : Type 0
GatherPost = GatherView (Input (On Mark)) (Output (On Mark)) (On Mark)

abbrev pub TapePost : Type 0
TapePost = TapeView (Input (On Mark))

-- all posts, the senders from 0 on
pub record Posts : Type 0 where
  pub feed : FeedPost
  pub pulse : StationPost Limits LoopRow (On Signal)
  pub register : StationPost Plan (On Signal) (On Dialled)
  pub translate : StationPost Table (On Dialled) (On Order)
  pub deal : DealPost
  pub senders : List SenderPost
  pub gather : GatherPost
  pub tape : TapePost

-- a station that has received and sent nothing, and holds nothing
abbrev pub IsBlankStation : {S I O : Type 0} → StationPost S I O → Type 0
IsBlankStation s = (received s.consumer ≡ []) × (sent s.producer ≡ []) × (s.pending ≡ [])

-- nothing was sent into any ring or received of it, no post holds anything, and no line has a mark
pub record IsBlank (posts : Posts) : Type 0 where
  pub feed : (sent posts.feed.producer ≡ []) × (posts.feed.held ≡ [])
  pub pulse : IsBlankStation posts.pulse
  pub register : IsBlankStation posts.register
  pub translate : IsBlankStation posts.translate
  pub deal_input : received posts.deal.consumer ≡ []
  pub deal_outputs : All (λ output. sent output ≡ []) posts.deal.producers
  pub deal_held : posts.deal.held ≡ Nothing
  pub senders : All IsBlankStation posts.senders
  pub gather_inputs : All (λ input. received input ≡ []) posts.gather.consumers
  pub gather_output : sent posts.gather.producer ≡ []
  pub gather_held : posts.gather.held ≡ Wants
  pub tape : received posts.tape.consumer ≡ []
  pub marks : (l : ℕ) → marks_at posts.tape.tapes l ≡ []
