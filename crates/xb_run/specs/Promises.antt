-- What the posts' threads promise of what they give back.
use Rattle.std.specs.Prelude.{◌≡◌, ℕ, ◌<◌, Bool, true, false, List, [], ◌++◌, map, length, slice_index_or, Option}
use Rattle.std.specs.declared.alloc.Global.{Global}
use Rattle.rtrb.specs.declared.AnyItems.{AnyItems}
use Rattle.rtrb.specs.Ring.{sent, received, SameProducer, SameConsumer}
use Rattle.xb_model.specs.declared.fault.RowFault.{RowFault}
use Rattle.xb_model.specs.declared.mark.Mark.{Mark}
use Rattle.xb_model.specs.declared.on.On.{On}
use Rattle.xb_model.specs.Keyings.{is_ending}
use Rattle.xb_model.specs.Lines.{row_line, on_line_of}
use Rattle.xb_model.specs.Rows.{LoopRow}
use Rattle.xb_pulse.specs.Machine.{machine as pulse_machine}
use Rattle.xb_register.specs.Machine.{machine as register_machine}
use Rattle.xb_routes.specs.Machine.{machine as translate_machine}
use Rattle.xb_sender.specs.Machine.{machine as sender_machine}
use Rattle.xb_model.specs.Image.{Machine}
use Rattle.xb_flow.specs.declared.flow.Flow.{Flow}
use Rattle.xb_flow.specs.Flows.{items_of, flow_of, IsEnded}
use Rattle.xb_branches.specs.Dealt.{dealt}
use Rattle.xb_branches.specs.Merged.{merged}
use Rattle.xb_branches.specs.GatherSteps.{items_at}
use Rattle.xb_station.specs.Stations.{HasPassed}
use Rattle.xb_branches.specs.Deals.{DealOf}
use Rattle.xb_branches.specs.Gathers.{GatherOf}
use Rattle.xb_tape.specs.GatheredMarks.{AreTapes}
use Rattle.xb_posts.specs.Feeds.{to_come}
use Rattle.xb_posts.specs.Fillings.{MayGive}
use Rattle.xb_run.specs.Posts.{Output, FeedPost, StationPost, TapePost, Posts}
use Rattle.xb_run.specs.Pairs.{Pairs}
use Rattle.xb_run.specs.declared.done.FeedDone.{FeedDone}
use Rattle.xb_run.specs.declared.done.StationDone.{StationDone}
use Rattle.xb_run.specs.declared.done.DealDone.{DealDone}
use Rattle.xb_run.specs.declared.done.GatherDone.{GatherDone}
use Rattle.xb_run.specs.declared.done.TapeDone.{TapeDone}
use Rattle.xb_run.specs.declared.done.Taped.{Taped}
use Rattle.xb_run.specs.declared.done.AllDone.{AllDone}
use Rattle.xb_run.specs.declared.done.Taped.TheVariants.{Stopped, Refused, Served}

-- a mark that ends an entry
abbrev pub ends_entry : On Mark → Bool
ends_entry mark = is_ending mark.what

-- ---- what came of a post that served

-- the feed sent all that is fed of rows that its source may have given, and the fault is their stop
pub record FeedServed
    (made : FeedPost) (fault : Option RowFault) (outs : List (Flow LoopRow))
    : Type 0 where
  pub rows : List LoopRow
  pub may_give : MayGive made.rest rows fault
  pub sends : outs ≡ sent made.producer ++ to_come made rows fault

-- all was received, up to and with one End, and each output was sent the items dealt to it and one End
pub record DealServed {T : Type 0} (ins : List (Flow T)) (outs : List (Output T)) : Type 0 where
  pub input : IsEnded ins
  pub outputs : (j : ℕ) (p : Output T) → j < length outs →
      sent (slice_index_or outs j p) ≡ flow_of (dealt (length outs) j (items_of ins)) true

-- of each input all was received, up to and with one End, and what is merged of that was sent, with one End
pub record GatherServed
    {T : Type 0} (ends : T → Bool) (ins : List (List (Flow T))) (outs : List (Flow T))
    : Type 0 where
  pub some : 0 < length ins
  pub inputs : (j : ℕ) → j < length ins → IsEnded (slice_index_or ins j [])
  pub output : outs ≡ flow_of (merged ends (length ins) (items_at ins)) true

-- all was received, up to and with one End, and unless memory ran out the tapes are those of the marks
abbrev pub TapeServed : Taped → List (Flow (On Mark)) → Type 0
TapeServed Stopped ins = Unit {0}
TapeServed Refused ins = IsEnded ins
TapeServed (Served tapes) ins = IsEnded ins × AreTapes tapes (items_of ins)

-- ---- what is promised: the same ends, and where the post served, the above

pub record FeedPromised (made : FeedPost) (done : FeedDone) : Type 0 where
  pub output : SameProducer made.producer done.producer
  pub served : done.served ≡ true → FeedServed made done.fault (sent done.producer)

pub record StationPromised
    {S I O Q : Type 0} (line : I → ℕ) (machine : S → Machine I O Q)
    (made : StationPost S I O) (done : StationDone I O)
    : Type 0 where
  pub input : SameConsumer made.consumer done.consumer
  pub output : SameProducer made.producer done.producer
  pub served : done.served ≡ true →
      HasPassed line (machine made.stage) (received done.consumer) (sent done.producer)

pub record DealPromised {T : Type 0} (made : DealOf T Global AnyItems AnyItems) (done : DealDone T) : Type 0 where
  pub input : SameConsumer made.consumer done.consumer
  pub outputs : Pairs SameProducer made.producers done.producers.items
  pub served : done.served ≡ true → DealServed (received done.consumer) done.producers.items

pub record GatherPromised
    {T : Type 0} (ends : T → Bool) (made : GatherOf T Global AnyItems AnyItems) (done : GatherDone T)
    : Type 0 where
  pub inputs : Pairs SameConsumer made.consumers done.consumers.items
  pub output : SameProducer made.producer done.producer
  pub served : done.served ≡ true → GatherServed ends (map received done.consumers.items) (sent done.producer)

pub record TapePromised (made : TapePost) (done : TapeDone) : Type 0 where
  pub input : SameConsumer made.consumer done.consumer
  pub taped : made.lost ≡ false → TapeServed done.taped (received done.consumer)

-- ---- what the threads of all posts promise
pub record PostsPromised (posts : Posts) (done : AllDone) : Type 0 where
  pub feed : FeedPromised posts.feed done.feed
  pub pulse : StationPromised row_line pulse_machine posts.pulse done.pulse
  pub register : StationPromised on_line_of register_machine posts.register done.register
  pub translate :
      StationPromised on_line_of (λ table. translate_machine table.routes) posts.translate done.translate
  pub deal : DealPromised posts.deal done.deal
  pub senders :
      Pairs (λ sender back. StationPromised on_line_of (λ stage. sender_machine) sender back)
      posts.senders done.senders.items
  pub gather : GatherPromised ends_entry posts.gather done.gather
  pub tape : TapePromised posts.tape done.tape
