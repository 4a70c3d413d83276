-- Which posts were served, and what came of these.
use Rattle.std.specs.Prelude.{◌≡◌, ◌≢◌, ◌<◌, Bool, true, false, List, length, slice_index_or, map, None, Some}
use Rattle.std.specs.List.{All}
use Rattle.rtrb.specs.Ring.{sent, received}
use Rattle.xb_model.specs.declared.fault.RowFault.TheVariants as row
use Rattle.xb_model.specs.declared.limits.Limits.{Limits}
use Rattle.xb_model.specs.declared.mark.Mark.{Mark}
use Rattle.xb_model.specs.declared.on.On.{On}
use Rattle.xb_model.specs.declared.order.Order.{Order}
use Rattle.xb_model.specs.declared.plan.Plan.{Plan}
use Rattle.xb_model.specs.Lines.{row_line, on_line_of}
use Rattle.xb_model.specs.Routing.{CodedRoute}
use Rattle.xb_model.specs.Rows.{LoopRow}
use Rattle.xb_pulse.specs.Machine.{machine as pulse_machine}
use Rattle.xb_register.specs.Machine.{machine as register_machine}
use Rattle.xb_routes.specs.Machine.{machine as translate_machine}
use Rattle.xb_sender.specs.Machine.{machine as sender_machine}
use Rattle.xb_flow.specs.declared.post.Post.{Post}
use Rattle.xb_flow.specs.declared.post.Post.TheVariants as post
use Rattle.xb_flow.specs.Flows.{flow_of}
use Rattle.xb_station.specs.Stations.{HasPassed}
use Rattle.xb_run.specs.Promises.{DealServed, GatherServed, TapeServed, ends_entry}
use Rattle.xb_run.specs.declared.done.StationDone.{StationDone}
use Rattle.xb_run.specs.declared.done.Taped.{Taped}
use Rattle.xb_run.specs.declared.done.Taped.TheVariants.{Stopped, Refused, Served}
use Rattle.xb_run.specs.declared.fault.BankFault.{BankFault}
use Rattle.xb_run.specs.declared.fault.BankFault.TheVariants.{NoMemory, NoThread, Rows}
use Rattle.xb_run.specs.declared.done.AllDone.{AllDone}

-- the tape station was served
abbrev pub tape_served : Taped → Bool
tape_served Stopped = false
tape_served Refused = true
tape_served (Served tapes) = true

-- every post was served
pub record AllServed (done : AllDone) : Type 0 where
  pub feed : done.feed.served ≡ true
  pub pulse : done.pulse.served ≡ true
  pub register : done.register.served ≡ true
  pub translate : done.translate.served ≡ true
  pub deal : done.deal.served ≡ true
  pub senders : All (λ sender. sender.served ≡ true) done.senders.items
  pub gather : done.gather.served ≡ true
  pub tape : tape_served done.tape.taped ≡ true

-- this post was not served
abbrev pub IsUnserved : AllDone → Post → Type 0
IsUnserved done post.Feed = done.feed.served ≡ false
IsUnserved done post.Pulse = done.pulse.served ≡ false
IsUnserved done post.Register = done.register.served ≡ false
IsUnserved done post.Translate = done.translate.served ≡ false
IsUnserved done post.Deal = done.deal.served ≡ false
IsUnserved done (post.Send number) =
    (number < length done.senders.items)
    × ((sender : StationDone (On Order) (On Mark)) →
    (slice_index_or done.senders.items number sender).served ≡ false)
IsUnserved done post.Gather = done.gather.served ≡ false
IsUnserved done post.Tape = tape_served done.tape.taped ≡ false

-- the post of `NoThread` was not served; with any other fault all posts were, and a fault of the rows
-- is the feed's, and not that memory ran out
abbrev pub IsFaultOf : AllDone → BankFault → Type 0
IsFaultOf done NoMemory = AllServed done
IsFaultOf done (NoThread post) = IsUnserved done post
IsFaultOf done (Rows fault) =
    AllServed done × (done.feed.fault ≡ Some fault) × (fault ≢ row.NoMemory)

-- what came of the posts that were served, where these rows were fed
pub record HaveServed
    (plan : Plan) (limits : Limits) (routes : List CodedRoute) (rows : List LoopRow) (done : AllDone)
    : Type 0 where
  pub feed : done.feed.served ≡ true → done.feed.fault ≡ None → sent done.feed.producer ≡ flow_of rows true
  pub pulse : done.pulse.served ≡ true →
      HasPassed row_line (pulse_machine limits) (received done.pulse.consumer) (sent done.pulse.producer)
  pub register : done.register.served ≡ true →
      HasPassed on_line_of (register_machine plan)
      (received done.register.consumer) (sent done.register.producer)
  pub translate : done.translate.served ≡ true →
      HasPassed on_line_of (translate_machine routes)
      (received done.translate.consumer) (sent done.translate.producer)
  pub deal : done.deal.served ≡ true → DealServed (received done.deal.consumer) done.deal.producers.items
  pub senders : All (λ sender. sender.served ≡ true →
      HasPassed on_line_of sender_machine (received sender.consumer) (sent sender.producer))
      done.senders.items
  pub gather : done.gather.served ≡ true →
      GatherServed ends_entry (map received done.gather.consumers.items) (sent done.gather.producer)
  pub tape : TapeServed done.tape.taped (received done.tape.consumer)
