-- What is made of the chain, part by part.
use Rattle.std.specs.Prelude.{◌≡◌, ℕ, true, false, List, [], Option}
use Rattle.rtrb.specs.Ring.{sent, received, producer_capacity}
use Rattle.xb_model.specs.declared.dialled.Dialled.{Dialled}
use Rattle.xb_model.specs.declared.fault.RowFault.{RowFault}
use Rattle.xb_model.specs.declared.limits.Limits.{Limits}
use Rattle.xb_model.specs.declared.on.On.{On}
use Rattle.xb_model.specs.declared.order.Order.{Order}
use Rattle.xb_model.specs.declared.plan.Plan.{Plan}
use Rattle.xb_model.specs.declared.signal.Signal.{Signal}
use Rattle.xb_model.specs.Keyings.{is_ending}
use Rattle.xb_model.specs.LawfulLimits.{IsLawful}
use Rattle.xb_model.specs.Lines.{row_line, on_line_of}
use Rattle.xb_model.specs.Rows.{LoopRow}
use Rattle.xb_model.specs.Sources.{Rest}
use Rattle.xb_model.specs.Tapes.{marks_at}
use Rattle.xb_pulse.specs.Machine.{machine as pulse_machine}
use Rattle.xb_register.specs.Machine.{machine as register_machine}
use Rattle.xb_branches.specs.declared.gathered.Gathered.TheVariants.{Wants}
use Rattle.xb_branches.specs.declared.held.Held.TheVariants.{Nothing}
use Rattle.xb_branches.specs.Deals.{DealLaw}
use Rattle.xb_flow.specs.Flows.{flow_of}
use Rattle.xb_branches.specs.Gathers.{GatherLaw}
use Rattle.xb_flow.specs.Rings.{IsRing}
use Rattle.xb_routes.specs.Table.{Table}
use Rattle.xb_routes.specs.Machine.{machine as translate_machine}
use Rattle.xb_closes.specs.Fed.{fed}
use Rattle.xb_posts.specs.Feeds.{to_come}
use Rattle.xb_posts.specs.TapeStations.{TapeLaw}
use Rattle.xb_run.specs.Laws.{KeepsImage}
use Rattle.xb_run.specs.Posts.{IsBlankStation, Input, FeedPost, StationPost, SenderPost, DealPost, GatherPost, TapePost}
use Rattle.xb_run.specs.Rings.{AreBranches}

-- posts from the rows of this source to orders by this table, on rings of this capacity through which
-- nothing went, and the other end of the one that the orders go to
pub record IsOriginating
    (feed : FeedPost)
    (pulse : StationPost Limits LoopRow (On Signal))
    (register : StationPost Plan (On Signal) (On Dialled))
    (translate : StationPost Table (On Dialled) (On Order))
    (end : Input (On Order))
    (rest : Rest) (table : Table) (ring : ℕ)
    : Type 0 where
  pub rows : IsRing feed.producer pulse.consumer
  pub signals : IsRing pulse.producer register.consumer
  pub dialled : IsRing register.producer translate.consumer
  pub orders : IsRing translate.producer end
  pub rows_room : producer_capacity feed.producer ≡ ring
  pub signals_room : producer_capacity pulse.producer ≡ ring
  pub dialled_room : producer_capacity register.producer ≡ ring
  pub orders_room : producer_capacity translate.producer ≡ ring
  pub source : feed.rest ≡ rest
  pub to_come : (given : List LoopRow) (stop : Option RowFault) →
      to_come feed given stop ≡ flow_of (fed given stop) true
  pub limits : IsLawful table.limits
  pub pulse_law : KeepsImage row_line (pulse_machine table.limits) pulse
  pub pulse_stage : pulse.stage ≡ table.limits
  pub register_law : KeepsImage on_line_of (register_machine table.plan) register
  pub register_stage : register.stage ≡ table.plan
  pub translate_law : KeepsImage on_line_of (translate_machine table.routes) translate
  pub translate_stage : translate.stage ≡ table
  pub blank_feed : (sent feed.producer ≡ []) × (feed.held ≡ [])
  pub blank_pulse : IsBlankStation pulse
  pub blank_register : IsBlankStation register
  pub blank_translate : IsBlankStation translate
  pub blank_end : received end ≡ []

-- posts from the orders of this end to tapes, with so many senders, on rings of this capacity through
-- which nothing went
pub record IsOutgoing
    (orders : Input (On Order)) (deal : DealPost) (senders : List SenderPost) (gather : GatherPost)
    (tape : TapePost) (count ring : ℕ)
    : Type 0 where
  pub input : deal.consumer ≡ orders
  pub branches : AreBranches count ring deal.producers senders gather.consumers
  pub marks : IsRing gather.producer tape.consumer
  pub marks_room : producer_capacity gather.producer ≡ ring
  pub deal_law : DealLaw deal
  pub deal_held : deal.held ≡ Nothing
  pub gather_law : GatherLaw (λ mark. is_ending mark.what) gather
  pub gather_held : gather.held ≡ Wants
  pub tape_law : TapeLaw tape
  pub lost : tape.lost ≡ false
  pub blank_output : sent gather.producer ≡ []
  pub blank_tape : received tape.consumer ≡ []
  pub blank_tapes : (l : ℕ) → marks_at tape.tapes l ≡ []
