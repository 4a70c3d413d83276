-- The laws of the posts.
use Rattle.std.specs.Prelude.{◌≡◌, ℕ, false}
use Rattle.std.specs.List.{All}
use Rattle.rtrb.specs.Ring.{sent, received}
use Rattle.xb_model.specs.Keyings.{is_ending}
use Rattle.xb_model.specs.LawfulLimits.{IsLawful}
use Rattle.xb_model.specs.Lines.{row_line, on_line_of}
use Rattle.xb_model.specs.Image.{Machine}
use Rattle.xb_pulse.specs.Machine.{machine as pulse_machine}
use Rattle.xb_register.specs.Machine.{machine as register_machine}
use Rattle.xb_branches.specs.Deals.{DealLaw}
use Rattle.xb_branches.specs.Gathers.{GatherLaw}
use Rattle.xb_station.specs.Stations.{StationLaw}
use Rattle.xb_routes.specs.Table.{Table}
use Rattle.xb_routes.specs.Machine.{machine as translate_machine}
use Rattle.xb_sender.specs.Machine.{machine as sender_machine}
use Rattle.xb_posts.specs.TapeStations.{TapeLaw}
use Rattle.xb_run.specs.Posts.{StationPost, SenderPost, Posts}

-- the law of a station, over what its ends received and sent
abbrev pub KeepsImage : {S I O Q : Type 0} → (I → ℕ) → Machine I O Q → StationPost S I O → Type 0
KeepsImage line machine s = StationLaw line machine (received s.consumer) (sent s.producer) s.pending

abbrev pub SenderLaw : SenderPost → Type 0
SenderLaw s = KeepsImage on_line_of sender_machine s

-- each post but the feed keeps its law, with the plan, the limits and the routes of the table
pub record StageLaws (table : Table) (posts : Posts) : Type 0 where
  pub limits : IsLawful table.limits
  pub pulse : KeepsImage row_line (pulse_machine table.limits) posts.pulse
  pub pulse_stage : posts.pulse.stage ≡ table.limits
  pub register : KeepsImage on_line_of (register_machine table.plan) posts.register
  pub register_stage : posts.register.stage ≡ table.plan
  pub translate : KeepsImage on_line_of (translate_machine table.routes) posts.translate
  pub translate_stage : posts.translate.stage ≡ table
  pub deal : DealLaw posts.deal
  pub senders : All SenderLaw posts.senders
  pub gather : GatherLaw (λ mark. is_ending mark.what) posts.gather
  pub tape : TapeLaw posts.tape
  pub lost : posts.tape.lost ≡ false
