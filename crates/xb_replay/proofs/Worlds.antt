-- A turn of the feed or of a station keeps the law of the world, once its rings were looked at.
use Rattle.std.proofs.Common.{◌≡◌, length, get_or, sym, ap, ◌∙◌, subst}
use Rattle.rtrb.specs.Ring.{sent}
use Rattle.xb_model.specs.declared.dialled.Dialled.{Dialled}
use Rattle.xb_model.specs.declared.limits.Limits.{Limits}
use Rattle.xb_model.specs.declared.on.On.{On}
use Rattle.xb_model.specs.declared.order.Order.{Order}
use Rattle.xb_model.specs.declared.plan.Plan.{Plan}
use Rattle.xb_model.specs.declared.signal.Signal.{Signal}
use Rattle.xb_model.specs.Lines.{row_line, on_line_of}
use Rattle.xb_model.specs.Rows.{LoopRow}
use Rattle.xb_pulse.specs.Machine.{machine as pulse_machine}
use Rattle.xb_register.specs.Machine.{machine as register_machine}
use Rattle.xb_branches.specs.Deals.{DealLaw}
use Rattle.xb_flow.specs.Rings.{IsRing}
use Rattle.xb_routes.specs.Table.{Table}
use Rattle.xb_routes.specs.Machine.{machine as translate_machine}
use Rattle.xb_replay.specs.Looks.{InputLooked, OutputLooked}
use Rattle.xb_run.specs.Laws.{KeepsImage}
use Rattle.xb_run.specs.Posts.{FeedPost, StationPost, DealPost}
use Rattle.xb_replay.specs.World.{World, FeedLaw, WorldLaw}
use Rattle.xb_replay.proofs.Feeds.{feed_law-looked}
use Rattle.xb_replay.proofs.LookSteps.{input-law, output-law, input-ring, output-ring, input-stage, output-stage}

module _ (w : World) (k : WorldLaw w) where
  -- other posts in front of the deal
  front : (feed : FeedPost) (pulse : StationPost Limits LoopRow (On Signal)) (register : StationPost Plan (On Signal) (On Dialled)) (translate : StationPost Table (On Dialled) (On Order))
      → IsRing feed.producer pulse.consumer → IsRing pulse.producer register.consumer
      → IsRing register.producer translate.consumer → IsRing translate.producer w.posts.deal.consumer
      → KeepsImage row_line (pulse_machine w.table.limits) pulse → pulse.stage ≡ w.table.limits
      → KeepsImage on_line_of (register_machine w.table.plan) register → register.stage ≡ w.table.plan
      → KeepsImage on_line_of (translate_machine w.table.routes) translate → translate.stage ≡ w.table
      → FeedLaw w.rows feed
      → WorldLaw (record w { posts = record w.posts { feed = feed; pulse = pulse; register = register; translate = translate } })
  front feed pulse register translate rows signals dialled orders pulses pulse_stage registers register_stage translates translate_stage law =
      let r = k.links in
      let l = k.stages in
      record {
        links = record {
          rows = rows;
          signals = signals;
          dialled = dialled;
          orders = orders;
          outputs = r.outputs;
          inputs = r.inputs;
          dealt = r.dealt;
          gathered = r.gathered;
          marks = r.marks;
        };
        stages = record {
          limits = l.limits;
          pulse = pulses;
          pulse_stage = pulse_stage;
          register = registers;
          register_stage = register_stage;
          translate = translates;
          translate_stage = translate_stage;
          deal = l.deal;
          senders = l.senders;
          gather = l.gather;
          tape = l.tape;
          lost = l.lost;
        };
        feed = law;
      }

  -- the feed
  pub world-feed : (feed : FeedPost) (pulse : StationPost Limits LoopRow (On Signal))
      → IsRing feed.producer pulse.consumer → FeedLaw w.rows feed → InputLooked w.posts.pulse pulse
      → WorldLaw (record w { posts = record w.posts { feed = feed; pulse = pulse } })
  world-feed feed pulse ring law seen =
      let r = k.links in
      let l = k.stages in
      front feed pulse w.posts.register w.posts.translate ring
      (input-ring w.posts.pulse pulse seen w.posts.register.consumer r.signals) r.dialled r.orders
      (input-law row_line (pulse_machine w.table.limits) w.posts.pulse pulse seen l.pulse)
      (input-stage w.posts.pulse pulse seen ∙ l.pulse_stage) l.register l.register_stage l.translate l.translate_stage law

  -- the pulse station
  pub world-pulse : (feed : FeedPost) (pulse : StationPost Limits LoopRow (On Signal)) (register : StationPost Plan (On Signal) (On Dialled))
      → feed ≡ record w.posts.feed { producer = feed.producer } → sent feed.producer ≡ sent w.posts.feed.producer
      → IsRing feed.producer pulse.consumer → IsRing pulse.producer register.consumer
      → pulse.stage ≡ w.posts.pulse.stage → KeepsImage row_line (pulse_machine pulse.stage) pulse
      → InputLooked w.posts.register register
      → WorldLaw (record w { posts = record w.posts { feed = feed; pulse = pulse; register = register } })
  world-pulse feed pulse register same sends rows signals stage law seen =
      let r = k.links in
      let l = k.stages in
      front feed pulse register w.posts.translate rows signals
      (input-ring w.posts.register register seen w.posts.translate.consumer r.dialled) r.orders
      (subst (λ limits. KeepsImage row_line (pulse_machine limits) pulse) (stage ∙ l.pulse_stage) law) (stage ∙ l.pulse_stage)
      (input-law on_line_of (register_machine w.table.plan) w.posts.register register seen l.register)
      (input-stage w.posts.register register seen ∙ l.register_stage) l.translate l.translate_stage
      (feed_law-looked w.rows w.posts.feed feed same sends k.feed)

  -- the register
  pub world-register : (pulse : StationPost Limits LoopRow (On Signal)) (register : StationPost Plan (On Signal) (On Dialled)) (translate : StationPost Table (On Dialled) (On Order))
      → OutputLooked w.posts.pulse pulse
      → IsRing pulse.producer register.consumer → IsRing register.producer translate.consumer
      → register.stage ≡ w.posts.register.stage → KeepsImage on_line_of (register_machine register.stage) register
      → InputLooked w.posts.translate translate
      → WorldLaw (record w { posts = record w.posts { pulse = pulse; register = register; translate = translate } })
  world-register pulse register translate gives signals dialled stage law seen =
      let r = k.links in
      let l = k.stages in
      front w.posts.feed pulse register translate (output-ring w.posts.pulse pulse gives w.posts.feed.producer r.rows) signals dialled
      (input-ring w.posts.translate translate seen w.posts.deal.consumer r.orders)
      (output-law row_line (pulse_machine w.table.limits) w.posts.pulse pulse gives l.pulse)
      (output-stage w.posts.pulse pulse gives ∙ l.pulse_stage)
      (subst (λ plan. KeepsImage on_line_of (register_machine plan) register) (stage ∙ l.register_stage) law) (stage ∙ l.register_stage)
      (input-law on_line_of (translate_machine w.table.routes) w.posts.translate translate seen l.translate)
      (input-stage w.posts.translate translate seen ∙ l.translate_stage) k.feed

  -- the translation
  pub world-translate : (register : StationPost Plan (On Signal) (On Dialled)) (translate : StationPost Table (On Dialled) (On Order)) (deal : DealPost)
      → OutputLooked w.posts.register register
      → IsRing register.producer translate.consumer → IsRing translate.producer deal.consumer
      → translate.stage ≡ w.posts.translate.stage → KeepsImage on_line_of (translate_machine translate.stage.routes) translate
      → deal ≡ record w.posts.deal { consumer = deal.consumer } → DealLaw deal
      → WorldLaw (record w { posts = record w.posts { register = register; translate = translate; deal = deal } })
  world-translate register translate deal gives dialled orders stage law same deals =
      let r = k.links in
      let l = k.stages in
      let producers : deal.producers ≡ w.posts.deal.producers = ap (λ (d : DealPost). d.producers) same in
      record {
        links = record {
          rows = r.rows;
          signals = output-ring w.posts.register register gives w.posts.pulse.producer r.signals;
          dialled = dialled;
          orders = orders;
          outputs = ap length producers ∙ r.outputs;
          inputs = r.inputs;
          dealt = λ j p s h. subst (λ ps. IsRing (get_or ps j p) (get_or w.posts.senders j s).consumer) (sym producers) (r.dealt j p s h);
          gathered = r.gathered;
          marks = r.marks;
        };
        stages = record {
          limits = l.limits;
          pulse = l.pulse;
          pulse_stage = l.pulse_stage;
          register = output-law on_line_of (register_machine w.table.plan) w.posts.register register gives l.register;
          register_stage = output-stage w.posts.register register gives ∙ l.register_stage;
          translate = subst (λ (t : Table). KeepsImage on_line_of (translate_machine t.routes) translate) (stage ∙ l.translate_stage) law;
          translate_stage = stage ∙ l.translate_stage;
          deal = deals;
          senders = l.senders;
          gather = l.gather;
          tape = l.tape;
          lost = l.lost;
        };
        feed = k.feed;
      }
