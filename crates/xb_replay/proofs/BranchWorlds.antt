-- A turn of the deal, a sender, the gather or the tape station keeps the law of the world, once its
-- rings were looked at.
use Rattle.std.proofs.Common.{◌≡◌, ◌≢◌, ℕ, ◌<◌, false, List, length, get_or, set, sym, ap, ◌∙◌, subst, length-set}
use Rattle.std.specs.List.{All}
use Rattle.xb_model.specs.declared.dialled.Dialled.{Dialled}
use Rattle.xb_model.specs.declared.mark.Mark.{Mark}
use Rattle.xb_model.specs.declared.on.On.{On}
use Rattle.xb_model.specs.declared.order.Order.{Order}
use Rattle.xb_model.specs.Keyings.{is_ending}
use Rattle.xb_model.specs.Lines.{on_line_of}
use Rattle.xb_branches.specs.Deals.{DealLaw}
use Rattle.xb_branches.specs.Gathers.{GatherLaw}
use Rattle.xb_flow.specs.Rings.{IsRing, ProducersLooked}
use Rattle.xb_routes.specs.Table.{Table}
use Rattle.xb_routes.specs.Machine.{machine as translate_machine}
use Rattle.xb_sender.specs.Machine.{machine as sender_machine}
use Rattle.xb_posts.specs.TapeStations.{TapeLaw}
use Rattle.xb_replay.specs.Looks.{OutputLooked, AllInputsLooked, AllOutputsLooked}
use Rattle.xb_run.specs.Laws.{KeepsImage, SenderLaw}
use Rattle.xb_run.specs.Posts.{Input, Output, StationPost, SenderPost, DealPost, GatherPost, TapePost}
use Rattle.xb_run.specs.Rings.{AreDealt, AreGathered}
use Rattle.xb_replay.specs.World.{World, WorldLaw}
use Rattle.xb_replay.proofs.LookSteps.{ring_kept, input-law, output-law, input-ring, output-ring, output-stage, each-set}

module _ (w : World) (k : WorldLaw w) where
  -- other posts from the translation on
  back : (translate : StationPost Table (On Dialled) (On Order)) (deal : DealPost) (senders : List SenderPost) (gather : GatherPost) (tape : TapePost)
      → IsRing w.posts.register.producer translate.consumer → IsRing translate.producer deal.consumer
      → length deal.producers ≡ length senders → length gather.consumers ≡ length senders
      → AreDealt deal.producers senders → AreGathered senders gather.consumers → IsRing gather.producer tape.consumer
      → KeepsImage on_line_of (translate_machine w.table.routes) translate → translate.stage ≡ w.table
      → DealLaw deal → All SenderLaw senders → GatherLaw (λ mark. is_ending mark.what) gather → TapeLaw tape → tape.lost ≡ false
      → WorldLaw (record w { posts = record w.posts { translate = translate; deal = deal; senders = senders; gather = gather; tape = tape } })
  back translate deal senders gather tape dialled orders outputs inputs dealt gathered marks translates stage deals keyed gathers taped lost =
      let r = k.links in
      let l = k.stages in
      record {
        links = record {
          rows = r.rows;
          signals = r.signals;
          dialled = dialled;
          orders = orders;
          outputs = outputs;
          inputs = inputs;
          dealt = dealt;
          gathered = gathered;
          marks = marks;
        };
        stages = record {
          limits = l.limits;
          pulse = l.pulse;
          pulse_stage = l.pulse_stage;
          register = l.register;
          register_stage = l.register_stage;
          translate = translates;
          translate_stage = stage;
          deal = deals;
          senders = keyed;
          gather = gathers;
          tape = taped;
          lost = lost;
        };
        feed = k.feed;
      }

  -- the deal
  pub world-deal : (translate : StationPost Table (On Dialled) (On Order)) (deal : DealPost) (senders : List SenderPost)
      → OutputLooked w.posts.translate translate → IsRing translate.producer deal.consumer
      → length deal.producers ≡ length w.posts.deal.producers → DealLaw deal
      → AllInputsLooked w.posts.senders senders → AreDealt deal.producers senders
      → WorldLaw (record w { posts = record w.posts { translate = translate; deal = deal; senders = senders } })
  world-deal translate deal senders gives orders count deals seen dealt =
      let r = k.links in
      let l = k.stages in
      let below : (j : ℕ) → j < length senders → j < length w.posts.senders = λ j h. subst (λ n. j < n) seen.0 h in
      back translate deal senders w.posts.gather w.posts.tape
      (output-ring w.posts.translate translate gives w.posts.register.producer r.dialled) orders
      (count ∙ (r.outputs ∙ sym seen.0)) (r.inputs ∙ sym seen.0) dealt
      (λ j s c h. input-ring (get_or w.posts.senders j s) (get_or senders j s) (seen.1 j s (below j h)) (get_or w.posts.gather.consumers j c) (r.gathered j s c (below j h)))
      r.marks (output-law on_line_of (translate_machine w.table.routes) w.posts.translate translate gives l.translate)
      (output-stage w.posts.translate translate gives ∙ l.translate_stage) deals
      (λ j s h. input-law on_line_of sender_machine (get_or w.posts.senders j s) (get_or senders j s) (seen.1 j s (below j h)) (l.senders j s (below j h)))
      l.gather l.tape l.lost

  -- sender i
  pub world-sender : (i : ℕ) (deal : DealPost) (sender : SenderPost) (gather : GatherPost)
      → i < length w.posts.senders
      → deal ≡ record w.posts.deal { producers = deal.producers } → ProducersLooked w.posts.deal.producers deal.producers → DealLaw deal
      → ((p : Output (On Order)) → IsRing (get_or deal.producers i p) sender.consumer)
      → ((c : Input (On Mark)) → IsRing sender.producer (get_or gather.consumers i c))
      → SenderLaw sender
      → gather ≡ record w.posts.gather { consumers = gather.consumers } → length gather.consumers ≡ length w.posts.gather.consumers
      → ((j : ℕ) (c : Input (On Mark)) → j ≢ i → get_or gather.consumers j c ≡ get_or w.posts.gather.consumers j c) → GatherLaw (λ mark. is_ending mark.what) gather
      → WorldLaw (record w { posts = record w.posts { deal = deal; senders = set w.posts.senders i sender; gather = gather } })
  world-sender i deal sender gather below same looked deals dealt keyed law kept count others gathers =
      let r = k.links in
      let l = k.stages in
      let counted : length (set w.posts.senders i sender) ≡ length w.posts.senders = length-set w.posts.senders i sender in
      let consumer : deal.consumer ≡ w.posts.deal.consumer = ap (λ (d : DealPost). d.consumer) same in
      let producer : gather.producer ≡ w.posts.gather.producer = ap (λ (g : GatherPost). g.producer) kept in
      back w.posts.translate deal (set w.posts.senders i sender) gather w.posts.tape r.dialled
      (subst (IsRing w.posts.translate.producer) (sym consumer) r.orders)
      (looked.0 ∙ (r.outputs ∙ sym counted)) (count ∙ (r.inputs ∙ sym counted))
      (λ j p s h.
      each-set (λ m v. (q : Output (On Order)) → IsRing (get_or deal.producers m q) v.consumer) w.posts.senders i sender below dealt
      (λ m v n d q. let e = looked.1 m q (subst (λ z. m < z) (sym r.outputs) n) in ring_kept (get_or w.posts.deal.producers m q) (get_or deal.producers m q) (get_or w.posts.senders m v).consumer e.0 e.1 (r.dealt m q v n))
      j s h p)
      (λ j s c h.
      each-set (λ m v. (q : Input (On Mark)) → IsRing v.producer (get_or gather.consumers m q)) w.posts.senders i sender below keyed
      (λ m v n d q. subst (IsRing (get_or w.posts.senders m v).producer) (sym (others m q d)) (r.gathered m v q n))
      j s h c)
      (subst (λ p. IsRing p w.posts.tape.consumer) (sym producer) r.marks) l.translate l.translate_stage deals
      (each-set (λ m v. SenderLaw v) w.posts.senders i sender below law (λ m v n d. l.senders m v n)) gathers l.tape l.lost

  -- the gather
  pub world-gather : (senders : List SenderPost) (gather : GatherPost) (tape : TapePost)
      → AllOutputsLooked w.posts.senders senders → AreGathered senders gather.consumers → length gather.consumers ≡ length w.posts.gather.consumers
      → GatherLaw (λ mark. is_ending mark.what) gather → IsRing gather.producer tape.consumer → TapeLaw tape → tape.lost ≡ false
      → WorldLaw (record w { posts = record w.posts { senders = senders; gather = gather; tape = tape } })
  world-gather senders gather tape gives keyed count gathers marks taped lost =
      let r = k.links in
      let l = k.stages in
      let below : (j : ℕ) → j < length senders → j < length w.posts.senders = λ j h. subst (λ n. j < n) gives.0 h in
      back w.posts.translate w.posts.deal senders gather tape r.dialled r.orders
      (r.outputs ∙ sym gives.0) (count ∙ (r.inputs ∙ sym gives.0))
      (λ j p s h. output-ring (get_or w.posts.senders j s) (get_or senders j s) (gives.1 j s (below j h)) (get_or w.posts.deal.producers j p) (r.dealt j p s (below j h)))
      keyed marks l.translate l.translate_stage l.deal
      (λ j s h. output-law on_line_of sender_machine (get_or w.posts.senders j s) (get_or senders j s) (gives.1 j s (below j h)) (l.senders j s (below j h)))
      gathers taped lost

  -- the tape
  pub world-tape : (gather : GatherPost) (tape : TapePost)
      → gather ≡ record w.posts.gather { producer = gather.producer } → GatherLaw (λ mark. is_ending mark.what) gather
      → IsRing gather.producer tape.consumer → TapeLaw tape → tape.lost ≡ false
      → WorldLaw (record w { posts = record w.posts { gather = gather; tape = tape } })
  world-tape gather tape same gathers marks taped lost =
      let r = k.links in
      let l = k.stages in
      let consumers : gather.consumers ≡ w.posts.gather.consumers = ap (λ (g : GatherPost). g.consumers) same in
      back w.posts.translate w.posts.deal w.posts.senders gather tape r.dialled r.orders r.outputs (ap length consumers ∙ r.inputs) r.dealt
      (λ j s c h. subst (λ cs. IsRing (get_or w.posts.senders j s).producer (get_or cs j c)) (sym consumers) (r.gathered j s c h))
      marks l.translate l.translate_stage l.deal l.senders gathers taped lost
