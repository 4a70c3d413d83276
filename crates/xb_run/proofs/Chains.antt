-- The rings and posts, once all came back: what they make of the rows that were fed.
use Rattle.std.proofs.Common.{◌≡◌, ℕ, ◌<◌, true, None, Some, List, length, ◌++◌, sym, ap, ◌∙◌, subst, ⊎_elim}
use Rattle.std.proofs.lemmas.Option.{none-some}
use Rattle.rtrb.specs.Ring.{sent, received, IsPair, SameProducer, SameConsumer}
use Rattle.xb_model.specs.declared.fault.RowFault.{RowFault}
use Rattle.xb_model.specs.declared.fault.RowFault.TheVariants as row
use Rattle.xb_model.specs.declared.mark.Mark.{Mark}
use Rattle.xb_model.specs.declared.on.On.{On}
use Rattle.xb_model.specs.declared.order.Order.{Order}
use Rattle.xb_model.specs.Lines.{row_line, on_line_of}
use Rattle.xb_model.specs.Sources.{Rest}
use Rattle.xb_model.specs.Image.{Machine}
use Rattle.xb_pulse.specs.Machine.{machine as pulse_machine}
use Rattle.xb_register.specs.Machine.{machine as register_machine}
use Rattle.xb_routes.specs.Table.{Table}
use Rattle.xb_routes.specs.Machine.{machine as translate_machine}
use Rattle.xb_sender.specs.declared.sender.Sender.{Sender}
use Rattle.xb_sender.specs.Machine.{machine as sender_machine}
use Rattle.xb_flow.specs.declared.flow.Flow.{Flow}
use Rattle.xb_flow.specs.Flows.{items_of, flow_of, IsEnded}
use Rattle.xb_station.specs.Stations.{HasPassed}
use Rattle.xb_flow.specs.declared.post.Post.{Post}
use Rattle.xb_flow.specs.declared.post.Post.TheVariants as post
use Rattle.xb_flow.proofs.Flows.{items_of-flow}
use Rattle.xb_flow.proofs.Rings.{pair_kept}
use Rattle.xb_closes.specs.Fed.{fed}
use Rattle.xb_posts.specs.Feeds.{to_come}
use Rattle.xb_run.specs.Chains.{IsChain}
use Rattle.xb_run.specs.Posts.{Output, Input, StationPost, SenderPost, Posts}
use Rattle.xb_run.specs.Pairs.{Pairs}
use Rattle.xb_run.specs.Faults.{IsPostOf, IsBankFault}
use Rattle.xb_run.specs.Promises.{StationPromised, PostsPromised}
use Rattle.xb_run.specs.Returned.{IsSettled, AreRejoined}
use Rattle.xb_run.specs.Served.{IsUnserved, IsFaultOf, HaveServed}
use Rattle.xb_run.specs.declared.fault.BankFault.{BankFault}
use Rattle.xb_run.specs.declared.fault.BankFault.TheVariants.{NoMemory, NoThread, Rows}
use Rattle.xb_run.specs.declared.done.StationDone.{StationDone}
use Rattle.xb_run.specs.declared.done.AllDone.{AllDone}
use Rattle.xb_run.proofs.Pairs.{pairs-joined, pairs-flip, pairs-right, pairs-each, pairs-long}
use Rattle.xb_run.proofs.Promises.{same_producer, same_consumer}

-- a flow that is known ends with an End, and these are its items
flow_ends : {X : Type 0} (outs : List (Flow X)) (items : List X) → outs ≡ flow_of items true → IsEnded outs × (items_of outs ≡ items)
flow_ends outs items e =
    let same : items_of outs ≡ items = ap items_of e ∙ items_of-flow items true in
    (e ∙ ap (λ xs. flow_of xs true) (sym same), same)

-- of a settled ring, what was received is what was sent
pub settled_items : {X : Type 0} (p : Output X) (c : Input X) (items : List X) → IsSettled p c → IsEnded (received c) → sent p ≡ flow_of items true
    → items_of (received c) ≡ items
settled_items p c items settled input sends =
    let f = flow_ends (sent p) items sends in
    ap items_of (settled input f.0) ∙ f.1

module _ {S I O Q : Type 0} (line : I → ℕ) (machine : S → Machine I O Q) {made : List (StationPost S I O)} {done : List (StationDone I O)} where
  -- the rings before the senders
  pub before_returned : {ps ps' : List (Output I)} → Pairs (λ end sender. IsPair end sender.consumer) ps made → Pairs SameProducer ps ps'
      → Pairs (λ sender back. StationPromised line machine sender back) made done → Pairs (λ end sender. IsPair end sender.consumer) ps' done
  before_returned {ps} {ps'} links same promised =
      let first : Pairs (λ end sender. IsPair end sender.consumer) ps' made =
      pairs-joined (λ (q : Output I) (p : Output I). SameProducer p q) (λ (p : Output I) (m : StationPost S I O). IsPair p m.consumer)
      (λ (q : Output I) (m : StationPost S I O). IsPair q m.consumer)
      (λ q p m s l. pair_kept p q m.consumer m.consumer s (same_consumer m.consumer) l)
      (pairs-flip (λ (p : Output I) (q : Output I). SameProducer p q) same) links in
      pairs-joined (λ (q : Output I) (m : StationPost S I O). IsPair q m.consumer)
      (λ (m : StationPost S I O) (d : StationDone I O). StationPromised line machine m d)
      (λ (q : Output I) (d : StationDone I O). IsPair q d.consumer)
      (λ q m d l k. pair_kept q q m.consumer d.consumer (same_producer q) k.input l) first promised

  -- and those after them
  pub after_returned : {cs cs' : List (Input O)} → Pairs (λ sender end. IsPair sender.producer end) made cs → Pairs SameConsumer cs cs'
      → Pairs (λ sender back. StationPromised line machine sender back) made done → Pairs (λ sender end. IsPair sender.producer end) done cs'
  after_returned {cs} {cs'} links same promised =
      let first : Pairs (λ sender end. IsPair sender.producer end) done cs =
      pairs-joined (λ (d : StationDone I O) (m : StationPost S I O). StationPromised line machine m d)
      (λ (m : StationPost S I O) (c : Input O). IsPair m.producer c)
      (λ (d : StationDone I O) (c : Input O). IsPair d.producer c)
      (λ d m c k l. pair_kept m.producer d.producer c c k.output (same_consumer c) l)
      (pairs-flip (λ (m : StationPost S I O) (d : StationDone I O). StationPromised line machine m d) promised) links in
      pairs-joined (λ (d : StationDone I O) (c : Input O). IsPair d.producer c) (λ (c : Input O) (e : Input O). SameConsumer c e)
      (λ (d : StationDone I O) (e : Input O). IsPair d.producer e)
      (λ d c e l s. pair_kept d.producer d.producer c e (same_producer d.producer) s l) first same

module _ (posts : Posts) (rest : Rest) (table : Table) (senders ring : ℕ) (done : AllDone)
    (chain : IsChain posts rest table senders ring) (promised : PostsPromised posts done) where
  before : Pairs (λ end sender. IsPair end sender.consumer) posts.deal.producers posts.senders
  before =
      pairs-each (λ (end : Output (On Order)) (sender : SenderPost). IsPair end sender.consumer) posts.deal.producers posts.senders chain.linked.outputs
      (λ j end sender lt. (chain.linked.dealt j end sender (subst (λ n. j < n) chain.linked.outputs lt)).pair)

  after : Pairs (λ sender end. IsPair sender.producer end) posts.senders posts.gather.consumers
  after =
      pairs-each (λ (sender : SenderPost) (end : Input (On Mark)). IsPair sender.producer end) posts.senders posts.gather.consumers (sym chain.linked.inputs)
      (λ j sender end lt. (chain.linked.gathered j sender end lt).pair)

  -- each ring has the two ends that it was made with
  pub rejoined : AreRejoined done
  rejoined = record {
    rows = pair_kept posts.feed.producer done.feed.producer posts.pulse.consumer done.pulse.consumer promised.feed.output promised.pulse.input chain.linked.rows.pair;
    signals = pair_kept posts.pulse.producer done.pulse.producer posts.register.consumer done.register.consumer promised.pulse.output promised.register.input chain.linked.signals.pair;
    dialled = pair_kept posts.register.producer done.register.producer posts.translate.consumer done.translate.consumer promised.register.output promised.translate.input chain.linked.dialled.pair;
    orders = pair_kept posts.translate.producer done.translate.producer posts.deal.consumer done.deal.consumer promised.translate.output promised.deal.input chain.linked.orders.pair;
    before = before_returned on_line_of (λ (stage : Sender). sender_machine) before promised.deal.outputs promised.senders;
    after = after_returned on_line_of (λ (stage : Sender). sender_machine) after promised.gather.inputs promised.senders;
    marks = pair_kept posts.gather.producer done.gather.producer posts.tape.consumer done.tape.consumer promised.gather.output promised.tape.input chain.linked.marks.pair;
  }

  -- as many senders came back as were asked for
  pub senders_back : length done.senders.items ≡ senders
  senders_back = sym (pairs-long promised.senders) ∙ chain.senders_are

  -- a feed that was served and met no fault sent what is fed of all rows of its source, which ended
  pub fed_whole : done.feed.served ≡ true → done.feed.fault ≡ None → (sent done.feed.producer ≡ flow_of (fed rest.rows None) true) × (rest.stop ≡ None)
  fed_whole served none =
      let h = promised.feed.served served in
      let whole : (h.rows ≡ posts.feed.rest.rows) × (done.feed.fault ≡ posts.feed.rest.stop) =
      ⊎_elim (λ all. all) (λ part. absurd (none-some row.NoMemory (sym none ∙ part.2))) h.may_give in (
        h.sends
            ∙ ap (λ xs. xs ++ to_come posts.feed h.rows done.feed.fault) chain.blank.feed.0
            ∙ chain.to_come h.rows done.feed.fault
            ∙ ap (λ rs. flow_of (fed rs done.feed.fault) true) (whole.0 ∙ ap (λ (r : Rest). r.rows) chain.source)
            ∙ ap (λ stop. flow_of (fed rest.rows stop) true) none,
        ap (λ (r : Rest). r.stop) (sym chain.source) ∙ sym whole.1 ∙ none,
      )

  -- a fault of the feed that is not that memory ran out is its source's stop
  fault_is : (fault : RowFault) → done.feed.served ≡ true → done.feed.fault ≡ Some fault → (fault ≡ row.NoMemory → ⊥) → rest.stop ≡ Some fault
  fault_is fault served met other =
      ⊎_elim
      (λ all. ap (λ (r : Rest). r.stop) (sym chain.source) ∙ sym all.1 ∙ met)
      (λ part. absurd (other (some_same (sym met ∙ part.2))))
      (promised.feed.served served).may_give
    where
      some_same : {a b : RowFault} → Some a ≡ Some b → a ≡ b
      some_same e = cc

  unserved_is : (name : Post) → IsUnserved done name → IsPostOf senders name
  unserved_is post.Feed h = tt
  unserved_is post.Pulse h = tt
  unserved_is post.Register h = tt
  unserved_is post.Translate h = tt
  unserved_is post.Deal h = tt
  unserved_is (post.Send number) h = subst (λ n. number < n) senders_back h.0
  unserved_is post.Gather h = tt
  unserved_is post.Tape h = tt

  -- what a fault that is told of the posts says of the source and the chain
  pub fault_of : (fault : BankFault) → IsFaultOf done fault → IsBankFault senders rest.stop fault
  fault_of NoMemory h = tt
  fault_of (NoThread name) h = unserved_is name h
  fault_of (Rows fault) h = (fault_is fault h.0.feed h.1 h.2, h.2)

  -- what came of the posts
  pub have_served : HaveServed table.plan table.limits table.routes (fed rest.rows None) done
  have_served = record {
    feed = λ served none. (fed_whole served none).0;
    pulse = λ served.
        subst (λ limits. HasPassed row_line (pulse_machine limits) (received done.pulse.consumer) (sent done.pulse.producer)) chain.laws.pulse_stage (promised.pulse.served served);
    register = λ served.
        subst (λ plan. HasPassed on_line_of (register_machine plan) (received done.register.consumer) (sent done.register.producer)) chain.laws.register_stage (promised.register.served served);
    translate = λ served.
        subst (λ (t : Table). HasPassed on_line_of (translate_machine t.routes) (received done.translate.consumer) (sent done.translate.producer)) chain.laws.translate_stage (promised.translate.served served);
    deal = promised.deal.served;
    senders = pairs-right (λ (m : SenderPost) (d : StationDone (On Order) (On Mark)). StationPromised on_line_of (λ stage. sender_machine) m d)
        (λ (d : StationDone (On Order) (On Mark)). d.served ≡ true → HasPassed on_line_of sender_machine (received d.consumer) (sent d.producer))
        (λ m d k. k.served) promised.senders;
    gather = promised.gather.served;
    tape = promised.tape.taped chain.laws.lost;
  }
