-- The tapes of posts that all were served, where each ring is settled.
use Rattle.std.proofs.Common.{◌≡◌, ℕ, ◌<◌, true, false, None, List, [], ◌∷◌, length, map, get_or, sym, ap, ◌∙◌, subst, arith}
use Rattle.std.specs.List.{AllByRecursion}
use Rattle.std.proofs.lemmas.List.{length-map, get_or-map, map-append}
use Rattle.rtrb.specs.Ring.{sent, received}
use Rattle.xb_model.specs.declared.line.LineNo.{LineNo}
use Rattle.xb_model.specs.declared.limits.Limits.{Limits}
use Rattle.xb_model.specs.declared.mark.Mark.{Mark}
use Rattle.xb_model.specs.declared.on.On.{On}
use Rattle.xb_model.specs.declared.order.Order.{Order}
use Rattle.xb_model.specs.declared.dialled.Dialled.{Dialled}
use Rattle.xb_model.specs.declared.signal.Signal.{Signal}
use Rattle.xb_model.specs.declared.plan.Plan.{Plan}
use Rattle.xb_model.specs.Keyings.{marks_of, is_ending}
use Rattle.xb_model.specs.Lines.{row_line, on_line_of}
use Rattle.xb_model.specs.Routing.{CodedRoute}
use Rattle.xb_model.specs.Rows.{LoopRow}
use Rattle.xb_model.proofs.Entries.{marks_of-last}
use Rattle.xb_model.specs.Image.{image}
use Rattle.xb_model.specs.OnLines.{on_line}
use Rattle.xb_pulse.specs.Machine.{machine as pulse_machine}
use Rattle.xb_register.specs.Machine.{machine as register_machine}
use Rattle.xb_routes.specs.Machine.{machine as translate_machine}
use Rattle.xb_sender.specs.Machine.{machine as sender_machine}
use Rattle.xb_flow.specs.declared.flow.Flow.{Flow}
use Rattle.xb_flow.specs.Flows.{items_of, flow_of, IsEnded}
use Rattle.xb_branches.specs.Dealt.{dealt}
use Rattle.xb_branches.specs.GatherSteps.{items_at}
use Rattle.xb_branches.specs.Merged.{merged, IsPiece}
use Rattle.xb_station.specs.Stations.{HasPassed}
use Rattle.xb_branches.proofs.Merged.{merged_same}
use Rattle.xb_branches.proofs.MergedImages.{merged-stateless}
use Rattle.xb_images.specs.Images.{serial_image}
use Rattle.xb_tape.specs.GatheredMarks.{AreTapes}
use Rattle.xb_run.specs.Posts.{Output, Input}
use Rattle.xb_run.specs.Promises.{TapeServed, ends_entry}
use Rattle.xb_run.specs.Returned.{IsSettled, AreSettled}
use Rattle.xb_run.specs.Served.{AllServed, HaveServed}
use Rattle.xb_run.specs.declared.done.StationDone.{StationDone}
use Rattle.xb_run.specs.declared.done.Taped.TheVariants.{Served}
use Rattle.xb_run.specs.declared.done.AllDone.{AllDone}
use Rattle.xb_run.proofs.Chains.{settled_items}
use Rattle.xb_run.proofs.Pairs.{pairs-long, at_pair}

-- the marks of an order, on its line, are one piece
pub order_piece : (line : LineNo) (order : Order) → IsPiece ends_entry (on_line line (marks_of order))
order_piece line order =
    let e = marks_of-last order in
    record {
      front = on_line line e.earlier;
      last = record { line = line; what = e.last };
      goes = unended e.earlier e.goes_on;
      ended = e.ends;
      is = ap (on_line line) e.parts ∙ map-append (λ (what : Mark). record { line = line; what = what }) e.earlier (e.last ∷ []);
    }
  where
    unended : (marks : List Mark) → AllByRecursion (λ mark. is_ending mark ≡ false) marks → AllByRecursion (λ x. ends_entry x ≡ false) (on_line line marks)
    unended [] h = tt
    unended (mark ∷ marks) h = (h.0, unended marks h.1)

module _ (plan : Plan) (limits : Limits) (routes : List CodedRoute) (rows : List LoopRow) (done : AllDone)
    (all : AllServed done) (none : done.feed.fault ≡ None) (settled : AreSettled done) (h : HaveServed plan limits routes rows done) where
  abbrev Sends : StationDone (On Order) (On Mark) → Type 0
  Sends back = HasPassed on_line_of sender_machine (received back.consumer) (sent back.producer)

  abbrev Serves : StationDone (On Order) (On Mark) → Type 0
  Serves back = back.served ≡ true → Sends back

  abbrev SettledBefore : Output (On Order) → StationDone (On Order) (On Mark) → Type 0
  SettledBefore end back = IsSettled end back.consumer

  abbrev SettledAfter : StationDone (On Order) (On Mark) → Input (On Mark) → Type 0
  SettledAfter back end = IsSettled back.producer end

  abbrev signals : List (On Signal)
  signals = image row_line (pulse_machine limits) rows

  abbrev dialled : List (On Dialled)
  dialled = image on_line_of (register_machine plan) signals

  abbrev orders : List (On Order)
  orders = image on_line_of (translate_machine routes) dialled

  -- from ring to ring
  signals_sent : sent done.pulse.producer ≡ flow_of signals true
  signals_sent =
      let p = h.pulse all.pulse in
      p.output
      ∙ ap (λ xs. flow_of (image row_line (pulse_machine limits) xs) true)
      (settled_items done.feed.producer done.pulse.consumer rows settled.rows p.input (h.feed all.feed none))

  dialled_sent : sent done.register.producer ≡ flow_of dialled true
  dialled_sent =
      let p = h.register all.register in
      p.output
      ∙ ap (λ xs. flow_of (image on_line_of (register_machine plan) xs) true)
      (settled_items done.pulse.producer done.register.consumer signals settled.signals p.input signals_sent)

  orders_sent : sent done.translate.producer ≡ flow_of orders true
  orders_sent =
      let p = h.translate all.translate in
      p.output
      ∙ ap (λ xs. flow_of (image on_line_of (translate_machine routes) xs) true)
      (settled_items done.register.producer done.translate.consumer dialled settled.dialled p.input dialled_sent)

  orders_dealt : items_of (received done.deal.consumer) ≡ orders
  orders_dealt =
      settled_items done.translate.producer done.deal.consumer orders settled.orders (h.deal all.deal).input orders_sent

  -- what a sender, between two settled rings, made of the orders dealt to it
  sender_marks : (n j : ℕ) (before : Output (On Order)) (back : StationDone (On Order) (On Mark)) (after : Input (On Mark))
      → sent before ≡ flow_of (dealt n j orders) true → SettledBefore before back → Sends back → SettledAfter back after → IsEnded (received after)
      → items_of (received after) ≡ image on_line_of sender_machine (dealt n j orders)
  sender_marks n j before back after dealt_is before_is passed after_is ended =
      let took = settled_items before back.consumer (dealt n j orders) before_is passed.input dealt_is in
      settled_items back.producer after (image on_line_of sender_machine (dealt n j orders)) after_is ended
      (passed.output ∙ ap (λ xs. flow_of (image on_line_of sender_machine xs) true) took)

  abbrev befores : List (Output (On Order))
  befores = done.deal.producers.items

  abbrev backs : List (StationDone (On Order) (On Mark))
  backs = done.senders.items

  abbrev afters : List (Input (On Mark))
  afters = done.gather.consumers.items

  abbrev ins : List (List (Flow (On Mark)))
  ins = map received afters

  backs_long : length backs ≡ length befores
  backs_long = sym (pairs-long settled.before)

  ins_long : length ins ≡ length befores
  ins_long = length-map afters received ∙ sym (pairs-long settled.after) ∙ backs_long

  gathered : (j : ℕ) → j < length befores → items_at ins j ≡ image on_line_of sender_machine (dealt (length befores) j orders)
  gathered j lt =
      let n = length befores in
      let u = at_pair SettledBefore befores backs j settled.before.all lt in
      let v = at_pair SettledAfter backs afters j settled.after.all (omega (arith, lt, backs_long)) in
      let same : u.1 ≡ v.0 = sym (u.3 u.1) ∙ v.2 u.1 in
      let dealt_is : sent u.0 ≡ flow_of (dealt n j orders) true =
      ap sent (sym (u.2 u.0)) ∙ (h.deal all.deal).outputs j u.0 lt ∙ ap (λ xs. flow_of (dealt n j xs) true) orders_dealt in
      let below : j < length backs = omega (arith, lt, backs_long) in
      let served : (get_or backs j u.1).served ≡ true = all.senders j u.1 below in
      let passed : Sends u.1 = subst Sends (u.3 u.1) (h.senders j u.1 below served) in
      let after_is : SettledAfter u.1 v.1 = subst (λ back. SettledAfter back v.1) (sym same) v.4 in
      let within : j < length afters = omega (arith, lt, ins_long, length-map afters received) in
      let got : get_or ins j [] ≡ received v.1 = get_or-map received afters j v.1 [] within ∙ ap received (v.3 v.1) in
      let ended : IsEnded (received v.1) = subst IsEnded got ((h.gather all.gather).inputs j (omega (arith, lt, ins_long))) in
      ap items_of got ∙ sender_marks n j u.0 u.1 v.1 dealt_is u.4 passed after_is ended

  some : 0 < length befores
  some = omega (arith, (h.gather all.gather).some, ins_long)

  marks_sent : sent done.gather.producer ≡ flow_of (serial_image plan limits routes rows) true
  marks_sent =
      let n = length befores in
      (h.gather all.gather).output
      ∙ ap (λ k. flow_of (merged ends_entry k (items_at ins)) true) ins_long
      ∙ ap (λ xs. flow_of xs true)
      (merged_same ends_entry n some (items_at ins) (λ j. image on_line_of sender_machine (dealt n j orders)) gathered
      ∙ merged-stateless ends_entry n some marks_of orders order_piece)

  -- the tapes are those of the four images
  pub tapes_are : (tapes : List (List Mark)) → done.tape.taped ≡ Served tapes → AreTapes tapes (serial_image plan limits routes rows)
  tapes_are tapes served =
      let taped : TapeServed (Served tapes) (received done.tape.consumer) = subst (λ t. TapeServed t (received done.tape.consumer)) served h.tape in
      subst (AreTapes tapes)
      (settled_items done.gather.producer done.tape.consumer (serial_image plan limits routes rows) settled.marks taped.0 marks_sent) taped.1
