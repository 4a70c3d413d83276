-- Whatever turns were made, the marks so far are a prefix of the tapes; once the tape station has
-- its End, they are the whole.
use Rattle.std.proofs.Common.{◌≡◌, ℕ, zero, suc, ◌<◌, true, false, None, List, [], ◌∷◌, map, length, get_or, refl, sym, ap, ◌∙◌, subst, arith}
use mathlib.Core.List.{IsPrefix}
use Rattle.std.specs.List.{flat_map, AllByRecursion}
use Rattle.std.proofs.lemmas.List.{map-append, get_or-map, length-map}
use Rattle.rtrb.specs.Ring.{sent, received}
use Rattle.xb_model.specs.declared.dialled.Dialled.{Dialled}
use Rattle.xb_model.specs.declared.line.TheConstants.{LINES}
use Rattle.xb_model.specs.declared.mark.Mark.{Mark}
use Rattle.xb_model.specs.declared.on.On.{On}
use Rattle.xb_model.specs.declared.order.Order.{Order}
use Rattle.xb_model.specs.declared.signal.Signal.{Signal}
use Rattle.xb_model.specs.Keyings.{is_ending, marks_of}
use Rattle.xb_model.specs.Lines.{row_line, on_line_of, of_line}
use Rattle.xb_model.specs.Rows.{LoopRow}
use Rattle.xb_model.specs.Tapes.{EndsAtLast}
use Rattle.xb_model.proofs.Entries.{marks_of-last}
use Rattle.xb_model.proofs.Lines.{of_line-append}
use Rattle.xb_model.specs.Image.{image}
use Rattle.xb_model.specs.OnLines.{on_line}
use Rattle.xb_model.proofs.Stateless.{image_all-stateless}
use Rattle.xb_pulse.specs.Machine.{machine as pulse_machine}
use Rattle.xb_register.specs.Machine.{machine as register_machine}
use Rattle.xb_flow.specs.declared.flow.Flow.{Flow}
use Rattle.xb_flow.specs.declared.post.Post.{Post}
use Rattle.xb_flow.specs.declared.post.Post.TheVariants as posts
use Rattle.xb_branches.specs.Dealt.{dealt}
use Rattle.xb_flow.specs.Flows.{items_of, has_end}
use Rattle.xb_branches.specs.GatherSteps.{items_at}
use Rattle.xb_branches.specs.Merged.{IsPiece}
use Rattle.xb_flow.specs.Rings.{IsRing}
use Rattle.xb_flow.proofs.Flows.{flow-front, flow-whole}
use Rattle.xb_station.proofs.ImagePrefixes.{image-prefix}
use Rattle.xb_flow.proofs.Prefixes.{prefix_on}
use Rattle.xb_routes.specs.Machine.{machine as translate_machine}
use Rattle.xb_sender.specs.Machine.{machine as sender_machine}
use Rattle.xb_tape.specs.GatheredMarks.{whats_of}
use Rattle.xb_closes.specs.Fed.{fed}
use Rattle.xb_posts.specs.Feeds.{to_come}
use Rattle.xb_images.specs.Images.{serial_image}
use Rattle.xb_images.proofs.Chain.{chain-fed}
use Rattle.xb_images.proofs.LineTapes.{serial_image-line, whats_of-on_line}
use Rattle.xb_replay.specs.Turns.{IsThere, HasEnded}
use Rattle.xb_run.specs.Laws.{StageLaws}
use Rattle.xb_run.specs.Posts.{Input, Output, SenderPost, Posts}
use Rattle.xb_run.specs.Rings.{AreLinked}
use Rattle.xb_replay.specs.World.{World, FeedLaw, marks_of as marks_on, whole_tape, ArePrefixes, AreWhole}
use Rattle.xb_replay.proofs.Sent.{ring-prefix, ring-whole, station-prefix, station-whole, deal-prefix, deal-whole, gather-prefix, gather-whole, gather-ended}

-- the marks of an order, on its line
abbrev pub keyed : On Order → List (On Mark)
keyed order = on_line order.line (marks_of order.what)

-- an ending mark stands at the end of each order's marks, and only there
keyed-piece : (order : On Order) → IsPiece (λ (mark : On Mark). is_ending mark.what) (keyed order)
keyed-piece order =
    let e : EndsAtLast (marks_of order.what) = marks_of-last order.what in
    record {
      front = on_line order.line e.earlier;
      last = record { line = order.line; what = e.last };
      goes = on e.earlier e.goes_on;
      ended = e.ends;
      is = ap (on_line order.line) e.parts ∙ map-append (λ what. record { line = order.line; what = what }) e.earlier (e.last ∷ []);
    }
  where
    on : (marks : List Mark) → AllByRecursion (λ mark. is_ending mark ≡ false) marks → AllByRecursion (λ (mark : On Mark). is_ending mark.what ≡ false) (on_line order.line marks)
    on [] h = tt
    on (mark ∷ marks) h = (h.0, on marks h.1)

-- what stands at a place does not depend on what stands for none
any-default : {X : Type 0} (xs : List X) (j : ℕ) (d e : X) → j < length xs → get_or xs j d ≡ get_or xs j e
any-default [] j d e h = absurd (omega arith)
any-default (x ∷ xs) zero d e h = refl
any-default (x ∷ xs) (suc j) d e h = any-default xs j d e (omega arith)

-- fewer marks are fewer of each line
line-prefix : (l : ℕ) (some all : List (On Mark)) → IsPrefix some all → IsPrefix (whats_of (of_line on_line_of l some)) (whats_of (of_line on_line_of l all))
line-prefix l some all p = (
  whats_of (of_line on_line_of l p.0),
  sym (map-append (λ (mark : On Mark). mark.what) (of_line on_line_of l some) (of_line on_line_of l p.0))
      ∙ ap whats_of (sym (of_line-append on_line_of l some p.0))
      ∙ ap (λ ms. whats_of (of_line on_line_of l ms)) p.1,
)

-- what stands for no sender
abbrev pub no_sender : Posts → SenderPost
no_sender posts = record { stage = record {}; consumer = posts.deal.consumer; producer = posts.gather.producer; pending = [] }

module _ (w : World) (r : AreLinked w.posts) (k : StageLaws w.table w.posts) (f : FeedLaw w.rows w.posts.feed) where
  abbrev fed_rows : List LoopRow
  fed_rows = fed w.rows None

  -- what the feed has still to send
  abbrev coming : List (Flow LoopRow)
  coming = to_come w.posts.feed w.posts.feed.rest.rows None

  abbrev signals : List (On Signal)
  signals = image row_line (pulse_machine w.table.limits) fed_rows

  abbrev dialled : List (On Dialled)
  dialled = image on_line_of (register_machine w.table.plan) signals

  abbrev orders : List (On Order)
  orders = image on_line_of (translate_machine w.table.routes) dialled

  -- the orders that the deal has received
  abbrev taken : List (On Order)
  taken = items_of (received w.posts.deal.consumer)

  abbrev branches : ℕ
  branches = length w.posts.senders

  sends-of : (xs : List (On Order)) → image on_line_of sender_machine xs ≡ flat_map keyed xs
  sends-of xs = image_all-stateless marks_of xs

  -- ---- prefixes
  rows-prefix : IsPrefix (items_of (received w.posts.pulse.consumer)) fed_rows
  rows-prefix =
      prefix_on (items_of (received w.posts.pulse.consumer)) (items_of (sent w.posts.feed.producer)) fed_rows
      (ring-prefix w.posts.feed.producer w.posts.pulse.consumer r.rows)
      (flow-front (sent w.posts.feed.producer) coming fed_rows true f.fed)

  signals-prefix : IsPrefix (items_of (received w.posts.register.consumer)) signals
  signals-prefix =
      prefix_on (items_of (received w.posts.register.consumer)) (items_of (sent w.posts.pulse.producer)) signals
      (ring-prefix w.posts.pulse.producer w.posts.register.consumer r.signals)
      (station-prefix row_line (pulse_machine w.table.limits) (received w.posts.pulse.consumer) (sent w.posts.pulse.producer) w.posts.pulse.pending k.pulse fed_rows rows-prefix)

  dialled-prefix : IsPrefix (items_of (received w.posts.translate.consumer)) dialled
  dialled-prefix =
      prefix_on (items_of (received w.posts.translate.consumer)) (items_of (sent w.posts.register.producer)) dialled
      (ring-prefix w.posts.register.producer w.posts.translate.consumer r.dialled)
      (station-prefix on_line_of (register_machine w.table.plan) (received w.posts.register.consumer) (sent w.posts.register.producer) w.posts.register.pending k.register signals signals-prefix)

  orders-prefix : IsPrefix taken orders
  orders-prefix =
      prefix_on taken (items_of (sent w.posts.translate.producer)) orders
      (ring-prefix w.posts.translate.producer w.posts.deal.consumer r.orders)
      (station-prefix on_line_of (translate_machine w.table.routes) (received w.posts.translate.consumer) (sent w.posts.translate.producer) w.posts.translate.pending k.translate dialled dialled-prefix)

  -- ---- one branch
  module _ (j : ℕ) (below : j < branches) where
    abbrev output : Output (On Order)
    output = get_or w.posts.deal.producers j w.posts.translate.producer

    abbrev sender : SenderPost
    sender = get_or w.posts.senders j (no_sender w.posts)

    abbrev input : Input (On Mark)
    input = get_or w.posts.gather.consumers j w.posts.tape.consumer

    dealt_ring : IsRing output sender.consumer
    dealt_ring = r.dealt j w.posts.translate.producer (no_sender w.posts) below

    keyed_ring : IsRing sender.producer input
    keyed_ring = r.gathered j (no_sender w.posts) w.posts.tape.consumer below

    in_deal : j < length w.posts.deal.producers
    in_deal = subst (λ n. j < n) (sym r.outputs) below

    dealt-prefix : IsPrefix (items_of (received sender.consumer)) (dealt branches j taken)
    dealt-prefix =
        prefix_on (items_of (received sender.consumer)) (items_of (sent output)) (dealt branches j taken)
        (ring-prefix output sender.consumer dealt_ring)
        (subst (λ n. IsPrefix (items_of (sent output)) (dealt n j taken)) r.outputs (deal-prefix w.posts.deal k.deal j w.posts.translate.producer in_deal))

    branch-prefix : IsPrefix (items_of (received input)) (flat_map keyed (dealt branches j taken))
    branch-prefix =
        prefix_on (items_of (received input)) (items_of (sent sender.producer)) (flat_map keyed (dealt branches j taken))
        (ring-prefix sender.producer input keyed_ring)
        (subst (IsPrefix (items_of (sent sender.producer))) (sends-of (dealt branches j taken))
        (station-prefix on_line_of sender_machine (received sender.consumer) (sent sender.producer) sender.pending (k.senders j (no_sender w.posts) below) (dealt branches j taken) dealt-prefix))

    -- once the gather has the branch's End
    module _ (end : has_end (received input) ≡ true) where
      sender-end : has_end (sent sender.producer) ≡ true
      sender-end = (ring-whole sender.producer input keyed_ring end).1

      sender-whole : (has_end (received sender.consumer) ≡ true) × (items_of (received sender.consumer) ≡ dealt branches j taken → items_of (sent sender.producer) ≡ image on_line_of sender_machine (dealt branches j taken))
      sender-whole = station-whole on_line_of sender_machine (received sender.consumer) (sent sender.producer) sender.pending (k.senders j (no_sender w.posts) below) (dealt branches j taken) sender-end

      output-end : has_end (sent output) ≡ true
      output-end = (ring-whole output sender.consumer dealt_ring sender-whole.0).1

      deal-end : has_end (received w.posts.deal.consumer) ≡ true
      deal-end = (deal-whole w.posts.deal k.deal j w.posts.translate.producer in_deal output-end).1

      dealt-whole : items_of (received sender.consumer) ≡ dealt branches j taken
      dealt-whole =
          (ring-whole output sender.consumer dealt_ring sender-whole.0).0
          ∙ (deal-whole w.posts.deal k.deal j w.posts.translate.producer in_deal output-end).0
          ∙ ap (λ n. dealt n j taken) r.outputs

      branch-whole : items_of (received input) ≡ flat_map keyed (dealt branches j taken)
      branch-whole = (ring-whole sender.producer input keyed_ring end).0 ∙ sender-whole.1 dealt-whole ∙ sends-of (dealt branches j taken)

  -- ---- all branches
  abbrev ins : List (List (Flow (On Mark)))
  ins = map received w.posts.gather.consumers

  counted : length ins ≡ branches
  counted = length-map w.posts.gather.consumers received ∙ r.inputs

  input-is : (j : ℕ) → j < branches → get_or ins j [] ≡ received (get_or w.posts.gather.consumers j w.posts.tape.consumer)
  input-is j h = get_or-map received w.posts.gather.consumers j w.posts.tape.consumer [] (subst (λ n. j < n) (sym r.inputs) h)

  branches-prefix : (j : ℕ) → j < length ins → IsPrefix (items_at ins j) (flat_map keyed (dealt (length ins) j taken))
  branches-prefix j h =
      let below : j < branches = subst (λ n. j < n) counted h in
      rw (counted, input-is j below) (branch-prefix j below)

  merged-prefix : IsPrefix (items_of (sent w.posts.gather.producer)) (flat_map keyed taken)
  merged-prefix = gather-prefix (λ mark. is_ending mark.what) ins (sent w.posts.gather.producer) w.posts.gather.held w.posts.gather.place k.gather keyed keyed-piece taken branches-prefix

  abbrev all_marks : List (On Mark)
  all_marks = serial_image w.table.plan w.table.limits w.table.routes fed_rows

  -- the marks that the tape station has received are the first of those that the stages make of the
  -- fed rows
  marks-prefix : IsPrefix (items_of (received w.posts.tape.consumer)) all_marks
  marks-prefix =
      prefix_on (items_of (received w.posts.tape.consumer)) (items_of (sent w.posts.gather.producer)) (image on_line_of sender_machine orders)
      (ring-prefix w.posts.gather.producer w.posts.tape.consumer r.marks)
      (prefix_on (items_of (sent w.posts.gather.producer)) (flat_map keyed taken) (image on_line_of sender_machine orders)
      merged-prefix
      (subst (λ ms. IsPrefix ms (image on_line_of sender_machine orders)) (sends-of taken) (image-prefix on_line_of sender_machine taken orders orders-prefix)))

  -- those are the tapes
  line-whole : (l : ℕ) → l < LINES → whats_of (of_line on_line_of l all_marks) ≡ whole_tape w l
  line-whole l below =
      ap whats_of
      (serial_image-line w.table.plan w.table.limits w.table.routes l fed_rows
      ∙ chain-fed w.table.plan w.table.limits w.table.routes l w.rows k.limits below)
      ∙ whats_of-on_line l (whole_tape w l)

  line-marks : (l : ℕ) → l < LINES → marks_on w l ≡ whats_of (of_line on_line_of l (items_of (received w.posts.tape.consumer)))
  line-marks = (k.tape.marks k.lost).each

  -- so the marks of each line are a prefix of its tape
  pub tape-prefix : ArePrefixes w
  tape-prefix l below =
      rw (line-marks l below, ← line-whole l below)
      (line-prefix l (items_of (received w.posts.tape.consumer)) all_marks marks-prefix)

  -- ---- once the tape station has its End
  module _ (tape-end : has_end (received w.posts.tape.consumer) ≡ true) where
    gather-end : has_end (sent w.posts.gather.producer) ≡ true
    gather-end = (ring-whole w.posts.gather.producer w.posts.tape.consumer r.marks tape-end).1

    input-end : (j : ℕ) → j < branches → has_end (received (get_or w.posts.gather.consumers j w.posts.tape.consumer)) ≡ true
    input-end j h =
        ap has_end (sym (input-is j h))
        ∙ gather-ended (λ mark. is_ending mark.what) ins (sent w.posts.gather.producer) w.posts.gather.held w.posts.gather.place k.gather gather-end j (subst (λ n. j < n) (sym counted) h)

    merged-whole : items_of (sent w.posts.gather.producer) ≡ flat_map keyed taken
    merged-whole = gather-whole (λ mark. is_ending mark.what) ins (sent w.posts.gather.producer) w.posts.gather.held w.posts.gather.place k.gather keyed keyed-piece taken gather-end
        (λ j h. let below : j < branches = subst (λ n. j < n) counted h in rw (counted, input-is j below) (branch-whole j below (input-end j below)))

    deal-has_end : has_end (received w.posts.deal.consumer) ≡ true
    deal-has_end =
        let first : 0 < branches = subst (λ n. 0 < n) r.outputs k.deal.least in
        deal-end 0 first (input-end 0 first)

    orders-ring : (taken ≡ items_of (sent w.posts.translate.producer)) × (has_end (sent w.posts.translate.producer) ≡ true)
    orders-ring = ring-whole w.posts.translate.producer w.posts.deal.consumer r.orders deal-has_end

    translate-whole : (has_end (received w.posts.translate.consumer) ≡ true) × (items_of (received w.posts.translate.consumer) ≡ dialled → items_of (sent w.posts.translate.producer) ≡ orders)
    translate-whole = station-whole on_line_of (translate_machine w.table.routes) (received w.posts.translate.consumer) (sent w.posts.translate.producer) w.posts.translate.pending k.translate dialled orders-ring.1

    dialled-ring : (items_of (received w.posts.translate.consumer) ≡ items_of (sent w.posts.register.producer)) × (has_end (sent w.posts.register.producer) ≡ true)
    dialled-ring = ring-whole w.posts.register.producer w.posts.translate.consumer r.dialled translate-whole.0

    register-whole : (has_end (received w.posts.register.consumer) ≡ true) × (items_of (received w.posts.register.consumer) ≡ signals → items_of (sent w.posts.register.producer) ≡ dialled)
    register-whole = station-whole on_line_of (register_machine w.table.plan) (received w.posts.register.consumer) (sent w.posts.register.producer) w.posts.register.pending k.register signals dialled-ring.1

    signals-ring : (items_of (received w.posts.register.consumer) ≡ items_of (sent w.posts.pulse.producer)) × (has_end (sent w.posts.pulse.producer) ≡ true)
    signals-ring = ring-whole w.posts.pulse.producer w.posts.register.consumer r.signals register-whole.0

    pulse-whole : (has_end (received w.posts.pulse.consumer) ≡ true) × (items_of (received w.posts.pulse.consumer) ≡ fed_rows → items_of (sent w.posts.pulse.producer) ≡ signals)
    pulse-whole = station-whole row_line (pulse_machine w.table.limits) (received w.posts.pulse.consumer) (sent w.posts.pulse.producer) w.posts.pulse.pending k.pulse fed_rows signals-ring.1

    rows-ring : (items_of (received w.posts.pulse.consumer) ≡ items_of (sent w.posts.feed.producer)) × (has_end (sent w.posts.feed.producer) ≡ true)
    rows-ring = ring-whole w.posts.feed.producer w.posts.pulse.consumer r.rows pulse-whole.0

    feed-whole : items_of (sent w.posts.feed.producer) ≡ fed_rows
    feed-whole = (flow-whole (sent w.posts.feed.producer) coming fed_rows true f.fed rows-ring.1).0

    orders-whole : taken ≡ orders
    orders-whole =
        orders-ring.0
        ∙ translate-whole.1 (dialled-ring.0 ∙ register-whole.1 (signals-ring.0 ∙ pulse-whole.1 (rows-ring.0 ∙ feed-whole)))

    marks-whole : items_of (received w.posts.tape.consumer) ≡ all_marks
    marks-whole =
        (ring-whole w.posts.gather.producer w.posts.tape.consumer r.marks tape-end).0
        ∙ merged-whole
        ∙ sym (sends-of taken)
        ∙ ap (image on_line_of sender_machine) orders-whole

    -- each line has its whole tape
    pub tape-whole : AreWhole w
    tape-whole l below =
        line-marks l below
        ∙ ap (λ ms. whats_of (of_line on_line_of l ms)) marks-whole
        ∙ line-whole l below

    -- and every post has ended
    pub all-ended : (post : Post) → IsThere w.posts post → HasEnded w.posts post
    all-ended posts.Feed there = rows-ring.1
    all-ended posts.Pulse there = signals-ring.1
    all-ended posts.Register there = dialled-ring.1
    all-ended posts.Translate there = orders-ring.1
    all-ended posts.Deal there = λ j p h.
        let below : j < branches = subst (λ n. j < n) r.outputs h in
        subst (λ o. has_end (sent o) ≡ true) (any-default w.posts.deal.producers j w.posts.translate.producer p h) (output-end j below (input-end j below))
    all-ended (posts.Send j) there = (
      there,
      λ s. subst (λ (z : SenderPost). has_end (sent z.producer) ≡ true) (any-default w.posts.senders j (no_sender w.posts) s there) (sender-end j there (input-end j there)),
    )
    all-ended posts.Gather there = gather-end
    all-ended posts.Tape there = tape-end
