use Rattle.std.proofs.Common.{◌≡◌, append-nil, arith, false, refl, rules, string_bytes, sym, take, true, ◌∙◌}
use Rattle.xb_feed.specs.Watches.{watch_of}
use Rattle.xb_feed.proofs.Fed.{late_next, puts_next}
use Rattle.xb_feed.proofs.feed.take_all_events.Goals as goal

pub loop-event-init : goal.loop-event-init
loop-event-init g c = record { records = sym (append-nil (string_bytes c.args.text.now)); known = refl; hears = tt }

pub returns-then-not-branch-clause-late : goal.returns-then-not-branch-clause-late
returns-then-not-branch-clause-late g c = λ e.
    let taken : c.in_ok-take.field-0 ≡ false = search rules in (
      take c.loop-event.event-index c.args.events.now,
      c.in_ok-take.ensures.kept taken ∙ c.loop-event.invariant.records,
      late_next g.C.Follow.rules (watch_of c.args.lines.now) (watch_of c.loop-event.lines) c.args.events.now c.loop-event.event-index _
          c.in_ok-take.field-0 (omega (arith, c.loop-event-test.true)) c.loop-event.invariant.known
          (λ k. c.in_ok-take.ensures.can.1 k) taken,
    )

pub loop-event-preserved : goal.loop-event-preserved
loop-event-preserved g c =
    let taken : c.in_ok-take.field-0 ≡ true = search rules in
    puts_next g.C.Follow.rules (watch_of c.args.lines.now) (watch_of c.loop-event.lines) (watch_of c.take.new.self) c.args.events.now
    c.loop-event.event-index _ (string_bytes c.args.text.now) (string_bytes c.loop-event.text)
    (string_bytes c.take.new.text) (omega (arith, c.loop-event-test.true)) c.loop-event.invariant
    (c.in_ok-take.ensures.text taken) (c.in_ok-take.ensures.heard taken) (c.in_ok-take.ensures.can.0 taken)
