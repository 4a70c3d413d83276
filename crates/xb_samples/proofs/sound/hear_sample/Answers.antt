use Rattle.std.proofs.Common.{◌<◌, ◌≤◌, ℕ, of_z, subst, sym, to_z}
use Rattle.std.proofs.lemmas.Int.{to_z-of_z}
use Rattle.std.specs.Int.{w16}
use Rattle.xb_samples.specs.Sounds.{wire_after}
use Rattle.xb_samples.proofs.SoundLemmas.{change_heard, changes_heard, wire_heard, wires_heard}
use Rattle.xb_samples.proofs.sound.hear_sample.Goals as goal

pub loop-i-preserved : goal.loop-i-preserved
loop-i-preserved c =
    let wires = c.loop-i.wires in
    let wire = c.wire_after-after.result in
    let high = to_z w16 (of_z w16 c.args.high) in
    let sample = to_z w16 (of_z w16 c.args.sample) in
    let N : ℕ → Type 0 = λ n. c.loop-i.i < n in
    let inside = subst N (sym c.loop-i.auto.wires) c.loop-i-test.true in
    record {
      events = change_heard c.args.channel high c.args.tick sample wires c.loop-i.i _ wire c.loop-i.events.items
          c.say_edge.new.events.items _ inside c.wire_after-after.ensures c.in_ok-say_edge.ensures.said c.loop-i.invariant.events;
      wires = wire_heard (wire_after c.args.channel high sample) wires c.loop-i.i _ wire _ inside c.wire_after-after.ensures
          c.loop-i.invariant.wires;
    }

pub returns-clause-events : goal.returns-clause-events
returns-clause-events c =
    let N : ℕ → Type 0 = λ n. n ≤ c.loop-i.i in
    changes_heard c.args.channel c.args.high (to_z w16 (of_z w16 c.args.high)) c.args.tick c.args.sample
    (to_z w16 (of_z w16 c.args.sample)) c.loop-i.wires c.args.wires.now c.loop-i.i c.loop-i.events.items
    c.args.events.now.items (subst N (sym c.loop-i.auto.wires) c.loop-i-test.false)
    (to_z-of_z w16 c.args.high c.ranges.high) (to_z-of_z w16 c.args.sample c.ranges.sample) c.loop-i.invariant.events

pub returns-clause-wires : goal.returns-clause-wires
returns-clause-wires c =
    let N : ℕ → Type 0 = λ n. n ≤ c.loop-i.i in
    wires_heard c.args.channel c.args.high (to_z w16 (of_z w16 c.args.high)) c.args.sample
    (to_z w16 (of_z w16 c.args.sample)) c.loop-i.wires c.args.wires.now c.loop-i.i
    (subst N (sym c.loop-i.auto.wires) c.loop-i-test.false) (to_z-of_z w16 c.args.high c.ranges.high)
    (to_z-of_z w16 c.args.sample c.ranges.sample) c.loop-i.invariant.wires
