use Rattle.std.proofs.Common.{◌≡◌, ℕ, List, ap, length, map, of_z, sym, to_z, ◌∙◌}
use Rattle.std.proofs.lemmas.Int.{to_z-of_z}
use Rattle.std.proofs.lemmas.List.{with_items_is}
use Rattle.std.proofs.lemmas.Result.{on_ok_weaker}
use Rattle.std.specs.Int.{w16}
use Rattle.std.specs.Vec.{with_items}
use Rattle.xb_samples.specs.declared.sound.Channel.{Channel}
use Rattle.xb_samples.specs.Sounds.{SoundState, greatest_after, high_of, sound_state, turned, wire_after}
use Rattle.xb_samples.proofs.SoundLemmas.{changes_same, wires_same}
use Rattle.xb_samples.proofs.RefusedLemmas.{ok_anyway}
use Rattle.xb_samples.proofs.sound.Sound.take_sample.Goals as goal

pub returns-clause-events : goal.returns-clause-events
returns-clause-events c =
    let old = c.args.self.now in
    let high = to_z w16 (of_z w16 c.high_of-high.result) in
    let sample = to_z w16 (of_z w16 c.args.sample) in
    ok_anyway c.turn.result
    (c.in_ok-hear_sample.ensures.events
    ∙ changes_same old.channel high (high_of old.threshold) old.count sample c.args.sample c.deref_mut.result.now
    old.wires.items c.args.events.now.items
    (to_z-of_z w16 c.high_of-high.result (record { sfits = c.high_of-high.type_inv }) ∙ c.high_of-high.ensures.high)
    (to_z-of_z w16 c.args.sample c.ranges.sample) c.deref_mut.ensures.value)

pub returns-clause-state : goal.returns-clause-state
returns-clause-state c =
    let old = c.args.self.now in
    let high = to_z w16 (of_z w16 c.high_of-high.result) in
    let sample = to_z w16 (of_z w16 c.args.sample) in
    let same : sample ≡ c.args.sample = to_z-of_z w16 c.args.sample c.ranges.sample in
    let turn : ℕ → List Channel → SoundState =
    λ greatest wires. turned (record (sound_state old) { wires = wires; greatest = greatest }) in
    let wires : (with_items old.wires c.hear_sample.new.wires).items ≡ map (wire_after old.channel (high_of old.threshold) c.args.sample) old.wires.items =
    with_items_is old.wires c.hear_sample.new.wires
    (c.hear_sample.auto.wires ∙ ap length c.deref_mut.ensures.value ∙ sym old.wires.ok.0)
    ∙ c.in_ok-hear_sample.ensures.wires
    ∙ wires_same old.channel high (high_of old.threshold) sample c.args.sample c.deref_mut.result.now old.wires.items
    (to_z-of_z w16 c.high_of-high.result (record { sfits = c.high_of-high.type_inv }) ∙ c.high_of-high.ensures.high)
    same c.deref_mut.ensures.value in
    let greatest : c.greatest_after-self.result ≡ greatest_after old.channel old.wires.items old.greatest c.args.sample =
    c.greatest_after-self.ensures ∙ ap (λ (w : List Channel). greatest_after old.channel w old.greatest sample) c.deref.ensures.value
    ∙ ap (greatest_after old.channel old.wires.items old.greatest) same in
    on_ok_weaker c.turn.result
    (λ (state : sound_state c.turn.new.self ≡ turn c.greatest_after-self.result (with_items old.wires c.hear_sample.new.wires).items).
    state ∙ ap (turn c.greatest_after-self.result) wires
    ∙ ap (λ (n : ℕ). turn n (map (wire_after old.channel (high_of old.threshold) c.args.sample) old.wires.items)) greatest)
    c.turn.ensures.state

pub returns-clause-count : goal.returns-clause-count
returns-clause-count c = c.turn.ensures.count
