use Rattle.std.proofs.Common.{◌≡◌, ◌++◌, ℕ, Option, Some, ap, append-nil, arith, refl, subst, sym}
use Rattle.std.proofs.lemmas.Result.{on_ok_weaker}
use Rattle.std.specs.Prelude.{OnOk}
use Rattle.xb_samples.specs.Samples.{after_sample, bits_of, bits_state, events_by, state_by}
use Rattle.xb_samples.specs.Turns.{turns_state}
use Rattle.xb_samples.proofs.bits.Bits.put_byte.Goals as goal

pub returns-in-Some-clause-events : goal.returns-in-Some-clause-events
returns-in-Some-clause-events c =
    let P : Option ℕ → Type 0 =
    λ found. OnOk c.take_sample.result
    (c.take_sample.new.events.items ≡ c.args.events.now.items ++ events_by (bits_state c.args.self.now) found) in
    subst P c.in-Some.ensures c.take_sample.ensures.events

pub returns-in-Some-clause-state : goal.returns-in-Some-clause-state
returns-in-Some-clause-state c =
    let P : Option ℕ → Type 0 =
    λ found. OnOk c.take_sample.result
    (bits_state c.take_sample.new.self ≡ state_by (bits_state c.args.self.now) c.args.byte found) in
    subst P c.in-Some.ensures c.take_sample.ensures.state

pub returns-in-Some-clause-count : goal.returns-in-Some-clause-count
returns-in-Some-clause-count c =
    on_ok_weaker c.take_sample.result
    (λ (state : bits_state c.take_sample.new.self ≡ after_sample (bits_state c.args.self.now) c.in-Some.sample).
    omega (arith, ap (λ s. s.count) state))
    c.take_sample.ensures.state

pub returns-in-None-clause-events : goal.returns-in-None-clause-events
returns-in-None-clause-events c =
    let before = c.args.events.now.items in
    let P : Option ℕ → Type 0 = λ found. before ≡ before ++ events_by (bits_state c.args.self.now) found in
    subst P c.in-None.ensures (sym (append-nil before))

pub returns-in-None-clause-state : goal.returns-in-None-clause-state
returns-in-None-clause-state c =
    let old = c.args.self.now in
    let P : Option ℕ → Type 0 =
    λ found. bits_of old.width old.masks.items (Some c.args.byte) old.last old.count (turns_state old.turns) ≡ state_by (bits_state old) c.args.byte found in
    subst P c.in-None.ensures refl
