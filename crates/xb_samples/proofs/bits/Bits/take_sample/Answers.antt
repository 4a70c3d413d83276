use Rattle.std.proofs.Common.{ap, arith, sym, ◌∙◌}
use Rattle.xb_samples.specs.Samples.{bits_state}
use Rattle.xb_samples.specs.Turns.{turns_after, turns_state}
use Rattle.xb_samples.proofs.BitLemmas.{last_stays, sample_counted, sample_says, sample_silent}
use Rattle.xb_samples.proofs.bits.Bits.take_sample.Goals as goal
use Rattle.xb_samples.proofs.bits.Bits.take_sample.Goals.{then-ne+in_ok-say+in_ok-say_sample, else-ne}

pub returns-clause-events : goal.returns-clause-events
returns-clause-events c =
    let state = bits_state c.args.self.now in
    let old = c.args.events.now.items in
    elim c.if-ne.branch [
      | then-ne+in_ok-say+in_ok-say_sample w ↦ sample_says state c.args.sample c.ne.result old w.say.new.events.items
          c.if-ne.events.items c.ne.ensures w.if-ne.true w.in_ok-say.ensures.said
          (ap (λ events. events.items) w.events-is ∙ w.in_ok-say_sample.ensures.said)
      | else-ne w ↦ sample_silent state c.args.sample c.ne.result old c.if-ne.events.items c.ne.ensures w.if-ne.false
          (ap (λ events. events.items) w.events-is)
    ]

pub returns-clause-state : goal.returns-clause-state
returns-clause-state c =
    let state = bits_state c.args.self.now in
    let now = c.if-ne.self in
    elim c.if-ne.branch [
      | then-ne+in_ok-say+in_ok-say_sample w ↦ sample_counted state c.args.sample now.width now.masks.items now.last now.count c.in-Some.count (turns_state c.after-self.result)
          (ap (λ bits. bits.width) w.self-is)
          (ap (λ bits. bits.masks.items) w.self-is) (ap (λ bits. bits.last) w.self-is) (ap (λ bits. bits.count) w.self-is)
          c.in-Some.ensures.1 (c.after-self.ensures ∙ ap (λ bits. turns_after (turns_state bits.turns) c.args.sample) w.self-is)
      | else-ne w ↦ sample_counted state c.args.sample now.width now.masks.items now.last now.count c.in-Some.count (turns_state c.after-self.result)
          (ap (λ bits. bits.width) w.self-is)
          (ap (λ bits. bits.masks.items) w.self-is)
          (ap (λ bits. bits.last) w.self-is ∙ sym (last_stays state.last c.args.sample c.ne.result c.ne.ensures w.if-ne.false))
          (ap (λ bits. bits.count) w.self-is) c.in-Some.ensures.1
          (c.after-self.ensures ∙ ap (λ bits. turns_after (turns_state bits.turns) c.args.sample) w.self-is)
    ]

pub returns-in-None-clause-over : goal.returns-in-None-clause-over
returns-in-None-clause-over c =
    elim c.if-ne.branch [
      | then-ne+in_ok-say+in_ok-say_sample w ↦ λ other. omega (arith, ap (λ bits. bits.count) w.self-is, c.in-None.ensures)
      | else-ne w ↦ λ other. omega (arith, ap (λ bits. bits.count) w.self-is, c.in-None.ensures)
    ]
