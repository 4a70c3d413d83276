use Rattle.std.proofs.Common.{◌≡◌, ◌≤◌, ◌+◌, ◌^◌, ◌∷◌, ◌++◌, [], ℕ, List, ap, length, subst, ◌∙◌}
use Rattle.std.proofs.lemmas.Result.{on_ok_weaker}
use Rattle.xb_contact.specs.declared.event.Event.TheVariants.{At}
use Rattle.xb_contact.specs.declared.event.Refusal.TheVariants.{TooLate}
use Rattle.xb_samples.specs.declared.sound.Sound.{Sound}
use Rattle.xb_samples.specs.Pieces.{RunsOver, after_piece, piece_events}
use Rattle.xb_samples.specs.declared.tail.Tail.{Tail}
use Rattle.xb_samples.specs.Sounds.{begun_after, samples_after, sound_fault, sound_reading, sound_state}
use Rattle.xb_samples.specs.Tails.{follows_more, left_after}
use Rattle.xb_samples.proofs.EndLemmas.{sound_faults}
use Rattle.xb_samples.proofs.SoundLemmas.{own_over, sound_takes}
use Rattle.xb_samples.proofs.RefusedLemmas.{ok_anyway, out_of_memory, refused_with}
use Rattle.xb_samples.proofs.sound.Sound.take.Goals as goal

pub returns-clause-said : goal.returns-clause-said
returns-clause-said c =
    let old = c.args.self.now in
    let new = c.take_bytes.new.self in
    let tail = c.take.new.self in
    let bytes = c.args.bytes.now in
    let own = c.own-own.result.now in
    let before = c.args.events.now.items in
    let mid = c.take_bytes.new.events.items in
    let said = c.in_ok-take_bytes.ensures in
    let P : Sound → Type 0 =
    λ s. (mid ≡ before ++ piece_events sound_reading (sound_state s) (samples_after s.coding s.begun.items own))
    × (sound_state new ≡ after_piece sound_reading (sound_state s) (samples_after s.coding s.begun.items own))
    × (new.begun.items ≡ begun_after s.coding s.begun.items own) × (new.left ≡ s.left) × (new.coding ≡ s.coding) × (new.tail ≡ s.tail) in
    let now : P (record old { tail = tail; left = left_after old.left bytes }) =
    subst P c.own-own.ensures.left
    (said.events, said.state, said.begun, c.take_bytes.ensures.left, c.take_bytes.ensures.coding, c.take_bytes.ensures.tail) in
    let faults : (text : List ℕ) → sound_fault new text ≡ sound_fault old (bytes ++ text) =
    sound_faults old new bytes own c.own-own.ensures.own now.1 now.2 now.3 now.4
    (λ text. ap (λ (t : Tail). follows_more t text) now.5 ∙ c.in_ok-take.ensures.taken text) in
    on_ok_weaker c.say.result
    (λ (told : c.say.new.events.items ≡ mid ++ At new.count ∷ []).
    sound_takes old new bytes own before mid c.say.new.events.items c.own-own.ensures.own now.0 now.1 now.2 now.3 now.4 faults told)
    c.say.ensures.said

pub returns-clause-faults : goal.returns-clause-faults
returns-clause-faults c =
    let old = c.args.self.now in
    let new = c.take_bytes.new.self in
    let tail = c.take.new.self in
    let bytes = c.args.bytes.now in
    let own = c.own-own.result.now in
    let P : Sound → Type 0 =
    λ s. (sound_state new ≡ after_piece sound_reading (sound_state s) (samples_after s.coding s.begun.items own))
    × (new.begun.items ≡ begun_after s.coding s.begun.items own) × (new.left ≡ s.left) × (new.coding ≡ s.coding) × (new.tail ≡ s.tail) in
    let now : P (record old { tail = tail; left = left_after old.left bytes }) =
    subst P c.own-own.ensures.left (
      c.in_ok-take_bytes.ensures.state,
      c.in_ok-take_bytes.ensures.begun,
      c.take_bytes.ensures.left,
      c.take_bytes.ensures.coding,
      c.take_bytes.ensures.tail,
    ) in
    ok_anyway c.say.result
    (sound_faults old new bytes own c.own-own.ensures.own now.0 now.1 now.2 now.3
    (λ text. ap (λ (t : Tail). follows_more t text) now.4 ∙ c.in_ok-take.ensures.taken text))

pub returns-clause-over : goal.returns-clause-over
returns-clause-over c =
    out_of_memory c.say.result (λ refusal. 2 ^ 64 ≤ c.args.self.now.count + length c.args.bytes.now) c.say.ensures.only

pub returns-clause-only : goal.returns-clause-only
returns-clause-only c = out_of_memory c.say.result (λ refusal. refusal ≡ TooLate) c.say.ensures.only

pub returns-in_err-take_bytes-clause-over : goal.returns-in_err-take_bytes-clause-over
returns-in_err-take_bytes-clause-over c =
    let old : Sound = record c.args.self.now { tail = c.take.new.self } in
    let bytes = c.args.bytes.now in
    let refusal = c.in_err-take_bytes.field-0.0 in
    refused_with c.from_residual-in_err-take_bytes.result refusal (RunsOver old.count (length bytes)) c.from_residual-in_err-take_bytes.ensures.1
    (own_over old c.own-own.new.self bytes c.own-own.result.now refusal c.own-own.ensures.left c.own-own.ensures.own
    c.in_err-take_bytes.ensures.over)
