use Rattle.std.proofs.Common.{◌≡◌, ℕ, List, ◌++◌, ◌-◌, Option, ap, drop, length, take, subst, length-drop, arith, rules, ◌∙◌}
use Rattle.std.proofs.lemmas.List.{take_all}
use Rattle.std.proofs.lemmas.Result.{IfErr-weaker, err_from_is_err_and, on_ok_weaker}
use Rattle.xb_recording.specs.declared.reader.Source.TheVariants as sources
use Rattle.xb_riff.specs.declared.head.WavFormat.{WavFormat}
use Rattle.xb_recording.specs.Says.{KeepsSamples, RefusesSamples, SamplesRefused, TakesSamples, WavSays}
use Rattle.xb_samples.specs.declared.sound.Sound.{Sound}
use Rattle.xb_samples.specs.Sounds.{SoundSays, sound_fault}
use Rattle.xb_samples.specs.declared.bits.Bits.{Bits}
use Rattle.xb_samples.specs.Pieces.{SamplesSay}
use Rattle.xb_samples.specs.Samples.{bits_fault, bits_reading, bits_state}
use Rattle.std.specs.Prelude.{OnOk, Result as Outcome, Ok, Err}
use Rattle.xb_contact.specs.declared.event.Event.{Event}
use Rattle.xb_riff.specs.Heads.{TakesHead}
use Rattle.xb_recording.proofs.RefusedLemmas.{bits_are_refused, head_is_refused, keeps_bits, keeps_sound, samples_are_refused, samples_keep}
use Rattle.xb_recording.proofs.SaidLemmas.{head_then, takes_bits, takes_sound}
use Rattle.xb_recording.proofs.reader.Reader.take_values.Goals as goal

pub returns-in-Some : goal.returns-in-Some
returns-in-Some c =
    let old = c.args.self.now in
    let bytes : List ℕ = c.args.bytes.now in
    let format = c.in-Some.format in
    let count = c.in-Some.count in
    let head = c.in-WavHead.head in
    let after = c.take_head.new.head in
    let new = c.begin_sound.new.self in
    let events = c.begin_sound.new.events.items in
    let P : Option (WavFormat × ℕ) → Type 0 = λ found. TakesHead head bytes found after in
    let taken = subst P c.in-Some.is c.in_ok-format-in-WavHead.ensures.taken in
    let rest : take (length bytes - count) (drop count bytes) ≡ drop count bytes =
    take_all (length bytes - count) (drop count bytes) (omega (arith, length-drop count bytes)) in
    record {
      said =
          on_ok_weaker c.begin_sound.result
          (λ (begun : TakesSamples format (record old { source = sources.WavHead after }) new (take (length bytes - count) (drop count bytes)) events).
          λ text later k.
          let Q : List ℕ → Type 0 = λ piece. WavSays old.wanted.now (format, piece ++ text) (events ++ later) in
          head_then old.wanted.now old.source head after bytes text (format, count) (events ++ later) c.in-WavHead.is taken
          (subst Q rest (begun text later k)))
          c.begin_sound.ensures.said;
      refusals =
          on_ok_weaker c.begin_sound.result
          (λ (keeps : KeepsSamples format (record old { source = sources.WavHead after }) new (take (length bytes - count) (drop count bytes))).
          λ text refusal k.
          let Q : List ℕ → Type 0 = λ piece. SamplesRefused old.wanted.now (format, piece ++ text) refusal in
          samples_keep old head after bytes text (format, count) refusal c.in-WavHead.is taken (subst Q rest (keeps text refusal k)))
          c.begin_sound.ensures.refusals;
      refused =
          IfErr-weaker c.begin_sound.result _ _
          (λ refusal refused.
          let Q : List ℕ → Type 0 = λ piece. RefusesSamples format old piece refusal in
          samples_are_refused old head after bytes (format, count) refusal c.in-WavHead.is taken (subst Q rest refused))
          c.begin_sound.ensures.refused;
      form = search rules;
    }

-- what two clauses say of a step that is taken
both : {T E : Type 0} (P Q : Type 0) (result : Outcome T E) → OnOk result P → OnOk result Q → OnOk result (P × Q)
both P Q (Ok value) p q = (p, q)
both P Q (Err fault) p q = tt

pub returns-in-Bits-clause-said : goal.returns-in-Bits-clause-said
returns-in-Bits-clause-said c =
    let bits : Bits = c.in-Bits.bits in
    let after : Bits = c.take.new.self in
    let bytes : List ℕ = c.args.bytes.now in
    let events : List Event = c.take.new.events.items in
    let Took : Type 0 = (text : List ℕ) (later : List Event) → SamplesSay bits_reading (bits_state after) text later
    → SamplesSay bits_reading (bits_state bits) (bytes ++ text) (events ++ later) in
    let Faults : Type 0 = (text : List ℕ) → bits_fault (bits_state after) text ≡ bits_fault (bits_state bits) (bytes ++ text) in
    on_ok_weaker c.take.result
    (λ (took : Took × Faults). takes_bits c.args.self.now bits after bytes events c.in-Bits.is took.0 took.1)
    (both Took Faults c.take.result c.take.ensures.said c.take.ensures.faults)

pub returns-in-Bits-clause-refusals : goal.returns-in-Bits-clause-refusals
returns-in-Bits-clause-refusals c =
    let bits : Bits = c.in-Bits.bits in
    let after : Bits = c.take.new.self in
    let bytes : List ℕ = c.args.bytes.now in
    on_ok_weaker c.take.result
    (λ (faults : (text : List ℕ) → bits_fault (bits_state after) text ≡ bits_fault (bits_state bits) (bytes ++ text)).
    keeps_bits c.args.self.now bits after bytes c.in-Bits.is faults)
    c.take.ensures.faults

pub returns-in-Bits-clause-refused : goal.returns-in-Bits-clause-refused
returns-in-Bits-clause-refused c =
    IfErr-weaker c.take.result _ _
    (λ refusal refused. bits_are_refused c.args.self.now c.in-Bits.bits c.args.bytes.now refusal c.in-Bits.is refused)
    c.take.ensures.refused

pub returns-in-Sound-clause-said : goal.returns-in-Sound-clause-said
returns-in-Sound-clause-said c =
    let sound : Sound = c.in-Sound.sound in
    let after : Sound = c.take-in-Sound.new.self in
    let bytes : List ℕ = c.args.bytes.now in
    let events : List Event = c.take-in-Sound.new.events.items in
    on_ok_weaker c.take-in-Sound.result
    (λ (took : (said : List Event) × (events ≡ c.args.events.now.items ++ said)
    × ((text : List ℕ) (later : List Event) → SoundSays after text later → SoundSays sound (bytes ++ text) (said ++ later))).
    takes_sound c.args.self.now sound after bytes events took.0 c.in-Sound.is
    (took.1 ∙ ap (λ (before : List Event). before ++ took.0) c.requires.none) took.2)
    c.take-in-Sound.ensures.said

pub returns-in-Sound-clause-refusals : goal.returns-in-Sound-clause-refusals
returns-in-Sound-clause-refusals c =
    let sound : Sound = c.in-Sound.sound in
    let after : Sound = c.take-in-Sound.new.self in
    let bytes : List ℕ = c.args.bytes.now in
    on_ok_weaker c.take-in-Sound.result
    (λ (faults : (text : List ℕ) → sound_fault after text ≡ sound_fault sound (bytes ++ text)).
    keeps_sound c.args.self.now sound after bytes c.in-Sound.is faults)
    c.take-in-Sound.ensures.faults

pub returns-in_err-format-in-WavHead-clause-refused : goal.returns-in_err-format-in-WavHead-clause-refused
returns-in_err-format-in-WavHead-clause-refused c =
    let p = err_from_is_err_and c.from_residual.result c.from_residual.ensures.1 in
    rw (p.1, p.2) (head_is_refused c.args.self.now c.in-WavHead.head c.args.bytes.now _ c.in-WavHead.is
    c.in_err-format-in-WavHead.ensures.refused c.in_err-format-in-WavHead.ensures.only)
