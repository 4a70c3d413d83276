use Rattle.std.proofs.Common.{◌∙◌, ap, length, sym}
use Rattle.xb_sound.specs.Sounds.{mark_sound}
use Rattle.xb_tone.proofs.Lengths.{tone-length}
use Rattle.xb_tone.proofs.entry.mark_ms.Goals as goal

pub returns-in-Tone-clause-value : goal.returns-in-Tone-clause-value
returns-in-Tone-clause-value c =
    tone-length c.args.cadence c.in-Tone.key c.in-Tone.field-1 c.from-in-Tone.result c.from-in-Tone-2.result
    (c.from-in-Tone.ensures ∙ c.tone_ms.ensures) c.from-in-Tone-2.ensures
    ∙ ap (λ m. length (mark_sound c.args.cadence m)) (sym c.in-Tone.is)
