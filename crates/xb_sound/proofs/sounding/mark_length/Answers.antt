use Rattle.std.proofs.Common.{◌≡◌, ◌∙◌, ◌+◌, ◌*◌, ◌++◌, length, ap, sym, pos}
use Rattle.std.proofs.lemmas.List.{length-append, length-replicate}
use Rattle.std.proofs.lemmas.List.FromFn.{length-map-range_with_len}
use Rattle.xb_sound.specs.Cadences.{tone_ms}
use Rattle.xb_sound.specs.Sines.{pair_sample}
use Rattle.xb_sound.specs.Sounds.{mark_sound, silence, tone_sound}
use Rattle.xb_sound.proofs.sounding.mark_length.Goals as goal

pub returns-in-Tone : goal.returns-in-Tone
returns-in-Tone c =
    let cadence = c.args.cadence in
    let ms = tone_ms cadence c.in-Tone.key in
    let tone = tone_sound c.in-Tone.field-1 ms in
    let both : length (tone ++ silence cadence.gap_ms) ≡ length tone + length (silence cadence.gap_ms) =
    length-append tone (silence cadence.gap_ms) in
    let first : length tone ≡ ms * 8 = length-map-range_with_len (λ n. pair_sample c.in-Tone.field-1 n) 0 (ms * 8) in
    let second : length (silence cadence.gap_ms) ≡ cadence.gap_ms * 8 = length-replicate (cadence.gap_ms * 8) (pos 0) in
    ap (λ a. a * 8 + c.from-in-Tone.result * 8) (c.from-tone.ensures ∙ c.tone_ms.ensures)
    ∙ ap (λ b. ms * 8 + b * 8) c.from-in-Tone.ensures
    ∙ sym (both ∙ ap (λ a. a + length (silence cadence.gap_ms)) first ∙ ap (λ b. ms * 8 + b) second)
    ∙ ap (λ m. length (mark_sound cadence m)) (sym c.in-Tone.is)
