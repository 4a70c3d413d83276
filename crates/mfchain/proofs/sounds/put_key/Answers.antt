use Rattle.std.proofs.Common.{◌≡◌, ◌*◌, length, arith, pos}
use Rattle.std.proofs.lemmas.List.{length-append, length-replicate}
use Rattle.std.proofs.lemmas.List.FromFn.{length-map-range_with_len}
use Rattle.xb_sound.specs.Sines.{pair_sample}
use Rattle.xb_sound.specs.Sounds.{silence, tone_sound}
use Rattle.mfchain.proofs.sounds.put_key.Goals as goal

pub returns-then-count-room-clause-refused : goal.returns-then-count-room-clause-refused
returns-then-count-room-clause-refused c =
    let tone = tone_sound c.args.tone c.args.tone_ms in
    let gap = silence c.args.gap_ms in
    let wave = pair_sample c.args.tone in
    let sounding : length tone ≡ c.args.tone_ms * 8 = length-map-range_with_len wave 0 (c.args.tone_ms * 8) in
    let silent : length gap ≡ c.args.gap_ms * 8 = length-replicate (c.args.gap_ms * 8) (pos 0) in
    let both = length-append tone gap in
    omega (arith, both, sounding, silent, c.if-count-room.true, c.from-sounding.ensures, c.from.ensures)
