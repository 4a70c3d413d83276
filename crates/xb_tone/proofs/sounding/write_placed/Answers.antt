use Rattle.std.proofs.Common.{◌∙◌, List, ℕ, subst}
use Rattle.std.specs.Io.KnownBytes.{Appends}
use Rattle.xb_sound.proofs.Beginnings.{beginning-after}
use Rattle.xb_sound.specs.Wavs.{pcm_of}
use Rattle.xb_tone.specs.Sounds.{head_before, sound_at}
use Rattle.xb_tone.proofs.sounding.write_placed.Goals as goal

pub returns-clause-beginning : goal.returns-clause-beginning
returns-clause-beginning g c =
    let old = g.W.Write.contents c.args.out.now in
    let mid = g.W.Write.contents c.write_whole.new.out in
    let new = g.W.Write.contents c.write_entries.new.out in
    let head = head_before c.args.raw c.args.cadence c.args.entries.now in
    let whole : Appends old mid head =
    subst (λ (bytes : List ℕ). Appends old mid bytes) (c.deref.ensures.value ∙ c.in_ok-head.ensures.head)
    c.in_ok-write_whole.ensures.whole in
    beginning-after old mid new head (pcm_of (sound_at c.args.cadence c.args.entries.now)) whole
    c.write_entries.ensures.beginning
