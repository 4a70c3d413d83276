use Rattle.std.proofs.Common.{[], length, sym}
use Rattle.xb_tone.specs.declared.entry.PlacedEntry.{PlacedEntry}
use Rattle.xb_tone.specs.Sounds.{entry_sound, sound_at}
use Rattle.xb_tone.proofs.Ends.{length-after, length-none, sum-exact, sum-many}
use Rattle.xb_tone.proofs.sounding.ms_of_sound.Goals as goal

pub returns-in-Some-clause-exact : goal.returns-in-Some-clause-exact
returns-in-Some-clause-exact c =
    let last : PlacedEntry = c.in-Some.last.now in
    sum-exact last.at_ms c.sounds_ms.result c.saturating_add.result (length (entry_sound c.args.cadence last))
    (length (sound_at c.args.cadence c.args.entries.now)) c.saturating_add.ensures c.sounds_ms.ensures
    (length-after c.args.cadence [] c.args.entries.now last (sym c.in-Some.ensures.value))

pub returns-in-Some-clause-many : goal.returns-in-Some-clause-many
returns-in-Some-clause-many c =
    let last : PlacedEntry = c.in-Some.last.now in
    sum-many last.at_ms c.sounds_ms.result c.saturating_add.result (length (entry_sound c.args.cadence last))
    (length (sound_at c.args.cadence c.args.entries.now)) c.saturating_add.ensures c.sounds_ms.ensures
    (length-after c.args.cadence [] c.args.entries.now last (sym c.in-Some.ensures.value))

pub returns-in-None-clause-exact : goal.returns-in-None-clause-exact
returns-in-None-clause-exact c = λ few. length-none c.args.cadence c.args.entries.now (sym c.in-None.ensures.value)
