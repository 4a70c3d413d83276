use Rattle.std.proofs.Common.{◌≡◌, ◌∙◌, ◌<◌, ap, map, subst, sym, rules}
use Rattle.std.specs.List.{flat_map}
use Rattle.xb_model.specs.declared.line.TheConstants.{LINES}
use Rattle.xb_model.specs.Tapes.{joined_tape, tape_of}
use Rattle.xb_calls.specs.Dialling.{numbers_on}
use Rattle.xb_calls.specs.Heard.{entry_of}
use Rattle.xb_sound.specs.HeardKeys.{AreKeyed, keys_heard, keys_of}
use Rattle.xb_sound.specs.Sounds.{sound_of}
use Rattle.xb_sound.proofs.HeardMarks.{keys_are_heard}
use Rattle.xb_together.specs.FarEnd.{HaveDigits}
use Rattle.xb_together.proofs.FarEnds.{keys-numbers, marks_of_numbers, numbers-keyed}
use Rattle.xb_together.proofs.far_end.sound_of_calls.Goals as goal

pub rows_of_calls-requires : goal.rows_of_calls-requires
rows_of_calls-requires c = record {
  fits = (c.args.table.now.limits, c.fits.ensures.lawful, c.fits.ensures.yes.0 c.if-not-fits.false);
}

pub returns-clause-sound : goal.returns-clause-sound
returns-clause-sound c =
    let table = c.args.table.now in
    let line = c.args.line in
    let below : line < LINES = search rules in
    let taped : c.marks-marks.result.now
    ≡ joined_tape table.plan table.limits table.routes line c.in_ok-rows.rows.items =
    c.marks-marks.ensures.value
    ∙ rw c.deref.ensures.value at (c.in_ok-tapes.ensures.marks line below) in
    c.in_ok-samples_of.ensures
    ∙ ap (sound_of c.args.cadence)
    (taped ∙ ap (joined_tape table.plan table.limits table.routes line) c.in_ok-rows.ensures.rows)

pub returns-clause-heard : goal.returns-clause-heard
returns-clause-heard c =
    let table = c.args.table.now in
    let line = c.args.line in
    let rows = c.in_ok-rows.rows.items in
    let numbers = numbers_on line c.args.calls.now in
    let marks = c.marks-marks.result.now in
    let below : line < LINES = search rules in
    let fits = c.fits.ensures.yes.0 c.if-not-fits.false in
    let keyed : tape_of table.plan table.limits table.routes line rows ≡ map (entry_of table.routes) numbers =
    c.in_ok-rows.ensures.heard.keyed table.plan table.limits c.requires.complete c.fits.ensures.lawful fits
    table.routes line in
    let taped : marks ≡ joined_tape table.plan table.limits table.routes line rows =
    c.marks-marks.ensures.value
    ∙ rw c.deref.ensures.value at (c.in_ok-tapes.ensures.marks line below) in
    let is : marks ≡ marks_of_numbers table.routes numbers = taped ∙ ap (flat_map (λ entry. entry)) keyed in
    let are_keyed : AreKeyed marks =
    subst AreKeyed (sym is)
    (numbers-keyed table.routes numbers (subst HaveDigits is c.have_digits.ensures)) in
    let heard = keys_are_heard c.args.cadence marks c.requires.cadence are_keyed in
    ap keys_heard c.in_ok-samples_of.ensures ∙ heard.keys ∙ ap keys_of is ∙ keys-numbers table.routes numbers
