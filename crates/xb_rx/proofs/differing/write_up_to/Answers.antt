use Rattle.std.proofs.Common.{◌≡◌, ◌∙◌, Some, None, ap, sym, string_bytes}
use Rattle.xb_rx.specs.Differences.{place_of}
use Rattle.xb_rx.proofs.DifferenceSteps.{keyed-at, not-keyed}
use Rattle.xb_rx.proofs.differing.write_up_to.Goals as goal

pub returns-in_ok-write_all_missed-in-Some-clause-text : goal.returns-in_ok-write_all_missed-in-Some-clause-text
returns-in_ok-write_all_missed-in-Some-clause-text c =
    let keyed = c.args.keyed.now in
    let entry = c.args.entry.now in
    let is : place_of keyed entry.keys ≡ Some c.in-Some.place =
    ap (place_of keyed) (sym c.keys.ensures) ∙ sym c.place_of.ensures ∙ c.in-Some.is in
    keyed-at keyed entry (string_bytes c.args.out.now) (string_bytes c.write_all_missed.new.out) c.in-Some.place is
    c.in_ok-write_all_missed-in-Some.ensures

pub returns-in_ok-write_extra-in-None-clause-text : goal.returns-in_ok-write_extra-in-None-clause-text
returns-in_ok-write_extra-in-None-clause-text c =
    let keyed = c.args.keyed.now in
    let entry = c.args.entry.now in
    let is : place_of keyed entry.keys ≡ None =
    ap (place_of keyed) (sym c.keys.ensures) ∙ sym c.place_of.ensures ∙ c.in-None.is in
    not-keyed keyed entry (string_bytes c.args.out.now) (string_bytes c.write_extra.new.out) is
    c.in_ok-write_extra-in-None.ensures
