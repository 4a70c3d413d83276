-- What the receiver hears of numbers that are keyed.
use Rattle.std.proofs.Common.{◌≡◌, ◌∙◌, ap, map}
use Rattle.std.specs.List.{flat_map}
use Rattle.xb_model.specs.Records.{attempts_of, record_of}
use Rattle.xb_model.specs.Tapes.{joined_tape, tape_of}
use Rattle.xb_calls.specs.Dialling.{numbers_on}
use Rattle.xb_calls.specs.Heard.{DialledIsHeard, entry_of}
use Rattle.xb_sound.specs.HeardKeys.{AreKeyed, keys_of}
use Rattle.xb_sound.proofs.TapeKeys.{entries-keyed}
use Rattle.xb_ear.specs.HeardKeys.{DisturbedKeysAreHeard}
use Rattle.xb_together.specs.Received.{DialledIsReceived}
use Rattle.xb_together.proofs.FarEnds.{keys-numbers, marks_of_numbers}

pub numbers-received : DialledIsHeard → DisturbedKeysAreHeard → DialledIsReceived
numbers-received dialled disturbed table speed calls rows l cadence samples are so complete lawful fits have hearable within =
    let numbers = numbers_on l calls in
    let marks = joined_tape table.plan table.limits table.routes l rows in
    let keyed : tape_of table.plan table.limits table.routes l rows ≡ map (entry_of table.routes) numbers =
    (dialled speed calls rows are so).keyed table.plan table.limits complete lawful fits table.routes l in
    let is : marks ≡ marks_of_numbers table.routes numbers = ap (flat_map (λ entry. entry)) keyed in
    let are_keyed : AreKeyed marks =
    entries-keyed table.routes have table.plan table.limits (attempts_of table.limits (record_of l rows)) in
    (disturbed cadence marks samples hearable are_keyed within).keys
    ∙ ap keys_of is
    ∙ keys-numbers table.routes numbers
