-- What the registers of offices in turn take.
use Rattle.std.proofs.Common.{◌≡◌, ◌∙◌, ℕ, List, [], ◌∷◌, ◌++◌, map, ap, subst}
use Rattle.std.specs.List.{AllByRecursion}
use Rattle.xb_model.specs.declared.mark.Mark.{Mark}
use Rattle.xb_model.specs.declared.order.Order.{Order}
use Rattle.xb_model.specs.Numbers.{outcomes_of}
use Rattle.xb_model.specs.Records.{record_of}
use Rattle.xb_calls.specs.Dialling.{numbers_on}
use Rattle.xb_calls.specs.Heard.{DialledIsHeard}
use Rattle.xb_sound.specs.HeardKeys.{AreKeyed}
use Rattle.xb_ear.specs.HeardKeys.{DisturbedKeysAreHeard}
use Rattle.xb_incoming.specs.Attempts.{number_of, outcomes}
use Rattle.xb_laws.specs.Network.{AreInTurn, CanHear, DialledInTurn, Office, OfficesInTurn, PutsDigits, marks_by, sent_by}
use Rattle.xb_laws.specs.Tandem.{AreRegistered, keyed_of}
use Rattle.xb_laws.specs.Timed.{timed_keys}
use Rattle.xb_laws.proofs.Orders.{entries-joined, marks_in, next-keyed, numbers-digits, numbers-keyed, numbers_in, orders_of}
use Rattle.xb_laws.proofs.Registered.{keyed-numbers, orders-registered, tape-keyed}

-- what an office keys are the marks of the orders of its outcomes
office-keys : (office : Office) (numbers : List (List ℕ))
    → AreRegistered office.limit office.routes numbers office.samples
    → marks_by office ≡ marks_in (orders_of office.routes (map number_of numbers))
office-keys office numbers registered =
    entries-joined office.routes (outcomes office.limit (timed_keys office.samples))
    ∙ ap (λ outcomes. marks_in (orders_of office.routes outcomes)) registered.outcomes_are

in-turn : DisturbedKeysAreHeard → (between : List Office) (last : Office) (orders : List Order)
    → AreKeyed (marks_in orders) → AllByRecursion PutsDigits between → AllByRecursion CanHear (between ++ last ∷ [])
    → AreInTurn (marks_in orders) (between ++ last ∷ [])
    → AreRegistered last.limit last.routes (sent_by between (numbers_in orders)) last.samples
in-turn disturbed [] last orders keyed puts all turn =
    orders-registered disturbed orders last.cadence last.samples last.limit last.routes keyed all.0.hearable
    all.0.outlasts turn.0
in-turn disturbed (office ∷ between) last orders keyed puts all turn =
    let numbers = numbers_in orders in
    let next = orders_of office.routes (map number_of numbers) in
    let first = orders-registered disturbed orders office.cadence office.samples office.limit office.routes keyed
    all.0.hearable all.0.outlasts turn.0 in
    let later = in-turn disturbed between last next
    (next-keyed office.routes puts.0 numbers (numbers-digits orders keyed)) puts.1 all.1
    (subst (λ (marks : List Mark). AreInTurn marks (between ++ last ∷ [])) (office-keys office numbers first) turn.1) in
    subst (λ (sent_on : List (List ℕ)). AreRegistered last.limit last.routes (sent_by between sent_on) last.samples)
    (numbers-keyed office.routes (map number_of numbers)) later

pub offices-in-turn : DisturbedKeysAreHeard → OfficesInTurn
offices-in-turn disturbed plan limits a rows l between last have puts all turn =
    let outcomes = outcomes_of plan limits (record_of l rows) in
    subst (λ (numbers : List (List ℕ)). AreRegistered last.limit last.routes (sent_by between numbers) last.samples)
    (numbers-keyed a outcomes)
    (in-turn disturbed between last (orders_of a outcomes) (tape-keyed plan limits a rows l have) puts all
    (subst (λ (marks : List Mark). AreInTurn marks (between ++ last ∷ [])) (entries-joined a outcomes) turn))

pub dialled-in-turn : DialledIsHeard → OfficesInTurn → DialledInTurn
dialled-in-turn dialled offices plan limits a speed calls rows l between last are so complete lawful fits
    have puts all turn =
    let numbers = numbers_on l calls in
    subst (λ (keyed : List (List ℕ)). AreRegistered last.limit last.routes (sent_by between keyed) last.samples)
    (ap (keyed_of a) ((dialled speed calls rows are so).heard plan limits complete lawful fits l) ∙ keyed-numbers a numbers)
    (offices plan limits a rows l between last have puts all turn)
