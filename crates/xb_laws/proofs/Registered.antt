-- What the register of the next office takes of what is keyed.
use Rattle.std.proofs.Common.{◌≡◌, ◌∙◌, ℕ, ℤ, List, [], ◌∷◌, ◌++◌, map, ap, ap₂, refl, subst, sym, append_assoc}
use Rattle.std.specs.List.{flat_map}
use Rattle.xb_model.specs.declared.key.Key.TheVariants as keys
use Rattle.xb_model.specs.declared.dialled.Dialled.TheVariants.{Number}
use Rattle.xb_model.specs.declared.mark.Mark.{Mark}
use Rattle.xb_model.specs.declared.mark.Mark.TheVariants.{Trunk, Tone, Refused}
use Rattle.xb_model.specs.declared.order.Order.{Order}
use Rattle.xb_model.specs.declared.order.Order.TheVariants as orders
use Rattle.xb_model.specs.Keyings.{marks_of, tone}
use Rattle.xb_model.specs.Numbers.{outcomes_of}
use Rattle.xb_model.specs.declared.limits.Limits.{Limits}
use Rattle.xb_model.specs.declared.plan.Plan.{Plan}
use Rattle.xb_model.specs.Records.{attempts_of, record_of}
use Rattle.xb_model.specs.Rows.{LoopRow}
use Rattle.xb_model.specs.Routing.{CodedRoute, routed}
use Rattle.xb_sound.specs.declared.cadence.Cadence.{Cadence}
use Rattle.xb_sound.specs.HeardKeys.{AreKeyed}
use Rattle.xb_sound.specs.HeardTapes.{HavePrefixes}
use Rattle.xb_sound.proofs.KeyWaves.{keys_with-pair}
use Rattle.xb_sound.proofs.TapeKeys.{entries-keyed}
use Rattle.xb_ear.specs.declared.hearing.Heard.{Heard}
use Rattle.xb_ear.specs.Disturbed.{AreWithin}
use Rattle.xb_ear.specs.HeardKeys.{DisturbedKeysAreHeard, IsHearable, disturbable, pairs_in, tones_of}
use Rattle.xb_ear.specs.Receivers.{keys_of_sound}
use Rattle.xb_incoming.specs.declared.key.Symbol.{Symbol}
use Rattle.xb_incoming.specs.declared.key.Symbol.TheVariants.{Digit, Kp, St}
use Rattle.xb_incoming.specs.Attempts.{entry_of as entry_at, number_of}
use Rattle.xb_incoming.specs.Joined.{InTime, keyed_symbols, keying_symbols, symbols_of}
use Rattle.xb_incoming.proofs.Joined.{keyed_is_registered}
use Rattle.xb_laws.specs.Timed.{OutlastsGaps, first_symbol, symbol_of, symbol_of_pair, timed_keys, timed_of}
use Rattle.xb_laws.specs.Tandem.{AreRegistered, NumbersAreRegistered, TapeIsRegistered, keyed_by, keyed_numbers, keyed_of}
use Rattle.xb_laws.proofs.Gaps.{orders-in-time}
use Rattle.xb_laws.proofs.Orders.{entries-joined, marks_in, numbers-keyed, numbers_in, orders_of}

-- what the keys of a sound are, by their pairs
symbols-pairs : (heard : List Heard) → symbols_of (map timed_of heard) ≡ map symbol_of_pair (pairs_in heard)
symbols-pairs [] = refl
symbols-pairs (key ∷ heard) = ap (λ ss. symbol_of_pair key.sight.pair ∷ ss) (symbols-pairs heard)

-- what marks are to a register
abbrev symbols_of_mark : Mark → List Symbol
symbols_of_mark (Trunk t) = []
symbols_of_mark (Tone key pair) = symbol_of key ∷ []
symbols_of_mark (Refused reason heard) = []

abbrev symbols_of_marks : List Mark → List Symbol
symbols_of_marks marks = flat_map symbols_of_mark marks

symbols-tones : (marks : List Mark) → AreKeyed marks → map symbol_of_pair (tones_of marks) ≡ symbols_of_marks marks
symbols-tones [] are = refl
symbols-tones (Trunk t ∷ marks) (one, are) = symbols-tones marks are
symbols-tones (Tone key pair ∷ marks) (one, are) =
    ap₂ (λ s ss. s ∷ ss)
    (ap symbol_of_pair one.1 ∙ ap first_symbol (keys_with-pair key one.0))
    (symbols-tones marks are)
symbols-tones (Refused reason heard ∷ marks) (one, are) = symbols-tones marks are

symbols-both : (xs ys : List Mark) → symbols_of_marks (xs ++ ys) ≡ symbols_of_marks xs ++ symbols_of_marks ys
symbols-both [] ys = refl
symbols-both (Trunk t ∷ xs) ys = symbols-both xs ys
symbols-both (Tone key pair ∷ xs) ys = ap (λ ss. symbol_of key ∷ ss) (symbols-both xs ys)
symbols-both (Refused reason heard ∷ xs) ys = symbols-both xs ys

symbols-digits : (digits : List ℕ) → symbols_of_marks (map (λ d. tone (keys.Digit d)) digits ++ tone keys.St ∷ [])
    ≡ map (λ d. Digit d) digits ++ St ∷ []
symbols-digits [] = refl
symbols-digits (d ∷ digits) = ap (λ ss. Digit d ∷ ss) (symbols-digits digits)

keyed-both : (xs ys : List (List ℕ)) → keyed_symbols (xs ++ ys) ≡ keyed_symbols xs ++ keyed_symbols ys
keyed-both [] ys = refl
keyed-both (x ∷ xs) ys =
    ap (λ ss. keying_symbols x ++ ss) (keyed-both xs ys)
    ∙ sym (append_assoc (keying_symbols x) (keyed_symbols xs) (keyed_symbols ys))

symbols-order : (order : Order) → symbols_of_marks (marks_of order) ≡ keyed_symbols (keyed_by order)
symbols-order (orders.Key trunk digits) =
    ap (λ ss. Kp ∷ ss) (symbols-digits digits) ∙ sym (append-none (Kp ∷ (map (λ d. Digit d) digits ++ St ∷ [])))
  where
    append-none : (ss : List Symbol) → ss ++ [] ≡ ss
    append-none [] = refl
    append-none (s ∷ ss) = ap (λ xs. s ∷ xs) (append-none ss)
symbols-order (orders.Refused reason heard) = refl

symbols-orders : (orders : List Order) → symbols_of_marks (marks_in orders) ≡ keyed_symbols (numbers_in orders)
symbols-orders [] = refl
symbols-orders (order ∷ orders) =
    symbols-both (marks_of order) (marks_in orders)
    ∙ ap₂ (λ one more. one ++ more) (symbols-order order) (symbols-orders orders)
    ∙ sym (keyed-both (keyed_by order) (numbers_in orders))

entries-numbers : (routes : List CodedRoute) (numbers : List (List ℕ))
    → map (entry_at routes) (map number_of numbers) ≡ map (λ digits. entry_at routes (number_of digits)) numbers
entries-numbers routes [] = refl
entries-numbers routes (digits ∷ numbers) =
    ap (λ es. entry_at routes (number_of digits) ∷ es) (entries-numbers routes numbers)

-- where each key but a KP is heard in time, the register of an office takes just the numbers of the orders that sound
-- on its trunk
pub timely-registered : DisturbedKeysAreHeard → (orders : List Order) (cadence : Cadence) (samples : List ℤ) (limit : ℕ)
    (routes : List CodedRoute) → AreKeyed (marks_in orders) → IsHearable cadence
    → AreWithin (disturbable cadence (marks_in orders)) samples → InTime limit 0 (timed_keys samples)
    → AreRegistered limit routes (numbers_in orders) samples
timely-registered disturbed orders cadence samples limit routes keyed hearable within timely =
    let numbers = numbers_in orders in
    let symbols : symbols_of (timed_keys samples) ≡ keyed_symbols numbers =
    symbols-pairs (keys_of_sound samples)
    ∙ ap (map symbol_of_pair) ((disturbed cadence (marks_in orders) samples hearable keyed within).pairs)
    ∙ symbols-tones (marks_in orders) keyed
    ∙ symbols-orders orders in
    let outcomes_are = keyed_is_registered limit numbers (timed_keys samples) symbols timely in
    record {
      outcomes_are = outcomes_are;
      tape_is = ap (map (entry_at routes)) outcomes_are ∙ entries-numbers routes numbers;
    }

-- so by a time-out that outlasts the gaps
pub orders-registered : DisturbedKeysAreHeard → (orders : List Order) (cadence : Cadence) (samples : List ℤ) (limit : ℕ)
    (routes : List CodedRoute) → AreKeyed (marks_in orders) → IsHearable cadence → OutlastsGaps limit cadence
    → AreWithin (disturbable cadence (marks_in orders)) samples
    → AreRegistered limit routes (numbers_in orders) samples
orders-registered disturbed orders cadence samples limit routes keyed hearable outlasts within =
    timely-registered disturbed orders cadence samples limit routes keyed hearable within
    (orders-in-time limit cadence orders samples outlasts hearable keyed within
    (disturbed cadence (marks_in orders) samples hearable keyed within).pairs)

-- the tape of a line is the marks of the orders of its outcomes
pub tape-keyed : (plan : Plan) (limits : Limits) (a : List CodedRoute) (rows : List LoopRow) (l : ℕ) → HavePrefixes a
    → AreKeyed (marks_in (orders_of a (outcomes_of plan limits (record_of l rows))))
tape-keyed plan limits a rows l have =
    subst (λ (marks : List Mark). AreKeyed marks) (entries-joined a (outcomes_of plan limits (record_of l rows)))
    (entries-keyed a have plan limits (attempts_of limits (record_of l rows)))

pub registered : DisturbedKeysAreHeard → TapeIsRegistered
registered disturbed plan limits a b rows l cadence samples limit have hearable outlasts within =
    let outcomes = outcomes_of plan limits (record_of l rows) in
    subst (λ (numbers : List (List ℕ)). AreRegistered limit b numbers samples) (numbers-keyed a outcomes)
    (orders-registered disturbed (orders_of a outcomes) cadence samples limit b (tape-keyed plan limits a rows l have)
    hearable outlasts
    (subst (λ (marks : List Mark). AreWithin (disturbable cadence marks) samples) (entries-joined a outcomes) within))

-- numbers that are heard
pub keyed-numbers : (routes : List CodedRoute) (numbers : List (List ℕ))
    → keyed_of routes (map Number numbers) ≡ keyed_numbers routes numbers
keyed-numbers routes [] = refl
keyed-numbers routes (number ∷ numbers) =
    ap (λ more. keyed_by (routed routes number) ++ more) (keyed-numbers routes numbers)

pub numbers-registered : DisturbedKeysAreHeard → NumbersAreRegistered
numbers-registered disturbed plan limits a b rows l numbers cadence samples limit heard have hearable outlasts within =
    subst (λ numbers. AreRegistered limit b numbers samples)
    (ap (keyed_of a) heard ∙ keyed-numbers a numbers)
    (registered disturbed plan limits a b rows l cadence samples limit have hearable outlasts within)
