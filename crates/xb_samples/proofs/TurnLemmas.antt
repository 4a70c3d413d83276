-- Samples that go to and fro, one by one and as a whole.
use Rattle.std.proofs.Common.{◌≡◌, ℕ, ◌+◌, ◌-◌, ◌<◌, ◌≤◌, List, [], ◌∷◌, Bool, true, false, cond, not, Option, Some, None, map, nat_le, nat_lt, refl, ap, sym, ◌∙◌, arith}
use Rattle.std.specs.Prelude.{bit_and, ◌&&◌, ◌||◌}
use Rattle.std.specs.Int.{from_le_bytes, w16}
use Rattle.std.proofs.lemmas.Bool.Decides.{nat_tests}
use Rattle.xb_contact.specs.declared.event.Refusal.{Refusal}
use Rattle.xb_contact.specs.declared.event.Refusal.TheVariants as refusals
use Rattle.xb_samples.specs.declared.bits.Width.{Width}
use Rattle.xb_samples.specs.declared.bits.Width.TheVariants as widths
use Rattle.xb_samples.specs.declared.turns.TheConstants.{MOST_TURNS}
use Rattle.xb_samples.specs.Samples.{are_of_two, bits_fault, bits_of, new_bits}
use Rattle.xb_samples.specs.Turns.{TurnsState, are_too_many, count_after, go_to_and_fro, goes_back, is_it, new_turns, turns_after, turns_from, wires_alone}

abbrev pub fault_where : Bool → Option Refusal
fault_where wrong = cond wrong (Some refusals.TwoBytes) None

-- whether too many go back from here on
abbrev are-many : Option ℕ → Option ℕ → ℕ → List ℕ → Bool
are-many before last count [] = false
are-many before last count (sample ∷ rest) =
    nat_le MOST_TURNS (count_after count (is_it before sample && not (is_it last sample)))
    || are-many last (Some sample) (count_after count (is_it before sample && not (is_it last sample))) rest

most : MOST_TURNS ≡ 250
most = refl

is-less : (a b : ℕ) → a < b → nat_lt a b ≡ true
is-less a b h = grind (arith, nat_tests)

step :
    (count turns : ℕ) (later : Bool) → count + 1 < MOST_TURNS
    → nat_le (MOST_TURNS - (count + 1)) turns || later
    ≡ nat_le (MOST_TURNS - count) (1 + turns) || (nat_le MOST_TURNS turns || later)
step count turns later more = at (nat_le (MOST_TURNS - (count + 1)) turns) refl (nat_le MOST_TURNS turns) refl
  where
    at :
        (few : Bool) → nat_le (MOST_TURNS - (count + 1)) turns ≡ few → (many : Bool) → nat_le MOST_TURNS turns ≡ many
        → few || later ≡ nat_le (MOST_TURNS - count) (1 + turns) || (many || later)
    at true e many f =
        let one : nat_le (MOST_TURNS - count) (1 + turns) ≡ true = grind (arith, nat_tests) in
        ap (λ b. b || (many || later)) (sym one)
    at false e false f =
        let none : nat_le (MOST_TURNS - count) (1 + turns) ≡ false = grind (arith, nat_tests) in
        ap (λ b. b || later) (sym none)
    at false e true f =
        let less : turns < MOST_TURNS - (count + 1) = grind (arith, nat_tests) in
        let all : MOST_TURNS ≤ turns = grind (arith, nat_tests) in
        absurd (omega (arith, less, all))

-- the same after one more sample, which goes back or does not
many-next :
    (last sample count : ℕ) (rest : List ℕ) → count < MOST_TURNS
    → ((n : ℕ) → n < MOST_TURNS → are-many (Some last) (Some sample) n rest
    ≡ nat_le (MOST_TURNS - n) (turns_from last sample rest) || go_to_and_fro (sample ∷ rest))
    → (back : Bool)
    → nat_le MOST_TURNS (count_after count back) || are-many (Some last) (Some sample) (count_after count back) rest
    ≡ nat_le (MOST_TURNS - count) (cond back (1 + turns_from last sample rest) 0)
    || (nat_le MOST_TURNS (turns_from last sample rest) || go_to_and_fro (sample ∷ rest))
many-next last sample count rest few next false =
    let none : nat_le (MOST_TURNS - count) 0 ≡ false = grind (arith, nat_tests, most) in
    next 0 (omega arith)
    ∙ ap (λ b. b || (nat_le MOST_TURNS (turns_from last sample rest) || go_to_and_fro (sample ∷ rest))) (sym none)
many-next last sample count rest few next true = at (nat_lt (count + 1) MOST_TURNS) refl
  where
    at :
        (more : Bool) → nat_lt (count + 1) MOST_TURNS ≡ more
        → nat_le MOST_TURNS (count_after count true) || are-many (Some last) (Some sample) (count_after count true) rest
        ≡ nat_le (MOST_TURNS - count) (1 + turns_from last sample rest)
        || (nat_le MOST_TURNS (turns_from last sample rest) || go_to_and_fro (sample ∷ rest))
    at true is =
        let more : count + 1 < MOST_TURNS = grind (arith, nat_tests) in
        let up : count_after count true ≡ count + 1 = ap (λ b. cond b (count + 1) MOST_TURNS) (is-less count MOST_TURNS few) in
        let short : nat_le MOST_TURNS (count + 1) ≡ false = grind (arith, nat_tests) in
        ap (λ n. nat_le MOST_TURNS n || are-many (Some last) (Some sample) n rest) up
        ∙ ap (λ b. b || are-many (Some last) (Some sample) (count + 1) rest) short
        ∙ next (count + 1) more
        ∙ step count (turns_from last sample rest) (go_to_and_fro (sample ∷ rest)) more
    at false is =
        let full : count + 1 ≡ MOST_TURNS = grind (arith, nat_tests) in
        let up : count_after count true ≡ count + 1 = ap (λ b. cond b (count + 1) MOST_TURNS) (is-less count MOST_TURNS few) in
        let long : nat_le MOST_TURNS (count + 1) ≡ true = grind (arith, nat_tests) in
        let one : nat_le (MOST_TURNS - count) (1 + turns_from last sample rest) ≡ true = grind (arith, nat_tests) in
        ap (λ n. nat_le MOST_TURNS n || are-many (Some last) (Some sample) n rest) up
        ∙ ap (λ b. b || are-many (Some last) (Some sample) (count + 1) rest) long
        ∙ ap (λ b. b || (nat_le MOST_TURNS (turns_from last sample rest) || go_to_and_fro (sample ∷ rest))) (sym one)

-- it is so where the first ones do, with those that did, or later ones do
many-later :
    (before last count : ℕ) (samples : List ℕ) → count < MOST_TURNS
    → are-many (Some before) (Some last) count samples
    ≡ nat_le (MOST_TURNS - count) (turns_from before last samples) || go_to_and_fro (last ∷ samples)
many-later before last count [] few =
    let none : nat_le (MOST_TURNS - count) 0 ≡ false = grind (arith, nat_tests) in
    ap (λ b. b || false) (sym none)
many-later before last count (sample ∷ rest) few =
    many-next last sample count rest few (λ n h. many-later last sample n rest h) (goes_back before last sample)

-- from the first sample on
many-whole : (samples : List ℕ) → are-many None None 0 samples ≡ go_to_and_fro samples
many-whole [] = refl
many-whole (first ∷ []) = refl
many-whole (first ∷ second ∷ rest) = many-later first second 0 rest (omega arith)

-- what is wrong with a sample, or with later ones
wrong-or : (now later : Bool) → cond now (Some refusals.TwoBytes) (fault_where later) ≡ fault_where (now || later)
wrong-or true later = refl
wrong-or false later = refl

-- of eight wires each byte is a sample
fault-eight :
    (masks : List ℕ) (lower last : Option ℕ) (count : ℕ) (turns : TurnsState) (bytes : List ℕ)
    → bits_fault (bits_of widths.Eight masks lower last count turns) bytes
    ≡ fault_where (are-many turns.before turns.last turns.count (map (λ byte. bit_and byte turns.mask) bytes))
fault-eight masks lower last count turns [] = refl
fault-eight masks lower last count turns (byte ∷ rest) =
    let after : TurnsState = turns_after turns byte in
    ap (cond (are_too_many after) (Some refusals.TwoBytes))
    (fault-eight masks None (Some byte) (count + 1) after rest)
    ∙ wrong-or (are_too_many after) (are-many after.before after.last after.count (map (λ b. bit_and b turns.mask) rest))

-- of sixteen nothing is wrong
fault-sixteen :
    (masks : List ℕ) (lower last : Option ℕ) (count : ℕ) (turns : TurnsState) (bytes : List ℕ)
    → bits_fault (bits_of widths.Sixteen masks lower last count turns) bytes ≡ None
fault-sixteen masks lower last count turns [] = refl
fault-sixteen masks None last count turns (byte ∷ rest) = fault-sixteen masks (Some byte) last count turns rest
fault-sixteen masks (Some low) last count turns (byte ∷ rest) =
    let sample : ℕ = from_le_bytes w16 (low ∷ byte ∷ []) in
    fault-sixteen masks None (Some sample) (count + 1) (turns_after turns sample) rest

pub fault_whole :
    (width : Width) (masks bytes : List ℕ) → bits_fault (new_bits width masks) bytes ≡ fault_where (are_of_two width masks bytes)
fault_whole widths.Eight masks bytes =
    fault-eight masks None None 0 (new_turns masks) bytes ∙ ap fault_where (many-whole (wires_alone masks bytes))
fault_whole widths.Sixteen masks bytes = fault-sixteen masks None None 0 (new_turns masks) bytes
