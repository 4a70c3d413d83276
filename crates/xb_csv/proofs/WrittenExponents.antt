-- Times with an exponent are read.
use Rattle.std.proofs.Common.{◌≡◌, ℕ, ◌+◌, ◌^◌, ◌<◌, List, [], ◌++◌, true, false, cond, Some, None, drop, refl, ap, ◌∙◌, arith, ne_eqb, not, codes}
use Rattle.std.specs.Prelude.{decimal, nat_lt, option_map, ◌==◌}
use Rattle.std.specs.List.{list_all}
use Rattle.std.specs.Option.{option_and_then, unwrap_or}
use Rattle.std.proofs.lemmas.Bool.Decides.{nat_tests}
use Rattle.std.proofs.lemmas.Fmt.{decimal_nonempty}
use Rattle.xb_contact.specs.Numbers.{is_digit, number_in}
use Rattle.xb_contact.proofs.Written.{digits_are, number_is_read}
use Rattle.xb_csv.specs.declared.exponents.Exponent.TheVariants as exponents
use Rattle.xb_csv.specs.Seconds.{exponent_of, few_tens, fitting, from_origin, nanoseconds_by_exponent, nanoseconds_in, nanoseconds_of, point_parts, scientific, shifted, unsigned_nanoseconds}
use Rattle.xb_csv.specs.WrittenTables.{ExponentsAreRead}
use Rattle.xb_csv.proofs.WrittenSeconds.{cut_there, no_cut, no_start}

not-it : (byte number : ℕ) → (nat_lt byte 48 ≡ true) → number < 2 ^ 64 → list_all (λ b. not (b == byte)) (decimal number) ≡ true
not-it byte number low small =
    digits_are (λ b. not (b == byte)) (λ digit few. ap not (ne_eqb (48 + digit) byte (λ e. let h : byte < 48 = grind (arith, nat_tests) in absurd (omega (arith, h, e))))) number small

no-e : (number : ℕ) → number < 2 ^ 64 → list_all (λ b. not (b == 101)) (decimal number) ≡ true
no-e number small =
    digits_are (λ b. not (b == 101)) (λ digit few. ap not (ne_eqb (48 + digit) 101 (λ e. absurd (omega (arith, few, e))))) number small

pub exponents_are_read : ExponentsAreRead
unfolding nanoseconds_of
exponents_are_read number tens small few early =
    let time : ℕ = shifted number 9 tens in
    let rest : List ℕ = codes "e-" ++ decimal tens in
    let text : List ℕ = decimal number ++ rest in
    let digits : list_all is_digit (decimal number) ≡ true =
    digits_are is_digit (λ digit low. grind (arith, nat_tests)) number small in
    let own : tens < 2 ^ 64 = omega (arith, few) in
    let near : nat_lt time (2 ^ 62) ≡ true = grind (arith, nat_tests) in
    let fits : nat_lt time (2 ^ 64) ≡ true = let less : time < 2 ^ 64 = omega (arith, early) in grind (arith, nat_tests) in
    let tens_few : nat_lt tens 1000 ≡ true = grind (arith, nat_tests) in
    let none : 0 + tens ≡ tens = omega arith in
    let whole : point_parts (decimal number) ≡ (decimal number, []) =
    ap (λ parts. unwrap_or parts (decimal number, [])) (no_cut 46 (decimal number) (not-it 46 number refl small)) in
    let exponent : exponent_of (codes "-" ++ decimal tens) ≡ Some (exponents.Down tens) =
    ap (λ n. option_map exponents.Down (option_and_then few_tens n)) (number_is_read tens own)
    ∙ ap (λ b. option_map exponents.Down (cond b (Some tens) None)) tens_few in
    ap (λ t. cond t (option_and_then (from_origin true) (unsigned_nanoseconds (drop 1 text))) (option_and_then (from_origin false) (unsigned_nanoseconds text)))
    (no_start 45 [] (decimal number) rest (decimal_nonempty number small) digits refl)
    ∙ ap (λ cut. option_and_then (from_origin false) (nanoseconds_in text cut))
    (cut_there 101 (decimal number) (codes "-" ++ decimal tens) (no-e number small) refl)
    ∙ ap (λ parts. option_and_then (from_origin false) (scientific parts (codes "-" ++ decimal tens))) whole
    ∙ ap (λ n. option_and_then (from_origin false)
    (option_and_then
    (λ own. option_and_then (λ power. fitting (nanoseconds_by_exponent own 0 power)) (exponent_of (codes "-" ++ decimal tens)))
    (option_and_then (λ own. number_in own []) n))) (number_is_read number small)
    ∙ ap (λ power. option_and_then (from_origin false) (option_and_then (λ own. fitting (nanoseconds_by_exponent number 0 own)) power)) exponent
    ∙ ap (λ n. option_and_then (from_origin false) (fitting (shifted number 9 n))) none
    ∙ ap (λ b. option_and_then (from_origin false) (cond b (Some time) None)) fits
    ∙ ap (λ b. cond b (Some (2 ^ 62 + time)) None) near
