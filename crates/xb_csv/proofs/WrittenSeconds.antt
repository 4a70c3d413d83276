-- Times that are written are read back.
use Rattle.std.proofs.Common.{◌≡◌, ℕ, zero, suc, ◌+◌, ◌-◌, ◌*◌, ◌/◌, ◌%◌, ◌^◌, ◌<◌, ◌≤◌, List, [], ◌∷◌, ◌++◌, Bool, true, false, cond, Some, None, length, length-append, take, drop, replicate, refl, ap, subst, ◌∙◌, arith, ne_eqb, not, append_assoc, codes}
use Rattle.std.proofs.Math.Seq.{drop-append-add, take-append_seam}
use Rattle.std.specs.Prelude.{decimal, nat_eq, nat_lt, ◌==◌, option_map}
use Rattle.std.specs.List.{list_all, position, position_or_len, prefix_len, starts_with}
use Rattle.std.specs.Option.{option_and_then, unwrap_or}
use Rattle.std.proofs.lemmas.Bool.{and_from, and_parts}
use Rattle.std.proofs.lemmas.Bool.Decides.{nat_tests}
use Rattle.std.proofs.lemmas.Fmt.{decimal_nonempty}
use Rattle.std.proofs.lemmas.List.Folds.{list_all-append}
use Rattle.xb_text.specs.Pieces.{cut_at}
use Rattle.xb_contact.specs.Numbers.{is_digit, number_in}
use Rattle.xb_contact.proofs.Written.{digits_are, digits_are_read, number_is_read}
use Rattle.xb_csv.specs.Seconds.{fitting, fraction_of, from_origin, is_number, nanoseconds_by, nanoseconds_in, nanoseconds_of, nine_digits, unsigned_nanoseconds}
use Rattle.xb_csv.specs.Written.{last_digits, seconds_text}
use Rattle.xb_csv.specs.WrittenTables.{signed_text}

-- how many numbers so many digits write
abbrev numbers_of : ℕ → ℕ
numbers_of zero = 1
numbers_of (suc more) = 10 * numbers_of more

digits-read : (count number : ℕ) → number < numbers_of count → number < 2 ^ 64
    → number_in 0 (last_digits count number) ≡ Some number
unfolding last_digits
digits-read zero number few small = let none : 0 ≡ number = omega arith in ap Some none
digits-read (suc more) number few small =
    let bound = numbers_of more in
    let same : number / 10 * 10 + number % 10 ≡ number = omega arith in
    digits_are_read 0 (number / 10) (number % 10) (last_digits more (number / 10))
    (digits-read more (number / 10) (omega arith) (omega arith)) (omega arith) (omega arith)
    ∙ ap Some same

pub digits_number : (count number : ℕ) → length (last_digits count number) ≡ count
unfolding last_digits
digits_number zero number = refl
digits_number (suc more) number =
    omega (arith, length-append (last_digits more (number / 10)) ((48 + number % 10) ∷ []), digits_number more (number / 10))

pub last_digits_are :
    (test : ℕ → Bool) → ((digit : ℕ) → digit < 10 → test (48 + digit) ≡ true) → (count number : ℕ)
    → list_all test (last_digits count number) ≡ true
unfolding last_digits
last_digits_are test holds zero number = refl
last_digits_are test holds (suc more) number =
    list_all-append test (last_digits more (number / 10)) ((48 + number % 10) ∷ [])
    ∙ and_from _ _ (last_digits_are test holds more (number / 10)) (and_from _ _ (holds (number % 10) (omega arith)) refl)

-- the first place of a byte that no byte before it passes
pub before_it :
    (test : ℕ → Bool) (bytes rest : List ℕ) (byte : ℕ) → list_all test bytes ≡ true → test byte ≡ false
    → prefix_len test (bytes ++ byte ∷ rest) ≡ length bytes
before_it test [] rest byte all ends = ap (λ t. cond t (1 + prefix_len test rest) 0) ends
before_it test (first ∷ bytes) rest byte all ends =
    let parts = and_parts (test first) (list_all test bytes) all in
    ap (λ t. cond t (1 + prefix_len test (bytes ++ byte ∷ rest)) 0) parts.0
    ∙ ap (λ n. 1 + n) (before_it test bytes rest byte parts.1 ends)
    ∙ (omega arith)

pub place_of :
    (test : ℕ → Bool) (bytes rest : List ℕ) (byte : ℕ) → list_all (λ b. not (test b)) bytes ≡ true → test byte ≡ true
    → position test (bytes ++ byte ∷ rest) ≡ Some (length bytes)
place_of test bytes rest byte none here =
    let at : position_or_len test (bytes ++ byte ∷ rest) ≡ length bytes =
    before_it (λ b. not (test b)) bytes rest byte none (ap not here) in
    let within : nat_lt (length bytes) (length (bytes ++ byte ∷ rest)) ≡ true =
    let longer = length-append bytes (byte ∷ rest) in grind (arith, nat_tests) in
    ap (λ n. cond (nat_lt n (length (bytes ++ byte ∷ rest))) (Some n) None) at
    ∙ ap (λ t. cond t (Some (length bytes)) None) within

-- where no byte passes, there is no place
all-pass : (test : ℕ → Bool) (bytes : List ℕ) → list_all test bytes ≡ true → prefix_len test bytes ≡ length bytes
all-pass test [] all = refl
all-pass test (byte ∷ bytes) all =
    let parts = and_parts (test byte) (list_all test bytes) all in
    ap (λ t. cond t (1 + prefix_len test bytes) 0) parts.0 ∙ ap (λ n. 1 + n) (all-pass test bytes parts.1) ∙ (omega arith)

pub no_place : (test : ℕ → Bool) (bytes : List ℕ) → list_all (λ b. not (test b)) bytes ≡ true → position test bytes ≡ None
no_place test bytes none =
    let past : nat_lt (length bytes) (length bytes) ≡ false = grind (arith, nat_tests) in
    ap (λ n. cond (nat_lt n (length bytes)) (Some n) None) (all-pass (λ b. not (test b)) bytes none)
    ∙ ap (λ t. cond t (Some (length bytes)) None) past

pub no_cut : (at : ℕ) (bytes : List ℕ) → list_all (λ b. not (b == at)) bytes ≡ true → cut_at at bytes ≡ None
no_cut at bytes none =
    ap (option_map (λ n. (take n bytes, drop (n + 1) bytes))) (no_place (λ b. b == at) bytes none)

pub cut_there :
    (at : ℕ) (bytes rest : List ℕ) → list_all (λ b. not (b == at)) bytes ≡ true → (at == at) ≡ true
    → cut_at at (bytes ++ at ∷ rest) ≡ Some (bytes, rest)
cut_there at bytes rest none here =
    ap (option_map (λ n. (take n (bytes ++ at ∷ rest), drop (n + 1) (bytes ++ at ∷ rest))))
    (place_of (λ b. b == at) bytes rest at none here)
    ∙ ap (λ front. Some (front, drop (length bytes + 1) (bytes ++ at ∷ rest))) (take-append_seam bytes (at ∷ rest))
    ∙ ap (λ back. Some (bytes, back)) (drop-append-add bytes (at ∷ rest) 1)

fraction-read : (number : ℕ) → number < 1000000000 → fraction_of (last_digits 9 number) ≡ Some number
fraction-read number small =
    let digits = last_digits 9 number in
    let count : length digits ≡ 9 = digits_number 9 number in
    let all : is_number digits ≡ true = last_digits_are is_digit (λ digit low. grind (arith, nat_tests)) 9 number in
    let nine : nine_digits digits ≡ digits =
    subst (λ n. take n (digits ++ replicate 9 48) ≡ digits) count (take-append_seam digits (replicate 9 48)) in
    ap (λ t. cond t (number_in 0 (nine_digits digits)) None) all
    ∙ ap (number_in 0) nine
    ∙ digits-read 9 number small (omega arith)

pub no_start :
    (first : ℕ) (needle digits rest : List ℕ) → 0 < length digits → list_all is_digit digits ≡ true → is_digit first ≡ false
    → starts_with nat_eq (digits ++ rest) (first ∷ needle) ≡ false
no_start first needle [] rest some all other = absurd (omega arith)
no_start first needle (digit ∷ digits) rest some all other =
    let parts = and_parts (is_digit digit) (list_all is_digit digits) all in
    let apart : nat_eq first digit ≡ false = ne_eqb first digit (λ e. let same : is_digit first ≡ is_digit digit = ap is_digit e in cc) in
    rw apart

-- no time begins with anything but a digit
pub seconds_start :
    (first : ℕ) (needle : List ℕ) (tick : ℕ) (rest : List ℕ) → tick < 2 ^ 64 → is_digit first ≡ false
    → starts_with nat_eq (seconds_text tick ++ rest) (first ∷ needle) ≡ false
unfolding seconds_text
seconds_start first needle tick rest small other =
    let whole : ℕ = (tick - 2 ^ 62) / 1000000000 in
    let low : whole < 2 ^ 64 = omega arith in
    let later : List ℕ = 46 ∷ last_digits 9 ((tick - 2 ^ 62) % 1000000000) in
    ap (λ text. starts_with nat_eq text (first ∷ needle)) (append_assoc (decimal whole) later rest)
    ∙ no_start first needle (decimal whole) (later ++ rest) (decimal_nonempty whole low)
    (digits_are is_digit (λ digit few. grind (arith, nat_tests)) whole low) other

-- a time, without the moment at which times are 0
unsigned-read : (tick : ℕ) → 2 ^ 62 ≤ tick → tick < 2 ^ 63 → unsigned_nanoseconds (seconds_text tick) ≡ Some (tick - 2 ^ 62)
unfolding seconds_text
unsigned-read tick late early =
    let time : ℕ = tick - 2 ^ 62 in
    let whole : ℕ = time / 1000000000 in
    let part : ℕ = time % 1000000000 in
    let text : List ℕ = decimal whole ++ 46 ∷ last_digits 9 part in
    let small : whole < 2 ^ 64 = omega arith in
    let sum : whole * 1000000000 + part ≡ time = omega arith in
    let fits : nat_lt time (2 ^ 64) ≡ true = grind (arith, nat_tests) in
    let cut : cut_at 46 text ≡ Some (decimal whole, last_digits 9 part) =
    cut_there 46 (decimal whole) (last_digits 9 part)
    (digits_are (λ b. not (b == 46)) (λ digit low. ap not (ne_eqb (48 + digit) 46 (λ e. absurd (omega arith)))) whole small) refl in
    let plain : list_all (λ b. not (b == 101)) text ≡ true =
    list_all-append (λ b. not (b == 101)) (decimal whole) (46 ∷ last_digits 9 part)
    ∙ and_from _ _ (digits_are (λ b. not (b == 101)) (λ digit low. ap not (ne_eqb (48 + digit) 101 (λ e. absurd (omega arith)))) whole small)
    (last_digits_are (λ b. not (b == 101)) (λ digit low. ap not (ne_eqb (48 + digit) 101 (λ e. absurd (omega arith)))) 9 part) in
    ap (nanoseconds_in text) (no_cut 101 text plain)
    ∙ ap (λ parts. nanoseconds_by (unwrap_or parts (text, []))) cut
    ∙ ap (option_and_then (λ w. option_and_then (λ f. fitting (w * 1000000000 + f)) (fraction_of (last_digits 9 part)))) (number_is_read whole small)
    ∙ ap (option_and_then (λ f. fitting (whole * 1000000000 + f))) (fraction-read part (omega arith))
    ∙ ap fitting sum
    ∙ ap (λ t. cond t (Some time) None) fits

-- a time
pub seconds_are_read : (tick : ℕ) → 2 ^ 62 ≤ tick → tick < 2 ^ 63 → nanoseconds_of (seconds_text tick) ≡ Some tick
unfolding nanoseconds_of seconds_text
seconds_are_read tick late early =
    let time : ℕ = tick - 2 ^ 62 in
    let whole : ℕ = time / 1000000000 in
    let part : ℕ = time % 1000000000 in
    let text : List ℕ = decimal whole ++ 46 ∷ last_digits 9 part in
    let small : whole < 2 ^ 64 = omega arith in
    let near : nat_lt time (2 ^ 62) ≡ true = grind (arith, nat_tests) in
    let back : 2 ^ 62 + time ≡ tick = omega arith in
    let digits : list_all is_digit (decimal whole) ≡ true =
    digits_are is_digit (λ digit low. grind (arith, nat_tests)) whole small in
    ap (λ t. cond t (option_and_then (from_origin true) (unsigned_nanoseconds (drop 1 text))) (option_and_then (from_origin false) (unsigned_nanoseconds text)))
    (no_start 45 [] (decimal whole) (46 ∷ last_digits 9 part) (decimal_nonempty whole small) digits refl)
    ∙ ap (option_and_then (from_origin false)) (unsigned-read tick late early)
    ∙ ap (λ t. cond t (Some (2 ^ 62 + time)) None) near
    ∙ ap Some back

-- what holds of each byte of it
pub seconds_pass :
    (test : ℕ → Bool) → ((digit : ℕ) → digit < 10 → test (48 + digit) ≡ true) → test 46 ≡ true
    → (tick : ℕ) → tick < 2 ^ 64 → list_all test (seconds_text tick) ≡ true
unfolding seconds_text
seconds_pass test digit point tick small =
    let whole : ℕ = (tick - 2 ^ 62) / 1000000000 in
    let part : ℕ = (tick - 2 ^ 62) % 1000000000 in
    let low : whole < 2 ^ 64 = omega arith in
    list_all-append test (decimal whole) (46 ∷ last_digits 9 part)
    ∙ and_from _ _ (digits_are test digit whole low) (and_from _ _ point (last_digits_are test digit 9 part))

pub seconds_nonempty : (tick : ℕ) → tick < 2 ^ 64 → 0 < length (seconds_text tick)
unfolding seconds_text
seconds_nonempty tick small =
    let whole : ℕ = (tick - 2 ^ 62) / 1000000000 in
    let part : ℕ = (tick - 2 ^ 62) % 1000000000 in
    omega (arith, length-append (decimal whole) (46 ∷ last_digits 9 part))

-- a time with its sign
before-read :
    (tick : ℕ) → 0 < tick → tick < 2 ^ 62 → nanoseconds_of (codes "-" ++ seconds_text (2 ^ 62 + (2 ^ 62 - tick))) ≡ Some tick
unfolding nanoseconds_of
before-read tick some early =
    let mirrored : ℕ = 2 ^ 62 + (2 ^ 62 - tick) in
    let time : ℕ = mirrored - 2 ^ 62 in
    let near : nat_lt time (2 ^ 62) ≡ true = grind (arith, nat_tests) in
    let back : 2 ^ 62 - time ≡ tick = omega arith in
    ap (option_and_then (from_origin true)) (unsigned-read mirrored (omega arith) (omega arith))
    ∙ ap (λ t. cond t (Some (2 ^ 62 - time)) None) near
    ∙ ap Some back

pub signed_is_read : (tick : ℕ) → 0 < tick → tick < 2 ^ 63 → nanoseconds_of (signed_text tick) ≡ Some tick
signed_is_read tick some early = at (nat_lt tick (2 ^ 62)) refl
  where
    at :
        (b : Bool) → nat_lt tick (2 ^ 62) ≡ b
        → nanoseconds_of (cond b (codes "-" ++ seconds_text (2 ^ 62 + (2 ^ 62 - tick))) (seconds_text tick)) ≡ Some tick
    at true e = let before : tick < 2 ^ 62 = grind (arith, nat_tests) in before-read tick some before
    at false e = let after : 2 ^ 62 ≤ tick = grind (arith, nat_tests) in seconds_are_read tick after early

pub signed_pass :
    (test : ℕ → Bool) → ((digit : ℕ) → digit < 10 → test (48 + digit) ≡ true) → test 46 ≡ true → test 45 ≡ true
    → (tick : ℕ) → tick < 2 ^ 63 → list_all test (signed_text tick) ≡ true
signed_pass test digit point sign tick early = at (nat_lt tick (2 ^ 62))
  where
    at :
        (b : Bool) → list_all test (cond b (codes "-" ++ seconds_text (2 ^ 62 + (2 ^ 62 - tick))) (seconds_text tick)) ≡ true
    at true = and_from _ _ sign (seconds_pass test digit point (2 ^ 62 + (2 ^ 62 - tick)) (omega arith))
    at false = seconds_pass test digit point tick (omega arith)

pub signed_nonempty : (tick : ℕ) → tick < 2 ^ 63 → 0 < length (signed_text tick)
signed_nonempty tick early = at (nat_lt tick (2 ^ 62))
  where
    at : (b : Bool) → 0 < length (cond b (codes "-" ++ seconds_text (2 ^ 62 + (2 ^ 62 - tick))) (seconds_text tick))
    at true = omega arith
    at false = seconds_nonempty tick (omega arith)
