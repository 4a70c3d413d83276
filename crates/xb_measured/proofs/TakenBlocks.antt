-- One sample more, in a block or at its end.
use Rattle.std.proofs.Common.{◌≡◌, ◌∙◌, ℕ, zero, suc, ◌+◌, ◌-◌, ◌*◌, ◌/◌, ◌%◌, ◌^◌, ◌<◌, ◌≤◌, List, [], ◌∷◌, ◌++◌, Bool, true, false, drop, if◌then◌else◌, length, length-drop, min, take, sym, ap, arith, refl, subst, ℤ}
use Rattle.std.proofs.lemmas.List.{take-append-le, drop-append-le, length-append, take_all, drop_all}
use Rattle.xb_measured.specs.ButtonBlocks.{HasTaken, Pressed, block, digit_blocks, digits_before, has_digit}

-- a whole block stays as it is, whatever comes after it
block-same : (samples later : List ℤ) (b : ℕ) → 160 * (b + 1) ≤ length samples
    → block (samples ++ later) b ≡ block samples b
block-same samples later b whole =
    let from : 160 * b ≤ length samples = omega (arith, whole) in
    let room : 160 ≤ length (drop (160 * b) samples) = omega (arith, whole, length-drop (160 * b) samples) in
    ap (λ (xs : List ℤ). take 160 xs) (drop-append-le (160 * b) samples later from)
    ∙ take-append-le 160 (drop (160 * b) samples) later room

-- and so do all before a place
digits-same : (samples later : List ℤ) (b : ℕ) → 160 * b ≤ length samples
    → digits_before (samples ++ later) b ≡ digits_before samples b
digits-same samples later zero whole = refl
digits-same samples later (suc b) whole =
    let this : block (samples ++ later) b ≡ block samples b = block-same samples later b (omega (arith, whole)) in
    let rest = digits-same samples later b (omega (arith, whole)) in
    ap (λ (xs : List ℤ). (if has_digit xs then 1 else 0) + digits_before (samples ++ later) b) this
    ∙ ap (λ (n : ℕ). (if has_digit (block samples b) then 1 else 0) + n) rest

-- how many samples stand in no whole block
rest-length : (samples : List ℤ) → length (drop (160 * (length samples / 160)) samples) ≡ length samples % 160
rest-length samples = omega (arith, length-drop (160 * (length samples / 160)) samples)

-- a sample more in a block
pub taken-within : (before after : Pressed) (samples : List ℤ) (x : ℤ) → HasTaken before samples
    → length before.rest + 1 < 160 → after.rest ≡ before.rest ++ x ∷ [] → after.blocks ≡ before.blocks
    → HasTaken after (samples ++ x ∷ [])
taken-within before after samples x taken within rest blocks =
    let few : length (drop (160 * (length samples / 160)) samples) + 1 < 160 =
    subst (λ (xs : List ℤ). length xs + 1 < 160) taken.rest within in
    let longer : length (samples ++ x ∷ []) ≡ length samples + 1 = length-append samples (x ∷ []) in
    let same : length (samples ++ x ∷ []) / 160 ≡ length samples / 160 = omega (arith, few, rest-length samples, longer) in
    let from : 160 * (length samples / 160) ≤ length samples = omega arith in
    record {
      rest = rest ∙ ap (λ (xs : List ℤ). xs ++ x ∷ []) taken.rest
          ∙ sym (drop-append-le (160 * (length samples / 160)) samples (x ∷ []) from)
          ∙ ap (λ (q : ℕ). drop (160 * q) (samples ++ x ∷ [])) (sym same);
      blocks = blocks ∙ taken.blocks
          ∙ ap (λ (n : ℕ). min n (2 ^ 64 - 1)) (sym (digits-same samples (x ∷ []) (length samples / 160) from)
          ∙ ap (λ (q : ℕ). digits_before (samples ++ x ∷ []) q) (sym same));
    }

-- and one at its end
pub taken-last : (before after : Pressed) (samples : List ℤ) (x : ℤ) → HasTaken before samples
    → length before.rest + 1 ≡ 160 → after.rest ≡ []
    → after.blocks ≡ min ((if has_digit (before.rest ++ x ∷ []) then 1 else 0) + before.blocks) (2 ^ 64 - 1)
    → HasTaken after (samples ++ x ∷ [])
taken-last before after samples x taken last rest blocks =
    let q : ℕ = length samples / 160 in
    let full : length (drop (160 * q) samples) + 1 ≡ 160 =
    subst (λ (xs : List ℤ). length xs + 1 ≡ 160) taken.rest last in
    let longer : length (samples ++ x ∷ []) ≡ length samples + 1 = length-append samples (x ∷ []) in
    let next : length (samples ++ x ∷ []) / 160 ≡ suc q = omega (arith, full, rest-length samples, longer) in
    let all : length (samples ++ x ∷ []) ≤ 160 * suc q = omega (arith, full, rest-length samples, longer) in
    let from : 160 * q ≤ length samples = omega arith in
    let whole : length (drop (160 * q) samples ++ x ∷ []) ≤ 160 =
    omega (arith, full, length-append (drop (160 * q) samples) (x ∷ [])) in
    let this : block (samples ++ x ∷ []) q ≡ before.rest ++ x ∷ [] =
    ap (λ (xs : List ℤ). take 160 xs) (drop-append-le (160 * q) samples (x ∷ []) from)
    ∙ take_all 160 (drop (160 * q) samples ++ x ∷ []) whole
    ∙ ap (λ (xs : List ℤ). xs ++ x ∷ []) (sym taken.rest) in
    let digit : ℕ = if has_digit (before.rest ++ x ∷ []) then 1 else 0 in
    let counted : digit_blocks (samples ++ x ∷ []) ≡ digit + digit_blocks samples =
    ap (λ (n : ℕ). digits_before (samples ++ x ∷ []) n) next
    ∙ ap (λ (xs : List ℤ). (if has_digit xs then 1 else 0) + digits_before (samples ++ x ∷ []) q) this
    ∙ ap (λ (n : ℕ). digit + n) (digits-same samples (x ∷ []) q from) in
    record {
      rest = rest ∙ sym (drop_all (160 * suc q) (samples ++ x ∷ []) all)
          ∙ ap (λ (n : ℕ). drop (160 * n) (samples ++ x ∷ [])) (sym next);
      blocks = omega (arith, blocks, taken.blocks, counted);
    }

-- the count, where a digit sounds in the block and where none does
pub counted-more : (digit : Bool) (n m : ℕ) → digit ≡ true → m ≡ min (n + 1) (2 ^ 64 - 1)
    → m ≡ min ((if digit then 1 else 0) + n) (2 ^ 64 - 1)
counted-more true n m is counts = omega (arith, counts)
counted-more false n m is counts = absurd (cc)

pub counted-same : (digit : Bool) (n m : ℕ) → digit ≡ false → m ≡ n → n < 2 ^ 64
    → m ≡ min ((if digit then 1 else 0) + n) (2 ^ 64 - 1)
counted-same true n m is counts small = absurd (cc)
counted-same false n m is counts small = omega (arith, counts, small)
