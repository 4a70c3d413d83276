-- Texts without an LF, and texts without a blank.
use Rattle.std.proofs.Common.{◌≡◌, ◌≢◌, ◌≤◌, ◌+◌, ◌/◌, ◌%◌, ◌==◌, ℕ, zero, suc, Bool, true, false, leb, ltb, ◌&&◌, List, [], ◌∷◌, ◌++◌, replicate, decimal, arith}
use Rattle.std.specs.List.{AllByRecursion, slice_split}
use Rattle.std.specs.Fmt.{digit_glyph, digits, digits_onto}
use Rattle.std.proofs.lemmas.Bool.{and_parts, cond_both, leb-true}
use Rattle.xb_page.specs.PageLines.{ends_line}
use Rattle.xb_page.specs.Places.{line_feed}
use Rattle.xb_page.proofs.Avoiding.{Avoids, pieces-cut, weaker}

-- bytes of this value or more
abbrev pub AreFrom : ℕ → List ℕ → Type 0
AreFrom low bytes = AllByRecursion (λ byte. low ≤ byte) bytes

-- no byte is an LF
abbrev pub IsLine : List ℕ → Type 0
IsLine bytes = AreFrom 32 bytes

-- no byte is an LF or a blank
abbrev pub IsWord : List ℕ → Type 0
IsWord bytes = AreFrom 33 bytes

pub AreFrom-append : (low : ℕ) (xs ys : List ℕ) → AreFrom low xs → AreFrom low ys → AreFrom low (xs ++ ys)
AreFrom-append low [] ys first next = next
AreFrom-append low (x ∷ xs) ys first next = (first.0, AreFrom-append low xs ys first.1 next)

pub IsLine-word : (bytes : List ℕ) → IsWord bytes → IsLine bytes
IsLine-word [] is = tt
IsLine-word (x ∷ xs) is = (omega (arith, is.0), IsLine-word xs is.1)

pub IsWord-zeros : (n : ℕ) → IsWord (replicate n 48)
IsWord-zeros zero = tt
IsWord-zeros (suc n) = (omega arith, IsWord-zeros n)

glyph : (d : ℕ) → 33 ≤ digit_glyph false d
glyph d = cond_both (ltb d 10) (48 + d) (87 + d) (λ (n : ℕ). 33 ≤ n) (λ e. omega arith) (λ e. omega arith)

IsWord-digits : (k n : ℕ) (acc : List ℕ) → IsWord acc → IsWord (digits_onto k 10 false n acc)
IsWord-digits zero n acc is = is
IsWord-digits (suc k) n acc is =
    let more : List ℕ = digit_glyph false (n % 10) ∷ acc in
    cond_both (n / 10 == 0) more (digits_onto k 10 false (n / 10) more) (λ bytes. IsWord bytes)
    (λ e. (glyph (n % 10), is)) (λ e. IsWord-digits k (n / 10) more (glyph (n % 10), is))

-- a number in decimal is a word
pub IsWord-decimal : (n : ℕ) → IsWord (decimal n)
unfolding digits
IsWord-decimal n = IsWord-digits 64 n [] tt

-- so it has no blank
pub no_blank : (xs : List ℕ) → IsWord xs → Avoids 32 xs
no_blank xs is = weaker (λ byte. 33 ≤ byte) (λ byte. byte ≢ 32) (λ byte low e. absurd (omega arith)) xs is

pub no_feed : (xs : List ℕ) → IsLine xs → Avoids 10 xs
no_feed xs is = weaker (λ byte. 32 ≤ byte) (λ byte. byte ≢ 10) (λ byte low e. absurd (omega arith)) xs is

-- a text is cut after its first line
pub slice_split-line : (xs ys : List ℕ) → IsLine xs
    → slice_split ends_line (xs ++ line_feed ∷ ys) ≡ xs ∷ slice_split ends_line ys
slice_split-line xs ys is = pieces-cut line_feed xs ys (no_feed xs is)

-- a test of the same
abbrev pub all_from : ℕ → List ℕ → Bool
all_from low [] = true
all_from low (x ∷ xs) = leb low x && all_from low xs

-- which computes for a text that is written out
pub plain : (low : ℕ) (xs : List ℕ) → all_from low xs ≡ true → AreFrom low xs
plain low [] t = tt
plain low (x ∷ xs) t =
    let parts = and_parts (leb low x) (all_from low xs) t in
    (leb-true low x parts.0, plain low xs parts.1)
