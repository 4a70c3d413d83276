-- The bytes that a stream holds and has left.
use Rattle.std.proofs.Common.{Bool, true, false, not, ◌&&◌, ◌==◌, if◌then◌else◌, ne_eqb, ◌≡◌, ◌≤◌, ◌<◌, ◌+◌, ℕ, List, [], ◌∷◌, ◌++◌, length, take, drop, get_or, min, Option, Some, None, refl, sym, ap, ◌∙◌, arith}
use Rattle.std.proofs.lemmas.List.{drop_all, drop_more, get_or-take, length-take}
use Rattle.csv.proofs.ReadFacts.{keeps-trans, prepend-nil}
use Rattle.std.specs.Io.KnownBytes.{Consumes, IsAtEnd, Keeps, prepend_known}

-- no byte is held where the place is at the end of what is held
pub none-held : (at filled : ℕ) (buffer : List ℕ) → min filled (length buffer) ≤ at → drop at (take filled buffer) ≡ []
none-held at filled buffer h = let size = length-take filled buffer in drop_all at (take filled buffer) (omega arith)

-- the next byte that is held
pub next-held : (at filled : ℕ) (buffer : List ℕ) → at < filled → at < length buffer
    → drop at (take filled buffer) ≡ get_or buffer at 0 ∷ drop (at + 1) (take filled buffer)
next-held at filled buffer below inside =
    let size = length-take filled buffer in
    drop_more (take filled buffer) at 0 (omega arith)
    ∙ ap (λ byte. byte ∷ drop (at + 1) (take filled buffer)) (get_or-take filled buffer at 0 below)

-- is taken of the bytes that are left
pub takes-held : (old known : Option (List ℕ)) (byte : ℕ) (held later : List ℕ) → Keeps old (prepend_known held known)
    → held ≡ byte ∷ later → Consumes old (prepend_known later known) (byte ∷ [])
takes-held None known byte held later kept is = tt
takes-held (Some text) None byte held later kept is = absurd kept
takes-held (Some text) (Some rest) byte held later kept is = sym kept ∙ ap (λ bytes. bytes ++ rest) is

-- what was left is at its end
pub at_end-before : (old new : Option (List ℕ)) → Keeps old new → IsAtEnd new → IsAtEnd old
at_end-before None new kept none = tt
at_end-before (Some text) None kept none = absurd kept
at_end-before (Some text) (Some rest) kept none = sym kept ∙ none

-- at the beginning nothing is held
pub head-keeps : (at filled : ℕ) (buffer : List ℕ) (known later : Option (List ℕ)) → at ≡ 0 → filled ≡ 0
    → Keeps (prepend_known (drop at (take filled buffer)) known) later → Keeps known later
head-keeps at filled buffer None later a f kept = tt
head-keeps at filled buffer (Some text) None a f kept = kept
head-keeps at filled buffer (Some text) (Some rest) a f kept = rw (a, f) at kept

-- the bytes that are left are those held, where some were held or the stream was begun
pub left-held : {A : Type 0} (begun : Bool) (at filled : ℕ) (fresh held : A) → 0 < filled
    → (if not begun && (at == 0) && (filled == 0) then fresh else held) ≡ held
left-held true at filled fresh held some = refl
left-held false at filled fresh held some = by (at == 0)
  where
    by : (x : Bool) → (if x && (filled == 0) then fresh else held) ≡ held
    by true = rw (ne_eqb filled 0 (λ e. omega (arith, e))) refl
    by false = refl

-- nothing is held, and a read gave these
pub refilled : (at filled : ℕ) (buffer : List ℕ) (old known later : Option (List ℕ))
    → Keeps old (prepend_known (drop at (take filled buffer)) known) → drop at (take filled buffer) ≡ []
    → Keeps known later → Keeps old later
refilled at filled buffer old known later begun none kept =
    keeps-trans old known later (rw (none, prepend-nil known) at begun) kept

-- no byte was read
pub none-read : (at filled n : ℕ) (buffer : List ℕ) (known : Option (List ℕ)) → at ≡ 0 → filled ≡ n → n ≡ 0
    → IsAtEnd known → IsAtEnd (prepend_known (drop at (take filled buffer)) known)
none-read at filled n buffer None a f e none = tt
none-read at filled n buffer (Some text) a f e none = rw (a, f, e) none
