-- What follows the bytes of a sound.
use Rattle.std.specs.Prelude.{◌≡◌, ℕ, zero, suc, ◌-◌, ◌%◌, List, [], ◌∷◌, ◌++◌, Bool, true, false, Option, Some, None, codes, is_some, length, nat_eq, nat_le, nat_lt, not, option_map, unwrap_or, ◌==◌, ◌&&◌, if◌then◌else◌}
use Rattle.std.specs.List.{starts_with}
use Rattle.xb_riff.specs.Heads.{byte_at, long_at}
use Rattle.xb_samples.specs.declared.tail.Tail.{Tail}

-- how many bytes are left after these, where that is known
abbrev pub left_after : Option ℕ → List ℕ → Option ℕ
left_after left bytes = option_map (λ n. n - length bytes) left

-- a character of ASCII that is printed; the name of a chunk is four of them, but not RIFF, with which another
-- file begins
abbrev pub is_printed : ℕ → Bool
is_printed byte = nat_le 32 byte && nat_le byte 126

abbrev pub is_name : List ℕ → Bool
is_name bytes =
    is_printed (byte_at bytes 0)
    && (is_printed (byte_at bytes 1)
    && (is_printed (byte_at bytes 2)
    && (is_printed (byte_at bytes 3) && not (starts_with nat_eq bytes (codes "RIFF")))))

-- bytes are as many as have to come, then as many as may, and then chunks: each a name, a length in four
-- bytes, and so many bytes, with one more that may come where that is odd
abbrev pub are_chunks : ℕ → ℕ → List ℕ → Bool
are_chunks (suc left) more [] = false
are_chunks (suc left) more (byte ∷ rest) = are_chunks left more rest
are_chunks zero more [] = true
are_chunks zero (suc more) (byte ∷ rest) = are_chunks zero more rest
are_chunks zero zero (a ∷ b ∷ c ∷ d ∷ e ∷ f ∷ g ∷ h ∷ rest) =
    if is_name (a ∷ b ∷ c ∷ d ∷ e ∷ f ∷ g ∷ h ∷ [])
    then are_chunks (long_at (a ∷ b ∷ c ∷ d ∷ e ∷ f ∷ g ∷ h ∷ []) 4) (long_at (a ∷ b ∷ c ∷ d ∷ e ∷ f ∷ g ∷ h ∷ []) 4 % 2) rest
    else false
are_chunks zero zero (byte ∷ rest) = false

-- of all bytes from the first sample on, of which so many are the sound, where that is known: more follows than chunks
abbrev pub more_follows : Option ℕ → List ℕ → Bool
more_follows None bytes = false
more_follows (Some size) bytes = not (are_chunks size (size % 2) bytes)

-- the same where these bytes have come of the name and the length of a chunk
abbrev pub are_more : ℕ → ℕ → List ℕ → List ℕ → Bool
are_more left more head [] = (left == 0) && (length head == 0)
are_more (suc left) more head (byte ∷ rest) = are_more left more head rest
are_more zero (suc more) head (byte ∷ rest) = are_more zero more head rest
are_more zero zero head (byte ∷ rest) =
    if nat_lt (length (head ++ byte ∷ [])) 8 then are_more zero zero (head ++ byte ∷ []) rest
    else (if is_name (head ++ byte ∷ [])
    then are_more (long_at (head ++ byte ∷ []) 4) (long_at (head ++ byte ∷ []) 4 % 2) [] rest else false)

abbrev pub chunks_left : Tail → List ℕ → Bool
chunks_left tail bytes = if tail.is_other then false else are_more tail.left tail.more tail.head.items bytes

-- of further bytes
abbrev pub follows_more : Tail → List ℕ → Bool
follows_more tail bytes = tail.is_known && not (chunks_left tail bytes)

-- nothing has come of a sound of so many bytes, where that is known
pub record IsNewTail (size : Option ℕ) (tail : Tail) : Type 0 where
  pub known : tail.is_known ≡ is_some size
  pub left : tail.left ≡ unwrap_or size 0
  pub more : tail.more ≡ unwrap_or size 0 % 2
  pub head : tail.head.items ≡ []
  pub other : tail.is_other ≡ false
