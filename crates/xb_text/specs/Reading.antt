-- What was read of a stream.
use Rattle.std.specs.Prelude.{ℕ, ◌≡◌, ◌≤◌, ◌<◌, ◌++◌, List, length, Option, IfSome, Result, Ok, Err}
use Rattle.std.specs.Io.KnownBytes.{Consumes, IsAtEnd, Keeps}
use Rattle.xb_text.specs.declared.reading.ReadFault.{ReadFault}
use Rattle.xb_text.specs.declared.reading.ReadFault.TheVariants.{Failed, NoMemory, TooLong}

-- a reader gave at most so many bytes
abbrev pub TakesUpTo : ℕ → Option (List ℕ) → Option (List ℕ) → Type 0
TakesUpTo most old new = (bytes : List ℕ) × Consumes old new bytes × (length bytes ≤ most)

-- a reader gave bytes
abbrev pub TakesSome : Option (List ℕ) → Option (List ℕ) → Type 0
TakesSome old new = (bytes : List ℕ) × Consumes old new bytes × (0 < length bytes)

-- a reader has more bytes than this, where they are known
abbrev pub IsLongerThan : ℕ → Option (List ℕ) → Type 0
IsLongerThan limit left = IfSome left (λ bytes. limit < length bytes)

-- a reader gave n bytes, which stand at the end of what was gathered; none only at its end
pub record GathersMore (room : ℕ) (old new : Option (List ℕ)) (before after : List ℕ) (n : ℕ) : Type 0 where
  pub more : List ℕ
  pub gathered : after ≡ before ++ more
  pub count : length more ≡ n
  pub within : n ≤ room
  pub taken : Consumes old new more
  pub end : n ≡ 0 → IsAtEnd new

-- what one read to a buffer of this room gives: a reader whose read failed stands where it stood, and
-- one whose bytes found no memory gave some
abbrev pub ReadsMore :
    ℕ → Option (List ℕ) → Option (List ℕ) → List ℕ → List ℕ → Result ℕ ReadFault → Type 0
ReadsMore room old new before after (Ok n) = GathersMore room old new before after n
ReadsMore room old new before after (Err Failed) = Keeps old new
ReadsMore room old new before after (Err NoMemory) =
    (more : List ℕ) × Consumes old new more × (0 < length more) × (length more ≤ room)
ReadsMore room old new before after (Err TooLong) = ⊥
