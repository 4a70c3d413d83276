-- Lists merged by pieces, which end at certain items.
use Rattle.std.specs.Prelude.{◌≡◌, ℕ, zero, suc, ◌*◌, ◌/◌, ◌%◌, ◌<◌, ◌≤◌, nat_lt, Bool, true, false, List, [], ◌∷◌, ◌++◌, if◌then◌else◌, count_by}
use Rattle.std.specs.List.{AllByRecursion, prefix_len, range_with_len}

-- the first n lists of f, one after another
abbrev pub joined : {X : Type 0} → (ℕ → List X) → ℕ → List X
joined f zero = []
joined f (suc k) = joined f k ++ f k

module _ {X : Type 0} (ends : X → Bool) where
  -- piece i of a list that is cut after every ending item
  unfoldable pub piece : ℕ → List X → List X
  piece i [] = []
  piece zero (x ∷ xs) = if ends x then x ∷ [] else x ∷ piece zero xs
  piece (suc i) (x ∷ xs) = if ends x then piece i xs else piece (suc i) xs

  -- only the last item ends
  pub record IsPiece (xs : List X) : Type 0 where
    pub front : List X
    pub last : X
    pub goes : AllByRecursion (λ x. ends x ≡ false) front
    pub ended : ends last ≡ true
    pub is : xs ≡ front ++ last ∷ []

  module _ (n : ℕ) (lists : ℕ → List X) where
    -- piece k of n lists in turn
    abbrev pub piece_at : ℕ → List X
    piece_at k = piece (k / n) (lists (k % n))

    -- how many pieces are ended in the list of piece k
    abbrev pub ended_at : ℕ → ℕ
    ended_at k = count_by ends (lists (k % n))

    -- whether piece k is there and is ended
    abbrev pub is_whole : ℕ → Bool
    is_whole k = nat_lt (k / n) (ended_at k)

    -- the first piece that is missing or isn't ended: at the latest the one of list 0 that comes
    -- after all its ended ones
    abbrev pub stop : ℕ
    stop = prefix_len is_whole (range_with_len 0 (n * ended_at 0))

    -- the pieces of n lists in turn, up to and with the first that is missing or isn't ended; what
    -- stands of that piece is kept
    abbrev pub merged : List X
    merged = joined piece_at (suc stop)

    -- these are the merged items, and piece `last` is the first that is missing or isn't ended
    pub record IsMerged (items : List X) : Type 0 where
      pub last : ℕ
      pub before : (k : ℕ) → k < last → k / n < ended_at k
      pub stops : ended_at last ≤ last / n
      pub pieces : items ≡ joined piece_at (suc last)

    -- the first k pieces are ended, piece k isn't, and nothing stands after it
    pub record Merges (k : ℕ) (items : List X) : Type 0 where
      pub before : (i : ℕ) → i < k → i / n < ended_at i
      pub past : (i : ℕ) → k ≤ i → ended_at i ≤ i / n
      pub nothing : (i : ℕ) → k < i → piece_at i ≡ []
      pub pieces : items ≡ joined piece_at (suc k)
