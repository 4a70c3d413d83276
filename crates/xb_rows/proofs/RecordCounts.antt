-- How many records a text has does not depend on the count that bounds them.
use Rattle.std.proofs.Common.{◌≡◌, ◌<◌, ◌⊎◌, ℕ, zero, suc, List, [], ◌∷◌, ◌++◌, length, Option, Some, None, Bool, true, false, refl, ap, inl, inr, arith}
use Rattle.std.specs.Prelude.{◌+◌, if◌then◌else◌}
use Rattle.std.proofs.Common.{add-one}
use Rattle.csv.specs.Machine.{Read, ends_at_end, field_after, fields_after, is_end, next_record, step}
use Rattle.csv.specs.Reading.{records_from, records_next}
use Rattle.csv.specs.declared.parser.Config.{Config}
use Rattle.csv.specs.declared.parser.State.{State}
use Rattle.csv.specs.declared.parser.State.TheVariants as st
use Rattle.xb_rows.specs.RowTexts.{Fields}

-- a read leaves fewer bytes, or it ends the text
abbrev pub Shrinks : List ℕ → Read → Type 0
Shrinks xs q = (length q.2 < length xs) ⊎ ((q.1 ≡ st.StartRecord) × (q.2 ≡ []))

abbrev ShrinksIf : List ℕ → Option Read → Type 0
ShrinksIf xs None = Unit {0}
ShrinksIf xs (Some q) = Shrinks xs q

-- a byte more at the beginning
longer : (c : ℕ) (rest : List ℕ) (o : Option Read) → ShrinksIf rest o → ShrinksIf (c ∷ rest) o
longer c rest None h = tt
longer c rest (Some q) (inl h) = inl (omega arith)
longer c rest (Some q) (inr h) = inr h

-- at the end of the text
shrinks_at-end : (fields : Fields) (field : List ℕ) (b : Bool)
    → ShrinksIf [] (if b then Some (fields ++ (field ∷ []), st.StartRecord, []) else None)
shrinks_at-end fields field true = inr (refl, refl)
shrinks_at-end fields field false = tt

-- after a byte: the record ends here, or it goes on
shrinks_after-byte : (c : ℕ) (rest : List ℕ) (fields : Fields) (s : State) (more : Option Read) (b : Bool)
    → ShrinksIf (c ∷ rest) more → ShrinksIf (c ∷ rest) (if b then Some (fields, s, rest) else more)
shrinks_after-byte c rest fields s more true h = inl (omega arith)
shrinks_after-byte c rest fields s more false h = h

-- each read shrinks what is left
pub shrinks : (cfg : Config) (s : State) (fields : Fields) (field xs : List ℕ)
    → ShrinksIf xs (next_record cfg s fields field xs)
unfolding next_record
shrinks cfg s fields field [] = shrinks_at-end fields field (ends_at_end s)
shrinks cfg s fields field (c ∷ rest) =
    let (s2, act) = step cfg s c in
    let fields2 = fields_after act fields field in
    let field2 = field_after act c field in
    let more = next_record cfg s2 fields2 field2 rest in
    let here = longer c rest more (shrinks cfg s2 fields2 field2 rest) in
    shrinks_after-byte c rest fields2 s2 more (is_end act) here

-- nothing is left at the end of a text
pub records-end : (cfg : Config) (n : ℕ) → records_from cfg n st.StartRecord [] ≡ []
unfolding records_from next_record
records-end cfg zero = refl
records-end cfg (suc n) = refl

-- two counts give the same records of fewer bytes
abbrev Agree : Config → ℕ → ℕ → Type 0
Agree cfg n m = (s : State) (xs : List ℕ) → length xs < n → length xs < m
    → records_from cfg n s xs ≡ records_from cfg m s xs

-- the records do not depend on the count, where it is above the number of bytes
pub records-count : (cfg : Config) (n m : ℕ) → Agree cfg n m
unfolding records_from
records-count cfg zero m s xs a b = absurd (omega arith)
records-count cfg (suc n) zero s xs a b = absurd (omega arith)
records-count cfg (suc n) (suc m) s xs a b =
    by (records-count cfg n m) (next_record cfg s [] [] xs) (shrinks cfg s [] [] xs)
  where
    by : Agree cfg n m → (o : Option Read) → ShrinksIf xs o
        → records_next (records_from cfg n) o ≡ records_next (records_from cfg m) o
    by more None h = refl
    by more (Some q) (inl h) = ap (λ (r : List Fields). q.0 ∷ r) (more q.1 q.2 (omega arith) (omega arith))
    by more (Some q) (inr h) = rw (h.0, h.1, records-end cfg n, records-end cfg m) refl

-- one record off the beginning
pub records-more : (cfg : Config) (s : State) (xs : List ℕ) (q : Read) → next_record cfg s [] [] xs ≡ Some q
    → records_from cfg (length xs + 1) s xs ≡ q.0 ∷ records_from cfg (length q.2 + 1) q.1 q.2
unfolding records_from
records-more cfg s xs q e =
    rw (add-one (length xs)) (step_of (length xs) (by (rw e at (shrinks cfg s [] [] xs))))
  where
    by : Shrinks xs q → records_from cfg (length xs) q.1 q.2 ≡ records_from cfg (length q.2 + 1) q.1 q.2
    by (inl h) = records-count cfg (length xs) (length q.2 + 1) q.1 q.2 h (omega arith)
    by (inr h) = rw (h.0, h.1, records-end cfg (length xs), records-end cfg 1) refl

    step_of : (n : ℕ) → records_from cfg n q.1 q.2 ≡ records_from cfg (length q.2 + 1) q.1 q.2
        → records_from cfg (suc n) s xs ≡ q.0 ∷ records_from cfg (length q.2 + 1) q.1 q.2
    step_of n h = rw e (ap (λ (r : List Fields). q.0 ∷ r) h)

-- no record is left
pub records-none : (cfg : Config) (s : State) (xs : List ℕ) → next_record cfg s [] [] xs ≡ None
    → records_from cfg (length xs + 1) s xs ≡ []
unfolding records_from
records-none cfg s xs e = rw (add-one (length xs), e) refl
