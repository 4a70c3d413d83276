-- What one entry that was heard makes of the differences.
use Rattle.std.proofs.Common.{◌≡◌, ◌∙◌, ℕ, ◌+◌, ◌-◌, ◌≤◌, List, [], ◌∷◌, ◌++◌, length, take, drop, Option, Some, None, ap, sym, add-one, append_assoc}
use Rattle.std.proofs.lemmas.List.{drop_all, take_rest}
use Rattle.xb_rx.specs.Entries.{KeyedEntry}
use Rattle.xb_rx.specs.Differences.{difference_at, differences, extra_line, missed_lines, place_of}

module _ (keyed : List KeyedEntry) (entry : KeyedEntry) (old new : List ℕ) where
  -- what was heard was keyed
  pub keyed-at : (place : ℕ) → place_of keyed entry.keys ≡ Some place → new ≡ old ++ missed_lines (take place keyed)
      → (heard : List KeyedEntry)
      → new ++ differences (drop (place + 1) keyed) heard ≡ old ++ differences keyed (entry ∷ heard)
  unfolding differences
  keyed-at place is wrote heard =
      ap (λ t. t ++ differences (drop (place + 1) keyed) heard) wrote
      ∙ append_assoc old (missed_lines (take place keyed)) (differences (drop (place + 1) keyed) heard)
      ∙ ap (λ (n : ℕ). old ++ (missed_lines (take place keyed) ++ differences (drop n keyed) heard)) (add-one place)
      ∙ ap (λ (o : Option ℕ). old ++ difference_at keyed entry o (λ left. differences left heard)) (sym is)

  -- it was not
  pub not-keyed : place_of keyed entry.keys ≡ None → new ≡ old ++ extra_line entry → (heard : List KeyedEntry)
      → new ++ differences keyed heard ≡ old ++ differences keyed (entry ∷ heard)
  unfolding differences
  not-keyed is wrote heard =
      ap (λ t. t ++ differences keyed heard) wrote
      ∙ append_assoc old (extra_line entry) (differences keyed heard)
      ∙ ap (λ (o : Option ℕ). old ++ difference_at keyed entry o (λ left. differences left heard)) (sym is)

-- where nothing more was heard, all that is left is missed
pub all-heard : (left heard : List KeyedEntry) (i : ℕ) (old new all : List ℕ) → length heard ≤ i → new ≡ old ++ missed_lines left
    → old ++ differences left (drop i heard) ≡ all → new ≡ all
unfolding differences
all-heard left heard i old new all end wrote so_far =
    wrote ∙ ap (λ (rest : List KeyedEntry). old ++ differences left rest) (sym (drop_all i heard end)) ∙ so_far

-- where nothing more is heard, all that is left of what was keyed is missed
pub all-left : (items keyed left : List KeyedEntry) (i : ℕ) (old new : List ℕ) → keyed ≡ items → drop i items ≡ left
    → old ≡ [] → new ≡ old ++ missed_lines (take (length keyed - i) (drop i keyed)) → new ≡ differences left []
unfolding differences
all-left items keyed left i old new same is none wrote =
    wrote
    ∙ ap (λ (t : List ℕ). t ++ missed_lines (take (length keyed - i) (drop i keyed))) none
    ∙ ap missed_lines (take_rest keyed i)
    ∙ ap (λ (entries : List KeyedEntry). missed_lines (drop i entries)) same
    ∙ ap missed_lines is
