-- Loads that are compared line by line.
use Rattle.std.proofs.Common.{◌≡◌, ◌+◌, ◌<◌, ℕ, List, get_or, length, sym, subst, arith, rules, ext_get_or, inl, inr}
use Rattle.std.specs.Prelude.{◌⊎◌}
use Rattle.xb_parts.specs.declared.load.Load.{Load}

-- up to a line they are the same
abbrev pub AreSameBelow : ℕ → List Load → List Load → Type 0
AreSameBelow n loads counted = (k : ℕ) (d : Load) → k < n → get_or loads k d ≡ get_or counted k d

below_or_here : (k n : ℕ) → k < n + 1 → (k < n) ⊎ (k ≡ n)
below_or_here k n h = search (rules, arith, h)

-- so they are up to the next
pub AreSameBelow-more : (n : ℕ) (loads counted : List Load) → AreSameBelow n loads counted
    → ((d : Load) → get_or loads n d ≡ get_or counted n d) → AreSameBelow (n + 1) loads counted
AreSameBelow-more n loads counted same here = λ k d h. at k d (below_or_here k n h)
  where
    at : (k : ℕ) (d : Load) → (k < n) ⊎ (k ≡ n) → get_or loads k d ≡ get_or counted k d
    at k d (inl h) = same k d h
    at k d (inr e) = subst (λ i. get_or loads i d ≡ get_or counted i d) (sym e) (here d)

-- all of them
pub AreSameBelow-all : (n : ℕ) (loads counted : List Load) → n ≡ length loads → length loads ≡ length counted
    → AreSameBelow n loads counted → loads ≡ counted
AreSameBelow-all n loads counted all lines same =
    ext_get_or (record { records = 0; bytes = 0 }) loads counted lines (λ i h. same i _ (subst (λ m. i < m) (sym all) h))
