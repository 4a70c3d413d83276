use Rattle.std.proofs.Common.{◌≡◌, ℕ, zero, suc, List, [], ◌∷◌, map, get_or, refl, arith, rules}
use Rattle.std.specs.List.{All}
use Rattle.xb_tape.proofs.tapes.Tapes.new.Goals as goal

-- lists with no marks have none at any place
none_at : {X Y : Type 0} (items : X → List Y) (lists : List X) → All (λ v. items v ≡ []) lists → (l : ℕ) → get_or (map items lists) l [] ≡ []
none_at items [] none l = refl
none_at items (v ∷ lists) none zero = none 0 v (omega arith)
none_at items (v ∷ lists) none (suc l) = none_at items lists (λ k d h. none (suc k) d (omega (arith, h))) l

pub returns-clause-blank : goal.returns-clause-blank
returns-clause-blank c = none_at _ c.in_ok-lines.lines (λ k d h. let made = c.in_ok-lines.ensures.made k d h in search rules)
