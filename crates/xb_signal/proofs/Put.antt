-- Bytes that are put after others.
use Rattle.std.proofs.Common.{◌≡◌, ◌∙◌, ℕ, List, ◌++◌, ap, append_assoc}

pub then : (old new newer a b : List ℕ) → new ≡ old ++ a → newer ≡ new ++ b → newer ≡ old ++ (a ++ b)
then old new newer a b first second = second ∙ ap (λ (w : List ℕ). w ++ b) first ∙ append_assoc old a b
