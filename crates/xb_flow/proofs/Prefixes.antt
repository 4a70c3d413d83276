-- Laws of prefixes of lists.
use Rattle.std.proofs.Common.{◌≡◌, List, [], ◌∷◌, ◌++◌, sym, ap, ◌∙◌, append-nil, append_assoc}
use mathlib.Core.List.{IsPrefix}

pub prefix_same : {X : Type 0} (xs ys : List X) → xs ≡ ys → IsPrefix xs ys
prefix_same xs ys e = ([], append-nil xs ∙ e)

pub prefix_cons : {X : Type 0} (x : X) (xs ys : List X) → IsPrefix xs ys → IsPrefix (x ∷ xs) (x ∷ ys)
prefix_cons x xs ys p = (p.0, ap (λ zs. x ∷ zs) p.1)

pub prefix_within : {X : Type 0} (us bs cs : List X) → IsPrefix bs cs → IsPrefix (us ++ bs) (us ++ cs)
prefix_within us bs cs p = (p.0, append_assoc us bs p.0 ∙ ap (λ zs. us ++ zs) p.1)

pub prefix_longer : {X : Type 0} (us bs cs : List X) → IsPrefix us bs → IsPrefix us (bs ++ cs)
prefix_longer us bs cs p = (p.0 ++ cs, sym (append_assoc us p.0 cs) ∙ ap (λ zs. zs ++ cs) p.1)

pub prefix_on : {X : Type 0} (us bs cs : List X) → IsPrefix us bs → IsPrefix bs cs → IsPrefix us cs
prefix_on us bs cs p q = (p.0 ++ q.0, sym (append_assoc us p.0 q.0) ∙ ap (λ zs. zs ++ q.0) p.1 ∙ q.1)
