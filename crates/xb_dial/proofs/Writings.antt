-- Texts that are written part by part.
use Rattle.std.proofs.Common.{◌≡◌, ◌∙◌, ℕ, List, ◌++◌, Option, subst, append_assoc}
use Rattle.std.proofs.KnownBytes.{Appends-trans}
use Rattle.std.specs.Io.KnownBytes.{Appends}
use Rattle.xb_text.specs.Writing.{AppendsBeginning}
use Rattle.xb_text.proofs.Beginnings.{AppendsBeginning-first, AppendsBeginning-second}

-- a writer got a text but for this rest
pub record Lacks (old now : Option (List ℕ)) (rest whole : List ℕ) : Type 0 where
  pub built : List ℕ
  pub written : Appends old now built
  pub all : built ++ rest ≡ whole

-- a part more
pub lacks-less :
    (old mid new : Option (List ℕ)) (part rest whole all : List ℕ) → Lacks old mid all whole → all ≡ part ++ rest
    → Appends mid new part → Lacks old new rest whole
lacks-less old mid new part rest whole all lacks e more =
    let same : Lacks old mid (part ++ rest) whole = subst (λ xs. Lacks old mid xs whole) e lacks in
    record {
      built = same.built ++ part;
      written = Appends-trans old mid new same.built part same.written more;
      all = append_assoc same.built part rest ∙ same.all;
    }

-- the beginning of a part more
pub lacks-begun :
    (old mid new : Option (List ℕ)) (part rest whole all : List ℕ) → Lacks old mid all whole → all ≡ part ++ rest
    → AppendsBeginning mid new part → AppendsBeginning old new whole
lacks-begun old mid new part rest whole all lacks e begun =
    let same : Lacks old mid (part ++ rest) whole = subst (λ xs. Lacks old mid xs whole) e lacks in
    subst (λ xs. AppendsBeginning old new xs) same.all
    (AppendsBeginning-second old mid new same.built (part ++ rest) same.written
    (AppendsBeginning-first mid new part rest begun))

-- the last part
pub lacks-none :
    (old mid new : Option (List ℕ)) (part whole : List ℕ) → Lacks old mid part whole → Appends mid new part
    → Appends old new whole
lacks-none old mid new part whole lacks more =
    subst (λ xs. Appends old new xs) lacks.all (Appends-trans old mid new lacks.built part lacks.written more)

pub lacks-end :
    (old mid new : Option (List ℕ)) (part whole : List ℕ) → Lacks old mid part whole → AppendsBeginning mid new part
    → AppendsBeginning old new whole
lacks-end old mid new part whole lacks begun =
    subst (λ xs. AppendsBeginning old new xs) lacks.all
    (AppendsBeginning-second old mid new lacks.built part lacks.written begun)
