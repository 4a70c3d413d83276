-- Beginnings of texts that were written one after the other.
use Rattle.std.proofs.Common.{ℕ, ◌≡◌, ◌+◌, List, ◌++◌, length, take, drop, Option, sym, ap, ◌∙◌, append_assoc, subst}
use Rattle.std.proofs.lemmas.List.{take-append-drop}
use Rattle.std.proofs.Math.Seq.{take-append-add, take-append_seam}
use Rattle.std.proofs.KnownBytes.{Appends-trans}
use Rattle.std.specs.Io.KnownBytes.{Appends}
use Rattle.xb_text.specs.Writing.{AppendsBeginning}

-- the beginning of the first text is one of both
pub AppendsBeginning-first : (old new : Option (List ℕ)) (first second : List ℕ)
    → AppendsBeginning old new first → AppendsBeginning old new (first ++ second)
AppendsBeginning-first old new first second (n, written) =
    let joined : take n first ++ (drop n first ++ second) ≡ first ++ second =
    sym (append_assoc (take n first) (drop n first) second)
    ∙ ap (λ xs. xs ++ second) (take-append-drop n first) in
    let same : take (length (take n first)) (first ++ second) ≡ take n first =
    ap (take (length (take n first))) (sym joined) ∙ take-append_seam (take n first) (drop n first ++ second) in
    (length (take n first), subst (Appends old new) (sym same) written)

-- the first text, and the beginning of the second
pub AppendsBeginning-second : (old mid new : Option (List ℕ)) (first second : List ℕ)
    → Appends old mid first → AppendsBeginning mid new second → AppendsBeginning old new (first ++ second)
AppendsBeginning-second old mid new first second written (n, more) = (
  length first + n,
  subst (Appends old new) (sym (take-append-add first second n))
      (Appends-trans old mid new first (take n second) written more),
)
