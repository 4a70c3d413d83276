-- The lines below a number, ascending.
use Rattle.std.proofs.Common.{◌≡◌, ℕ, ◌+◌, [], ◌∷◌, ◌++◌, refl, sym, ap, ◌∙◌, arith}
use Rattle.std.proofs.lemmas.List.{map-id}
use Rattle.std.proofs.lemmas.List.FromFn.{map-range_with_len_more}
use Rattle.xb_model.specs.Lines.{lines_below}

-- below line 0 there is none
pub lines_below-none : lines_below 0 ≡ []
unfolding lines_below
lines_below-none = refl

-- below the next line there is one more
pub lines_below-more : (n : ℕ) → lines_below (n + 1) ≡ lines_below n ++ n ∷ []
unfolding lines_below
lines_below-more n =
    sym (map-id _) ∙ map-range_with_len_more (λ k. k) 0 n n (omega arith) ∙ ap (λ ks. ks ++ n ∷ []) (map-id _)
