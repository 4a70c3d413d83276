-- Names that are added one after the other.
use Rattle.std.proofs.Common.{◌≡◌, ℕ, ◌+◌, ◌<◌, ◌≤◌, List, [], ◌∷◌, ◌++◌, Bool, true, false, cond, length, nat_lt, take, refl, ap, sym, ◌∙◌, append_assoc, append-nil, length-append, arith}
use Rattle.std.proofs.lemmas.Bool.Decides.{nat_tests}
use Rattle.std.proofs.lemmas.List.{take_all}
use Rattle.std.proofs.Math.Seq.{take-append_seam}
use Rattle.xb_loop.specs.Names.{Named, all_added, is_among, named, named_by, no_names, others_once}

-- where as many are kept as may be, and there are more, it stays so
stays-full : (kept names : List (List ℕ)) → 32 ≤ length kept → all_added (named kept true) names ≡ named kept true
stays-full kept [] full = refl
stays-full kept (name ∷ names) full =
    by (is_among name kept) (nat_lt (length kept) 32) refl (stays-full kept names full)
  where
    by :
        (among few : Bool) → nat_lt (length kept) 32 ≡ few
        → all_added (named kept true) names ≡ named kept true
        → all_added (cond among (named kept true) (cond few (named (kept ++ name ∷ []) true) (named kept true))) names ≡ named kept true
    by true few is later = later
    by false true is later =
        let less : length kept < 32 = grind (arith, nat_tests) in
        absurd (omega (arith, less, full))
    by false false is later = later

-- the names that are kept, with those that come, each once
abbrev all_kept : List (List ℕ) → List (List ℕ) → Named
all_kept kept others = named (take 32 (kept ++ others)) (nat_lt 32 (length (kept ++ others)))

kept-none : (kept : List (List ℕ)) → length kept ≤ 32 → named kept false ≡ all_kept kept []
kept-none kept few =
    let more : nat_lt 32 (length kept) ≡ false = grind (arith, nat_tests) in
    ap (λ names. named names false) (sym (take_all 32 kept few))
    ∙ ap (λ b. named (take 32 kept) b) (sym more)
    ∙ ap (λ names. named (take 32 names) (nat_lt 32 (length names))) (sym (append-nil kept))

kept-full :
    (kept : List (List ℕ)) (name : List ℕ) (others : List (List ℕ)) → length kept ≡ 32
    → named kept true ≡ all_kept kept (name ∷ others)
kept-full kept name others full =
    let longer : length (kept ++ name ∷ others) ≡ length kept + length (name ∷ others) = length-append kept (name ∷ others) in
    let more : nat_lt 32 (length (kept ++ name ∷ others)) ≡ true = grind (arith, nat_tests, longer, full) in
    ap (λ names. named names true) (sym (ap (λ n. take n (kept ++ name ∷ others)) (sym full) ∙ take-append_seam kept (name ∷ others)))
    ∙ ap (λ b. named (take 32 (kept ++ name ∷ others)) b) (sym more)

keeps :
    (kept names : List (List ℕ)) → length kept ≤ 32
    → all_added (named kept false) names ≡ all_kept kept (others_once kept names)
keeps kept [] few = kept-none kept few
keeps kept (name ∷ names) few =
    by (is_among name kept) (nat_lt (length kept) 32) refl (λ more. keeps more names)
  where
    by :
        (among less : Bool) → nat_lt (length kept) 32 ≡ less
        → ((more : List (List ℕ)) → length more ≤ 32 → all_added (named more false) names ≡ all_kept more (others_once more names))
        → all_added (cond among (named kept false) (cond less (named (kept ++ name ∷ []) false) (named kept true))) names
        ≡ all_kept kept (cond among (others_once kept names) (name ∷ others_once (kept ++ name ∷ []) names))
    by true less is later = later kept few
    by false true is later =
        let below : length kept < 32 = grind (arith, nat_tests) in
        later (kept ++ name ∷ []) (omega (arith, below, length-append kept (name ∷ [])))
        ∙ ap (λ all. named (take 32 all) (nat_lt 32 (length all)))
        (append_assoc kept (name ∷ []) (others_once (kept ++ name ∷ []) names))
    by false false is later =
        let full : 32 ≤ length kept = grind (arith, nat_tests) in
        stays-full kept names full
        ∙ kept-full kept name (others_once (kept ++ name ∷ []) names) (omega (arith, full, few))

pub names_are_kept : (names : List (List ℕ)) → all_added no_names names ≡ named_by names
names_are_kept names = keeps [] names (omega arith)
