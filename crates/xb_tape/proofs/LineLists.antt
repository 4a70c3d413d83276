-- Lists of the lists of all lines.
use Rattle.std.proofs.Common.{◌≡◌, ◌<◌, ℕ, ◌+◌, List, [], ◌∷◌, ◌++◌, length, drop, map, set, get_or, sym, ap, ◌∙◌, arith}
use Rattle.std.specs.List.{enumerate_from}
use Rattle.std.proofs.lemmas.List.{drop_more, get_or-map, length-map, map-set}

-- the list of a line, among all lines' lists
pub line-list :
    {V X : Type 0} (items : V → List X) (lines : List V) (l : ℕ) (list : V) → l < length lines → list ≡ get_or lines l list
    → items list ≡ get_or (map items lines) l []
line-list items lines l list below e = ap items e ∙ sym (get_or-map items lines l list [] below)

-- a line's list with x at its end, in the place of the line's list
pub line-push :
    {V X : Type 0} (items : V → List X) (lines : List V) (l : ℕ) (list list' : V) (x : X)
    → l < length lines → list ≡ get_or lines l list → items list' ≡ items list ++ x ∷ []
    → map items (set lines l list') ≡ set (map items lines) l (get_or (map items lines) l [] ++ x ∷ [])
line-push items lines l list list' x below e pushed =
    map-set items lines l list' ∙ ap (set (map items lines) l) (pushed ∙ ap (λ xs. xs ++ x ∷ []) (line-list items lines l list below e))

-- of the lines from n on, line n is the first
pub line-first :
    {V X : Type 0} (items : V → List X) (lines : List V) (n line : ℕ) (list : V)
    → line < length lines → line ≡ n → list ≡ get_or lines line list
    → enumerate_from n (drop n (map items lines)) ≡ (line, items list) ∷ enumerate_from (n + 1) (drop (n + 1) (map items lines))
line-first items lines n line list below same e =
    let here : n < length (map items lines) = omega (arith, below, same, length-map lines items) in
    ap (enumerate_from n) (drop_more (map items lines) n [] here)
    ∙ ap (λ l. (l, get_or (map items lines) l []) ∷ enumerate_from (n + 1) (drop (n + 1) (map items lines))) (sym same)
    ∙ ap (λ list. (line, list) ∷ enumerate_from (n + 1) (drop (n + 1) (map items lines))) (sym (line-list items lines line list below e))
