-- Where the bytes of a text stand in its text lines.
use Rattle.std.proofs.Common.{◌≡◌, ◌∙◌, ℕ, ◌+◌, ◌-◌, ◌≤◌, cond, Bool, true, false, List, [], ◌∷◌, ◌++◌, length, take, drop, min, refl, sym, ap, arith}
use Rattle.std.specs.List.{slice_range}
use Rattle.std.proofs.lemmas.List.{drop-take, length-take, take-append-drop, take-take, take_min}
use Rattle.xb_findings.specs.declared.table_places.Place.{Place}
use Rattle.xb_findings.specs.Places.{first_place, is_same_end, next_place, place_after, place_of}
use Rattle.xb_findings.specs.TextLines.{ends_line}

-- the place after bytes and others
pub place_after-append : (p : Place) (xs ys : List ℕ) → place_after p (xs ++ ys) ≡ place_after (place_after p xs) ys
unfolding place_after
place_after-append p [] ys = refl
place_after-append p (x ∷ xs) ys = place_after-append (next_place p x) xs ys

more_lines : (same ends : Bool) (n : ℕ) → cond same n (cond ends (n + 1) n) ≤ n + 1
more_lines true ends n = omega arith
more_lines false true n = omega arith
more_lines false false n = omega arith

more_columns : (same ends : Bool) (n : ℕ) → cond same n (cond ends 1 (n + 1)) ≤ n + 1
more_columns true ends n = omega arith
more_columns false true n = omega arith
more_columns false false n = omega arith

-- no more text lines than bytes
pub few_lines : (p : Place) (xs : List ℕ) → (place_after p xs).line ≤ p.line + length xs
unfolding place_after
few_lines p [] = omega arith
few_lines p (x ∷ xs) =
    let more = few_lines (next_place p x) xs in
    let one = more_lines (is_same_end p x) (ends_line x) p.line in omega (arith, more, one)

pub few_columns : (p : Place) (xs : List ℕ) → (place_after p xs).column ≤ p.column + length xs
unfolding place_after
few_columns p [] = omega arith
few_columns p (x ∷ xs) =
    let more = few_columns (next_place p x) xs in
    let one = more_columns (is_same_end p x) (ends_line x) p.column in omega (arith, more, one)

-- the place after more bytes of a text
pub place_on : (text : List ℕ) (a b : ℕ) → a ≤ b → place_after (place_of text a) (slice_range text a b) ≡ place_of text b
place_on text a b le =
    let n : a + (b - a) ≡ b = omega (arith, le) in
    let back : drop a (take b text) ≡ take (b - a) (drop a text) =
    ap (λ k. drop a (take k text)) (sym n) ∙ drop-take a (b - a) text in
    sym (ap (λ bytes. place_after first_place bytes)
    (sym (take-append-drop a (take b text)) ∙ ap (λ front. front ++ drop a (take b text)) (take-take a b text le)
    ∙ ap (λ rest. take a text ++ rest) back)
    ∙ place_after-append first_place (take a text) (take (b - a) (drop a text)))

-- all bytes of a text, or so many of them
pub place_min : (text : List ℕ) (at : ℕ) → place_of text (min at (length text)) ≡ place_of text at
place_min text at = ap (λ bytes. place_after first_place bytes) (take_min at text)

-- the numbers of a place are small
pub small_line : (text : List ℕ) (at : ℕ) → (place_of text at).line ≤ 1 + at
small_line text at =
    let few = few_lines first_place (take at text) in
    let within = length-take at text in omega (arith, few, within)

pub small_column : (text : List ℕ) (at : ℕ) → (place_of text at).column ≤ 1 + at
small_column text at =
    let few = few_columns first_place (take at text) in
    let within = length-take at text in omega (arith, few, within)
