-- The blank windows so far.
use Rattle.std.proofs.Common.{◌≡◌, ◌∙◌, ℕ, ◌+◌, ◌<◌, ◌≤◌, Bool, List, Option, None, ap, arith, drop, get_or, is_none, is_some, length, not}
use Rattle.std.proofs.Math.Bool.{not-not}
use Rattle.std.proofs.lemmas.List.{drop_all, drop_more}
use Rattle.xb_ear.specs.declared.sight.Sight.{Sight}
use Rattle.xb_measured.specs.Blanks.{blank_by, blanks_after}

step : (was_blank : Bool) (i : ℕ) (held : List (Option Sight)) → i < length held
    → blanks_after was_blank (drop i held)
    ≡ blank_by was_blank (get_or held i None) + blanks_after (is_none (get_or held i None)) (drop (i + 1) held)
unfolding blanks_after
step was_blank i held below = ap (λ (hs : List (Option Sight)). blanks_after was_blank hs) (drop_more held i None below)

-- one window more, which is blank or not
pub blanks-more : (was_blank is_blank : Bool) (i so_far now all : ℕ) (held : List (Option Sight)) → i < length held
    → so_far + blanks_after was_blank (drop i held) ≡ all → now ≡ blank_by was_blank (get_or held i None)
    → is_some (get_or held i None) ≡ not is_blank → (so_far + now) + blanks_after is_blank (drop (i + 1) held) ≡ all
blanks-more was_blank is_blank i so_far now all held below known is other =
    let same : is_none (get_or held i None) ≡ is_blank = ap (λ (b : Bool). not b) other ∙ not-not is_blank in
    let rest = ap (λ (b : Bool). blanks_after b (drop (i + 1) held)) same in
    omega (arith, known, is, step was_blank i held below, rest)

-- none is left
pub blanks-end : (was_blank : Bool) (i so_far all : ℕ) (held : List (Option Sight)) → length held ≤ i
    → so_far + blanks_after was_blank (drop i held) ≡ all → so_far ≡ all
unfolding blanks_after
blanks-end was_blank i so_far all held past known =
    let none : blanks_after was_blank (drop i held) ≡ 0 =
    ap (λ (hs : List (Option Sight)). blanks_after was_blank hs) (drop_all i held past) in
    omega (arith, known, none)
