-- The doubts of keys, one after the other.
use Rattle.std.proofs.Common.{◌≡◌, ◌∙◌, ◌++◌, ◌+◌, ◌<◌, ◌≤◌, ℕ, List, ◌∷◌, length, drop, get_or, Option, Some, ap, sym, append_assoc}
use Rattle.std.proofs.lemmas.List.{append-nil, drop_all, drop_more}
use Rattle.xb_measured.specs.declared.heard.Heard.{Heard}
use Rattle.xb_measured.specs.Figures.{figures_of}
use Rattle.xb_measured.specs.declared.doubts.Doubt.{Doubt}
use Rattle.xb_measured.specs.declared.rhythm.Rhythm.{Rhythm}
use Rattle.xb_measured.specs.Doubts.{doubts_after, gap_doubts, length_doubts}

-- the doubts of one key more
pub one-more : (rhythm : Rhythm) (n : ℕ) (before : Option Heard) (keys : List Heard) (key : Heard) (so_far all : List Doubt)
    → n < length keys → get_or keys n key ≡ key → so_far ++ doubts_after rhythm n before (drop n keys) ≡ all
    → ((so_far ++ gap_doubts rhythm (n + 1) (figures_of before key).gap_ms) ++ length_doubts rhythm (n + 1) (figures_of before key))
    ++ doubts_after rhythm (n + 1) (Some key) (drop (n + 1) keys) ≡ all
unfolding doubts_after
one-more rhythm n before keys key so_far all below is known =
    let gap = gap_doubts rhythm (n + 1) (figures_of before key).gap_ms in
    let long = length_doubts rhythm (n + 1) (figures_of before key) in
    let rest = doubts_after rhythm (n + 1) (Some key) (drop (n + 1) keys) in
    append_assoc (so_far ++ gap) long rest
    ∙ append_assoc so_far gap (long ++ rest)
    ∙ ap (λ (k : Heard). so_far ++ doubts_after rhythm n before (k ∷ drop (n + 1) keys)) (sym is)
    ∙ ap (λ ks. so_far ++ doubts_after rhythm n before ks) (sym (drop_more keys n key below))
    ∙ known

-- after the last key there are none
pub none-left : (rhythm : Rhythm) (n : ℕ) (before : Option Heard) (keys : List Heard) (so_far all : List Doubt) → length keys ≤ n
    → so_far ++ doubts_after rhythm n before (drop n keys) ≡ all → so_far ≡ all
unfolding doubts_after
none-left rhythm n before keys so_far all enough known =
    sym (append-nil so_far)
    ∙ ap (λ ks. so_far ++ doubts_after rhythm n before ks) (sym (drop_all n keys enough))
    ∙ known
