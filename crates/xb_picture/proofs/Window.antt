-- Of all attempts, those that are drawn.
use Rattle.std.proofs.Common.{◌≡◌, ℕ, List, ◌++◌, ◌+◌, ◌-◌, drop, length, map, min, take}
use Rattle.std.proofs.lemmas.List.{drop-map, length-map, take-map}
use Rattle.xb_model.specs.declared.limits.Limits.{Limits}
use Rattle.xb_heard.specs.declared.attempt.HeardAttempt.{HeardAttempt}
use Rattle.xb_heard.specs.Attempts.{attempt_in}
use Rattle.xb_picture.specs.Pictures.{attempts_words, others_words, picture_words, title_words}

-- the picture of all attempts, by those of them that are drawn
pub window : (L : Limits) (l b k : ℕ) (A : List HeardAttempt) (from after : ℕ) (S : List HeardAttempt)
    → from ≡ min b (length A) → after ≡ length A - b - k → S ≡ take k (drop b A)
    → title_words L l ++ others_words from after ++ attempts_words L (from + 1) (map attempt_in S)
    ≡ picture_words L l b k (map attempt_in A)
window L l b k A from after S first last shown =
    rw (first, last, shown) (simp (length-map, drop-map, take-map))
