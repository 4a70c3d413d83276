-- What is made of each key by the one before it, one key after the other.
use Rattle.std.proofs.Common.{◌≡◌, ◌∙◌, ◌++◌, ◌+◌, ◌<◌, ◌≤◌, ℕ, List, [], ◌∷◌, length, drop, get_or, Option, Some, ap, sym, append_assoc}
use Rattle.std.proofs.lemmas.List.{append-nil, drop_all, drop_more}
use Rattle.xb_measured.specs.declared.heard.Heard.{Heard}
use Rattle.xb_measured.specs.Figures.{figures_of}
use Rattle.xb_measured.specs.Lines.{text_line, text_lines}
use Rattle.xb_shown.specs.Keyings.{key_words, keys_words, row_from}

-- what is said of one key more
pub one-said : (n : ℕ) (before : Option Heard) (from : Option ℕ) (keys : List Heard) (key : Heard)
    (so_far all : List (List ℕ)) → n < length keys → get_or keys n key ≡ key
    → so_far ++ keys_words before from (drop n keys) ≡ all
    → (so_far ++ key_words (row_from from (figures_of before key)) (figures_of before key))
    ++ keys_words (Some key) (Some (row_from from (figures_of before key))) (drop (n + 1) keys) ≡ all
unfolding keys_words
one-said n before from keys key so_far all below is known =
    append_assoc so_far (key_words (row_from from (figures_of before key)) (figures_of before key))
    (keys_words (Some key) (Some (row_from from (figures_of before key))) (drop (n + 1) keys))
    ∙ ap (λ (k : Heard). so_far ++ keys_words before from (k ∷ drop (n + 1) keys)) (sym is)
    ∙ ap (λ ks. so_far ++ keys_words before from ks) (sym (drop_more keys n key below))
    ∙ known

-- after the last key there are none
pub none-said : (n : ℕ) (before : Option Heard) (from : Option ℕ) (keys : List Heard)
    (so_far all : List (List ℕ)) → length keys ≤ n
    → so_far ++ keys_words before from (drop n keys) ≡ all → so_far ≡ all
unfolding keys_words
none-said n before from keys so_far all enough known =
    sym (append-nil so_far)
    ∙ ap (λ ks. so_far ++ keys_words before from ks) (sym (drop_all n keys enough))
    ∙ known

-- the line of one key more
pub one-line : (n : ℕ) (before : Option Heard) (keys : List Heard) (key : Heard) (so_far all : List ℕ)
    → n < length keys → get_or keys n key ≡ key → so_far ++ text_lines before (drop n keys) ≡ all
    → (so_far ++ text_line (figures_of before key)) ++ text_lines (Some key) (drop (n + 1) keys) ≡ all
unfolding text_lines
one-line n before keys key so_far all below is known =
    append_assoc so_far (text_line (figures_of before key)) (text_lines (Some key) (drop (n + 1) keys))
    ∙ ap (λ (k : Heard). so_far ++ text_lines before (k ∷ drop (n + 1) keys)) (sym is)
    ∙ ap (λ ks. so_far ++ text_lines before ks) (sym (drop_more keys n key below))
    ∙ known

-- after the last key there are none
pub no-line : (n : ℕ) (before : Option Heard) (keys : List Heard) (so_far all : List ℕ) → length keys ≤ n
    → so_far ++ text_lines before (drop n keys) ≡ all → so_far ≡ all
unfolding text_lines
no-line n before keys so_far all enough known =
    sym (append-nil so_far)
    ∙ ap (λ ks. so_far ++ text_lines before ks) (sym (drop_all n keys enough))
    ∙ known
