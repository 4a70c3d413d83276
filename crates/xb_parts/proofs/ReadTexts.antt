-- The texts of files, one after the other.
use Rattle.std.proofs.Common.{◌≡◌, ◌<◌, ◌+◌, ℕ, List, [], ◌∷◌, ◌++◌, length, map, take, sym, ap, ◌∙◌, subst}
use Rattle.std.specs.Prelude.{slice_index_or, Option, Some, None, IfSome}
use Rattle.std.proofs.lemmas.List.{take_more}
use Rattle.xb_page.specs.LineEnds.{lf_ended}
use Rattle.xb_command.specs.Files.{Bytes, HasBytes}
use Rattle.xb_parts.specs.Files.{HasPage, HavePages}

-- the page of a file
pub has_page : (bytes : Bytes) (name file page : List ℕ) → page ≡ lf_ended file → HasBytes bytes name file → HasPage bytes name page
has_page bytes name file page is has = at (bytes name) has
  where
    at : (known : Option (List ℕ)) → IfSome known (λ k. file ≡ k) → IfSome known (λ k. page ≡ lf_ended k)
    at None has = tt
    at (Some k) has = is ∙ ap lf_ended has

-- one file more
pub HavePages-more : {A B : Type 0} (bytes : Bytes) (name_of : A → List ℕ) (text_of : B → List ℕ) (names : List A) (texts : List B)
    (name : A) (text : B) → HavePages bytes (map name_of names) (map text_of texts) → HasPage bytes (name_of name) (text_of text)
    → HavePages bytes (map name_of (names ++ name ∷ [])) (map text_of (texts ++ text ∷ []))
HavePages-more bytes name_of text_of [] [] name text have has = (has, tt)
HavePages-more bytes name_of text_of [] (t ∷ texts) name text have has = absurd have
HavePages-more bytes name_of text_of (n ∷ names) [] name text have has = absurd have
HavePages-more bytes name_of text_of (n ∷ names) (t ∷ texts) name text have has =
    (have.0, HavePages-more bytes name_of text_of names texts name text have.1 has)

-- the next file of a list
pub HavePages-next : {A B : Type 0} (bytes : Bytes) (name_of : A → List ℕ) (text_of : B → List ℕ) (names : List A) (i : ℕ) (d : A)
    (texts texts' : List B) (text : B) → i < length names → texts' ≡ texts ++ text ∷ []
    → HavePages bytes (map name_of (take i names)) (map text_of texts)
    → HasPage bytes (name_of (slice_index_or names i d)) (text_of text)
    → HavePages bytes (map name_of (take (i + 1) names)) (map text_of texts')
HavePages-next {A} {B} bytes name_of text_of names i d texts texts' text within is have has =
    subst (λ (ns : List A). HavePages bytes (map name_of ns) (map text_of texts')) (sym (take_more names i d within))
    (subst (λ (ts : List B). HavePages bytes (map name_of (take i names ++ slice_index_or names i d ∷ [])) (map text_of ts)) (sym is)
    (HavePages-more bytes name_of text_of (take i names) texts (slice_index_or names i d) text have has))
