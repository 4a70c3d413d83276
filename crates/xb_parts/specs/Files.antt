-- The pages of files.
use Rattle.std.specs.Prelude.{ℕ, ◌≡◌, List, [], ◌∷◌, IfSome}
use Rattle.xb_command.specs.Files.{Bytes}
use Rattle.xb_page.specs.LineEnds.{lf_ended}

-- the file of this name has this page, whose lines end at LF, or at CR LF, if its bytes are known
abbrev pub HasPage : Bytes → List ℕ → List ℕ → Type 0
HasPage bytes name page = IfSome (bytes name) (λ known. page ≡ lf_ended known)

-- the files of these names have these pages, one after the other
abbrev pub HavePages : Bytes → List (List ℕ) → List (List ℕ) → Type 0
HavePages bytes [] [] = Unit {0}
HavePages bytes (name ∷ names) (page ∷ pages) = HasPage bytes name page × HavePages bytes names pages
HavePages bytes names pages = ⊥
