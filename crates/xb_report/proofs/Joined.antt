-- Texts that are put one after another, as a definition writes them.
use Rattle.std.proofs.Common.{◌≡◌, ◌++◌, [], ℕ, List, append_assoc}
use Rattle.std.proofs.lemmas.List.{append-nil}

pub seventeen : (a b c d e f g h i j k l m n o p q : List ℕ)
    → (((((((((((((((a ++ b) ++ c) ++ d) ++ e) ++ f) ++ g) ++ h) ++ i) ++ j) ++ k) ++ l) ++ m) ++ n) ++ o) ++ p) ++ q
    ≡ a ++ b ++ c ++ d ++ e ++ f ++ g ++ h ++ i ++ j ++ k ++ l ++ m ++ n ++ o ++ p ++ q
seventeen a b c d e f g h i j k l m n o p q = simp append_assoc

-- seven cells, a gap before each, and what stands after them
pub seven_cells : (g a b c d e f h r n : List ℕ)
    → g ++ a ++ g ++ b ++ g ++ c ++ g ++ d ++ g ++ e ++ g ++ f ++ g ++ h ++ r ++ n
    ≡ (g ++ a) ++ ((g ++ b) ++ ((g ++ c) ++ ((g ++ d) ++ ((g ++ e) ++ ((g ++ f) ++ ((g ++ h) ++ [])))))) ++ r ++ n
seven_cells g a b c d e f h r n = simp (append_assoc, append-nil)
