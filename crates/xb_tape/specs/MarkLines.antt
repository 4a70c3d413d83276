-- A mark that is printed by itself.
use Rattle.std.specs.Prelude.{ℕ, List, [], ◌++◌, codes}
use Rattle.xb_model.specs.declared.mark.Mark.{Mark}
use Rattle.xb_model.specs.declared.mark.Mark.TheVariants as mark
use Rattle.xb_model.specs.Page.{entry_head, mark_text}

-- a trunk group begins a keying, and a refusal is an entry by itself
abbrev pub word_before : Mark → List ℕ
word_before (mark.Trunk t) = codes " KEYED"
word_before (mark.Tone k pair) = []
word_before (mark.Refused r heard) = codes " REFUSED"

-- a mark of entry n of a line
abbrev pub mark_line : ℕ → ℕ → Mark → List ℕ
mark_line line n m = entry_head line n ++ word_before m ++ mark_text m ++ codes "\n"
