-- The keyed entries of a page, by their keys.
use Rattle.std.specs.Prelude.{ℕ, List, [], ◌∷◌, ◌++◌, codes, if◌then◌else◌, None}
use Rattle.std.specs.List.{flat_map}
use Rattle.xb_model.specs.declared.mark.Mark.{Mark}
use Rattle.xb_model.specs.declared.mark.Mark.TheVariants as mark
use Rattle.xb_model.specs.Page.{is_refused, key_text}
use Rattle.xb_page.specs.Entries.{Entry}
use Rattle.xb_rx.specs.Entries.{KeyedEntry}

-- the name of the key of a mark, after a blank
abbrev pub key_word : Mark → List ℕ
key_word (mark.Trunk trunk) = []
key_word (mark.Tone k pair) = codes " " ++ key_text k
key_word (mark.Refused reason heard) = []

abbrev pub keys_text : List Mark → List ℕ
keys_text marks = flat_map key_word marks

abbrev pub keyed_with : Entry → KeyedEntry
keyed_with entry =
    record { line = entry.line; number = entry.number; keys = keys_text entry.marks; at = None }

-- an entry that is not refused is keyed
abbrev pub listed_keyed : Entry → List KeyedEntry
listed_keyed entry = if is_refused entry.marks then [] else keyed_with entry ∷ []

abbrev pub keyed_of : List Entry → List KeyedEntry
keyed_of entries = flat_map listed_keyed entries
