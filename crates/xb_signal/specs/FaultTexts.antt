-- The text of each fault.
use Rattle.std.specs.Prelude.{ℕ, ◌++◌, List, codes, decimal}
use Rattle.xb_signal.specs.declared.fault.Place.{Place}
use Rattle.xb_signal.specs.declared.fault.KeysFault.{KeysFault}
use Rattle.xb_signal.specs.declared.fault.KeysFault.TheVariants as keys

-- the place of a word
abbrev pub place_text : Place → List ℕ
place_text place = codes "word " ++ decimal place.word ++ codes ", at byte " ++ decimal place.byte

-- of words of keys
abbrev pub keys_text : KeysFault → List ℕ
keys_text keys.NoWords = codes "there is no word"
keys_text (keys.NoWord fault) = place_text fault ++ codes ", is no key and no sound"
keys_text (keys.Loud fault) = place_text fault ++ codes ", is too loud for 16 bits"
keys_text keys.NoMemory = codes "out of memory"
