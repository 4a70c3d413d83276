-- The words of a command line, as clap reads them.
use Rattle.std.specs.Prelude.{List, String, map, string_bytes}
use Rattle.clap.specs.Walk.{Text}

-- the texts of words
abbrev pub texts_of : {A : Type 0} → List (String A) → List Text
texts_of words = map string_bytes words
