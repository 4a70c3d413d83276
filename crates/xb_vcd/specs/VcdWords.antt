-- The words of a VCD.
use Rattle.std.specs.Prelude.{ℕ, List, [], ◌∷◌, Bool, Option, Some, None, codes, bytes_eq, nat_lt, ◌==◌, ◌||◌, if◌then◌else◌}
use Rattle.std.specs.Option.{option_and_then}
use Rattle.xb_vcd.specs.declared.word.Word.{Word}
use Rattle.xb_vcd.specs.declared.word.Word.TheVariants.{Time, Change, Vector, End, Timescale, Var, EndDefinitions, Dump, Section, Other}
use Rattle.xb_contact.specs.declared.level.Level.{Level}
use Rattle.xb_contact.specs.Numbers.{digit_after, level_of, number_of}

-- the number of a name with further bytes after it, each a digit to the base 256
abbrev pub code_in : ℕ → List ℕ → Option ℕ
code_in code [] = Some code
code_in code (byte ∷ rest) =
    if nat_lt byte 33 || nat_lt 126 byte then None
    else option_and_then (λ longer. code_in longer rest) (digit_after 256 code byte)

-- the number of a name of printable bytes
abbrev pub code_of : List ℕ → Option ℕ
code_of [] = None
code_of (byte ∷ rest) = code_in 0 (byte ∷ rest)

abbrev pub keyword_of : List ℕ → Word
keyword_of word =
    if bytes_eq word (codes "$end") then End
    else (if bytes_eq word (codes "$timescale") then Timescale
    else (if bytes_eq word (codes "$var") then Var
    else (if bytes_eq word (codes "$enddefinitions") then EndDefinitions
    else (if bytes_eq word (codes "$dumpvars") || bytes_eq word (codes "$dumpall") then Dump
    else (if bytes_eq word (codes "$dumpon") || bytes_eq word (codes "$dumpoff") then Dump
    else Section)))))

abbrev pub time_by : Option ℕ → Word
time_by None = Other
time_by (Some time) = Time time

abbrev pub time_of : List ℕ → Word
time_of digits = time_by (number_of digits)

abbrev pub change_by : Option Level → Option ℕ → Word
change_by value None = Other
change_by value (Some code) = Change code value

abbrev pub change_of : ℕ → List ℕ → Word
change_of level code = change_by (level_of (level ∷ [])) (code_of code)

-- a level: 0, 1, x, X, z or Z
abbrev pub is_level : ℕ → Bool
is_level first = (first == 48) || (first == 49) || (first == 120) || (first == 88) || (first == 122) || (first == 90)

-- a word by its first byte: `#`, `$`, `b` or `B`, `r`, `R`, `s` or `S`, or a level
abbrev pub word_by : ℕ → List ℕ → List ℕ → Word
word_by first rest word =
    if first == 35 then time_of rest
    else (if first == 36 then keyword_of word
    else (if (first == 98) || (first == 66) then Vector (level_of rest)
    else (if (first == 114) || (first == 82) || (first == 115) || (first == 83) then Vector None
    else (if is_level first then change_of first rest
    else Other))))

abbrev pub word_of : List ℕ → Word
word_of [] = Other
word_of (first ∷ rest) = word_by first rest (first ∷ rest)
