-- How a program is called, and its help, by its table.
use Rattle.std.specs.Prelude.{ℕ, ◌++◌, ◌==◌, ◌-◌, ◌^◌, ◌&&◌, Bool, false, nat_le, if◌then◌else◌, List, [], ◌∷◌, Option, Some, None, codes, decimal}
use Rattle.std.specs.Borrow.{Bor}
use Rattle.clap.specs.Walk.{Text, is_empty}
use Rattle.xb_command.specs.declared.table.Program.{Program}
use Rattle.xb_command.specs.declared.table.Value.{Value}
use Rattle.xb_command.specs.declared.table.Value.TheVariants as value
use Rattle.xb_command.specs.declared.table.Word.{Word}

-- texts, one after the other
abbrev pub joined : List (Bor Text) → Text
joined [] = []
joined (part ∷ parts) = part.now ++ joined parts

-- a name that begins with a capital (65 to 90) is of a word that stands alone
abbrev pub is_lone : Text → Bool
is_lone [] = false
is_lone (first ∷ rest) = nat_le 65 first && nat_le first 90

-- a word as it is written, but for its value
abbrev pub named : Text → Text
named name = if is_lone name then name else codes "--" ++ name

abbrev pub or_names : List (Bor Text) → Text
or_names [] = []
or_names (name ∷ names) = codes " or " ++ (named name.now ++ or_names names)

-- a word with the name of its value
abbrev pub plain_mark : Word → Text
plain_mark word = named word.name.now ++ (if is_empty word.shown.now then [] else codes " " ++ word.shown.now)

abbrev pub between : Text → Word → Text → Text
between before word after = before ++ (plain_mark word ++ after)

abbrev pub mark_of : Value → Word → Text
mark_of value.Texts word = between (codes " [") word (codes "]...")
mark_of value.AnyThatFollow word = between (codes " [") word (codes "]...")
mark_of value.SomeTexts word = between (codes " ") word (codes "...")
mark_of value.AllThatFollow word = between (codes " ") word (codes "...")
mark_of value.Itself word = between (codes " ") word []
mark_of _ word = between (codes " [") word (codes "]")

-- a word as the usage has it, after a blank
abbrev pub mark_by : Word → Text
mark_by word = mark_of word.value word

abbrev pub marks_by : List Word → Text
marks_by [] = []
marks_by (word ∷ words) = mark_by word ++ marks_by words

-- how a program is called
abbrev pub usage_by : Program → Text
usage_by program = codes "usage: " ++ program.name.now ++ marks_by program.words.now ++ codes "\n"

-- the numbers that an option takes: of one that takes each number from one on, that one
abbrev pub range_text : ℕ → ℕ → Text
range_text least most = if most == 2 ^ 32 - 1 then codes ", from " ++ decimal least
    else codes ", " ++ (decimal least ++ (codes " to " ++ decimal most))

abbrev pub or_words : List (Bor Text) → Text
or_words [] = []
or_words (word ∷ words) = codes " or " ++ word.now ++ or_words words

abbrev pub words_text : List (Bor Text) → Text
words_text [] = []
words_text (first ∷ rest) = codes ": " ++ first.now ++ or_words rest

-- what an option takes, where that is a range or one of several words
abbrev pub value_text : Value → Text
value_text (value.Number least most) = range_text least most
value_text (value.OneOf words) = words_text words.now
value_text _ = []

-- what stands where it is not given
abbrev pub default_text : Option (Bor Text) → Text
default_text None = []
default_text (Some text) = codes " (" ++ text.now ++ codes ")"

-- a rule on other words, where there is one
abbrev pub rule_text : Text → List (Bor Text) → Text
rule_text rule [] = []
rule_text rule (first ∷ rest) = rule ++ (named first.now ++ or_names rest)

-- what is said of an option beside its help: its values, its default, and its rules on others
abbrev pub rules_text : Word → Text
rules_text word = value_text word.value ++ default_text word.default
    ++ rule_text (codes "; it wants ") word.wants.now ++ rule_text (codes "; not with ") word.not_with.now

-- what help says of a word, and of each
abbrev pub help_line : Word → Text
help_line word =
    between (codes "  ") word (codes "\n        ") ++ word.help.now ++ rules_text word ++ codes "\n"

abbrev pub help_lines : List Word → Text
help_lines [] = []
help_lines (word ∷ words) = help_line word ++ help_lines words

abbrev pub about_text : Program → Text
about_text program = codes "\n" ++ program.about.now ++ codes "\n\n"

abbrev pub more_text : Program → Text
more_text program = codes "\nman " ++ program.name.now ++ codes " says more.\n"

-- the help of a program
abbrev pub help_by : Program → Text
help_by program =
    usage_by program ++ about_text program ++ help_lines program.words.now ++ more_text program
