-- What is wrong with words that clap takes, by the table of a program.
use Rattle.std.specs.Prelude.{◌&&◌, Bool, false, true, not, List, [], ◌∷◌, Option, Some, None, if◌then◌else◌, option_map, find}
use Rattle.std.specs.Borrow.{Bor}
use Rattle.std.specs.List.{list_any}
use Rattle.std.specs.Option.{option_map_or}
use Rattle.std.specs.Str.{bytes_eq}
use Rattle.clap.specs.Walk.{Row, Text, is_empty}
use Rattle.clap.specs.declared.parser.matches.ValueSource.{ValueSource}
use Rattle.clap.specs.declared.parser.matches.ValueSource.TheVariants.{CommandLine}
use Rattle.xb_command.specs.declared.judging.Breach.{Breach}
use Rattle.xb_command.specs.declared.judging.Breach.TheVariants.{Beside, Lacks, Shown, Typed}
use Rattle.xb_command.specs.declared.table.Call.{Call}
use Rattle.xb_command.specs.declared.table.Program.{Program}
use Rattle.xb_command.specs.declared.table.Word.{Word}

abbrev pub is_from_words : Option ValueSource → Bool
is_from_words (Some CommandLine) = true
is_from_words _ = false

-- the words name it: what has its default alone is not given
abbrev pub is_given : List Row → Text → Bool
is_given rows name = option_map_or (λ r. is_from_words r.source) (find (λ r. bytes_eq r.id name) rows) false

-- one of these was given, and the first of them that was
abbrev pub any_given : List Row → List (Bor Text) → Bool
any_given rows names = list_any (λ name. is_given rows name.now) names

abbrev pub first_given : List Row → List (Bor Text) → Option (Bor Text)
first_given rows names = find (λ name. is_given rows name.now) names

-- it wants another one beside it, and none was given
abbrev pub is_alone : List Row → Word → Bool
is_alone rows word = not (is_empty word.wants.now) && not (any_given rows word.wants.now)

-- what is wrong with a word beside the others
abbrev pub breach_of : List Row → Word → Option Breach
breach_of rows word = if not (is_given rows word.name.now) then None
    else (if is_alone rows word then Some (Lacks word.name word.wants)
    else option_map (λ other. Beside word.name other) (first_given rows word.not_with.now))

abbrev pub or_next : Option Breach → Option Breach → Option Breach
or_next None next = next
or_next (Some breach) next = Some breach

-- what is wrong with the first word of the table with which anything is
abbrev pub first_breach : List Row → List Word → Option Breach
first_breach rows [] = None
first_breach rows (word ∷ words) = or_next (breach_of rows word) (first_breach rows words)

-- the program reads standard input, since no word names what is read in its place
abbrev pub is_awaited : List Row → Program → Bool
is_awaited rows program = option_map_or (λ names. not (any_given rows names.now)) program.reads false

-- what a terminal does not serve for
abbrev pub terminal_breach : List Row → Call → Option Breach
terminal_breach rows call = if call.is_typed && is_awaited rows call.program.now then Some Typed
    else (if call.is_shown && call.program.now.writes_sound then Some Shown else None)

-- what is wrong with the words of a call
abbrev pub breach_in : List Row → Call → Option Breach
breach_in rows call = or_next (first_breach rows call.program.now.words.now) (terminal_breach rows call)
