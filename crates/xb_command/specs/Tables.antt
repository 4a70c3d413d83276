-- The command of a program, as clap is given it by the program's table.
use Rattle.std.specs.Prelude.{List, [], ◌∷◌, Option, Some, None, true}
use Rattle.std.specs.Borrow.{Bor}
use Rattle.clap.specs.Simple.{App, new_app, new_rule, on_top, with_rule}
use Rattle.clap.specs.Walk.{Rule, Text}
use Rattle.clap.specs.declared.builder.action.ArgAction.TheVariants.{Append, Set, SetTrue}
use Rattle.clap.specs.declared.builder.value_parser.ValueParser.TheVariants as parser
use Rattle.xb_command.specs.declared.table.Program.{Program}
use Rattle.xb_command.specs.declared.table.Value.{Value}
use Rattle.xb_command.specs.declared.table.Value.TheVariants as value
use Rattle.xb_command.specs.declared.table.Word.{Word}

-- an option of this name, which takes one value
abbrev pub option_rule : Text → Rule
option_rule name = record (new_rule name) { long = Some name; action = Some Set; value_names = 1 }

-- what clap is given for a word that takes this
abbrev pub rule_by_value : Text → Value → Rule
rule_by_value name value.Nothing = record (new_rule name) { long = Some name; action = Some SetTrue }
rule_by_value name (value.Number least most) =
    record (option_rule name) { parser = Some (parser.Unsigned least most) }
rule_by_value name (value.OneOf names) = record (option_rule name) { parser = Some (parser.Names names) }
rule_by_value name value.Text = option_rule name
rule_by_value name value.Texts = record (option_rule name) { action = Some Append }
rule_by_value name value.SomeTexts = record (option_rule name) { action = Some Append; required = true }
rule_by_value name value.Itself =
    record (new_rule name) { action = Some Set; required = true; value_names = 1 }
rule_by_value name value.MayStand = record (new_rule name) { action = Some Set; value_names = 1 }
rule_by_value name value.AllThatFollow =
    record (new_rule name) { action = Some Append; required = true; value_names = 1 }
rule_by_value name value.AnyThatFollow =
    record (new_rule name) { action = Some Append; value_names = 1 }

abbrev pub with_default : Rule → Option (Bor Text) → Rule
with_default rule None = rule
with_default rule (Some text) = record rule { defaults = text.now ∷ [] }

-- what clap is given for a word
abbrev pub rule_by_word : Word → Rule
rule_by_word word = with_default (rule_by_value word.name.now word.value) word.default

-- a command that also takes these words
abbrev pub with_rules : App → List Word → App
with_rules app [] = app
with_rules app (word ∷ more) = with_rules (with_rule app (rule_by_word word)) more

-- a command of this name, which has a version
abbrev pub new_command : Text → App
new_command name = on_top (λ s. record s { has_version = true }) (new_app name)

-- the command of a program
abbrev pub command_by : Program → App
command_by program = with_rules (new_command program.name.now) program.words.now
