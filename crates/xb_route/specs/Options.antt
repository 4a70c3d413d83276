-- What the words of the command line ask for, as clap reads them.
use Rattle.std.specs.Prelude.{◌≡◌, ◌⊎◌, List, [], ◌∷◌, Some, None, codes, map, unwrap_or, if◌then◌else◌}
use Rattle.std.specs.Str.{bytes_eq}
use Rattle.clap.specs.Walk.{Row, Text, all_of, first_of}
use Rattle.xb_command.specs.Answers.{Takes}
use Rattle.xb_command.specs.Given.{ReadsFlag, given_by}
use Rattle.xb_command.specs.declared.asking.Answer.{Answer}
use Rattle.xb_command.specs.declared.asking.Answer.TheVariants as answer
use Rattle.xb_command.specs.declared.asking.Misfit.{Misfit}
use Rattle.xb_command.specs.declared.table.Call.{Call}
use Rattle.xb_route.specs.declared.words.Request.{Request}

-- the words after that of the table
abbrev pub words_given : List Row → List Text
words_given rows = unwrap_or (all_of (codes "NUMBER") rows) []

-- those that are numbers: none where the numbers are the input, as `-` alone says
abbrev pub number_words : List Text → List Text
number_words [] = []
number_words (word ∷ []) = if bytes_eq word (codes "-") then [] else word ∷ []
number_words (first ∷ next ∷ words) = first ∷ next ∷ words

-- the words of the numbers that a request has
abbrev pub words_of : Request → List Text
words_of request = map (λ word. word.now) request.numbers.items

-- what clap matched says this request
pub record Say (rows : List Row) (request : Request) : Type 0 where
  pub json : ReadsFlag (given_by rows (codes "json")) request.json
  pub table : first_of (codes "TABLE") rows ≡ Some request.table.now
  pub numbers : words_of request ≡ number_words (words_given rows)

-- it says that the table and the numbers are both standard input, and this names that word
pub record WantBoth (rows : List Row) (misfit : Misfit) : Type 0 where
  pub table : first_of (codes "TABLE") rows ≡ Some (codes "-")
  pub numbers : number_words (words_given rows) ≡ []
  pub option : misfit.option.now ≡ codes "TABLE"
  pub value : misfit.value.now ≡ codes "-"

-- why what clap matched says no request: it has no table, or both are standard input, or memory ran out
abbrev pub IsNothing : List Row → Answer → Type 0
IsNothing rows answer.NoMemory = Unit {0}
IsNothing rows (answer.Unfit misfit) = (first_of (codes "TABLE") rows ≡ None) ⊎ WantBoth rows misfit
IsNothing rows _ = ⊥

-- the words of a call are taken, and this is why they ask for nothing
pub record IsUnfit (call : Call) (misfit : Misfit) : Type 0 where
  pub rows : List Row
  pub takes : Takes call rows
  pub says : IsNothing rows (answer.Unfit misfit)
