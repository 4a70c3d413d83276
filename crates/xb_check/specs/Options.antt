-- What the words of the command line ask for, as clap reads them.
use Rattle.std.specs.Prelude.{◌≡◌, List, [], Option, Some, None, codes, if◌then◌else◌, option_map, unwrap_or}
use Rattle.std.specs.Borrow.{Bor}
use Rattle.std.specs.Str.{bytes_eq}
use Rattle.clap.specs.Walk.{Row, Text, first_of}
use Rattle.xb_command.specs.Answers.{Takes}
use Rattle.xb_command.specs.Given.{ReadsFlag, given_by}
use Rattle.xb_command.specs.declared.asking.Misfit.{Misfit}
use Rattle.xb_command.specs.declared.table.Call.{Call}
use Rattle.xb_check.specs.declared.words.Request.{Request}

-- the name of a deck's file, and `deck` for the input
abbrev pub own_name : Option (Bor Text) → Text
own_name None = codes "deck"
own_name (Some name) = if bytes_eq name.now (codes "-") then codes "deck" else name.now

-- what clap matched says this deck, the name that is told of it, and whether all is told
pub record Says (rows : List Row) (request : Request) : Type 0 where
  pub deck : option_map (λ text. text.now) request.deck ≡ first_of (codes "DECK") rows
  pub name : request.name.now ≡ unwrap_or (first_of (codes "name") rows) (own_name request.deck)
  pub all : ReadsFlag (given_by rows (codes "all")) request.all

-- it says a name to be told that is empty, and this names that option and value
pub record IsNoName (rows : List Row) (misfit : Misfit) : Type 0 where
  pub name : first_of (codes "name") rows ≡ Some []
  pub option : misfit.option.now ≡ codes "name"
  pub value : misfit.value.now ≡ []

-- the words of a call are taken, and say such a name
abbrev pub SayNoName : Call → Misfit → Type 0
SayNoName call misfit = (rows : List Row) × Takes call rows × IsNoName rows misfit
