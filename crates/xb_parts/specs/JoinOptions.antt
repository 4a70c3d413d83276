-- What the words of the command line ask for, as clap reads them.
use Rattle.std.specs.Prelude.{◌≡◌, List, [], Option, Some, codes, map, option_map, unwrap_or}
use Rattle.clap.specs.Walk.{Row, Text, all_of, first_of}
use Rattle.xb_command.specs.Answers.{Takes}
use Rattle.xb_command.specs.declared.asking.Misfit.{Misfit}
use Rattle.xb_command.specs.declared.table.Call.{Call}
use Rattle.xb_parts.specs.declared.join_words.JoinRequest.{JoinRequest}

-- the file of the list that a request names, and those of its pages
abbrev pub list_of : JoinRequest → Option Text
list_of request = option_map (λ name. name.now) request.list

abbrev pub pages_of : JoinRequest → List Text
pages_of request = map (λ name. name.now) request.pages.items

-- what clap matched says this request
pub record Say (rows : List Row) (request : JoinRequest) : Type 0 where
  pub list : list_of request ≡ first_of (codes "list") rows
  pub pages : pages_of request ≡ unwrap_or (all_of (codes "PAGE") rows) []

-- it says a list whose name is empty, and this names that option and value
pub record IsNoFile (rows : List Row) (misfit : Misfit) : Type 0 where
  pub list : first_of (codes "list") rows ≡ Some []
  pub option : misfit.option.now ≡ codes "list"
  pub value : misfit.value.now ≡ []

-- the words of a call are taken, and say such a list
abbrev pub NameNoFile : Call → Misfit → Type 0
NameNoFile call misfit = (rows : List Row) × Takes call rows × IsNoFile rows misfit
