-- What the words of the command line ask for, as clap reads them.
use Rattle.std.specs.Prelude.{◌≡◌, List, Option, codes, option_and_then, option_map}
use Rattle.clap.specs.Walk.{Row, first_of}
use Rattle.xb_command.specs.Given.{ReadsNumber, given_by}
use Rattle.xb_parts.specs.declared.split_words.Options.{Options}
use Rattle.xb_parts.specs.declared.split_words.SplitRequest.{SplitRequest}

-- what clap matched says these options
pub record Say (rows : List Row) (options : Options) : Type 0 where
  pub big : option_map (λ word. word.now) options.big ≡ first_of (codes "DECK") rows
  pub folder : option_map (λ word. word.now) options.folder ≡ first_of (codes "FOLDER") rows
  pub parts : ReadsNumber (given_by rows (codes "parts")) options.parts

-- what the options ask for, where they name a deck and a folder
abbrev pub request_of : Options → Option SplitRequest
request_of options =
    option_and_then (λ big. option_map (λ folder. record {
      big = big;
      folder = folder;
      parts = options.parts;
    }) options.folder) options.big
