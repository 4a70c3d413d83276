use Rattle.std.proofs.Common.{◌≡◌, ◌∙◌, ap, refl, sym, Option, Some, None, false, option_map}
use Rattle.std.specs.Prelude.{option_and_then, find}
use Rattle.std.specs.Option.{option_map_or}
use Rattle.std.specs.Str.{bytes_eq}
use Rattle.clap.proofs.WalkLemmas.{find_row}
use Rattle.clap.specs.Facts.{Entry}
use Rattle.clap.specs.Matches.{found_of}
use Rattle.clap.specs.Walk.{Row, row_of}
use Rattle.clap.specs.declared.parser.matches.MatchedArg.{MatchedArg}
use Rattle.xb_command.specs.Judging.{is_from_words}
use Rattle.xb_command.proofs.judging.is_given.Goals as goal

-- the source of an entry is that of its row
source_row : (o : Option Entry)
    → is_from_words (option_and_then (λ (a : MatchedArg). a.source) (option_map (λ e. e.1) o))
    ≡ option_map_or (λ (r : Row). is_from_words r.source) (option_map row_of o) false
source_row None = refl
source_row (Some e) = refl

pub returns : goal.returns
returns c =
    let entries = (found_of c.args.words.now).entries.items in
    c.is_from_words.ensures
    ∙ ap is_from_words c.value_source.ensures
    ∙ source_row (find (λ e. bytes_eq e.0.now c.args.name.now) entries)
    ∙ ap (λ o. option_map_or (λ (r : Row). is_from_words r.source) o false) (sym (find_row entries c.args.name.now))
