use Rattle.std.proofs.Common.{◌∙◌, ap}
use Rattle.clap.specs.Matches.{found_of}
use Rattle.clap.specs.Walk.{all_of}
use Rattle.clap.proofs.WalkLemmas.{raw_values-rows}
use Rattle.xb_command.proofs.reading.Words.texts.Goals as goal

pub returns : goal.returns
returns c =
    c.get_strs.ensures ∙ raw_values-rows (found_of c.self.inside.matches) c.args.name.now
    ∙ ap (all_of c.args.name.now) c.self.view_is
