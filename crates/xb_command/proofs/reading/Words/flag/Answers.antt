use Rattle.std.proofs.Common.{◌∙◌, ap}
use Rattle.clap.specs.Matches.{found_of}
use Rattle.clap.specs.Walk.{one_of}
use Rattle.clap.proofs.WalkLemmas.{one_text-rows}
use Rattle.xb_command.proofs.reading.Words.flag.Goals as goal

pub returns : goal.returns
returns c =
    let same = one_text-rows (found_of c.self.inside.matches) c.args.name.now
    ∙ ap (one_of c.args.name.now) c.self.view_is in
    record {
      absent = λ e. c.get_flag.ensures.none (same ∙ e);
      yes = λ e. c.get_flag.ensures.value (same ∙ e);
      no = λ e. c.get_flag.ensures.other (same ∙ e);
    }
