use Rattle.std.proofs.Common.{◌∙◌, ap}
use Rattle.std.proofs.lemmas.Result.{IfOk-weaker}
use Rattle.clap.proofs.WalkLemmas.{both}
use Rattle.clap.specs.Simple.{is_simple, matches_of}
use Rattle.xb_command.specs.Commands.{texts_of}
use Rattle.xb_command.proofs.asking.matched.Goals as goal

pub returns-clause-words : goal.returns-clause-words
returns-clause-words c =
    let is = c.in_ok-command_by.ensures in
    let simple = both _ _ c.requires in
    let parse = c.try_get_matches_from in
    IfOk-weaker parse.result _ _
    (λ m has. (has (ap is_simple is ∙ simple.0)).0 ∙ ap (λ app. matches_of app (texts_of c.args.words.now)) is)
    parse.ensures.matches
