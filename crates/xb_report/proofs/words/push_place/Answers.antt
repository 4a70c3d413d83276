use Rattle.std.proofs.Common.{◌++◌, ◌∙◌, ap, string_bytes}
use Rattle.std.proofs.lemmas.Result.{on_ok_weaker}
use Rattle.xb_report.proofs.Pushed.{place}
use Rattle.xb_report.proofs.words.push_place.Goals as goal

pub returns : goal.returns
returns c =
    on_ok_weaker c.write.result (λ e. e ∙ ap (λ t. string_bytes c.args.out.now ++ t) (place c.args.run.now))
    (rw c.laid_out.ensures at c.write.ensures.bytes)
