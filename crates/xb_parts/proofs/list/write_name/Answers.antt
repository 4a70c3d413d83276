use Rattle.std.proofs.Common.{◌++◌, ◌∙◌, ℕ, List, ap, string_bytes}
use Rattle.std.proofs.lemmas.Result.{on_ok_weaker}
use Rattle.xb_parts.proofs.ListFormats.{name}
use Rattle.xb_parts.proofs.list.write_name.Goals as goal

pub returns : goal.returns
returns c =
    on_ok_weaker c.write.result
    (λ e. e ∙ ap (λ (t : List ℕ). string_bytes c.args.out.now ++ t) (name c.args.lines))
    (rw (c.laid_out.ensures, c.laid_out-2.ensures, c.saturating_sub-last.ensures) at c.write.ensures.bytes)
