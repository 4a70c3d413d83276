use Rattle.std.proofs.Common.{◌+◌, Some, ap, ◌∙◌, take, drop}
use Rattle.std.specs.Prelude.{option_map}
use Rattle.std.proofs.lemmas.List.{take_rest}
use Rattle.xb_text.proofs.cutting.cut_at.Goals as goal

pub returns : goal.returns
returns c =
    let text = c.args.text.now in
    let n = c.in_ok-n.n in
    ap (λ rest. Some (take n text, rest)) (take_rest text (n + 1))
    ∙ ap (option_map (λ k. (take k text, drop (k + 1) text))) c.in_ok-n.ensures
