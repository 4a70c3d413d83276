use Rattle.std.proofs.Common.{ap, ◌∙◌}
use Rattle.xb_loop.specs.Names.{all_added}
use Rattle.xb_loop.specs.Wires.{names_told}
use Rattle.xb_loop.proofs.EachOnce.{names_are_kept}
use Rattle.xb_loop.proofs.found_names.wires_named.Goals as goal

pub returns : goal.returns
returns c =
    let names = names_told c.args.format c.args.is_end c.args.beginning.now in
    c.in_ok-add_all.ensures ∙ ap (λ found. all_added found names) c.new.ensures ∙ names_are_kept names
