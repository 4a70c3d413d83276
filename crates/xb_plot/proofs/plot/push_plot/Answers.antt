use Rattle.std.proofs.Common.{refl, string_bytes}
use Rattle.xb_svg.proofs.Pushed.{both, last}
use Rattle.xb_plot.specs.Plots.{plot_text}
use Rattle.xb_plot.proofs.plot.push_plot.Goals as goal

pub returns : goal.returns
unfolding plot_text
returns c =
    let o = string_bytes c.args.out.now in
    let panels = both o _ _ _ _ c.in_ok-push_head.ensures c.in_ok-push_panels.ensures in
    let names = both o _ _ _ _ panels c.in_ok-push_names.ensures in
    let legend = both o _ _ _ _ names c.in_ok-push_text.ensures in
    last c.push_end.result o _ _ _ _
    (plot_text c.args.windows c.args.scale c.args.line c.args.summary.now c.args.older c.args.turns.now) legend
    c.push_end.ensures refl
