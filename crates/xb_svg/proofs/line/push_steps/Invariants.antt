use Rattle.std.proofs.Common.{◌≡◌, ◌++◌, drop, string_bytes}
use Rattle.std.specs.List.{flat_map}
use Rattle.xb_svg.specs.Elements.{step_text}
use Rattle.xb_svg.proofs.line.push_steps.Given as goal

abbrev pub invariant-loop-step : goal.invariant-loop-step
invariant-loop-step l =
    string_bytes l.out ++ flat_map step_text (drop l.step-index l.steps) ≡ string_bytes l.fn.out ++ flat_map step_text l.steps
