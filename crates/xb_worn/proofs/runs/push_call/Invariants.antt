use Rattle.std.proofs.Common.{◌≡◌, ◌++◌, ◌∷◌, drop}
use Rattle.std.specs.List.{flat_map, list_all}
use Rattle.xb_model.specs.Rows.{row_of}
use Rattle.xb_model.specs.declared.row.Contact.TheVariants.{Make}
use Rattle.xb_calls.specs.Dialling.{on_line}
use Rattle.xb_worn.specs.SentCalls.{pulse_runs}
use Rattle.xb_worn.specs.WornRows.{pulse_fits}
use Rattle.xb_worn.proofs.runs.push_call.Given as goal

abbrev pub invariant-loop-pulse : goal.invariant-loop-pulse
invariant-loop-pulse l = record {
  rows :
      l.rows.items ++ on_line l.line (flat_map pulse_runs (drop l.pulse-index l.pulses))
      ≡ l.fn.rows.items
      ++ (row_of l.line Make l.seize_ms ∷ on_line l.line (flat_map pulse_runs l.pulses));
  fits : list_all pulse_fits (drop l.pulse-index l.pulses) ≡ list_all pulse_fits l.pulses;
}
