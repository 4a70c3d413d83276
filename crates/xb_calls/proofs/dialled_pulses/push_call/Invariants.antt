use Rattle.std.proofs.Common.{◌≡◌, ◌++◌, ◌∷◌, take}
use Rattle.std.specs.List.{flat_map}
use Rattle.xb_model.specs.Records.{make}
use Rattle.xb_calls.specs.Calls.{AreDigits}
use Rattle.xb_calls.specs.Dialling.{digit_runs, on_line}
use Rattle.xb_calls.proofs.dialled_pulses.push_call.Given as goal

abbrev pub invariant-loop-digit : goal.invariant-loop-digit
invariant-loop-digit l = record {
  rows :
      l.rows.items
      ≡ l.fn.rows.items
      ++ on_line l.fn.call.line (make l.speed.seize_ms ∷ flat_map (digit_runs l.speed)
      (take l.digit-index l.fn.call.digits));
  digits : AreDigits (take l.digit-index l.fn.call.digits);
}
