-- A sound dial sends what is dialled, and it is heard.
use Rattle.std.proofs.Common.{◌≡◌, ◌∙◌, List, Option, Some, None, IfSome, ap, arith, subst, sym}
use Rattle.xb_model.specs.declared.plan.Plan.{Plan}
use Rattle.xb_model.specs.LawfulLimits.{IsLawful, standard_limits}
use Rattle.xb_model.specs.Rows.{LoopRow}
use Rattle.xb_calls.specs.Calls.{AreCalls, DialledCall}
use Rattle.xb_calls.specs.Dialling.{dialled}
use Rattle.xb_calls.specs.Heard.{AreComplete, AreDialled, IsHeard}
use Rattle.xb_calls.proofs.HeardNumbers.{dialled_is_heard}
use Rattle.xb_calls.proofs.RowsOfLines.{orders_are_dialled}
use Rattle.xb_worn.specs.WornRows.{worn_rows}
use Rattle.xb_worn.proofs.UnwornCalls.{unworn_dials}
use Rattle.xb_dial.specs.declared.request.Request.{Request}
use Rattle.xb_dial.specs.Printed.{DialsWell, IsSound}

lawful : IsLawful standard_limits
lawful = record {
  each = record {
    pulse_min = (omega arith, omega arith);
    pulse_max = (omega arith, omega arith);
    make_min = (omega arith, omega arith);
    pause = (omega arith, omega arith);
    release = (omega arith, omega arith);
    timeout = (omega arith, omega arith);
  };
  pulses_first = omega arith;
  pulses_under = omega arith;
  makes_under = omega arith;
  pause_under = omega arith;
}

-- what follows of a plan, if there is one
by_plan : (P Q : Plan → Type 0) (whole : Option Plan) → ((plan : Plan) → P plan → Q plan) → IfSome whole P → IfSome whole Q
by_plan P Q None then holds = tt
by_plan P Q (Some plan) then holds = then plan holds

pub dials-well : (request : Request) (calls : List DialledCall) (rows : List LoopRow) → AreCalls calls
    → IfSome request.manner.whole (λ plan. AreComplete plan calls)
    → rows ≡ worn_rows request.manner.order request.manner.wear request.faults.items calls
    → IsSound request → DialsWell request calls rows
dials-well request calls rows are complete sent sound =
    let order = request.manner.order in
    let wear = request.manner.wear in
    let plain : rows ≡ dialled order wear.speed calls =
    sent ∙ ap (λ faults. worn_rows order wear faults calls) sound.whole ∙ unworn_dials order wear calls sound.unworn in
    let all : AreDialled wear.speed calls rows =
    subst (AreDialled wear.speed calls) (sym plain) (orders_are_dialled order wear.speed calls are) in
    let heard : IsHeard wear.speed calls rows = dialled_is_heard wear.speed calls rows are all in
    record {
      dialled = plain;
      heard = by_plan _ _ request.manner.whole (λ plan whole. heard.heard plan standard_limits whole lawful sound.fits) complete;
      keyed = by_plan _ _ request.manner.whole (λ plan whole. heard.keyed plan standard_limits whole lawful sound.fits) complete;
    }
