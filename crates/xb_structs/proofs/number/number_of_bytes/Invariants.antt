use Rattle.std.proofs.Common.{◌≡◌, drop, map}
use Rattle.xb_model.proofs.Pending.{IsPending}
use Rattle.xb_structs.specs.Numbers.{digit_or_none, number_of_bytes}
use Rattle.xb_structs.proofs.NumberSteps.{number_after}
use Rattle.xb_structs.proofs.number.number_of_bytes.Given as goal

abbrev pub invariant-loop-byte : goal.invariant-loop-byte
invariant-loop-byte l = record {
  pending : IsPending l.plan l.number;
  rest : number_after l.plan l.number (map digit_or_none (drop l.byte-index l.bytes)) ≡ number_of_bytes l.plan l.bytes;
}
