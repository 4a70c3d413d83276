-- The text of each fault.
use Rattle.std.specs.Prelude.{ℕ, ◌++◌, List, codes, decimal}
use Rattle.xb_routes.specs.FaultTexts.{route_text}
use Rattle.xb_outgoing.specs.declared.fault.OutgoingFault.{OutgoingFault}
use Rattle.xb_outgoing.specs.declared.fault.OutgoingFault.TheVariants as outgoing

-- of a table whose routes may say how they send
abbrev pub outgoing_text : OutgoingFault → List ℕ
outgoing_text (outgoing.Routes fault) = route_text fault
outgoing_text (outgoing.Send number) = codes "route " ++ decimal number ++ codes " has a wrong send"
outgoing_text (outgoing.Differs number) =
    codes "route " ++ decimal number ++ codes " is not sent as an earlier one of its trunk"
outgoing_text outgoing.NoMemory = codes "out of memory"
