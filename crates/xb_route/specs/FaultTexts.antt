-- The text of each fault.
use Rattle.std.specs.Prelude.{ℕ, ◌++◌, List, codes, decimal, Option, Some, None}
use Rattle.std.specs.Fmt.{◌++?◌}
use Rattle.xb_calls.specs.FaultTexts.{wrong_byte_text}
use Rattle.xb_command.specs.FaultTexts.{open_text}
use Rattle.xb_outgoing.specs.FaultTexts.{outgoing_text}
use Rattle.xb_route.specs.declared.fault.NumberFault.{NumberFault}
use Rattle.xb_route.specs.declared.fault.NumberFault.TheVariants as no_number
use Rattle.xb_route.specs.declared.fault.RoutingFault.{RoutingFault}
use Rattle.xb_route.specs.declared.fault.RoutingFault.TheVariants as routing

-- of a text that is no number
abbrev pub number_text : NumberFault → List ℕ
number_text (no_number.Character byte) = codes "has a wrong character " ++ wrong_byte_text byte
number_text no_number.NoDigits = codes "has no digits"
number_text no_number.NoMemory = codes "out of memory"

-- of numbers that are not routed
abbrev pub routing_text : RoutingFault → Option (List ℕ)
routing_text (routing.File fault) = Some (codes "the route table could not be read: ") ++? open_text fault
routing_text (routing.Table fault) = Some (codes "route table: " ++ outgoing_text fault)
routing_text (routing.Word number fault) =
    Some (codes "number " ++ decimal number ++ codes " " ++ number_text fault)
routing_text routing.Read = Some (codes "the numbers could not be read")
routing_text routing.TooLong = Some (codes "the numbers are longer than 16777216 bytes")
routing_text routing.NoNumbers = Some (codes "there are no numbers")
routing_text (routing.TextLine number fault) =
    Some (codes "text line " ++ decimal number ++ codes " " ++ number_text fault)
routing_text routing.NoMemory = Some (codes "out of memory")
routing_text routing.Write = Some (codes "the lines could not be written")
