-- The text of each fault.
use Rattle.std.specs.Prelude.{ℕ, ◌++◌, List, codes, decimal}
use Rattle.xb_worn.specs.declared.worn_fault.WornFault.{WornFault}
use Rattle.xb_worn.specs.declared.worn_fault.WornFault.TheVariants as worn

-- of worn calls
abbrev pub worn_text : WornFault → List ℕ
worn_text (worn.NoSuchPlace number) =
    codes "fault " ++ decimal number ++ codes " is at a place that is not there"
worn_text (worn.SamePlace number) =
    codes "fault " ++ decimal number ++ codes " is at the place of an earlier fault"
worn_text worn.HangUp = codes "the hang-up is under 1 or over 86400000 ms"
worn_text (worn.Time number) =
    codes "call " ++ decimal number ++ codes " has a time under 1 or over 86400000 ms"
worn_text worn.NoMemory = codes "out of memory"
