-- The text of each fault.
use Rattle.std.specs.Prelude.{ℕ, List, codes}
use Rattle.xb_deck.specs.FaultTexts.{deck_text}
use Rattle.xb_check.specs.declared.fault.CheckFault.{CheckFault}
use Rattle.xb_check.specs.declared.fault.CheckFault.TheVariants as check

-- of a deck that is not whole
abbrev pub check_text : CheckFault → List ℕ
check_text check.Read = codes "the deck could not be read"
check_text check.TooLong = codes "the deck is longer than 16777216 bytes; mfoffice split makes parts of it"
check_text check.TooMany =
    codes "loop rows: more than 1000000 records; mfoffice split makes parts of the deck"
check_text (check.Refused fault) = deck_text fault
check_text check.Write = codes "what was found could not be written"
check_text check.NoMemory = codes "out of memory"
