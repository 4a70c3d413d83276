-- The text of each fault.
use Rattle.std.specs.Prelude.{ℕ, ◌++◌, List, codes, decimal}
use Rattle.xb_clock.specs.declared.times.TheConstants.{LAST_TIME}
use Rattle.xb_deck.specs.FaultTexts.{table_text}
use Rattle.xb_model.specs.FaultTexts.{row_text}
use Rattle.xb_routes.specs.FaultTexts.{route_text}
use Rattle.xb_sound.specs.FaultTexts.{cadence_text}
use Rattle.xb_trunk.specs.FaultTexts.{trunk_text}
use Rattle.xb_live.specs.declared.fault.EntriesFault.{EntriesFault}
use Rattle.xb_live.specs.declared.fault.EntriesFault.TheVariants as entries
use Rattle.xb_live.specs.declared.fault.LiveFault.{LiveFault}
use Rattle.xb_live.specs.declared.fault.LiveFault.TheVariants as live
use Rattle.xb_live.specs.declared.fault.NoteFault.{NoteFault}
use Rattle.xb_live.specs.declared.fault.NoteFault.TheVariants as note

-- of entries that are not printed
abbrev pub entries_text : EntriesFault → List ℕ
entries_text entries.NoMemory = codes "out of memory"
entries_text (entries.Late line entry) =
    codes "line " ++ decimal line ++ codes ", entry " ++ decimal entry ++ codes ": a time is past "
    ++ LAST_TIME.now
entries_text (entries.LateEvent line) =
    codes "line " ++ decimal line ++ codes ", an event: its time is past " ++ LAST_TIME.now
entries_text entries.Write = codes "the entries could not be written"

-- of a run that ends before its deck
abbrev pub live_text : LiveFault → List ℕ
live_text (live.Cadence fault) = codes "cadence: " ++ cadence_text fault
live_text (live.Deck fault) = table_text fault
live_text (live.Routes fault) = codes "route table: " ++ route_text fault
live_text (live.Rows fault) = codes "loop rows: " ++ row_text fault
live_text live.TooMany = codes "more than 9223372036854775808 records"
live_text (live.Entries fault) = entries_text fault
live_text (live.Sound fault) = trunk_text fault

-- of keyings that were given up, where their number is not told
abbrev pub note_text : NoteFault → List ℕ
note_text note.Write = codes "how many keyings were given up could not be told"
note_text note.NoMemory = codes "out of memory"
