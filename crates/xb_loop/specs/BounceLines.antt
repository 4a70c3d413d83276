-- What is told of the bounces.
use Rattle.std.specs.Prelude.{ℕ, ◌*◌, ◌/◌, List, [], ◌++◌, Bool, Option, codes, decimal, not, option_map, ◌==◌, ◌||◌, if◌then◌else◌}
use Rattle.xb_contact.specs.declared.scale.Scale.{Scale}
use Rattle.xb_feed.specs.declared.tally.Bounces.{Bounces}
use Rattle.xb_loop.specs.Contacts.{Followed}

-- so many ticks in us, rounded down; 0 where a tick has no length
abbrev pub micros_of : Scale → ℕ → ℕ
micros_of scale ticks =
    if scale.ticks == 0 then 0 else ticks * scale.ms * 1000 / scale.ticks

-- a line for each line of the office whose wire had a level
abbrev pub bounce_line : Scale → ℕ → Bounces → List ℕ
bounce_line scale number bounces =
    codes "line " ++ decimal number ++ codes ": " ++ decimal bounces.count ++ codes " bounces, the longest "
    ++ decimal (micros_of scale bounces.longest) ++ codes " us\n"

-- and how many edges of it were lost
abbrev pub lost_line : ℕ → ℕ → List ℕ
lost_line number count = codes "line " ++ decimal number ++ codes ": lost edges: " ++ decimal count ++ codes "\n"

-- and how many of its calls are left out
abbrev pub answer_line : ℕ → ℕ → List ℕ
answer_line number count =
    codes "line " ++ decimal number ++ codes ": calls that answer ringing, left out: " ++ decimal count ++ codes "\n"

-- what is told of a contact: its bounces, where they are asked for, the edges that were lost, where they may be, and the
-- calls that are left out
abbrev pub bounces_noted : Bool → Scale → ℕ → Bounces → List ℕ
bounces_noted said scale number bounces = if said then bounce_line scale number bounces else []

abbrev pub edges_noted : Bool → ℕ → ℕ → List ℕ
edges_noted lossy number count = if not lossy || (count == 0) then [] else lost_line number count

abbrev pub answers_noted : ℕ → ℕ → List ℕ
answers_noted number count = if count == 0 then [] else answer_line number count

abbrev pub note_of : Scale → ℕ → Followed → List ℕ
note_of scale number contact =
    bounces_noted contact.common.said scale number contact.tally.bounces
    ++ edges_noted contact.common.lossy number contact.repeats ++ answers_noted number contact.answers

abbrev pub bounces_heard : Option Followed → Option Bounces
bounces_heard contact = option_map (λ heard. heard.tally.bounces) contact
