-- The text of each fault.
use Rattle.std.specs.Prelude.{ℕ, ◌++◌, List, codes, decimal, Option, Some, None}
use Rattle.xb_command.specs.FaultTexts.{one_line}
use Rattle.xb_deck.specs.FaultTexts.{table_text}
use Rattle.xb_model.specs.FaultTexts.{row_text}
use Rattle.xb_routes.specs.FaultTexts.{route_text}
use Rattle.xb_parts.specs.declared.list.ListFault.{ListFault}
use Rattle.xb_parts.specs.declared.list.ListFault.TheVariants as list
use Rattle.xb_parts.specs.declared.damage.Damage.{Damage}
use Rattle.xb_parts.specs.declared.damage.Damage.TheVariants as damage
use Rattle.xb_parts.specs.declared.parts_fault.PartsFault.{PartsFault}
use Rattle.xb_parts.specs.declared.parts_fault.PartsFault.TheVariants as parts
use Rattle.xb_parts.specs.declared.join_fault.JoinFault.{JoinFault}
use Rattle.xb_parts.specs.declared.join_fault.JoinFault.TheVariants as join
use Rattle.xb_parts.specs.declared.planning.PlanFault.{PlanFault}
use Rattle.xb_parts.specs.declared.planning.PlanFault.TheVariants as plan
use Rattle.xb_parts.specs.declared.planning.PlanPartsFault.{PlanPartsFault}
use Rattle.xb_parts.specs.declared.planning.PlanPartsFault.TheVariants as plan_parts
use Rattle.xb_parts.specs.declared.split_fault.MakeFault.{MakeFault}
use Rattle.xb_parts.specs.declared.split_fault.MakeFault.TheVariants as make
use Rattle.xb_parts.specs.declared.split_fault.SplitFault.{SplitFault}
use Rattle.xb_parts.specs.declared.split_fault.SplitFault.TheVariants as split

-- of a list of parts
abbrev pub list_text : ListFault → List ℕ
list_text list.NoList = codes "it is no list of parts"
list_text list.NoMemory = codes "out of memory"

-- of the page of a part
abbrev pub damage_text : Damage → List ℕ
damage_text damage.NoTotals = codes "the page ends without its totals"
damage_text damage.WrongTotals = codes "the totals are not those of the entries"
damage_text damage.GoesOn = codes "the page goes on after its totals"
damage_text (damage.NoEntry number) = codes "line " ++ decimal number ++ codes " is no entry"
damage_text (damage.WrongKey number) =
    codes "line " ++ decimal number ++ codes " has a wrong trunk group or key"
damage_text (damage.WrongRefusal number) = codes "line " ++ decimal number ++ codes " has a wrong refusal"
damage_text (damage.OutOfOrder number) = codes "line " ++ decimal number ++ codes " is out of its order"
damage_text damage.Overlaps = codes "the first line belongs to an earlier part"

-- of pages that cannot be joined
abbrev pub parts_text : PartsFault → List ℕ
parts_text (parts.Lines part) =
    codes "part " ++ decimal part ++ codes ": its lines do not follow those of the part before"
parts_text (parts.Part part fault) = codes "part " ++ decimal part ++ codes ": " ++ damage_text fault
parts_text (parts.PastEnd part) =
    codes "part " ++ decimal part ++ codes ": the page has a line of a later part"
parts_text (parts.Missing line) = codes "no part has line " ++ decimal line
parts_text parts.NoMemory = codes "out of memory"

-- of a page of the whole that is not written
abbrev pub join_text : JoinFault → Option (List ℕ)
join_text (join.File name error) = None
join_text (join.List name fault) = Some (one_line name.now ++ codes ": " ++ list_text fault)
join_text (join.TooMany number) =
    Some (codes "there are more pages than the " ++ decimal number ++ codes " parts of the list")
join_text (join.Page name fault) = Some (one_line name.now ++ codes ": " ++ parts_text fault)
join_text (join.Parts fault) = Some (parts_text fault)
join_text join.NoMemory = Some (codes "out of memory")
join_text join.Write = Some (codes "the page could not be written")

-- of a deck that has no plan
abbrev pub plan_text : PlanFault → List ℕ
plan_text (plan.Line line) = codes "line " ++ decimal line ++ codes " has more than a part may have"
plan_text plan.NoMemory = codes "out of memory"

-- of parts that have no plan
abbrev pub plan_parts_text : PlanPartsFault → List ℕ
plan_parts_text plan_parts.Table = codes "the route table is too long"
plan_parts_text (plan_parts.Plan fault) = plan_text fault

-- of decks of parts that are not made
abbrev pub make_text : MakeFault → Option (List ℕ)
make_text (make.Folder error) = None
make_text (make.Part error) = None

-- of a deck that is not split
abbrev pub split_text : SplitFault → Option (List ℕ)
split_text (split.Deck error) = None
split_text (split.Folder error) = None
split_text (split.Make fault) = make_text fault
split_text split.NotEmpty = Some (codes "the folder is not empty")
split_text (split.Table fault) = Some (table_text fault)
split_text (split.Routes fault) = Some (codes "route table: " ++ route_text fault)
split_text (split.Rows fault) = Some (codes "loop rows: " ++ row_text fault)
split_text (split.Plan fault) = Some (plan_parts_text fault)
split_text split.NoParts = Some (codes "a deck has at least one part")
split_text (split.TooMany number) =
    Some (codes "there would be " ++ decimal number ++ codes " parts, and the most is 500")
split_text (split.Write error) = None
split_text split.Changed = Some (codes "the deck has changed while it was split")
split_text split.NoMemory = Some (codes "out of memory")
