-- The tape of a line whose contact bounces.
use Rattle.std.proofs.Common.{◌≡◌, ℕ, zero, suc, ◌+◌, ◌-◌, ◌*◌, ◌/◌, ◌<◌, ◌≤◌, List, [], ◌∷◌, map, refl, ap, sym, ◌∙◌, arith}
use Rattle.std.proofs.Math.Nat.{div-lt_iff_lt-mul, mul-le-mul_right}
use Rattle.std.specs.List.{AllByRecursion, filter, flat_map}
use Rattle.xb_model.specs.declared.limits.Limits.{Limits}
use Rattle.xb_model.specs.declared.mark.Mark.{Mark}
use Rattle.xb_model.specs.declared.plan.Plan.{Plan}
use Rattle.xb_model.specs.Keyings.{marks_of}
use Rattle.xb_model.specs.Lines.{row_line}
use Rattle.xb_model.specs.LawfulLimits.{AreLimits}
use Rattle.xb_model.specs.Numbers.{outcome_of}
use Rattle.xb_model.specs.Records as records
use Rattle.xb_model.specs.Records.{Run, record_up_to_close, has_runs, pieces_of, rows_of, without_first_break}
use Rattle.xb_model.specs.Rows.{LoopRow}
use Rattle.xb_model.specs.Routing.{CodedRoute, order_of}
use Rattle.xb_model.proofs.Lines.{of_line-all}
use Rattle.xb_contact.specs.declared.level.Level.{Level}
use Rattle.xb_contact.specs.declared.level.Level.TheVariants.{Open, Closed}
use Rattle.xb_contact.specs.declared.hold.Hold.{Hold}
use Rattle.xb_contact.specs.declared.scale.Scale.{Scale}
use Rattle.xb_contact.specs.Holds.{AllLast, runs_of}
use Rattle.xb_contact.specs.Bounces.{recorded, clean}
use Rattle.xb_contact.specs.Times.{rounded}
use Rattle.xb_contact.specs.Listening.{begun_at, all_told}
use Rattle.xb_loop.specs.RowsOfHolds.{rows_of_holds, runs_of_holds, day_parts}
use Rattle.xb_loop.specs.TapeLaws.{MakeOneTape, KeepsTheTape, LeavesLongRunsTheirTape, NoneIsShorter, HearsNothingOtherwise, least_of}
use Rattle.xb_feed.specs.Watching.{least_ticks}
use Rattle.xb_contact.proofs.Exact.{leaves_long_runs}
use Rattle.xb_loop.proofs.HeardRows.{hears_the_settled_record, hears_the_clean_record, joined-record}

-- the rows of holds are all on their line
pub rows_own : (line : ℕ) (holds : List Hold) → AllByRecursion (λ row. row_line row ≡ line) (rows_of_holds line holds)
rows_own line [] = tt
rows_own line (h ∷ hs) = (refl, rows_own line hs)

-- the tape goes by the joined record
abbrev tape_by : Plan → Limits → List CodedRoute → List Run → List (List Mark)
tape_by plan limits routes runs =
    map (λ outcome. marks_of (order_of routes outcome))
    (map (λ attempt. outcome_of plan limits attempt.runs)
    (filter (λ piece. has_runs piece.runs) (pieces_of limits (without_first_break runs))))

pub one_record :
    (line : ℕ) (rows others : List LoopRow)
    → records.joined (record_up_to_close (rows_of line rows)) ≡ records.joined (record_up_to_close (rows_of line others))
    → MakeOneTape line rows others
one_record line rows others same plan limits routes = ap (tape_by plan limits routes) same

-- the record of a line of the rows of its holds
pub record_of_own :
    (line : ℕ) (holds : List Hold)
    → records.joined (record_up_to_close (rows_of line (rows_of_holds line holds)))
    ≡ records.joined (record_up_to_close (rows_of_holds line holds))
record_of_own line holds =
    ap (λ rows. records.joined (record_up_to_close rows))
    (of_line-all row_line line (rows_of_holds line holds) (rows_own line holds))

one_tape :
    (line : ℕ) (holds others : List Hold)
    → records.joined (record_up_to_close (rows_of_holds line holds))
    ≡ records.joined (record_up_to_close (rows_of_holds line others))
    → MakeOneTape line (rows_of_holds line holds) (rows_of_holds line others)
one_tape line holds others same =
    one_record line (rows_of_holds line holds) (rows_of_holds line others)
    (record_of_own line holds ∙ same ∙ sym (record_of_own line others))

pub keeps_the_tape : KeepsTheTape
keeps_the_tape line least bounce scale most first runs z some alternating within =
    one_tape line (flat_map day_parts (all_told (begun_at least scale most first) (recorded runs))) (rounded scale 0 (clean runs))
    (hears_the_clean_record line least bounce scale most first runs z some alternating within
    ∙ sym (joined-record line (rounded scale 0 (clean runs))))

pub leaves_long_runs_their_tape : LeavesLongRunsTheirTape
leaves_long_runs_their_tape line least scale most first runs z some alternating all =
    one_tape line (flat_map day_parts (all_told (begun_at least scale most first) runs)) (rounded scale 0 runs)
    (hears_the_settled_record line least scale most first runs z some
    ∙ ap (λ R. runs_of_holds (runs_of (rounded scale 0 R))) (leaves_long_runs least first runs z alternating all)
    ∙ sym (joined-record line (rounded scale 0 runs)))

-- a run that lasts has a tick
has-ticks :
    (ms some least ticks : ℕ) → 0 < some → 1 * some ≤ least * some → least * some ≤ ticks * ms → 0 < ticks
has-ticks ms some least zero h one long = omega arith
has-ticks ms some least (suc ticks) h one long = omega arith

-- a run of so many ms has the ticks that settle in no more
settles-in :
    (scale : Scale) (settle least ticks : ℕ) → 0 < scale.ms → 0 < scale.ticks → 0 < least → settle ≤ least
    → least * scale.ticks ≤ ticks * scale.ms → least_ticks scale settle ≤ ticks
settles-in scale settle least ticks ms some one within long =
    let shorter : settle * scale.ticks ≤ least * scale.ticks = mul-le-mul_right {m = settle} {n = least} scale.ticks within in
    let positive : 1 * scale.ticks ≤ least * scale.ticks = mul-le-mul_right {m = 1} {n = least} scale.ticks one in
    let lasts : 0 < ticks = has-ticks scale.ms scale.ticks least ticks some positive long in
    let product : settle * scale.ticks + (scale.ms - 1) < (ticks + 1) * scale.ms = omega arith in
    let rounded : (settle * scale.ticks + (scale.ms - 1)) / scale.ms < ticks + 1 =
    (div-lt_iff_lt-mul {k = scale.ms} {x = settle * scale.ticks + (scale.ms - 1)} {y = ticks + 1} ms).1 product in
    omega arith

level-settles :
    (limits : Limits) (scale : Scale) (settle ticks : ℕ) (level : Level) → AreLimits limits → settle ≤ limits.pulse_min
    → settle ≤ limits.make_min → 0 < scale.ms → 0 < scale.ticks
    → least_of limits level * scale.ticks ≤ ticks * scale.ms → least_ticks scale settle ≤ ticks
level-settles limits scale settle ticks Open lawful breaks makes ms some long =
    settles-in scale settle limits.pulse_min ticks ms some lawful.pulse_min.0 breaks long
level-settles limits scale settle ticks Closed lawful breaks makes ms some long =
    settles-in scale settle limits.make_min ticks ms some lawful.make_min.0 makes long

all-settle :
    (limits : Limits) (scale : Scale) (settle : ℕ) (runs : List Hold) → AreLimits limits → settle ≤ limits.pulse_min
    → settle ≤ limits.make_min → 0 < scale.ms → 0 < scale.ticks → NoneIsShorter limits scale runs
    → AllLast (least_ticks scale settle) runs
all-settle limits scale settle [] lawful breaks makes ms some none = tt
all-settle limits scale settle (run ∷ runs) lawful breaks makes ms some none = (
  level-settles limits scale settle run.ticks run.level lawful breaks makes ms some none.0,
  all-settle limits scale settle runs lawful breaks makes ms some none.1,
)

least-some : (scale : Scale) (settle : ℕ) → 0 < least_ticks scale settle
least-some scale settle = omega arith

pub hears_nothing_otherwise : HearsNothingOtherwise
hears_nothing_otherwise line settle limits scale most first runs lawful breaks makes ms some alternating none =
    leaves_long_runs_their_tape line (least_ticks scale settle) scale most first runs (least-some scale settle) some
    alternating (all-settle limits scale settle runs lawful breaks makes ms some none)
