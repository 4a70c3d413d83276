-- Offices in turn: each hears what the one before it keys.
use Rattle.std.specs.Prelude.{ℕ, List, [], ◌∷◌, ◌++◌, map, ℤ}
use Rattle.std.specs.List.{AllByRecursion, flat_map}
use Rattle.xb_model.specs.declared.limits.Limits.{Limits}
use Rattle.xb_model.specs.declared.mark.Mark.{Mark}
use Rattle.xb_model.specs.declared.plan.Plan.{Plan}
use Rattle.xb_model.specs.LawfulLimits.{IsLawful}
use Rattle.xb_model.specs.Numbers.{outcomes_of}
use Rattle.xb_model.specs.Records.{record_of}
use Rattle.xb_model.specs.Routing.{CodedRoute}
use Rattle.xb_model.specs.Rows.{LoopRow}
use Rattle.xb_model.specs.Tapes.{joined_tape}
use Rattle.xb_calls.specs.declared.speed.Speed.{Speed}
use Rattle.xb_calls.specs.Calls.{AreCalls, DialledCall}
use Rattle.xb_calls.specs.Dialling.{numbers_on}
use Rattle.xb_calls.specs.Heard.{AreComplete, AreDialled}
use Rattle.xb_calls.specs.Speeds.{Fits}
use Rattle.xb_sound.specs.declared.cadence.Cadence.{Cadence}
use Rattle.xb_sound.specs.HeardTapes.{HavePrefixes}
use Rattle.xb_ear.specs.Disturbed.{AreWithin}
use Rattle.xb_ear.specs.HeardKeys.{IsHearable, disturbable}
use Rattle.xb_incoming.specs.Attempts.{number_of, tape_of}
use Rattle.xb_laws.specs.Tandem.{AreRegistered, keyed_numbers, keyed_of}
use Rattle.xb_laws.specs.Timed.{OutlastsGaps, timed_keys}

-- an office, and the trunk that comes into it: the cadence of the sender at its other end, the samples that are heard
-- on it, the time-out of the register, and the routes
pub record Office : Type 0 where
  pub cadence : Cadence
  pub samples : List ℤ
  pub limit : ℕ
  pub routes : List CodedRoute

-- the keys of its trunk can be heard, and its register waits for them
pub record CanHear (office : Office) : Type 0 where
  pub hearable : IsHearable office.cadence
  pub outlasts : OutlastsGaps office.limit office.cadence

-- its routes put digits in front
abbrev pub PutsDigits : Office → Type 0
PutsDigits office = HavePrefixes office.routes

-- what an office keys: its tape, by its register and its routes, its entries joined
abbrev pub marks_by : Office → List Mark
marks_by office = flat_map (λ entry. entry) (tape_of office.limit office.routes (timed_keys office.samples))

-- what is keyed into the first office sounds on its trunk, disturbed as far as the ear bears; and what each office keys
-- sounds so on the trunk into the next one
abbrev pub AreInTurn : List Mark → List Office → Type 0
AreInTurn marks [] = Unit {0}
AreInTurn marks (office ∷ offices) =
    AreWithin (disturbable office.cadence marks) office.samples × AreInTurn (marks_by office) offices

-- what routes of offices make of numbers, one office after the other. A number of no digit, or of more than ten, is
-- unknown to the office that takes it, and it keys nothing for it
abbrev pub sent : List (List CodedRoute) → List (List ℕ) → List (List ℕ)
sent [] numbers = numbers
sent (routes ∷ tables) numbers = sent tables (keyed_of routes (map number_of numbers))

abbrev pub sent_by : List Office → List (List ℕ) → List (List ℕ)
sent_by offices numbers = sent (map (λ (office : Office). office.routes) offices) numbers

-- office A has the line, and the offices follow it in turn: the last one, however many come before it, takes just the
-- numbers that the routes of these make, in order, one outcome each
abbrev pub OfficesInTurn : Type 0
OfficesInTurn =
    (plan : Plan) (limits : Limits) (a : List CodedRoute) (rows : List LoopRow) (l : ℕ) (between : List Office)
    (last : Office)
    → HavePrefixes a → AllByRecursion PutsDigits between → AllByRecursion CanHear (between ++ last ∷ [])
    → AreInTurn (joined_tape plan limits a l rows) (between ++ last ∷ [])
    → AreRegistered last.limit last.routes
    (sent_by between (keyed_of a (outcomes_of plan limits (record_of l rows)))) last.samples

-- so of the numbers that are dialled on the line
abbrev pub DialledInTurn : Type 0
DialledInTurn =
    (plan : Plan) (limits : Limits) (a : List CodedRoute) (speed : Speed) (calls : List DialledCall)
    (rows : List LoopRow) (l : ℕ) (between : List Office) (last : Office)
    → AreCalls calls → AreDialled speed calls rows → AreComplete plan calls → IsLawful limits → Fits limits speed
    → HavePrefixes a → AllByRecursion PutsDigits between → AllByRecursion CanHear (between ++ last ∷ [])
    → AreInTurn (joined_tape plan limits a l rows) (between ++ last ∷ [])
    → AreRegistered last.limit last.routes (sent_by between (keyed_numbers a (numbers_on l calls))) last.samples
