-- The digits of the report, run by run.
use Rattle.std.proofs.Common.{◌≡◌, ℕ, ◌+◌, List, [], ◌∷◌, ◌++◌, Bool, true, false, Option, Some, None, map, length, refl, ap, ap₂, ◌∙◌, arith, cond, zero-add}
use Rattle.std.specs.List.{filter}
use Rattle.xb_model.specs.declared.limits.Limits.{Limits}
use Rattle.xb_model.specs.declared.plan.Plan.{Plan}
use Rattle.xb_model.specs.declared.row.Contact.{Contact}
use Rattle.xb_model.specs.declared.row.Contact.TheVariants.{Make, Brk, Close}
use Rattle.xb_model.specs.Records.{ends_train, is_break, is_release, same_contact}
use Rattle.xb_heard.specs.declared.fault.PulseFault.{PulseFault}
use Rattle.xb_heard.specs.declared.fault.Spoiler.{Spoiler}
use Rattle.xb_heard.specs.declared.run.PlacedRun.{PlacedRun}
use Rattle.xb_heard.specs.PlacedRuns.{run_in}
use Rattle.xb_heard.specs.Attempts.{attempts_of_parts}
use Rattle.xb_heard.specs.Digits.{digits_of, digits_of_parts}
use Rattle.xb_heard.specs.Faults.{breaks_among, fault_at, first_spoiler, one_if_break, or_first}
use Rattle.xb_heard.specs.Parts.{RunsPart, onto_part, part_of, parts_by}
use Rattle.xb_turns.specs.declared.train.Wrong.{Wrong}
use Rattle.xb_turns.specs.ReportLaws.{judged_digit, judged_digits, wrong_of}
use Rattle.xb_turns.specs.Trains.{or_fault}

-- a digit as it is judged
abbrev pub Judged : Type 0
Judged = ℕ × Option Wrong

-- runs that are cut at each release, and at each pause
abbrev pub at_releases : Limits → List PlacedRun → List RunsPart
at_releases limits runs = parts_by (λ (run : PlacedRun). is_release limits (run_in run)) runs

abbrev pub at_pauses : Limits → List PlacedRun → List RunsPart
at_pauses limits runs = parts_by (λ (run : PlacedRun). ends_train limits (run_in run)) runs

-- the runs before the first release, and after it
abbrev pub up_to : Limits → List PlacedRun → List PlacedRun
up_to limits [] = []
up_to limits (run ∷ rest) = cond (is_release limits (run_in run)) [] (run ∷ up_to limits rest)

abbrev pub after : Limits → List PlacedRun → List PlacedRun
after limits [] = []
after limits (run ∷ rest) = cond (is_release limits (run_in run)) rest (after limits rest)

abbrev first_inner : List RunsPart → List PlacedRun
first_inner [] = []
first_inner (part ∷ parts) = part.inner

abbrev later_parts : List RunsPart → List RunsPart
later_parts [] = []
later_parts (part ∷ parts) = parts

first-onto : (run : PlacedRun) (parts : List RunsPart) → first_inner (onto_part run parts) ≡ run ∷ first_inner parts
first-onto run [] = refl
first-onto run (part ∷ parts) = refl

later-onto : (run : PlacedRun) (parts : List RunsPart) → later_parts (onto_part run parts) ≡ later_parts parts
later-onto run [] = refl
later-onto run (part ∷ parts) = refl

inner-is : (limits : Limits) (runs : List PlacedRun) → first_inner (at_releases limits runs) ≡ up_to limits runs
inner-is limits [] = refl
inner-is limits (run ∷ rest) = by (is_release limits (run_in run)) (inner-is limits rest)
  where
    by :
        (b : Bool) → first_inner (at_releases limits rest) ≡ up_to limits rest
        → first_inner (cond b (part_of [] (Some run) ∷ at_releases limits rest) (onto_part run (at_releases limits rest)))
        ≡ cond b [] (run ∷ up_to limits rest)
    by true later = refl
    by false later = first-onto run (at_releases limits rest) ∙ ap (λ runs. run ∷ runs) later

later-are : (limits : Limits) (runs : List PlacedRun)
    → later_parts (at_releases limits runs) ≡ at_releases limits (after limits runs)
later-are limits [] = refl
later-are limits (run ∷ rest) = by (is_release limits (run_in run)) (later-are limits rest)
  where
    by :
        (b : Bool) → later_parts (at_releases limits rest) ≡ at_releases limits (after limits rest)
        → later_parts (cond b (part_of [] (Some run) ∷ at_releases limits rest) (onto_part run (at_releases limits rest)))
        ≡ at_releases limits (cond b rest (after limits rest))
    by true later = refl
    by false later = later-onto run (at_releases limits rest) ∙ later

-- the digits of an attempt, and of all
abbrev pub attempt_digits : Limits → List PlacedRun → List Judged
attempt_digits limits runs = map judged_digit (digits_of limits runs)

abbrev pub all_digits : Plan → Limits → List PlacedRun → List Judged
all_digits plan limits runs = judged_digits (attempts_of_parts plan limits (at_releases limits runs))

of-parts : (plan : Plan) (limits : Limits) (parts : List RunsPart)
    → judged_digits (attempts_of_parts plan limits parts)
    ≡ attempt_digits limits (first_inner parts) ++ judged_digits (attempts_of_parts plan limits (later_parts parts))
of-parts plan limits [] = refl
of-parts plan limits (part ∷ parts) = by part.inner
  where
    by :
        (inner : List PlacedRun)
        → judged_digits (attempts_of_parts plan limits (part_of inner part.last ∷ parts))
        ≡ attempt_digits limits inner ++ judged_digits (attempts_of_parts plan limits parts)
    by [] = refl
    by (run ∷ rest) = refl

pub split : (plan : Plan) (limits : Limits) (runs : List PlacedRun)
    → all_digits plan limits runs
    ≡ attempt_digits limits (up_to limits runs) ++ all_digits plan limits (after limits runs)
split plan limits runs =
    of-parts plan limits (at_releases limits runs)
    ∙ ap₂ (λ (inner : List PlacedRun) (parts : List RunsPart).
    attempt_digits limits inner ++ judged_digits (attempts_of_parts plan limits parts))
    (inner-is limits runs) (later-are limits runs)

-- the digits of parts, where so many pulses of the first stand before them, and this is wrong with those
abbrev pub or_wrong : Option Wrong → Option Wrong → Option Wrong
or_wrong None later = later
or_wrong (Some wrong) later = Some wrong

abbrev pub first_digit : Limits → ℕ → Option Wrong → List PlacedRun → Option PlacedRun → List RunsPart → List Judged
first_digit limits n wrong inner None parts = []
first_digit limits n wrong inner (Some pause) parts =
    (n + breaks_among inner, or_wrong wrong (wrong_of (first_spoiler limits n inner)))
    ∷ map judged_digit (digits_of_parts limits parts)

abbrev pub digits_from : Limits → ℕ → Option Wrong → List RunsPart → List Judged
digits_from limits n wrong [] = []
digits_from limits n wrong (part ∷ parts) = first_digit limits n wrong part.inner part.last parts

pub from-none : (limits : Limits) (parts : List RunsPart)
    → digits_from limits 0 None parts ≡ map judged_digit (digits_of_parts limits parts)
from-none limits [] = refl
from-none limits (part ∷ parts) = by part.last
  where
    by :
        (last : Option PlacedRun)
        → first_digit limits 0 None part.inner last parts
        ≡ map judged_digit (digits_of_parts limits (part_of part.inner last ∷ parts))
    by None = refl
    by (Some pause) =
        ap (λ (n : ℕ). (n, wrong_of (first_spoiler limits 0 part.inner)) ∷ map judged_digit (digits_of_parts limits parts))
        (zero-add (breaks_among part.inner))

pub or-nothing : (wrong : Option Wrong) → or_wrong wrong None ≡ wrong
or-nothing None = refl
or-nothing (Some wrong) = refl

-- a run in front of the first part
more-breaks : (n : ℕ) (run : PlacedRun) (inner : List PlacedRun)
    → n + breaks_among (run ∷ inner) ≡ n + one_if_break run.contact + breaks_among inner
more-breaks n run inner = by run.contact
  where
    by :
        (c : Contact)
        → n + length (cond (same_contact c Brk) (run ∷ filter (λ r. is_break (run_in r)) inner) (filter (λ r. is_break (run_in r)) inner))
        ≡ n + one_if_break c + length (filter (λ r. is_break (run_in r)) inner)
    by Make = omega arith
    by Brk = omega arith
    by Close = omega arith

more-wrong : (wrong : Option Wrong) (fault : Option PulseFault) (run : PlacedRun) (later : Option Spoiler)
    → or_wrong wrong (wrong_of (or_first fault run later)) ≡ or_wrong (or_fault wrong fault run.ms) (wrong_of later)
more-wrong (Some wrong) fault run later = refl
more-wrong None (Some fault) run later = refl
more-wrong None None run later = refl

pub from-onto : (limits : Limits) (n : ℕ) (wrong : Option Wrong) (run : PlacedRun) (parts : List RunsPart)
    → digits_from limits n wrong (onto_part run parts)
    ≡ digits_from limits (n + one_if_break run.contact)
    (or_fault wrong (fault_at limits (n + one_if_break run.contact) run.contact run.ms) run.ms) parts
from-onto limits n wrong run [] = refl
from-onto limits n wrong run (part ∷ parts) = by part.last
  where
    by :
        (last : Option PlacedRun)
        → first_digit limits n wrong (run ∷ part.inner) last parts
        ≡ first_digit limits (n + one_if_break run.contact)
        (or_fault wrong (fault_at limits (n + one_if_break run.contact) run.contact run.ms) run.ms) part.inner last parts
    by None = refl
    by (Some pause) =
        ap₂ (λ (count : ℕ) (found : Option Wrong). (count, found) ∷ map judged_digit (digits_of_parts limits parts))
        (more-breaks n run part.inner)
        (more-wrong wrong (fault_at limits (n + one_if_break run.contact) run.contact run.ms) run
        (first_spoiler limits (n + one_if_break run.contact) part.inner))
