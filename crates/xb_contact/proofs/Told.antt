-- What listening tells.
use Rattle.std.proofs.Common.{◌≡◌, ℕ, ◌<◌, List, [], ◌∷◌, ◌++◌, Option, Some, None, refl, ap, sym, ◌∙◌}
use Rattle.xb_contact.specs.declared.level.Level.{Level}
use Rattle.xb_contact.specs.declared.hold.Hold.{Hold}
use Rattle.xb_contact.specs.Holds.{hold_of, runs_of, total_of}
use Rattle.xb_contact.specs.Settled.{settled}
use Rattle.xb_contact.specs.Machine.{begun, given_by, phase_after, at_end, pieces_of, all_given}
use Rattle.xb_contact.proofs.Remaining.{all_given-cons, settles_the_record}
use Rattle.xb_contact.proofs.Records.{keeps_time, total_of-runs}
use Rattle.xb_contact.specs.declared.scale.Scale.{Scale}
use Rattle.xb_contact.specs.Times.{ms_at, rounded}
use Rattle.xb_contact.specs.Joints.{left_of, all_joined}
use Rattle.xb_contact.specs.Listening.{Heard, heard_of, begun_at, told_of, take_hold, all_told}
use Rattle.xb_contact.specs.TimeLaws.{RoundsOnce}
use Rattle.xb_contact.proofs.RoundedHolds.{joined-rounded, total_of-rounded_all}
use Rattle.xb_contact.proofs.JoinedRuns.{runs_of-joined, runs_of-all_joined}

-- what the parts give of holds, one after the other
abbrev pub told_by_parts : Heard → List Hold → List Hold
told_by_parts heard pieces = all_joined heard.most heard.last (rounded heard.scale heard.at pieces)

-- a piece, and what comes after it
told_step :
    (heard : Heard) (piece : Option Hold) (later : List Hold)
    → pieces_of (told_of heard piece).given ++ told_by_parts (told_of heard piece).heard later
    ≡ told_by_parts heard (pieces_of piece ++ later)
told_step heard None later = refl
told_step heard (Some piece) later = refl

-- all that is told is what the parts give
all_told-is :
    (heard : Heard) (holds : List Hold)
    → all_told heard holds ≡ told_by_parts heard (all_given heard.least heard.phase holds)
all_told-is heard [] = by (at_end heard.phase)
  where
    by :
        (left : Option Hold)
        → pieces_of (told_of heard left).given ++ pieces_of (left_of (told_of heard left).heard.last)
        ≡ told_by_parts heard (pieces_of left)
    by None = refl
    by (Some piece) = refl
all_told-is heard (h ∷ hs) =
    ap (λ R. pieces_of (take_hold heard h).given ++ R) (all_told-is (take_hold heard h).heard hs)
    ∙ by (given_by heard.least heard.phase h)
    ∙ sym (ap (told_by_parts heard) (all_given-cons heard.least heard.phase h hs))
  where
    next : Heard
    next = heard_of heard.least heard.scale heard.most (phase_after heard.least heard.phase h) heard.at heard.last

    by :
        (piece : Option Hold)
        → pieces_of (told_of next piece).given
        ++ told_by_parts (told_of next piece).heard
        (all_given (told_of next piece).heard.least (told_of next piece).heard.phase hs)
        ≡ told_by_parts heard (pieces_of piece ++ all_given heard.least (phase_after heard.least heard.phase h) hs)
    by None = refl
    by (Some piece) = refl

-- its runs
pub tells_the_record : (least : ℕ) (scale : Scale) (most : ℕ) (first : Level) (holds : List Hold) → 0 < least
    → 0 < scale.ticks
    → runs_of (all_told (begun_at least scale most first) holds) ≡ runs_of (rounded scale 0 (settled least first holds))
tells_the_record least scale most first holds z some =
    let given : List Hold = all_given least (begun first) holds in
    ap runs_of (all_told-is (begun_at least scale most first) holds)
    ∙ runs_of-all_joined most (hold_of first 0) (rounded scale 0 given)
    ∙ sym (runs_of-joined (rounded scale 0 given))
    ∙ ap runs_of (joined-rounded scale 0 given some)
    ∙ ap (λ runs. runs_of (rounded scale 0 runs)) (settles_the_record least z first holds)

-- its time
pub rounds_once : RoundsOnce
rounds_once least scale most first holds z some =
    let told : List Hold = all_told (begun_at least scale most first) holds in
    let runs : List Hold = settled least first holds in
    sym (total_of-runs told)
    ∙ ap total_of (tells_the_record least scale most first holds z some)
    ∙ total_of-runs (rounded scale 0 runs)
    ∙ total_of-rounded_all scale runs some
    ∙ ap (ms_at scale) (keeps_time least first holds)
