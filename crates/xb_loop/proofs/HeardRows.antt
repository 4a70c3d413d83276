-- The record that the chain makes of the rows of holds.
use Rattle.std.proofs.Common.{◌≡◌, ℕ, ◌+◌, ◌-◌, ◌*◌, ◌/◌, ◌<◌, ◌≤◌, List, [], ◌∷◌, Bool, true, false, cond, ◌==◌, refl, ap, ◌∙◌, arith}
use Rattle.std.proofs.Math.Nat.{div-mul-le_self, mul-le-mul_right}
use Rattle.std.proofs.lemmas.Bool.{ne_eqb}
use Rattle.std.proofs.lemmas.Nat.{le-div}
use Rattle.xb_model.specs.Records as records
use Rattle.xb_model.specs.Records.{Run, record_up_to_close}
use Rattle.xb_contact.specs.declared.level.Level.{Level}
use Rattle.xb_contact.specs.declared.level.Level.TheVariants.{Open, Closed}
use Rattle.xb_contact.specs.declared.hold.Hold.{Hold}
use Rattle.xb_contact.specs.Holds.{hold_of, join, joined, lasting, runs_of, IsAlternating, AllLast}
use Rattle.xb_contact.specs.Bounces.{Disturbed, recorded, clean, AllBounceWithin}
use Rattle.xb_contact.proofs.JoinedHolds.{join-differs}
use Rattle.xb_contact.proofs.Exact.{is_exact_under_bounces}
use Rattle.xb_contact.specs.declared.scale.Scale.{Scale}
use Rattle.xb_contact.specs.Times.{ms_at, rounded_hold, rounded}
use Rattle.xb_contact.specs.Listening.{begun_at, all_told}
use Rattle.xb_contact.proofs.RoundedHolds.{joined-rounded}
use Rattle.xb_contact.proofs.Told.{tells_the_record}
use Rattle.xb_loop.specs.RowsOfHolds.{run_of_hold, rows_of_holds, runs_of_holds, day_parts, written_rows}
use Rattle.std.specs.List.{flat_map}
use Rattle.xb_loop.proofs.DayParts.{runs_of-days}
use Rattle.xb_loop.specs.HeardLaws.{HearsTheSettledRecord, HearsTheCleanRecord, HearsEachCleanRun}

-- holds that last are the record of their rows
record-rows : (line : ℕ) (holds : List Hold) → record_up_to_close (rows_of_holds line holds) ≡ runs_of_holds (lasting holds)
record-rows line [] = refl
record-rows line (h ∷ hs) = at h.level (h.ticks == 0) (record-rows line hs)
  where
    rest : List Run
    rest = record_up_to_close (rows_of_holds line hs)

    by :
        (c : Level) (b : Bool) → rest ≡ runs_of_holds (lasting hs)
        → cond b rest (run_of_hold (hold_of c h.ticks) ∷ rest)
        ≡ runs_of_holds (cond b (lasting hs) (hold_of c h.ticks ∷ lasting hs))
    by c true e = e
    by c false e = ap (λ R. run_of_hold (hold_of c h.ticks) ∷ R) e

    at :
        (c : Level) (b : Bool) → rest ≡ runs_of_holds (lasting hs)
        → cond (records.is_close (run_of_hold (hold_of c h.ticks)).contact) []
        (cond b rest (run_of_hold (hold_of c h.ticks) ∷ rest))
        ≡ runs_of_holds (cond b (lasting hs) (hold_of c h.ticks ∷ lasting hs))
    at Open b e = by Open b e
    at Closed b e = by Closed b e

-- joining holds joins their runs
join-runs : (h : Hold) (R : List Hold) → records.join (run_of_hold h) (runs_of_holds R) ≡ runs_of_holds (join h R)
join-runs h [] = refl
join-runs h (g ∷ R) = at h.level g.level
  where
    at :
        (l c : Level)
        → records.join (run_of_hold (hold_of l h.ticks)) (runs_of_holds (hold_of c g.ticks ∷ R))
        ≡ runs_of_holds (join (hold_of l h.ticks) (hold_of c g.ticks ∷ R))
    at Open Open = refl
    at Closed Closed = refl
    at Open Closed = refl
    at Closed Open = refl

joined-runs : (holds : List Hold) → records.joined (runs_of_holds holds) ≡ runs_of_holds (joined holds)
joined-runs [] = refl
joined-runs (h ∷ hs) =
    ap (λ R. records.join (run_of_hold h) R) (joined-runs hs) ∙ join-runs h (joined hs)

-- the joined record of the rows of holds has their runs
pub joined-record :
    (line : ℕ) (holds : List Hold)
    → records.joined (record_up_to_close (rows_of_holds line holds)) ≡ runs_of_holds (runs_of holds)
joined-record line holds = ap records.joined (record-rows line holds) ∙ joined-runs (lasting holds)

-- also where rows have a day at most
pub joined-written :
    (line : ℕ) (holds : List Hold)
    → records.joined (record_up_to_close (written_rows line holds)) ≡ runs_of_holds (runs_of holds)
joined-written line holds =
    joined-record line (flat_map day_parts holds) ∙ ap runs_of_holds (runs_of-days holds)

pub hears_the_settled_record : HearsTheSettledRecord
hears_the_settled_record line least scale most first holds z some =
    joined-written line (all_told (begun_at least scale most first) holds)
    ∙ ap runs_of_holds (tells_the_record least scale most first holds z some)

pub hears_the_clean_record : HearsTheCleanRecord
hears_the_clean_record line least bounce scale most first runs z some alternating within =
    hears_the_settled_record line least scale most first (recorded runs) z some
    ∙ ap (λ R. runs_of_holds (runs_of (rounded scale 0 R)))
    (is_exact_under_bounces least bounce first runs z alternating within)

-- a run of 1 ms or more is not rounded to nothing
ms_at_climbs :
    (scale : Scale) (a n : ℕ) → 0 < scale.ticks → scale.ticks ≤ n * scale.ms
    → ms_at scale a + 1 ≤ ms_at scale (a + n)
ms_at_climbs scale a n h k =
    let here : ℕ = a * scale.ms + scale.ticks / 2 in
    let there : ℕ = (a + n) * scale.ms + scale.ticks / 2 in
    le-div (here / scale.ticks + 1) there scale.ticks h (omega (arith, div-mul-le_self here scale.ticks))

-- so all runs last in ms
lasting-rounded :
    (least : ℕ) (scale : Scale) (at : ℕ) (runs : List Hold) → 0 < scale.ticks → scale.ticks ≤ least * scale.ms
    → AllLast least runs → lasting (rounded scale at runs) ≡ rounded scale at runs
lasting-rounded least scale at [] h k all = refl
lasting-rounded least scale at (run ∷ runs) h k all =
    let ms : ℕ = ms_at scale (at + run.ticks) - ms_at scale at in
    let more : least * scale.ms ≤ run.ticks * scale.ms =
    mul-le-mul_right {m = least} {n = run.ticks} scale.ms all.0 in
    let climbs : ms_at scale at + 1 ≤ ms_at scale (at + run.ticks) =
    ms_at_climbs scale at run.ticks h (omega arith) in
    let lasts : (ms == 0) ≡ false = ne_eqb ms 0 (omega arith) in
    let later = lasting-rounded least scale (at + run.ticks) runs h k all.1 in
    ap
    (λ b. cond b (lasting (rounded scale (at + run.ticks) runs))
    (rounded_hold scale at run ∷ lasting (rounded scale (at + run.ticks) runs)))
    lasts
    ∙ ap (λ R. rounded_hold scale at run ∷ R) later

-- runs that alternate are joined already
joined-alternating : (runs : List Hold) → IsAlternating runs → joined runs ≡ runs
joined-alternating [] a = refl
joined-alternating (run ∷ runs) a =
    ap (λ R. join run R) (joined-alternating runs a.1) ∙ join-differs run runs a.0

-- clean runs are long
clean-long :
    (least bounce : ℕ) (runs : List Disturbed) → AllBounceWithin least bounce runs → AllLast least (clean runs)
clean-long least bounce [] within = tt
clean-long least bounce (disturbed ∷ runs) within =
    let long : least + bounce ≤ disturbed.run.ticks = within.0.long in
    (omega arith, clean-long least bounce runs within.1)

pub hears_each_clean_run : HearsEachCleanRun
hears_each_clean_run line least bounce scale most first runs z some ms alternating within =
    let all : AllLast least (clean runs) = clean-long least bounce runs within in
    hears_the_clean_record line least bounce scale most first runs z some alternating within
    ∙ ap (λ R. runs_of_holds (joined R)) (lasting-rounded least scale 0 (clean runs) some ms all)
    ∙ ap runs_of_holds (joined-rounded scale 0 (clean runs) some)
    ∙ ap (λ R. runs_of_holds (rounded scale 0 R)) (joined-alternating (clean runs) alternating)
