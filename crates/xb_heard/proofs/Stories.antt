-- The report of a line tells the story of the chain.
use Rattle.std.proofs.Common.{◌≡◌, suc, List, [], ◌∷◌, ◌++◌, Bool, true, false, ◌||◌, cond, nat_lt, refl, ap, ap₂, ◌∙◌, map, length, Some, None, Option, is_some}
use Rattle.std.specs.List.{list_any, filter, flat_map, AllByRecursion}
use Rattle.xb_model.specs.declared.limits.Limits.{Limits}
use Rattle.xb_model.specs.declared.plan.Plan.{Plan}
use Rattle.xb_model.specs.declared.signal.Signal.TheVariants.{Seize, TimeOut, Release, Close}
use Rattle.xb_model.specs.declared.signal.TheConstants.{MOST_PULSES}
use Rattle.xb_model.specs.Numbers.{outcome_of}
use Rattle.xb_model.specs.Records.{Run, is_break, ends_train, joined, has_runs, attempts_of, trains_of, cut_at_pauses, without_first, without_first_break, pieces_of}
use Rattle.xb_model.specs.Signals.{is_bad_run, digit_signal, attempt_signals, when}
use Rattle.xb_heard.specs.declared.run.PlacedRun.{PlacedRun}
use Rattle.xb_heard.specs.declared.parts.Cut.TheVariants.{AtReleases, AtPauses}
use Rattle.xb_heard.specs.PlacedRuns.{run_in}
use Rattle.xb_heard.specs.Parts.{RunsPart, part_of, onto_part, parts_of, heard_placed, without_idle, without_front, has_placed}
use Rattle.xb_heard.specs.Faults.{is_out, breaks_among}
use Rattle.xb_heard.specs.Digits.{DigitOfRuns, digit_by, digits_of_parts, digits_of, onto_digits, runs_in_digit, unfinished_of_parts, train_in}
use Rattle.xb_heard.specs.Attempts.{AttemptOfRuns, all_parts, front_of, attempt_by, attempts_of_parts, heard_attempts, attempt_alone, outcomes_told}
use Rattle.xb_heard.specs.Report.{signals_in, NamesItsFault, TellsTrains, Tells}
use Rattle.xb_heard.proofs.CutParts.{piece_alone, pieces-alone, trains-alone, heard-alone, timed-alone, without_front-alone, without_idle-alone, has_placed-alone}
use Rattle.xb_heard.proofs.Faults.{is_named, is_first}

-- the runs that are out of their limits, without places
pub out-alone : (L : Limits) (R : List PlacedRun)
    → list_any (is_out L) R ≡ list_any (λ run. is_bad_run L run.contact run.ms) (map run_in R)
out-alone L [] = refl
out-alone L (r ∷ R) = ap (λ b. is_out L r || b) (out-alone L R)

pub breaks-alone : (R : List PlacedRun) → breaks_among R ≡ length (filter is_break (map run_in R))
breaks-alone [] = refl
breaks-alone (r ∷ R) = by (is_break (run_in r)) (breaks-alone R)
  where
    by : (b : Bool) → breaks_among R ≡ length (filter is_break (map run_in R))
        → length (cond b (r ∷ filter (λ run. is_break (run_in run)) R) (filter (λ run. is_break (run_in run)) R))
        ≡ length (cond b (run_in r ∷ filter is_break (map run_in R)) (filter is_break (map run_in R)))
    by true rest = ap suc rest
    by false rest = rest

-- a digit names its fault
pub names_fault : (L : Limits) (pulses : List PlacedRun) (pause : PlacedRun) → NamesItsFault L (digit_by L pulses pause)
names_fault L pulses pause = record {
  named = is_named L pulses
      ∙ ap₂ (λ out breaks. out || nat_lt MOST_PULSES breaks) (out-alone L pulses) (breaks-alone pulses);
  first = is_first L pulses;
}

pub names_faults : (L : Limits) (P : List RunsPart) → AllByRecursion (NamesItsFault L) (digits_of_parts L P)
names_faults L [] = tt
names_faults L (p ∷ P) = by p.last (names_faults L P)
  where
    by : (last : Option PlacedRun) → AllByRecursion (NamesItsFault L) (digits_of_parts L P)
        → AllByRecursion (NamesItsFault L) (onto_digits L p.inner last (digits_of_parts L P))
    by None rest = tt
    by (Some pause) rest = (names_fault L p.inner pause, rest)

-- the trains of an attempt
pub trains_of_runs : (L : Limits) (R : List PlacedRun) → map train_in (digits_of L R) ≡ trains_of L (map run_in R)
trains_of_runs L R =
    trains-alone L (without_front (heard_placed L R))
    ∙ ap (cut_at_pauses L) (without_front-alone (heard_placed L R) ∙ ap without_first (heard-alone L R))

-- the digits of parts at pauses and what no pause ends are all that was cut
abbrev whole_of : Limits → List RunsPart → List PlacedRun
whole_of L P = flat_map runs_in_digit (digits_of_parts L P) ++ unfinished_of_parts P

whole-onto : (L : Limits) (r : PlacedRun) (P : List RunsPart) → whole_of L (onto_part r P) ≡ r ∷ whole_of L P
whole-onto L r [] = refl
whole-onto L r (p ∷ P) = by p.last
  where
    by : (last : Option PlacedRun)
        → whole_of L (part_of (r ∷ p.inner) last ∷ P) ≡ r ∷ whole_of L (part_of p.inner last ∷ P)
    by None = refl
    by (Some pause) = refl

whole : (L : Limits) (R : List PlacedRun) → whole_of L (parts_of L AtPauses R) ≡ R
whole L [] = refl
whole L (r ∷ R) = by (ends_train L (run_in r)) (whole L R)
  where
    by : (b : Bool) → whole_of L (parts_of L AtPauses R) ≡ R
        → whole_of L (cond b (part_of [] (Some r) ∷ parts_of L AtPauses R) (onto_part r (parts_of L AtPauses R))) ≡ r ∷ R
    by true rest = ap (λ R. r ∷ R) rest
    by false rest = whole-onto L r (parts_of L AtPauses R) ∙ ap (λ R. r ∷ R) rest

front-heard : (L : Limits) (R : List PlacedRun) → front_of R ++ without_front (heard_placed L R) ≡ heard_placed L R
front-heard L [] = refl
front-heard L (r ∷ R) = refl

all_heard : (plan : Plan) (L : Limits) (R : List PlacedRun) (release : Option PlacedRun)
    → all_parts (attempt_by plan L R release) ≡ heard_placed L R
all_heard plan L R release =
    ap (λ others. front_of R ++ others) (whole L (without_front (heard_placed L R))) ∙ front-heard L R

tells_trains : (plan : Plan) (L : Limits) (R : List PlacedRun) (release : Option PlacedRun)
    → TellsTrains L (attempt_by plan L R release)
tells_trains plan L R release = record {
  trains = trains_of_runs L R;
  timed = timed-alone L R;
  faults = names_faults L (parts_of L AtPauses (without_front (heard_placed L R)));
  parts = all_heard plan L R release;
}

-- each attempt tells its trains
each_tells : (plan : Plan) (L : Limits) (P : List RunsPart)
    → AllByRecursion (TellsTrains L) (attempts_of_parts plan L P)
each_tells plan L [] = tt
each_tells plan L (p ∷ P) = by (has_placed p.inner) (each_tells plan L P)
  where
    by : (b : Bool) → AllByRecursion (TellsTrains L) (attempts_of_parts plan L P)
        → AllByRecursion (TellsTrains L) (cond b (attempt_by plan L p.inner p.last ∷ attempts_of_parts plan L P) (attempts_of_parts plan L P))
    by true rest = (tells_trains plan L p.inner p.last, rest)
    by false rest = rest

-- the attempts of parts are the pieces that are not empty
attempts-alone : (plan : Plan) (L : Limits) (P : List RunsPart)
    → map attempt_alone (attempts_of_parts plan L P) ≡ filter (λ piece. has_runs piece.runs) (map piece_alone P)
attempts-alone plan L [] = refl
attempts-alone plan L (p ∷ P) =
    by (has_placed p.inner) (attempts-alone plan L P)
    ∙ ap (λ b. cond b (piece_alone p ∷ filter (λ piece. has_runs piece.runs) (map piece_alone P))
    (filter (λ piece. has_runs piece.runs) (map piece_alone P))) (has_placed-alone p.inner)
  where
    by : (b : Bool)
        → map attempt_alone (attempts_of_parts plan L P) ≡ filter (λ piece. has_runs piece.runs) (map piece_alone P)
        → map attempt_alone (cond b (attempt_by plan L p.inner p.last ∷ attempts_of_parts plan L P) (attempts_of_parts plan L P))
        ≡ cond b (piece_alone p ∷ filter (λ piece. has_runs piece.runs) (map piece_alone P))
        (filter (λ piece. has_runs piece.runs) (map piece_alone P))
    by true rest = ap (λ A. piece_alone p ∷ A) rest
    by false rest = rest

-- what came of each is what comes of its runs
outcomes-alone : (plan : Plan) (L : Limits) (P : List RunsPart)
    → outcomes_told (attempts_of_parts plan L P)
    ≡ map (λ attempt. outcome_of plan L attempt.runs) (map attempt_alone (attempts_of_parts plan L P))
outcomes-alone plan L [] = refl
outcomes-alone plan L (p ∷ P) = by (has_placed p.inner) (outcomes-alone plan L P)
  where
    others : List AttemptOfRuns
    others = attempts_of_parts plan L P

    by : (b : Bool)
        → outcomes_told others ≡ map (λ attempt. outcome_of plan L attempt.runs) (map attempt_alone others)
        → outcomes_told (cond b (attempt_by plan L p.inner p.last ∷ others) others)
        ≡ map (λ attempt. outcome_of plan L attempt.runs)
        (map attempt_alone (cond b (attempt_by plan L p.inner p.last ∷ others) others))
    by true rest = ap (λ O. outcome_of plan L (map run_in p.inner) ∷ O) rest
    by false rest = rest

-- the signals of digits are those of their trains
digit_signals : (L : Limits) (D : List DigitOfRuns)
    → map (λ digit. digit_signal L (train_in digit)) D ≡ map (digit_signal L) (map train_in D)
digit_signals L [] = refl
digit_signals L (d ∷ D) = ap (λ S. digit_signal L (train_in d) ∷ S) (digit_signals L D)

signals_of_attempt : (L : Limits) (a : AttemptOfRuns) → TellsTrains L a → signals_in L a ≡ attempt_signals L (attempt_alone a)
signals_of_attempt L a tells =
    ap₂ (λ digits timed. Seize ∷ (digits ++ (when timed TimeOut ++ when (is_some a.release) Release)))
    (digit_signals L a.digits ∙ ap (map (digit_signal L)) tells.trains) tells.timed

signals_of_attempts : (L : Limits) (A : List AttemptOfRuns) → AllByRecursion (TellsTrains L) A
    → flat_map (signals_in L) A ≡ flat_map (attempt_signals L) (map attempt_alone A)
signals_of_attempts L [] tell = refl
signals_of_attempts L (a ∷ A) tell =
    ap₂ (λ one others. one ++ others) (signals_of_attempt L a tell.0) (signals_of_attempts L A tell.1)

-- the report of runs that are those of a record
pub tells : (plan : Plan) (L : Limits) (R : List PlacedRun) (record_ : List Run) → map run_in R ≡ joined record_
    → Tells plan L record_ (heard_attempts plan L R)
tells plan L R record_ same =
    let P : List RunsPart = parts_of L AtReleases (without_idle R) in
    let are : map attempt_alone (heard_attempts plan L R) ≡ attempts_of L record_ =
    attempts-alone plan L P
    ∙ ap (filter (λ piece. has_runs piece.runs))
    (pieces-alone L (without_idle R)
    ∙ ap (pieces_of L) (without_idle-alone R ∙ ap without_first_break same)) in
    record {
      outcomes = outcomes-alone plan L P ∙ ap (map (λ attempt. outcome_of plan L attempt.runs)) are;
      signals = ap (λ S. S ++ Close ∷ [])
          (signals_of_attempts L (heard_attempts plan L R) (each_tells plan L P) ∙ ap (flat_map (attempt_signals L)) are);
      attempts_are = are;
      each = each_tells plan L P;
    }
