-- The runs of a line alternate, so each of its trains begins with a break.
use Rattle.std.proofs.Common.{◌≡◌, ◌==◌, ℕ, ◌+◌, ◌<◌, ◌≤◌, List, [], ◌∷◌, Bool, true, false, ◌||◌, cond, nat_lt, refl, sym, ap, ◌∙◌, arith, Some, None, Option, subst}
use Rattle.std.specs.Prelude.{is_none}
use Rattle.std.specs.List.{AllByRecursion}
use Rattle.std.proofs.lemmas.Bool.{ltb-true, ltb-false, le-leb, lt-leb}
use Rattle.xb_model.specs.declared.row.Contact.{Contact}
use Rattle.xb_model.specs.declared.row.Contact.TheVariants.{Make, Brk, Close}
use Rattle.xb_model.specs.declared.limits.Limits.{Limits}
use Rattle.xb_model.specs.declared.signal.TheConstants.{MOST_PULSES}
use Rattle.xb_model.specs.declared.plan.Plan.{Plan}
use Rattle.xb_model.specs.Rows.{LoopRow}
use Rattle.xb_model.specs.Records.{run_of, same_contact, is_close, is_release, ends_train}
use Rattle.xb_model.specs.Signals.{breaks_in, is_bad_train}
use Rattle.xb_model.specs.Numbers.{digit_of_count}
use Rattle.xb_heard.specs.declared.run.PlacedRun.{PlacedRun}
use Rattle.xb_heard.specs.declared.parts.Cut.TheVariants.{AtReleases, AtPauses}
use Rattle.xb_heard.specs.PlacedRuns.{placed, run_in, placed_from, join_placed, joined_placed, placed_runs}
use Rattle.xb_heard.specs.Parts.{RunsPart, part_of, onto_part, parts_of, times_out, heard_placed, without_idle, without_front, has_placed}
use Rattle.xb_heard.specs.Faults.{breaks_among}
use Rattle.xb_heard.specs.Digits.{DigitOfRuns, digits_of_parts, digits_of, train_in}
use Rattle.xb_heard.specs.Attempts.{attempt_by, attempts_of_parts}
use Rattle.xb_heard.specs.Report.{NamesItsFault}
use Rattle.xb_heard.specs.Mutilated.{IsTakenAsNamed, MutilatedIsNamed}
use Rattle.xb_heard.proofs.PlacedRuns.{same-equal}
use Rattle.xb_heard.proofs.Stories.{breaks-alone, names_faults}

-- a run of this contact is followed by one of another, or by none
abbrev Differs : Contact → List PlacedRun → Type 0
Differs c [] = Unit {0}
Differs c (q ∷ R) = same_contact c q.contact ≡ false

-- makes and breaks in turn
abbrev Alternates : List PlacedRun → Type 0
Alternates [] = Unit {0}
Alternates (r ∷ R) = (is_close r.contact ≡ false) × Differs r.contact R × Alternates R

-- a break comes first, or nothing does; a make
abbrev StartsOpen : List PlacedRun → Type 0
StartsOpen [] = Unit {0}
StartsOpen (r ∷ R) = r.contact ≡ Brk

abbrev StartsMade : List PlacedRun → Type 0
StartsMade [] = Unit {0}
StartsMade (r ∷ R) = r.contact ≡ Make

other_than_make : (c : Contact) → is_close c ≡ false → same_contact Make c ≡ false → c ≡ Brk
other_than_make Make clear other = cc
other_than_make Brk clear other = refl
other_than_make Close clear other = cc

other_than_break : (c : Contact) → is_close c ≡ false → same_contact Brk c ≡ false → c ≡ Make
other_than_break Make clear other = refl
other_than_break Brk clear other = cc
other_than_break Close clear other = cc

open_after : (c : Contact) (R : List PlacedRun) → c ≡ Make → Differs c R → Alternates R → StartsOpen R
open_after c [] is differs turns = tt
open_after c (q ∷ R) is differs turns =
    other_than_make q.contact turns.0 (ap (λ k. same_contact k q.contact) (sym is) ∙ differs)

made_after : (c : Contact) (R : List PlacedRun) → c ≡ Brk → Differs c R → Alternates R → StartsMade R
made_after c [] is differs turns = tt
made_after c (q ∷ R) is differs turns =
    other_than_break q.contact turns.0 (ap (λ k. same_contact k q.contact) (sym is) ∙ differs)

-- the runs of rows have no close
abbrev NoCloses : List PlacedRun → Type 0
NoCloses runs = AllByRecursion (λ run. is_close run.contact ≡ false) runs

no_closes : (l n t : ℕ) (rows : List LoopRow) → NoCloses (placed_from l n t rows)
no_closes l n t [] = tt
no_closes l n t (row ∷ rows) =
    by (row.line == l) (is_close row.contact) (row.ms == 0) refl
    (no_closes l (n + 1) t rows) (no_closes l (n + 1) (t + row.ms) rows)
  where
    by : (on closed none : Bool) → is_close row.contact ≡ closed
        → NoCloses (placed_from l (n + 1) t rows) → NoCloses (placed_from l (n + 1) (t + row.ms) rows)
        → NoCloses (cond on (cond closed [] (cond none (placed_from l (n + 1) t rows)
        (placed row.contact row.ms t n ∷ placed_from l (n + 1) (t + row.ms) rows))) (placed_from l (n + 1) t rows))
    by true true none e a b = tt
    by true false true e a b = a
    by true false false e a b = (e, b)
    by false closed none e a b = a

-- joined runs alternate
join_alternates : (r : PlacedRun) (R : List PlacedRun) → is_close r.contact ≡ false → Alternates R
    → Alternates (join_placed r R)
join_alternates r [] clear turns = (clear, tt, tt)
join_alternates r (q ∷ R) clear turns = by (same_contact r.contact q.contact) refl
  where
    by : (b : Bool) → same_contact r.contact q.contact ≡ b
        → Alternates (cond b (placed r.contact (r.ms + q.ms) r.start r.first_record ∷ R) (r ∷ q ∷ R))
    by true e = (clear, subst (λ c. Differs c R) (sym (same-equal r.contact q.contact e)) turns.1, turns.2)
    by false e = (clear, e, turns)

joined_alternates : (R : List PlacedRun) → NoCloses R → Alternates (joined_placed R)
joined_alternates [] clear = tt
joined_alternates (r ∷ R) clear = join_alternates r (joined_placed R) clear.0 (joined_alternates R clear.1)

-- a digit has a pulse
abbrev HasPulse : DigitOfRuns → Type 0
HasPulse digit = 1 ≤ breaks_among digit.pulses

abbrev AllPulse : List DigitOfRuns → Type 0
AllPulse digits = AllByRecursion HasPulse digits

abbrev LaterPulse : List DigitOfRuns → Type 0
LaterPulse [] = Unit {0}
LaterPulse (digit ∷ digits) = AllPulse digits

-- a break before the first part, or any run
module _ (L : Limits) (r : PlacedRun) where
  digits_onto-later : (P : List RunsPart) → LaterPulse (digits_of_parts L P) → LaterPulse (digits_of_parts L (onto_part r P))
  digits_onto-later [] later = tt
  digits_onto-later (p ∷ P) later = by p.last later
    where
      by : (last : Option PlacedRun) → LaterPulse (digits_of_parts L (part_of p.inner last ∷ P))
          → LaterPulse (digits_of_parts L (part_of (r ∷ p.inner) last ∷ P))
      by None later = tt
      by (Some pause) later = later

  digits_onto-all : (P : List RunsPart) → r.contact ≡ Brk → LaterPulse (digits_of_parts L P)
      → AllPulse (digits_of_parts L (onto_part r P))
  digits_onto-all [] is later = tt
  digits_onto-all (p ∷ P) is later = by p.last later
    where
      counted : 1 ≤ breaks_among (r ∷ p.inner)
      counted = subst (λ c. 1 ≤ breaks_among (placed c r.ms r.start r.first_record ∷ p.inner)) (sym is) (omega arith)

      by : (last : Option PlacedRun) → LaterPulse (digits_of_parts L (part_of p.inner last ∷ P))
          → AllPulse (digits_of_parts L (part_of (r ∷ p.inner) last ∷ P))
      by None later = tt
      by (Some pause) later = (counted, later)

-- what ends a train is a make, and what releases is a break
pause_is_make : (L : Limits) (c : Contact) (ms : ℕ) → ends_train L (run_of c ms) ≡ true → c ≡ Make
pause_is_make L Make ms e = refl
pause_is_make L Brk ms e = cc
pause_is_make L Close ms e = cc

release_is_break : (L : Limits) (c : Contact) (ms : ℕ) → is_release L (run_of c ms) ≡ true → c ≡ Brk
release_is_break L Make ms e = cc
release_is_break L Brk ms e = refl
release_is_break L Close ms e = cc

-- each digit but the first has a pulse, and the first too where a break comes first
record Pulses (L : Limits) (R : List PlacedRun) : Type 0 where
  later : LaterPulse (digits_of_parts L (parts_of L AtPauses R))
  all : StartsOpen R → AllPulse (digits_of_parts L (parts_of L AtPauses R))

pulses_of : (L : Limits) (R : List PlacedRun) → Alternates R → Pulses L R
pulses_of L [] turns = record { later = tt; all = λ first. tt }
pulses_of L (r ∷ R) turns = by (ends_train L (run_in r)) refl (pulses_of L R turns.2)
  where
    by : (b : Bool) → ends_train L (run_in r) ≡ b → Pulses L R → Pulses L (r ∷ R)
    by true e rest =
        let is : r.contact ≡ Make = pause_is_make L r.contact r.ms e in
        let others = rest.all (open_after r.contact R is turns.1 turns.2) in
        record {
          later = rw e others;
          all = λ first. let both : Make ≡ Brk = sym is ∙ first in cc;
        }
    by false e rest = record {
      later = rw e (digits_onto-later L r (parts_of L AtPauses R) rest.later);
      all = λ first. rw e (digits_onto-all L r (parts_of L AtPauses R) first rest.later);
    }

-- what is heard alternates as the attempt does
heard_alternates : (L : Limits) (R : List PlacedRun) → Alternates R → Alternates (heard_placed L R)
heard_alternates L [] turns = tt
heard_alternates L (r ∷ R) turns = (turns.0, by (times_out L r) R turns.1, rest (times_out L r) (heard_alternates L R turns.2))
  where
    by : (b : Bool) (R : List PlacedRun) → Differs r.contact R → Differs r.contact (cond b [] (heard_placed L R))
    by true R differs = tt
    by false [] differs = tt
    by false (q ∷ R) differs = differs

    rest : (b : Bool) → Alternates (heard_placed L R) → Alternates (cond b [] (heard_placed L R))
    rest true turns = tt
    rest false turns = turns

-- the runs after the first make of an attempt
after_first_make : (L : Limits) (R : List PlacedRun) → Alternates R → StartsMade R
    → Alternates (without_front (heard_placed L R)) × StartsOpen (without_front (heard_placed L R))
after_first_make L [] turns made = (tt, tt)
after_first_make L (r ∷ R) turns made =
    let heard = heard_alternates L (r ∷ R) turns in
    (heard.2, open_after r.contact _ made heard.1 heard.2)

-- so each digit of an attempt has a pulse
digits_have_pulses : (L : Limits) (R : List PlacedRun) → Alternates R → StartsMade R → AllPulse (digits_of L R)
digits_have_pulses L R turns made =
    let after = after_first_make L R turns made in
    (pulses_of L (without_front (heard_placed L R)) after.0).all after.1

-- a part is that of an attempt
abbrev IsAttempt : RunsPart → Type 0
IsAttempt part = Alternates part.inner × StartsMade part.inner

-- the runs of the first part
abbrev front_of : List RunsPart → List PlacedRun
front_of [] = []
front_of (part ∷ parts) = part.inner

abbrev LaterAttempts : List RunsPart → Type 0
LaterAttempts [] = Unit {0}
LaterAttempts (part ∷ parts) = AllByRecursion IsAttempt parts

-- the first part alternates and begins as the runs do, and the others are those of attempts
record Cuts (L : Limits) (R : List PlacedRun) : Type 0 where
  front : Alternates (front_of (parts_of L AtReleases R))
  follows : (c : Contact) → Differs c R → Differs c (front_of (parts_of L AtReleases R))
  begins : StartsMade R → StartsMade (front_of (parts_of L AtReleases R))
  later : LaterAttempts (parts_of L AtReleases R)

all_attempts : (P : List RunsPart) → Alternates (front_of P) → StartsMade (front_of P) → LaterAttempts P
    → AllByRecursion IsAttempt P
all_attempts [] front made later = tt
all_attempts (p ∷ P) front made later = ((front, made), later)

module _ (r : PlacedRun) where
  front-onto : (P : List RunsPart) → front_of (onto_part r P) ≡ r ∷ front_of P
  front-onto [] = refl
  front-onto (p ∷ P) = refl

  later-onto : (P : List RunsPart) → LaterAttempts P → LaterAttempts (onto_part r P)
  later-onto [] later = tt
  later-onto (p ∷ P) later = later

cuts_of : (L : Limits) (R : List PlacedRun) → Alternates R → Cuts L R
cuts_of L [] turns = record { front = tt; follows = λ c differs. tt; begins = λ made. tt; later = tt }
cuts_of L (r ∷ R) turns = by (is_release L (run_in r)) refl (cuts_of L R turns.2)
  where
    by : (b : Bool) → is_release L (run_in r) ≡ b → Cuts L R → Cuts L (r ∷ R)
    by true e rest =
        let is : r.contact ≡ Brk = release_is_break L r.contact r.ms e in
        let made = rest.begins (made_after r.contact R is turns.1 turns.2) in
        let others = all_attempts (parts_of L AtReleases R) rest.front made rest.later in
        record {
          front = rw e tt;
          follows = λ c differs. rw e tt;
          begins = λ first. rw e tt;
          later = rw e others;
        }
    by false e rest =
        let P = parts_of L AtReleases R in
        record {
          front = rw (e, front-onto r P) (turns.0, rest.follows r.contact turns.1, rest.front);
          follows = λ c differs. rw (e, front-onto r P) differs;
          begins = λ first. rw (e, front-onto r P) first;
          later = rw e (later-onto r P rest.later);
        }

-- without idle time the runs of a line begin in a make
without_idle_begins : (R : List PlacedRun) → Alternates R → Alternates (without_idle R) × StartsMade (without_idle R)
without_idle_begins [] turns = (tt, tt)
without_idle_begins (r ∷ R) turns = at r.contact refl
  where
    at : (c : Contact) → r.contact ≡ c
        → Alternates (cond (same_contact c Brk) R (r ∷ R)) × StartsMade (cond (same_contact c Brk) R (r ∷ R))
    at Make is = (turns, is)
    at Brk is = (turns.2, made_after r.contact R is turns.1 turns.2)
    at Close is = absurd (let clear : is_close Close ≡ false = ap is_close (sym is) ∙ turns.0 in cc)

-- a digit with a pulse is mutilated where it is spoiled
taken : (n : ℕ) (bad : Bool) → 1 ≤ n → is_none (digit_of_count n bad) ≡ (bad || nat_lt MOST_PULSES n)
taken n true some = refl
taken n false some = by (nat_lt MOST_PULSES n) refl
  where
    by : (b : Bool) → nat_lt MOST_PULSES n ≡ b → is_none (digit_of_count n false) ≡ b
    by true e =
        let over : MOST_PULSES < n = ltb-true _ _ e in
        rw (le-leb 1 n some, lt-leb n MOST_PULSES over) refl
    by false e =
        let under : n ≤ MOST_PULSES = ltb-false _ _ e in
        rw (le-leb 1 n some, le-leb n MOST_PULSES under) refl

taken_as_named : (L : Limits) (d : DigitOfRuns) → HasPulse d → NamesItsFault L d → IsTakenAsNamed L d
taken_as_named L d pulse names =
    let some : 1 ≤ breaks_in (train_in d) = subst (λ n. 1 ≤ n) (breaks-alone d.pulses) pulse in
    taken (breaks_in (train_in d)) (is_bad_train L (train_in d)) some ∙ sym names.named

all_taken : (L : Limits) (D : List DigitOfRuns) → AllPulse D → AllByRecursion (NamesItsFault L) D
    → AllByRecursion (IsTakenAsNamed L) D
all_taken L [] pulses names = tt
all_taken L (d ∷ D) pulses names = (taken_as_named L d pulses.0 names.0, all_taken L D pulses.1 names.1)

attempts_taken : (plan : Plan) (L : Limits) (P : List RunsPart) → AllByRecursion IsAttempt P
    → AllByRecursion (λ attempt. AllByRecursion (IsTakenAsNamed L) attempt.digits) (attempts_of_parts plan L P)
attempts_taken plan L [] are = tt
attempts_taken plan L (p ∷ P) are = by (has_placed p.inner) (attempts_taken plan L P are.1)
  where
    here : AllByRecursion (IsTakenAsNamed L) (digits_of L p.inner)
    here = all_taken L (digits_of L p.inner) (digits_have_pulses L p.inner are.0.0 are.0.1)
        (names_faults L (parts_of L AtPauses (without_front (heard_placed L p.inner))))

    by : (b : Bool)
        → AllByRecursion (λ attempt. AllByRecursion (IsTakenAsNamed L) attempt.digits) (attempts_of_parts plan L P)
        → AllByRecursion (λ attempt. AllByRecursion (IsTakenAsNamed L) attempt.digits)
        (cond b (attempt_by plan L p.inner p.last ∷ attempts_of_parts plan L P) (attempts_of_parts plan L P))
    by true rest = (here, rest)
    by false rest = rest

-- a digit of the report of a line is mutilated exactly where something is named
pub mutilated_is_named : MutilatedIsNamed
mutilated_is_named plan L l rows =
    let R : List PlacedRun = placed_runs l rows in
    let turns = joined_alternates (placed_from l 1 0 rows) (no_closes l 1 0 rows) in
    let begins = without_idle_begins R turns in
    let cut = cuts_of L (without_idle R) begins.0 in
    attempts_taken plan L (parts_of L AtReleases (without_idle R))
    (all_attempts (parts_of L AtReleases (without_idle R)) cut.front (cut.begins begins.1) cut.later)
