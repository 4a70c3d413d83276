-- Runs in which makes that are too short to seize are breaks.
use Rattle.std.proofs.Common.{◌≡◌, ℕ, ◌+◌, ◌-◌, ◌<◌, ◌≤◌, List, [], ◌∷◌, Bool, true, false, cond, nat_lt, ◌==◌, ◌⊎◌, inl, inr, refl, ap, sym, ◌∙◌, arith}
use Rattle.std.proofs.lemmas.Bool.{and_from, and_left, and_right, eq-eqb, le-ltb, lt-ltb, ne_eqb}
use Rattle.xb_contact.specs.declared.level.Level.{Level}
use Rattle.xb_contact.specs.declared.level.Level.TheVariants.{Open, Closed}
use Rattle.xb_contact.specs.declared.hold.Hold.{Hold}
use Rattle.xb_contact.specs.Holds.{hold_of, joined, lasting, runs_of, total_of}
use Rattle.xb_contact.specs.Seizures.{all_seize, is_short_on_hook, seizures}
use Rattle.xb_contact.specs.SeizingLaws.{KeepsAllTime, LeavesAllAtZero, LeavesSeizures}
use Rattle.xb_contact.proofs.JoinedHolds.{left, taken_in}
use Rattle.xb_contact.proofs.JoinedRuns.{added, added_sum, runs_of-cons, runs_of-joined}
use Rattle.xb_contact.proofs.Records.{total_of-runs}

-- holds before others
pub runs_cong :
    (h : Hold) (X Y : List Hold) → runs_of X ≡ runs_of Y → runs_of (h ∷ X) ≡ runs_of (h ∷ Y)
runs_cong h X Y e = runs_of-cons h X ∙ ap (added h) e ∙ sym (runs_of-cons h Y)

pub runs_sum :
    (c : Level) (a b : ℕ) (X : List Hold)
    → runs_of (hold_of c a ∷ hold_of c b ∷ X) ≡ runs_of (hold_of c (a + b) ∷ X)
runs_sum c a b X =
    runs_of-cons (hold_of c a) (hold_of c b ∷ X)
    ∙ ap (added (hold_of c a)) (runs_of-cons (hold_of c b) X)
    ∙ added_sum c a b (runs_of X)
    ∙ sym (runs_of-cons (hold_of c (a + b)) X)

-- a make on hook that is too short, and any other one
test_short : (least lacks m : ℕ) → lacks ≡ 0 → m < least → is_short_on_hook least lacks m ≡ true
test_short least lacks m none short = and_from (lacks == 0) (nat_lt m least) (eq-eqb lacks 0 none) (lt-ltb m least short)

test_long : (least lacks m : ℕ) → (0 < lacks) ⊎ (least ≤ m) → is_short_on_hook least lacks m ≡ false
test_long least lacks m (inl off) =
    and_left (lacks == 0) (nat_lt m least) (ne_eqb lacks 0 (omega (arith, off)))
test_long least lacks m (inr long) = and_right (lacks == 0) (nat_lt m least) (le-ltb m least long)

pub short_make :
    (least release lacks m : ℕ) (L : List Hold) → lacks ≡ 0 → m < least
    → seizures least release lacks (hold_of Closed m ∷ L) ≡ hold_of Open m ∷ seizures least release lacks L
short_make least release lacks m L none short =
    ap (λ b. cond b (hold_of Open m ∷ seizures least release lacks L) (hold_of Closed m ∷ seizures least release release L))
    (test_short least lacks m none short)

pub long_make :
    (least release lacks m : ℕ) (L : List Hold) → (0 < lacks) ⊎ (least ≤ m)
    → seizures least release lacks (hold_of Closed m ∷ L) ≡ hold_of Closed m ∷ seizures least release release L
long_make least release lacks m L long =
    ap (λ b. cond b (hold_of Open m ∷ seizures least release lacks L) (hold_of Closed m ∷ seizures least release release L))
    (test_long least lacks m long)

-- a break that goes on in the runs to come
pub break_goes_on :
    (least release lacks : ℕ) (R : List Hold)
    → runs_of (seizures least release lacks R)
    ≡ runs_of (hold_of Open (taken_in Open R) ∷ seizures least release (lacks - taken_in Open R) (left Open R))
break_goes_on least release lacks [] = refl
break_goes_on least release lacks (q ∷ R) = at q.level
  where
    at :
        (c : Level)
        → runs_of (seizures least release lacks (hold_of c q.ticks ∷ R))
        ≡ runs_of (hold_of Open (taken_in Open (hold_of c q.ticks ∷ R))
        ∷ seizures least release (lacks - taken_in Open (hold_of c q.ticks ∷ R)) (left Open (hold_of c q.ticks ∷ R)))
    at Open = refl
    at Closed =
        let same : lacks ≡ lacks - 0 = omega arith in
        ap (λ n. runs_of (seizures least release n (hold_of Closed q.ticks ∷ R))) same

-- a make that goes on, once the line is off hook
pub make_goes_on :
    (least release : ℕ) (R : List Hold) → 0 < release
    → runs_of (seizures least release release R)
    ≡ runs_of (hold_of Closed (taken_in Closed R) ∷ seizures least release release (left Closed R))
make_goes_on least release [] some = refl
make_goes_on least release (q ∷ R) some = at q.level
  where
    at :
        (c : Level)
        → runs_of (seizures least release release (hold_of c q.ticks ∷ R))
        ≡ runs_of (hold_of Closed (taken_in Closed (hold_of c q.ticks ∷ R))
        ∷ seizures least release release (left Closed (hold_of c q.ticks ∷ R)))
    at Open = refl
    at Closed = ap runs_of (long_make least release release q.ticks R (inl some))

-- time
seizures-time : (least release lacks : ℕ) (R : List Hold) → total_of (seizures least release lacks R) ≡ total_of R
seizures-time least release lacks [] = refl
seizures-time least release lacks (run ∷ R) =
    at run.level (seizures-time least release (lacks - run.ticks) R) (seizures-time least release lacks R)
    (seizures-time least release release R)
  where
    by :
        (b : Bool) → total_of (seizures least release lacks R) ≡ total_of R
        → total_of (seizures least release release R) ≡ total_of R
        → total_of (cond b (hold_of Open run.ticks ∷ seizures least release lacks R)
        (hold_of Closed run.ticks ∷ seizures least release release R)) ≡ run.ticks + total_of R
    by true short long = ap (λ n. run.ticks + n) short
    by false short long = ap (λ n. run.ticks + n) long

    at :
        (c : Level) → total_of (seizures least release (lacks - run.ticks) R) ≡ total_of R
        → total_of (seizures least release lacks R) ≡ total_of R
        → total_of (seizures least release release R) ≡ total_of R
        → total_of (seizures least release lacks (hold_of c run.ticks ∷ R)) ≡ run.ticks + total_of R
    at Open opened short long = ap (λ n. run.ticks + n) opened
    at Closed opened short long = by (is_short_on_hook least lacks run.ticks) short long

pub keeps_all_time : KeepsAllTime
keeps_all_time least release holds =
    total_of-runs (seizures least release 0 (runs_of holds))
    ∙ seizures-time least release 0 (runs_of holds)
    ∙ total_of-runs holds

-- makes that last long enough
all-stay :
    (least release lacks : ℕ) (R : List Hold) → all_seize least release lacks R ≡ true
    → seizures least release lacks R ≡ R
all-stay least release lacks [] all = refl
all-stay least release lacks (run ∷ R) all =
    at run.level (all-stay least release (lacks - run.ticks) R) (all-stay least release release R) all
  where
    by :
        (b : Bool) → (all_seize least release release R ≡ true → seizures least release release R ≡ R)
        → cond b false (all_seize least release release R) ≡ true
        → cond b (hold_of Open run.ticks ∷ seizures least release lacks R)
        (hold_of Closed run.ticks ∷ seizures least release release R) ≡ hold_of Closed run.ticks ∷ R
    by true long e = cc
    by false long e = ap (λ rest. hold_of Closed run.ticks ∷ rest) (long e)

    at :
        (c : Level)
        → (all_seize least release (lacks - run.ticks) R ≡ true → seizures least release (lacks - run.ticks) R ≡ R)
        → (all_seize least release release R ≡ true → seizures least release release R ≡ R)
        → all_seize least release lacks (hold_of c run.ticks ∷ R) ≡ true
        → seizures least release lacks (hold_of c run.ticks ∷ R) ≡ hold_of c run.ticks ∷ R
    at Open opened long e = ap (λ rest. hold_of Open run.ticks ∷ rest) (opened e)
    at Closed opened long e = by (is_short_on_hook least lacks run.ticks) long e

lasting-lasting : (holds : List Hold) → lasting (lasting holds) ≡ lasting holds
lasting-lasting [] = refl
lasting-lasting (h ∷ hs) = by (h.ticks == 0) refl (lasting-lasting hs)
  where
    by :
        (b : Bool) → (h.ticks == 0) ≡ b → lasting (lasting hs) ≡ lasting hs
        → lasting (cond b (lasting hs) (h ∷ lasting hs)) ≡ cond b (lasting hs) (h ∷ lasting hs)
    by true e later = later
    by false e later =
        ap (λ t. cond t (lasting (lasting hs)) (h ∷ lasting (lasting hs))) e ∙ ap (λ R. h ∷ R) later

pub runs_of-runs : (holds : List Hold) → runs_of (runs_of holds) ≡ runs_of holds
runs_of-runs holds = runs_of-joined (lasting holds) ∙ ap joined (lasting-lasting holds)

pub leaves_seizures : LeavesSeizures
leaves_seizures least release holds all =
    ap runs_of (all-stay least release 0 (runs_of holds) all) ∙ runs_of-runs holds

none_too_short : (release lacks : ℕ) (R : List Hold) → all_seize 0 release lacks R ≡ true
none_too_short release lacks [] = refl
none_too_short release lacks (run ∷ R) =
    at run.level (none_too_short release (lacks - run.ticks) R) (none_too_short release release R)
  where
    at :
        (c : Level) → all_seize 0 release (lacks - run.ticks) R ≡ true → all_seize 0 release release R ≡ true
        → all_seize 0 release lacks (hold_of c run.ticks ∷ R) ≡ true
    at Open opened long = opened
    at Closed opened long =
        ap (λ b. cond b false (all_seize 0 release release R)) (test_long 0 lacks run.ticks (inr (omega arith))) ∙ long

pub leaves_all_at_zero : LeavesAllAtZero
leaves_all_at_zero release holds = leaves_seizures 0 release holds (none_too_short release 0 (runs_of holds))
