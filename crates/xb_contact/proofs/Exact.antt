-- Short bounces leave no trace.
use Rattle.std.proofs.Common.{◌≡◌, ℕ, ◌+◌, ◌-◌, ◌<◌, ◌≤◌, List, [], ◌∷◌, ◌++◌, Bool, true, false, Some, None, nat_le, ◌==◌, refl, ap, sym, ◌∙◌, zero-add, add_assoc, append_assoc, arith}
use Rattle.std.proofs.lemmas.Bool.{lt-leb, le-leb, leb-true, leb-false, ne_eqb, eqb-true}
use Rattle.xb_contact.specs.declared.level.Level.{Level}
use Rattle.xb_contact.specs.declared.level.Level.TheVariants.{Open, Closed}
use Rattle.xb_contact.specs.declared.hold.Hold.{Hold}
use Rattle.xb_contact.specs.declared.settling.Stretch.{Stretch}
use Rattle.xb_contact.specs.declared.settling.Phase.{Phase}
use Rattle.xb_contact.specs.declared.settling.Phase.TheVariants.{Settled, Unsettled}
use Rattle.xb_contact.specs.declared.settler.Step.{Step}
use Rattle.xb_contact.specs.Holds.{hold_of, other_level, join, joined, IsAlternating, AllLast}
use Rattle.xb_contact.specs.Machine.{stretch_of, begun, unsettled, step_of, reach, step, at_end, pieces_of, all_given}
use Rattle.xb_contact.specs.Bounces.{Bounce, bounced, Disturbed, bounce_ticks, recorded, clean, AreShort, AllBounceWithin}
use Rattle.xb_contact.specs.SettledLaws.{IsExactUnderBounces, LeavesLongRuns}
use Rattle.xb_contact.proofs.JoinedHolds.{same_level-other, join_sum, join-differs}
use Rattle.xb_contact.proofs.Remaining.{given_from, all_given-cons, take-lasts, take-none, settles_the_record}

-- all that is given, joined
abbrev pub record_given : ℕ → Phase → List Hold → List Hold
record_given least phase holds = joined (all_given least phase holds)

-- what a hold gives that lasts
lasting-gives :
    (least : ℕ) (phase : Phase) (c : Level) (m : ℕ) (later : List Hold) (s : Step) → (m == 0) ≡ false
    → step least phase (hold_of c m) ≡ s
    → record_given least phase (hold_of c m ∷ later) ≡ joined (given_from least s later)
lasting-gives least phase c m later s e k =
    ap joined (all_given-cons least phase (hold_of c m) later)
    ∙ ap (λ taken. joined (given_from least taken later)) (take-lasts least phase (hold_of c m) e ∙ k)

lasts : (m : ℕ) → 0 < m → (m == 0) ≡ false
lasts m h = ne_eqb m 0 (omega arith)

-- a hold that gives all that waits, at its level
gives_all :
    (least : ℕ) (phase : Phase) (c : Level) (m n : ℕ) (later : List Hold) → 0 < m
    → step least phase (hold_of c m) ≡ step_of (Some (hold_of c n)) (Settled c)
    → record_given least phase (hold_of c m ∷ later) ≡ join (hold_of c n) (record_given least (Settled c) later)
gives_all least phase c m n later h e = lasting-gives least phase c m later _ (lasts m h) e

-- a hold that gives nothing
gives_none :
    (least : ℕ) (phase : Phase) (c : Level) (m : ℕ) (s : Stretch) (later : List Hold) → 0 < m
    → step least phase (hold_of c m) ≡ step_of None (Unsettled s)
    → record_given least phase (hold_of c m ∷ later) ≡ record_given least (Unsettled s) later
gives_none least phase c m s later h e = lasting-gives least phase c m later _ (lasts m h) e

-- a run of `least` ticks or more settles
reach-long :
    (least : ℕ) (b : Level) (w : ℕ) (c : Level) (t : ℕ) → least ≤ t
    → reach least b w (hold_of c t) ≡ step_of (Some (hold_of c (w + t))) (Settled c)
reach-long least b w c t h = rw (le-leb least t h)

reach-short :
    (least : ℕ) (b : Level) (w : ℕ) (c : Level) (t : ℕ) → t < least
    → reach least b w (hold_of c t) ≡ step_of None (Unsettled (stretch_of b w (hold_of c t)))
reach-short least b w c t h = rw (lt-leb least t h)

-- so does a hold of so many ticks, in any phase
long_settles :
    (least : ℕ) (phase : Phase) (c : Level) (m : ℕ) → least ≤ m
    → step least phase (hold_of c m) ≡ step_of (Some (hold_of c (unsettled phase + m))) (Settled c)
long_settles least (Settled l) c m h = at l c
  where
    at :
        (l c : Level)
        → step least (Settled l) (hold_of c m) ≡ step_of (Some (hold_of c (0 + m))) (Settled c)
    at Open Open = rw zero-add
    at Closed Closed = rw zero-add
    at Open Closed = reach-long least Open 0 Closed m h
    at Closed Open = reach-long least Closed 0 Open m h
long_settles least (Unsettled s) c m h = at s.run.level c
  where
    longer : (c : Level)
        → reach least s.before s.waiting (hold_of c (s.run.ticks + m))
        ≡ step_of (Some (hold_of c ((s.waiting + s.run.ticks) + m))) (Settled c)
    longer c =
        let k : least ≤ s.run.ticks + m = omega arith in
        rw (reach-long least s.before s.waiting c (s.run.ticks + m) k, add_assoc s.waiting s.run.ticks m)

    at :
        (l c : Level)
        → step least (Unsettled (stretch_of s.before s.waiting (hold_of l s.run.ticks))) (hold_of c m)
        ≡ step_of (Some (hold_of c ((s.waiting + s.run.ticks) + m))) (Settled c)
    at Open Open = longer Open
    at Closed Closed = longer Closed
    at Open Closed = reach-long least s.before (s.waiting + s.run.ticks) Closed m h
    at Closed Open = reach-long least s.before (s.waiting + s.run.ticks) Open m h

-- the beginning of a bounce gives all that waits, or makes it wait at its level
pub data Begins (c : Level) (n : ℕ) (taken : Step) : Type 0 where
  all : taken ≡ step_of (Some (hold_of c n)) (Settled c) → Begins c n taken
  more : (b : Level) (w t : ℕ) → taken ≡ step_of None (Unsettled (stretch_of b w (hold_of c t))) → w + t ≡ n
      → Begins c n taken

reach-begins : (least : ℕ) (b : Level) (w : ℕ) (c : Level) (t : ℕ) → Begins c (w + t) (reach least b w (hold_of c t))
reach-begins least b w c t = by (nat_le least t) refl
  where
    by : (v : Bool) → nat_le least t ≡ v → Begins c (w + t) (reach least b w (hold_of c t))
    by true e = all (reach-long least b w c t (leb-true least t e))
    by false e = more b w t (reach-short least b w c t (leb-false least t e)) refl

bounce_begins :
    (least : ℕ) (phase : Phase) (c : Level) (m : ℕ) → Begins c (unsettled phase + m) (step least phase (hold_of c m))
bounce_begins least (Settled l) c m = at l c
  where
    at : (l c : Level) → Begins c (0 + m) (step least (Settled l) (hold_of c m))
    at Open Open = all (rw zero-add)
    at Closed Closed = all (rw zero-add)
    at Open Closed = reach-begins least Open 0 Closed m
    at Closed Open = reach-begins least Closed 0 Open m
bounce_begins least (Unsettled s) c m = at s.run.level c
  where
    longer : (c : Level)
        → Begins c ((s.waiting + s.run.ticks) + m) (reach least s.before s.waiting (hold_of c (s.run.ticks + m)))
    longer c = rw (add_assoc s.waiting s.run.ticks m) (reach-begins least s.before s.waiting c (s.run.ticks + m))

    at :
        (l c : Level)
        → Begins c ((s.waiting + s.run.ticks) + m)
        (step least (Unsettled (stretch_of s.before s.waiting (hold_of l s.run.ticks))) (hold_of c m))
    at Open Open = longer Open
    at Closed Closed = longer Closed
    at Open Closed = reach-begins least s.before (s.waiting + s.run.ticks) Closed m
    at Closed Open = reach-begins least s.before (s.waiting + s.run.ticks) Open m

-- a short piece of the other level waits, in a phase at this level
leaves_settled :
    (least : ℕ) (c : Level) (m : ℕ) → m < least
    → step least (Settled c) (hold_of (other_level c) m)
    ≡ step_of None (Unsettled (stretch_of c 0 (hold_of (other_level c) m)))
leaves_settled least c m h = rw (same_level-other c, lt-leb least m h)

leaves_waiting :
    (least : ℕ) (b : Level) (w : ℕ) (c : Level) (t m : ℕ) → m < least
    → step least (Unsettled (stretch_of b w (hold_of c t))) (hold_of (other_level c) m)
    ≡ step_of None (Unsettled (stretch_of b (w + t) (hold_of (other_level c) m)))
leaves_waiting least b w c t m h = rw (same_level-other c, lt-leb least m h)

-- a hold of 0 ticks counts for nothing
gives_nothing :
    (least : ℕ) (phase : Phase) (c : Level) (m : ℕ) (later : List Hold) → (m == 0) ≡ true
    → record_given least phase (hold_of c m ∷ later) ≡ record_given least phase later
gives_nothing least phase c m later e =
    ap joined (all_given-cons least phase (hold_of c m) later)
    ∙ ap (λ taken. joined (given_from least taken later)) (take-none least phase (hold_of c m) e)

-- a phase in which as many ticks wait, and that gives what is still to be given
pub record GoesOn (least n : ℕ) (todo : List Hold) (later : List Hold) : Type 0 where
  pub after : Phase
  pub waits : unsettled after ≡ n
  pub same : todo ≡ record_given least after later

-- a piece that is taken and waits
piece_waits :
    (least : ℕ) (phase : Phase) (c : Level) (m : ℕ) (later : List Hold) (s : Stretch)
    → step least phase (hold_of c m) ≡ step_of None (Unsettled s)
    → s.waiting + s.run.ticks ≡ unsettled phase + m
    → GoesOn least (unsettled phase + m) (record_given least phase (hold_of c m ∷ later)) later
piece_waits least phase c m later s e n = by (m == 0) refl
  where
    by :
        (v : Bool) → (m == 0) ≡ v
        → GoesOn least (unsettled phase + m) (record_given least phase (hold_of c m ∷ later)) later
    by true k =
        let zero_ticks : m ≡ 0 = eqb-true m 0 k in
        record { after = phase; waits = omega arith; same = gives_nothing least phase c m later k }
    by false k = record { after = Unsettled s; waits = n; same = lasting-gives least phase c m later _ k e }

-- a bounce: it gives what it holds and leaves the rest to wait, or makes all of it wait
pub data Bounces (least : ℕ) (c : Level) (n m : ℕ) (todo : List Hold) (later : List Hold) : Type 0 where
  gives : (rest : List Hold) → todo ≡ join (hold_of c n) rest → GoesOn least (0 + m) rest later
      → Bounces least c n m todo later
  waits : GoesOn least (n + m) todo later → Bounces least c n m todo later

bounce_taken :
    (least : ℕ) (phase : Phase) (c : Level) (bounce : Bounce) (later : List Hold)
    → 0 < bounce.holds → bounce.leaves < least
    → Bounces least c (unsettled phase + bounce.holds) bounce.leaves
    (record_given least phase (hold_of c bounce.holds ∷ hold_of (other_level c) bounce.leaves ∷ later)) later
bounce_taken least phase c bounce later h short = by (bounce_begins least phase c bounce.holds)
  where
    n : ℕ
    n = unsettled phase + bounce.holds

    leaving : List Hold
    leaving = hold_of (other_level c) bounce.leaves ∷ later

    by :
        Begins c n (step least phase (hold_of c bounce.holds))
        → Bounces least c n bounce.leaves (record_given least phase (hold_of c bounce.holds ∷ leaving)) later
    by (all e) =
        let waiting : Stretch = stretch_of c 0 (hold_of (other_level c) bounce.leaves) in
        gives (record_given least (Settled c) leaving) (gives_all least phase c bounce.holds n leaving h e)
        (piece_waits least (Settled c) (other_level c) bounce.leaves later waiting
        (leaves_settled least c bounce.leaves short) refl)
    by (more b w t e k) =
        let begun_at : Stretch = stretch_of b w (hold_of c t) in
        let waiting : Stretch = stretch_of b (w + t) (hold_of (other_level c) bounce.leaves) in
        let goes_on : GoesOn least ((w + t) + bounce.leaves) (record_given least (Unsettled begun_at) leaving) later =
        piece_waits least (Unsettled begun_at) (other_level c) bounce.leaves later waiting
        (leaves_waiting least b w c t bounce.leaves short) refl in
        waits record {
          after = goes_on.after;
          waits = goes_on.waits ∙ ap (λ ticks. ticks + bounce.leaves) k;
          same = gives_none least phase c bounce.holds begun_at leaving h e ∙ goes_on.same;
        }

-- what a run gives, with the bounces at its beginning
pub bounced_run :
    (least : ℕ) (phase : Phase) (c : Level) (bounces : List Bounce) (m : ℕ) (later : List Hold)
    → AreShort least bounces → least ≤ m → 0 < m
    → record_given least phase (bounced c bounces ++ hold_of c m ∷ later)
    ≡ join (hold_of c (unsettled phase + (bounce_ticks bounces + m))) (record_given least (Settled c) later)
bounced_run least phase c [] m later short h some =
    rw (zero-add m) (gives_all least phase c m (unsettled phase + m) later some (long_settles least phase c m h))
bounced_run least phase c (bounce ∷ bounces) m later short h some =
    by (bounce_taken least phase c bounce rest short.0.0 short.0.1)
    (λ after. bounced_run least after c bounces m later short.1 h some)
  where
    rest : List Hold
    rest = bounced c bounces ++ hold_of c m ∷ later

    settled_after : List Hold
    settled_after = record_given least (Settled c) later

    ticks : ℕ
    ticks = bounce_ticks bounces

    todo : List Hold
    todo = record_given least phase (hold_of c bounce.holds ∷ hold_of (other_level c) bounce.leaves ∷ rest)

    by :
        Bounces least c (unsettled phase + bounce.holds) bounce.leaves todo rest
        → ((after : Phase)
        → record_given least after rest ≡ join (hold_of c (unsettled after + (ticks + m))) settled_after)
        → todo
        ≡ join (hold_of c (unsettled phase + (((bounce.holds + bounce.leaves) + ticks) + m))) settled_after
    by (gives given_later e goes_on) later_is =
        let n : ℕ = unsettled phase + bounce.holds in
        let u : ℕ = unsettled goes_on.after in
        let sum : n + (u + (ticks + m)) ≡ unsettled phase + (((bounce.holds + bounce.leaves) + ticks) + m) =
        omega (arith, goes_on.waits) in
        e ∙ ap (λ R. join (hold_of c n) R) (goes_on.same ∙ later_is goes_on.after)
        ∙ join_sum c n (u + (ticks + m)) settled_after
        ∙ ap (λ k. join (hold_of c k) settled_after) sum
    by (waits goes_on) later_is =
        let u : ℕ = unsettled goes_on.after in
        let sum : u + (ticks + m) ≡ unsettled phase + (((bounce.holds + bounce.leaves) + ticks) + m) =
        omega (arith, goes_on.waits) in
        goes_on.same ∙ later_is goes_on.after ∙ ap (λ k. join (hold_of c k) settled_after) sum

-- a phase in which nothing waits
abbrev pub IsIdle : Phase → Type 0
IsIdle phase = unsettled phase ≡ 0

idle_end : (phase : Phase) → IsIdle phase → pieces_of (at_end phase) ≡ []
idle_end (Settled c) e = refl
idle_end (Unsettled s) e = rw e

-- disturbed runs give the clean ones
pub recorded_given :
    (least most : ℕ) (phase : Phase) (runs : List Disturbed) → 0 < least → IsIdle phase
    → IsAlternating (clean runs) → AllBounceWithin least most runs
    → record_given least phase (recorded runs) ≡ clean runs
recorded_given least most phase [] z idle alternating within = ap joined (idle_end phase idle)
recorded_given least most phase (disturbed ∷ runs) z idle alternating within =
    let c : Level = disturbed.run.level in
    let ticks : ℕ = bounce_ticks disturbed.bounces in
    let m : ℕ = disturbed.run.ticks - ticks in
    let bound : ticks ≤ most = within.0.first in
    let long : least + most ≤ disturbed.run.ticks = within.0.long in
    let h : least ≤ m = omega arith in
    let some : 0 < m = omega arith in
    let sum : unsettled phase + (ticks + m) ≡ disturbed.run.ticks = omega (arith, idle) in
    let later = recorded_given least most (Settled c) runs z refl alternating.1 within.1 in
    ap (λ holds. record_given least phase holds) (append_assoc (bounced c disturbed.bounces) (hold_of c m ∷ []) (recorded runs))
    ∙ bounced_run least phase c disturbed.bounces m (recorded runs) within.0.short h some
    ∙ ap (λ n. join (hold_of c n) (record_given least (Settled c) (recorded runs))) sum
    ∙ ap (λ R. join disturbed.run R) later
    ∙ join-differs disturbed.run (clean runs) alternating.0

pub is_exact_under_bounces : IsExactUnderBounces
is_exact_under_bounces least most first runs z alternating within =
    sym (settles_the_record least z first (recorded runs))
    ∙ recorded_given least most (begun first) runs z refl alternating within

-- long runs give themselves
long_given :
    (least : ℕ) (phase : Phase) (runs : List Hold) → 0 < least → IsIdle phase
    → IsAlternating runs → AllLast least runs
    → record_given least phase runs ≡ runs
long_given least phase [] z idle alternating long = ap joined (idle_end phase idle)
long_given least phase (run ∷ runs) z idle alternating long =
    let some : 0 < run.ticks = omega (arith, long.0) in
    let sum : unsettled phase + run.ticks ≡ run.ticks = omega (arith, idle) in
    let later = long_given least (Settled run.level) runs z refl alternating.1 long.1 in
    gives_all least phase run.level run.ticks (unsettled phase + run.ticks) runs some
    (long_settles least phase run.level run.ticks long.0)
    ∙ ap (λ n. join (hold_of run.level n) (record_given least (Settled run.level) runs)) sum
    ∙ ap (λ R. join run R) later
    ∙ join-differs run runs alternating.0

pub leaves_long_runs : LeavesLongRuns
leaves_long_runs least first runs z alternating long =
    sym (settles_the_record least z first runs) ∙ long_given least (begun first) runs z refl alternating long
