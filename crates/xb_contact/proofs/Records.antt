-- The settled record has the recording's time, and long runs that alternate.
use Rattle.std.proofs.Common.{◌≡◌, ℕ, ◌+◌, ◌<◌, ◌≤◌, List, [], ◌∷◌, Bool, true, false, cond, nat_le, ◌==◌, ◌⊎◌, inl, inr, refl, ap, sym, ◌∙◌, zero-add, add_assoc, arith}
use Rattle.std.proofs.lemmas.Bool.{leb-true, eqb-true, eqb-false, ne_eqb}
use Rattle.xb_contact.specs.declared.level.Level.{Level}
use Rattle.xb_contact.specs.declared.level.Level.TheVariants.{Open, Closed}
use Rattle.xb_contact.specs.declared.hold.Hold.{Hold}
use Rattle.xb_contact.specs.Holds.{hold_of, same_level, join, joined, lasting, runs_of, total_of, IsAlternating, AllLast}
use Rattle.xb_contact.specs.Settled.{gathered, settled}
use Rattle.xb_contact.specs.SettledLaws.{IsSettledForGood, KeepsTime, HasLongRuns, HasRuns, IsOneRun}
use Rattle.xb_contact.proofs.JoinedHolds.{same_level-refl}
use Rattle.xb_contact.proofs.Exact.{leaves_long_runs}

-- time

total_of-join_by :
    (h g : Hold) (R : List Hold) (b : Bool)
    → total_of (cond b (hold_of h.level (h.ticks + g.ticks) ∷ R) (h ∷ g ∷ R)) ≡ h.ticks + (g.ticks + total_of R)
total_of-join_by h g R true = add_assoc h.ticks g.ticks (total_of R)
total_of-join_by h g R false = refl

total_of-join : (h : Hold) (R : List Hold) → total_of (join h R) ≡ h.ticks + total_of R
total_of-join h [] = refl
total_of-join h (g ∷ R) = total_of-join_by h g R (same_level h.level g.level)

pub total_of-joined : (holds : List Hold) → total_of (joined holds) ≡ total_of holds
total_of-joined [] = refl
total_of-joined (h ∷ hs) = total_of-join h (joined hs) ∙ ap (λ n. h.ticks + n) (total_of-joined hs)

total_of-lasting_by :
    (h : Hold) (hs : List Hold) (b : Bool) → (h.ticks == 0) ≡ b
    → total_of (cond b (lasting hs) (h ∷ lasting hs)) ≡ h.ticks + total_of (lasting hs)
total_of-lasting_by h hs true e =
    let none : h.ticks ≡ 0 = eqb-true h.ticks 0 e in
    sym (ap (λ n. n + total_of (lasting hs)) none ∙ zero-add (total_of (lasting hs)))
total_of-lasting_by h hs false e = refl

pub total_of-lasting : (holds : List Hold) → total_of (lasting holds) ≡ total_of holds
total_of-lasting [] = refl
total_of-lasting (h ∷ hs) =
    total_of-lasting_by h hs (h.ticks == 0) refl ∙ ap (λ n. h.ticks + n) (total_of-lasting hs)

pub total_of-runs : (holds : List Hold) → total_of (runs_of holds) ≡ total_of holds
total_of-runs holds = total_of-joined (lasting holds) ∙ total_of-lasting holds

-- what waits and what comes are gathered
total_of-gathered :
    (least : ℕ) (b : Level) (w : ℕ) (R : List Hold) → total_of (gathered least b w R) ≡ w + total_of R
total_of-gathered least b w [] = by (w == 0) refl
  where
    by : (v : Bool) → (w == 0) ≡ v → total_of (cond v [] (hold_of b w ∷ [])) ≡ w + 0
    by true e = let none : w ≡ 0 = eqb-true w 0 e in omega arith
    by false e = refl
total_of-gathered least b w (run ∷ R) =
    by (nat_le least run.ticks) (total_of-gathered least run.level 0 R)
    (total_of-gathered least b (w + run.ticks) R)
  where
    by :
        (v : Bool)
        → total_of (gathered least run.level 0 R) ≡ 0 + total_of R
        → total_of (gathered least b (w + run.ticks) R) ≡ (w + run.ticks) + total_of R
        → total_of
        (cond v (hold_of run.level (w + run.ticks) ∷ gathered least run.level 0 R) (gathered least b (w + run.ticks) R))
        ≡ w + (run.ticks + total_of R)
    by true long short = omega (arith, long)
    by false long short = omega (arith, short)

pub keeps_time : KeepsTime
keeps_time least first holds =
    total_of-joined (gathered least first 0 (runs_of holds))
    ∙ total_of-gathered least first 0 (runs_of holds)
    ∙ zero-add (total_of (runs_of holds))
    ∙ total_of-joined (lasting holds)
    ∙ total_of-lasting holds

-- long runs

last_by :
    (least : ℕ) (c : Level) (n : ℕ) (g : Hold) (R : List Hold) (b : Bool)
    → least ≤ n → least ≤ g.ticks → AllLast least R
    → AllLast least (cond b (hold_of c (n + g.ticks) ∷ R) (hold_of c n ∷ g ∷ R))
last_by least c n g R true h k all = (omega arith, all)
last_by least c n g R false h k all = (h, (k, all))

-- a long run in front of long runs
pub AllLast-join :
    (least : ℕ) (c : Level) (n : ℕ) (R : List Hold) → least ≤ n → AllLast least R
    → AllLast least (join (hold_of c n) R)
AllLast-join least c n [] h all = (h, tt)
AllLast-join least c n (g ∷ R) h all = last_by least c n g R (same_level c g.level) h all.0 all.1

-- what is gathered after a long run has long runs
AllLast-gathered :
    (least : ℕ) (c : Level) (n w : ℕ) (R : List Hold) → least ≤ n
    → AllLast least (join (hold_of c n) (joined (gathered least c w R)))
AllLast-gathered least c n w [] h = by (w == 0)
  where
    by : (v : Bool) → AllLast least (join (hold_of c n) (joined (cond v [] (hold_of c w ∷ []))))
    by true = (h, tt)
    by false = rw (same_level-refl c) (omega arith, tt)
AllLast-gathered least c n w (run ∷ R) h =
    by (nat_le least run.ticks) refl (λ k. AllLast-gathered least run.level (w + run.ticks) 0 R k)
    (AllLast-gathered least c n (w + run.ticks) R h)
  where
    long : List Hold
    long = hold_of run.level (w + run.ticks) ∷ gathered least run.level 0 R

    by :
        (v : Bool) → nat_le least run.ticks ≡ v
        → (least ≤ w + run.ticks → AllLast least (joined long))
        → AllLast least (join (hold_of c n) (joined (gathered least c (w + run.ticks) R)))
        → AllLast least (join (hold_of c n) (joined (cond v long (gathered least c (w + run.ticks) R))))
    by true e settles waits =
        let k : least ≤ run.ticks = leb-true least run.ticks e in
        AllLast-join least c n (joined long) h (settles (omega arith))
    by false e settles waits = waits

-- runs that are gathered from the beginning
gathered-long :
    (least : ℕ) (first : Level) (w : ℕ) (R : List Hold)
    → AllLast least (joined (gathered least first w R)) ⊎ IsOneRun first (joined (gathered least first w R))
gathered-long least first w [] = by (w == 0) refl
  where
    by :
        (v : Bool) → (w == 0) ≡ v
        → AllLast least (joined (cond v [] (hold_of first w ∷ [])))
        ⊎ IsOneRun first (joined (cond v [] (hold_of first w ∷ [])))
    by true e = inl tt
    by false e = inr (w, omega (arith, eqb-false w 0 e), refl)
gathered-long least first w (run ∷ R) =
    by (nat_le least run.ticks) refl (gathered-long least first (w + run.ticks) R)
  where
    long : List Hold
    long = hold_of run.level (w + run.ticks) ∷ gathered least run.level 0 R

    short : List Hold
    short = gathered least first (w + run.ticks) R

    by :
        (v : Bool) → nat_le least run.ticks ≡ v
        → AllLast least (joined short) ⊎ IsOneRun first (joined short)
        → AllLast least (joined (cond v long short)) ⊎ IsOneRun first (joined (cond v long short))
    by true e later =
        let k : least ≤ run.ticks = leb-true least run.ticks e in
        inl (AllLast-gathered least run.level (w + run.ticks) 0 R (omega arith))
    by false e later = later

pub has_long_runs : HasLongRuns
has_long_runs least first holds = gathered-long least first 0 (runs_of holds)

-- neighbours differ

alternating_by :
    (c : Level) (n : ℕ) (l : Level) (m : ℕ) (R : List Hold) → IsAlternating (hold_of l m ∷ R)
    → IsAlternating (join (hold_of c n) (hold_of l m ∷ R))
alternating_by Open n Open m R a = a
alternating_by Closed n Closed m R a = a
alternating_by Open n Closed m R a = (refl, a)
alternating_by Closed n Open m R a = (refl, a)

IsAlternating-join : (h : Hold) (R : List Hold) → IsAlternating R → IsAlternating (join h R)
IsAlternating-join h [] a = (refl, tt)
IsAlternating-join h (g ∷ R) a = alternating_by h.level h.ticks g.level g.ticks R a

pub IsAlternating-joined : (holds : List Hold) → IsAlternating (joined holds)
IsAlternating-joined [] = tt
IsAlternating-joined (h ∷ hs) = IsAlternating-join h (joined hs) (IsAlternating-joined hs)

pub has_runs : HasRuns
has_runs least first holds = IsAlternating-joined (gathered least first 0 (runs_of holds))

-- settling again

-- one run at the level of the beginning stays
one_run_stays :
    (least : ℕ) (first : Level) (n : ℕ) → 0 < n → settled least first (hold_of first n ∷ []) ≡ hold_of first n ∷ []
one_run_stays least first n h = ap (λ R. joined (gathered least first 0 (joined R))) stays ∙ by (nat_le least n)
  where
    lasts : (n == 0) ≡ false
    lasts = ne_eqb n 0 (omega arith)

    stays : lasting (hold_of first n ∷ []) ≡ hold_of first n ∷ []
    stays = rw lasts

    by :
        (v : Bool)
        → joined (cond v (hold_of first (0 + n) ∷ []) (gathered least first (0 + n) [])) ≡ hold_of first n ∷ []
    by true = ap (λ m. hold_of first m ∷ []) (zero-add n)
    by false = rw (zero-add n, lasts)

pub is_settled_for_good : IsSettledForGood
is_settled_for_good least first holds z =
    elim (has_long_runs least first holds) [
      | inl long ↦ leaves_long_runs least first (settled least first holds) z (has_runs least first holds) long
      | inr one ↦ stays one
    ]
  where
    stays :
        IsOneRun first (settled least first holds)
        → settled least first (settled least first holds) ≡ settled least first holds
    stays (n, h, e) = ap (settled least first) e ∙ one_run_stays least first n h ∙ sym e
