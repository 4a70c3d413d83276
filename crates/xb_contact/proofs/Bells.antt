-- What was heard of a bell, and what the runs say of it.
use Rattle.std.proofs.Common.{◌≡◌, ℕ, ◌+◌, ◌-◌, List, [], ◌∷◌, Bool, true, false, cond, nat_le, ◌==◌, refl, ap, sym, ◌∙◌, arith}
use Rattle.std.proofs.lemmas.Bool.Decides.{nat_tests}
use Rattle.xb_contact.specs.declared.bell.Bell.{Bell}
use Rattle.xb_contact.specs.declared.level.Level.{Level}
use Rattle.xb_contact.specs.declared.level.Level.TheVariants.{Open, Closed}
use Rattle.xb_contact.specs.declared.hold.Hold.{Hold}
use Rattle.xb_contact.specs.Holds.{hold_of, differs_from_first, IsAlternating}
use Rattle.xb_contact.specs.Rings.{awaits, is_period, lasts_a_period, periods_at_end}
use Rattle.xb_contact.specs.Ringing.{bell_later, bell_with_make, is_due, periods_lacked, silent}
use Rattle.xb_contact.specs.Seizures.{is_open}

-- what was heard of the bell after runs on hook, the last one first
abbrev pub bell_after : ℕ → List Hold → Bell
bell_after wait [] = silent
bell_after wait (run ∷ past) =
    bell_later (cond (is_open run.level) (bell_after wait past) (bell_with_make wait (bell_after wait past))) run.ticks

-- a period that is counted down
due_is : (t : ℕ) → is_due (68 - t) ≡ lasts_a_period t
due_is t = grind (arith, nat_tests)

-- a burst that is counted down
burst_is : (p : ℕ) → (8 - p == 0) ≡ nat_le 8 p
burst_is p = grind (arith, nat_tests)

-- a make ends no period
no_period_yet : (wait m : ℕ) (P : List Hold) → periods_at_end (hold_of Closed m ∷ P) ≡ 0
no_period_yet wait m [] = refl
no_period_yet wait m (q ∷ P) = at q.level
  where
    at : (c : Level) → cond (is_period (hold_of c q.ticks) (hold_of Closed m)) (periods_at_end P + 1) 0 ≡ 0
    at Open = refl
    at Closed = refl

awaits-make : (wait m : ℕ) (P : List Hold) → awaits wait (hold_of Closed m ∷ P) ≡ awaits wait P - m
awaits-make wait m P = ap (λ p. cond (nat_le 8 p) wait (awaits wait P - m)) (no_period_yet wait m P)

-- the next make finds the bell as the runs say
pub record BellIs (wait : ℕ) (past : List Hold) : Type 0 where
  pub waits : (bell_with_make wait (bell_after wait past)).waits ≡ awaits wait past
  pub lacks : periods_lacked (bell_after wait past) ≡ 8 - periods_at_end past

-- a make and a break more
lacks_more :
    (wait m r : ℕ) (P : List Hold) → BellIs wait P
    → periods_lacked (bell_after wait (hold_of Open r ∷ hold_of Closed m ∷ P))
    ≡ 8 - periods_at_end (hold_of Open r ∷ hold_of Closed m ∷ P)
lacks_more wait m r P before =
    let sum : (68 - m) - r ≡ 68 - (m + r) = omega arith in
    let due : is_due ((68 - m) - r) ≡ lasts_a_period (m + r) = ap is_due sum ∙ due_is (m + r) in
    ap (λ b. cond b (periods_lacked (bell_after wait P) - 1) 8) due ∙ by (lasts_a_period (m + r))
  where
    by :
        (b : Bool) → cond b (periods_lacked (bell_after wait P) - 1) 8 ≡ 8 - cond b (periods_at_end P + 1) 0
    by true = omega (arith, before.lacks)
    by false = refl

waits_more :
    (wait m r : ℕ) (P : List Hold) → BellIs wait P
    → (bell_with_make wait (bell_after wait (hold_of Open r ∷ hold_of Closed m ∷ P))).waits
    ≡ awaits wait (hold_of Open r ∷ hold_of Closed m ∷ P)
waits_more wait m r P before =
    ap (λ n. cond (n == 0) wait (((bell_with_make wait (bell_after wait P)).waits - m) - r)) (lacks_more wait m r P before)
    ∙ ap (λ b. cond b wait (((bell_with_make wait (bell_after wait P)).waits - m) - r)) (burst_is p)
    ∙ ap (λ n. cond (nat_le 8 p) wait ((n - m) - r)) before.waits
    ∙ sym (ap (λ n. cond (nat_le 8 p) wait (n - r)) (awaits-make wait m P))
  where
    p : ℕ
    p = periods_at_end (hold_of Open r ∷ hold_of Closed m ∷ P)

pub bell_is :
    (wait : ℕ) (past : List Hold) → IsAlternating past → differs_from_first Closed past ≡ true → BellIs wait past
bell_is wait [] a d = record { waits = refl; lacks = refl }
bell_is wait (r ∷ []) a d = at r.level d
  where
    at : (c : Level) → differs_from_first Closed (hold_of c r.ticks ∷ []) ≡ true → BellIs wait (hold_of c r.ticks ∷ [])
    at Closed e = cc
    at Open e =
        let none : 0 - r.ticks ≡ 0 = omega arith in
        record {
          waits = ap (λ n. cond (cond (is_due n) 7 8 == 0) wait (0 - r.ticks)) none;
          lacks = ap (λ n. cond (is_due n) 7 8) none;
        }
bell_is wait (r ∷ m ∷ P) a d = at r.level m.level a d (λ k. bell_is wait P a.1.1 k)
  where
    at :
        (l c : Level) → IsAlternating (hold_of l r.ticks ∷ hold_of c m.ticks ∷ P)
        → differs_from_first Closed (hold_of l r.ticks ∷ hold_of c m.ticks ∷ P) ≡ true
        → (differs_from_first Closed P ≡ true → BellIs wait P)
        → BellIs wait (hold_of l r.ticks ∷ hold_of c m.ticks ∷ P)
    at Closed c b e later = cc
    at Open Open b e later = cc
    at Open Closed b e later =
        let before : BellIs wait P = later b.1.0 in
        record {
          waits = waits_more wait m.ticks r.ticks P before;
          lacks = lacks_more wait m.ticks r.ticks P before;
        }
