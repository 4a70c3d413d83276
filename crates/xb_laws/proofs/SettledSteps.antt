-- What the settling gives, step by step: each piece lasts, and no tick is lost.
use Rattle.std.proofs.Common.{◌≡◌, ℕ, ◌+◌, ◌≤◌, Bool, true, false, List, [], ◌∷◌, ◌++◌, Option, Some, None, nat_le, refl, sym, subst, ◌==◌, cond, arith}
use Rattle.std.proofs.lemmas.Bool.{eqb-false, eqb-true, leb-true}
use Rattle.xb_contact.specs.declared.hold.Hold.{Hold}
use Rattle.xb_contact.specs.declared.level.Level.{Level}
use Rattle.xb_contact.specs.declared.settling.Phase.{Phase}
use Rattle.xb_contact.specs.declared.settling.Phase.TheVariants.{Settled, Unsettled}
use Rattle.xb_contact.specs.Holds.{AllLast, hold_of, same_level, total_of}
use Rattle.xb_contact.specs.Machine.{all_given, at_end, given_by, phase_after, pieces_of, reach, step, step_of, stretch_of, take, unsettled}
use Rattle.xb_contact.proofs.Remaining.{all_given-cons}

-- a step of so many ticks
abbrev Takes : ℕ → Option Hold → Phase → ℕ → Type 0
Takes least given phase ticks =
    (1 ≤ least → AllLast 1 (pieces_of given)) × (total_of (pieces_of given) + unsettled phase ≡ ticks)

reach-takes :
    (least : ℕ) (before : Level) (waiting : ℕ) (run : Hold)
    → Takes least (reach least before waiting run).given (reach least before waiting run).phase (waiting + run.ticks)
reach-takes least before waiting run = by (nat_le least run.ticks) refl
  where
    by :
        (b : Bool) → nat_le least run.ticks ≡ b
        → Takes least (cond b (step_of (Some (hold_of run.level (waiting + run.ticks))) (Settled run.level))
        (step_of None (Unsettled (stretch_of before waiting run)))).given
        (cond b (step_of (Some (hold_of run.level (waiting + run.ticks))) (Settled run.level))
        (step_of None (Unsettled (stretch_of before waiting run)))).phase (waiting + run.ticks)
    by true e = (λ some. (omega (arith, some, leb-true least run.ticks e), tt), omega arith)
    by false e = (λ some. tt, omega arith)

step-takes :
    (least : ℕ) (phase : Phase) (hold : Hold) → 1 ≤ hold.ticks
    → Takes least (step least phase hold).given (step least phase hold).phase (unsettled phase + hold.ticks)
step-takes least (Settled level) hold lasts = by (same_level level hold.level)
  where
    by :
        (b : Bool)
        → Takes least (cond b (step_of (Some (hold_of level hold.ticks)) (Settled level)) (reach least level 0 hold)).given
        (cond b (step_of (Some (hold_of level hold.ticks)) (Settled level)) (reach least level 0 hold)).phase (0 + hold.ticks)
    by true = (λ some. (lasts, tt), omega arith)
    by false = reach-takes least level 0 hold
step-takes least (Unsettled stretch) hold lasts = by (same_level stretch.run.level hold.level)
  where
    longer : Hold
    longer = hold_of stretch.run.level (stretch.run.ticks + hold.ticks)

    by :
        (b : Bool)
        → Takes least (cond b (reach least stretch.before stretch.waiting longer)
        (reach least stretch.before (stretch.waiting + stretch.run.ticks) hold)).given
        (cond b (reach least stretch.before stretch.waiting longer)
        (reach least stretch.before (stretch.waiting + stretch.run.ticks) hold)).phase
        (stretch.waiting + stretch.run.ticks + hold.ticks)
    by true =
        let it = reach-takes least stretch.before stretch.waiting longer in
        (it.0, omega (arith, it.1))
    by false = reach-takes least stretch.before (stretch.waiting + stretch.run.ticks) hold

pub take-takes :
    (least : ℕ) (phase : Phase) (hold : Hold)
    → Takes least (take least phase hold).given (take least phase hold).phase (unsettled phase + hold.ticks)
take-takes least phase hold = by (hold.ticks == 0) refl
  where
    by :
        (b : Bool) → (hold.ticks == 0) ≡ b
        → Takes least (cond b (step_of None phase) (step least phase hold)).given
        (cond b (step_of None phase) (step least phase hold)).phase (unsettled phase + hold.ticks)
    by true e = (λ some. tt, omega (arith, eqb-true hold.ticks 0 e))
    by false e = step-takes least phase hold (omega (arith, eqb-false hold.ticks 0 e))

end-lasts : (phase : Phase) → AllLast 1 (pieces_of (at_end phase))
end-lasts (Settled level) = tt
end-lasts (Unsettled stretch) = by ((stretch.waiting + stretch.run.ticks) == 0) refl
  where
    by :
        (b : Bool) → ((stretch.waiting + stretch.run.ticks) == 0) ≡ b
        → AllLast 1 (pieces_of (cond b None (Some (hold_of stretch.before (stretch.waiting + stretch.run.ticks)))))
    by true e = tt
    by false e = (omega (arith, eqb-false (stretch.waiting + stretch.run.ticks) 0 e), tt)

AllLast-append : (holds more : List Hold) → AllLast 1 holds → AllLast 1 more → AllLast 1 (holds ++ more)
AllLast-append [] more all rest = rest
AllLast-append (hold ∷ holds) more all rest = (all.0, AllLast-append holds more all.1 rest)

pub all-last : (least : ℕ) (phase : Phase) (holds : List Hold) → 1 ≤ least → AllLast 1 (all_given least phase holds)
all-last least phase [] some = end-lasts phase
all-last least phase (hold ∷ rest) some =
    subst (AllLast 1) (sym (all_given-cons least phase hold rest))
    (AllLast-append (pieces_of (given_by least phase hold)) (all_given least (phase_after least phase hold) rest)
    ((take-takes least phase hold).0 some) (all-last least (phase_after least phase hold) rest some))
