-- What is still to be given, and that each hold gives its beginning.
use Rattle.std.proofs.Common.{◌≡◌, ℕ, ◌+◌, ◌<◌, ◌≤◌, List, [], ◌∷◌, ◌++◌, Bool, true, false, cond, Option, Some, None, nat_le, ◌==◌, refl, ap, sym, ◌∙◌, zero-add, add-zero, add_assoc, append_assoc, arith}
use Rattle.std.proofs.lemmas.Bool.{lt-leb, le-leb, leb-true, leb-false}
use Rattle.xb_contact.specs.declared.level.Level.{Level}
use Rattle.xb_contact.specs.declared.level.Level.TheVariants.{Open, Closed}
use Rattle.xb_contact.specs.declared.hold.Hold.{Hold}
use Rattle.xb_contact.specs.declared.settling.Phase.{Phase}
use Rattle.xb_contact.specs.declared.settling.Phase.TheVariants.{Settled, Unsettled}
use Rattle.xb_contact.specs.declared.settler.Step.{Step}
use Rattle.xb_contact.specs.Holds.{hold_of, same_level, join, joined, lasting, runs_of}
use Rattle.xb_contact.specs.Settled.{gathered}
use Rattle.xb_contact.specs.Machine.{stretch_of, begun, step_of, reach, step, take, given_by, phase_after, at_end, pieces_of, given, phase_at, all_given}
use Rattle.xb_contact.specs.SettledLaws.{SettlesTheRecord, GivesForGood}
use Rattle.xb_contact.proofs.JoinedHolds.{same_level-refl, taken_in, left, join_is, join_sum}

-- what is to be given of runs that go on where a run at this level has settled
abbrev pub settled_rest : ℕ → Level → List Hold → List Hold
settled_rest least c [] = []
settled_rest least c (run ∷ R) =
    cond (same_level c run.level) (hold_of c run.ticks ∷ gathered least c 0 R) (gathered least c 0 (run ∷ R))

-- what is to be given of the runs that come in this phase
abbrev pub rest_of : ℕ → Phase → List Hold → List Hold
rest_of least (Settled c) R = settled_rest least c R
rest_of least (Unsettled s) R = gathered least s.before s.waiting (join s.run R)

-- an unsettled run is short
abbrev pub IsShort : ℕ → Phase → Type 0
IsShort least (Settled c) = Unit {0}
IsShort least (Unsettled s) = s.run.ticks < least

settled_by :
    (least : ℕ) (c : Level) (w : ℕ) (q : Hold) (R : List Hold) (b : Bool)
    → join (hold_of c w) (joined (cond b (hold_of c q.ticks ∷ gathered least c 0 R) (gathered least c 0 (q ∷ R))))
    ≡ join (hold_of c (w + cond b q.ticks 0)) (joined (gathered least c 0 (cond b R (q ∷ R))))
settled_by least c w q R true = join_sum c w q.ticks (joined (gathered least c 0 R))
settled_by least c w q R false = rw add-zero

-- a settled run takes in what goes on of it
pub settled_joins :
    (least : ℕ) (c : Level) (w : ℕ) (R : List Hold)
    → join (hold_of c w) (joined (settled_rest least c R))
    ≡ join (hold_of c (w + taken_in c R)) (joined (gathered least c 0 (left c R)))
settled_joins least c w [] = rw add-zero
settled_joins least c w (q ∷ R) = settled_by least c w q R (same_level c q.level)

-- what a step gives, and what is to be given after it
abbrev pub after_step : ℕ → Step → List Hold → List Hold
after_step least s R = pieces_of s.given ++ rest_of least s.phase R

-- the run under way gives the beginning of what is to be given
pub reach-begins :
    (least : ℕ) (b : Level) (w : ℕ) (c : Level) (t : ℕ) (R : List Hold)
    → joined (gathered least b w (join (hold_of c t) R))
    ≡ joined (after_step least (reach least b w (hold_of c t)) R)
reach-begins least b w c t R = by (nat_le least t) refl
  where
    by :
        (v : Bool) → nat_le least t ≡ v
        → joined (gathered least b w (join (hold_of c t) R))
        ≡ joined (after_step least (reach least b w (hold_of c t)) R)
    by true e =
        let h : least ≤ t = leb-true least t e in
        let k : nat_le least (t + taken_in c R) ≡ true = le-leb least (t + taken_in c R) (omega arith) in
        let long = settled_joins least c (w + t) R in
        rw (e, join_is c t R, k, long, add_assoc w t (taken_in c R))
    by false e = rw e

-- a hold of the settled level
settled_goes_on :
    (least : ℕ) (c : Level) (m : ℕ) (R : List Hold)
    → joined (settled_rest least c (join (hold_of c m) R))
    ≡ joined (hold_of c m ∷ settled_rest least c R)
settled_goes_on least c m R = rw (join_is c m R, same_level-refl c, settled_joins least c m R)

-- a hold of the other level
settled_ends :
    (least : ℕ) (l c : Level) (m : ℕ) (R : List Hold) → same_level l c ≡ false
    → joined (settled_rest least l (join (hold_of c m) R))
    ≡ joined (after_step least (reach least l 0 (hold_of c m)) R)
settled_ends least l c m R d =
    let same : settled_rest least l (join (hold_of c m) R) ≡ gathered least l 0 (join (hold_of c m) R) =
    rw (join_is c m R, d) in
    ap joined same ∙ reach-begins least l 0 c m R

-- a hold of the level of the run under way
run_goes_on :
    (least : ℕ) (b : Level) (w : ℕ) (c : Level) (t m : ℕ) (R : List Hold)
    → joined (gathered least b w (join (hold_of c t) (join (hold_of c m) R)))
    ≡ joined (after_step least (reach least b w (hold_of c (t + m))) R)
run_goes_on least b w c t m R = rw (join_sum c t m R) (reach-begins least b w c (t + m) R)

-- a hold of the other level ends it
run_ends :
    (least : ℕ) (b : Level) (w : ℕ) (l : Level) (t : ℕ) (c : Level) (m : ℕ) (R : List Hold)
    → t < least → same_level l c ≡ false
    → joined (gathered least b w (join (hold_of l t) (join (hold_of c m) R)))
    ≡ joined (after_step least (reach least b (w + t) (hold_of c m)) R)
run_ends least b w l t c m R h d =
    let same :
    gathered least b w (join (hold_of l t) (join (hold_of c m) R))
    ≡ gathered least b (w + t) (join (hold_of c m) R) =
    rw (join_is c m R, d, lt-leb least t h) in
    ap joined same ∙ reach-begins least b (w + t) c m R

-- each hold gives the beginning of what is to be given
pub step-begins :
    (least : ℕ) (phase : Phase) (c : Level) (m : ℕ) (R : List Hold) → IsShort least phase
    → joined (rest_of least phase (join (hold_of c m) R))
    ≡ joined (after_step least (step least phase (hold_of c m)) R)
step-begins least (Settled l) c m R o = at l c
  where
    at :
        (l c : Level)
        → joined (settled_rest least l (join (hold_of c m) R))
        ≡ joined (after_step least (step least (Settled l) (hold_of c m)) R)
    at Open Open = settled_goes_on least Open m R
    at Closed Closed = settled_goes_on least Closed m R
    at Open Closed = settled_ends least Open Closed m R refl
    at Closed Open = settled_ends least Closed Open m R refl
step-begins least (Unsettled s) c m R o = at s.run.level c
  where
    at :
        (l c : Level)
        → joined (gathered least s.before s.waiting (join (hold_of l s.run.ticks) (join (hold_of c m) R)))
        ≡ joined (after_step least (step least (Unsettled (stretch_of s.before s.waiting (hold_of l s.run.ticks))) (hold_of c m)) R)
    at Open Open = run_goes_on least s.before s.waiting Open s.run.ticks m R
    at Closed Closed = run_goes_on least s.before s.waiting Closed s.run.ticks m R
    at Open Closed = run_ends least s.before s.waiting Open s.run.ticks Closed m R o refl
    at Closed Open = run_ends least s.before s.waiting Closed s.run.ticks Open m R o refl

-- a run that has not settled is short
reach-short : (least : ℕ) (b : Level) (w : ℕ) (run : Hold) → IsShort least (reach least b w run).phase
reach-short least b w run = by (nat_le least run.ticks) refl
  where
    by : (v : Bool) → nat_le least run.ticks ≡ v → IsShort least (reach least b w run).phase
    by true e = rw e tt
    by false e = rw e (leb-false least run.ticks e)

pub step-short : (least : ℕ) (phase : Phase) (c : Level) (m : ℕ) → IsShort least (step least phase (hold_of c m)).phase
step-short least (Settled l) c m = at l c
  where
    at : (l c : Level) → IsShort least (step least (Settled l) (hold_of c m)).phase
    at Open Open = tt
    at Closed Closed = tt
    at Open Closed = reach-short least Open 0 (hold_of Closed m)
    at Closed Open = reach-short least Closed 0 (hold_of Open m)
step-short least (Unsettled s) c m = at s.run.level c
  where
    at :
        (l c : Level)
        → IsShort least (step least (Unsettled (stretch_of s.before s.waiting (hold_of l s.run.ticks))) (hold_of c m)).phase
    at Open Open = reach-short least s.before s.waiting (hold_of Open (s.run.ticks + m))
    at Closed Closed = reach-short least s.before s.waiting (hold_of Closed (s.run.ticks + m))
    at Open Closed = reach-short least s.before (s.waiting + s.run.ticks) (hold_of Closed m)
    at Closed Open = reach-short least s.before (s.waiting + s.run.ticks) (hold_of Open m)

-- a piece in front of what joins to the same
pieces_cong :
    (g : Option Hold) (X Y : List Hold) → joined X ≡ joined Y → joined (pieces_of g ++ X) ≡ joined (pieces_of g ++ Y)
pieces_cong None X Y e = e
pieces_cong (Some h) X Y e = ap (λ R. join h R) e

-- where the recording ends, what is left is given
end-begins :
    (least : ℕ) (phase : Phase) → IsShort least phase → pieces_of (at_end phase) ≡ rest_of least phase []
end-begins least (Settled c) o = refl
end-begins least (Unsettled s) o = rw (lt-leb least s.run.ticks o) (by ((s.waiting + s.run.ticks) == 0))
  where
    by :
        (v : Bool)
        → pieces_of (cond v None (Some (hold_of s.before (s.waiting + s.run.ticks))))
        ≡ cond v [] (hold_of s.before (s.waiting + s.run.ticks) ∷ [])
    by true = refl
    by false = refl

-- what a step gives, and all that is given after it
abbrev pub given_from : ℕ → Step → List Hold → List Hold
given_from least s later = pieces_of s.given ++ all_given least s.phase later

-- a hold gives its own, and then what the later ones give
pub all_given-cons :
    (least : ℕ) (phase : Phase) (h : Hold) (later : List Hold)
    → all_given least phase (h ∷ later) ≡ given_from least (take least phase h) later
all_given-cons least phase h later =
    append_assoc (pieces_of (given_by least phase h)) (given least (phase_after least phase h) later)
    (pieces_of (at_end (phase_at least (phase_after least phase h) later)))

-- a hold that lasts is a step
pub take-lasts :
    (least : ℕ) (phase : Phase) (h : Hold) → (h.ticks == 0) ≡ false → take least phase h ≡ step least phase h
take-lasts least phase h e = rw e

-- one of 0 ticks counts for nothing
pub take-none :
    (least : ℕ) (phase : Phase) (h : Hold) → (h.ticks == 0) ≡ true → take least phase h ≡ step_of None phase
take-none least phase h e = rw e

-- all that is given is what was to be given
pub all_given-is :
    (least : ℕ) (phase : Phase) (holds : List Hold) → IsShort least phase
    → joined (all_given least phase holds) ≡ joined (rest_of least phase (runs_of holds))
all_given-is least phase [] o = ap joined (end-begins least phase o)
all_given-is least phase (h ∷ hs) o =
    by (h.ticks == 0) refl (all_given-is least phase hs o)
    (all_given-is least (step least phase h).phase hs (step-short least phase h.level h.ticks))
  where
    by :
        (v : Bool) → (h.ticks == 0) ≡ v
        → joined (all_given least phase hs) ≡ joined (rest_of least phase (runs_of hs))
        → joined (all_given least (step least phase h).phase hs)
        ≡ joined (rest_of least (step least phase h).phase (runs_of hs))
        → joined (all_given least phase (h ∷ hs)) ≡ joined (rest_of least phase (runs_of (h ∷ hs)))
    by true e same later =
        let left_out : lasting (h ∷ hs) ≡ lasting hs = rw e in
        ap joined (all_given-cons least phase h hs)
        ∙ ap (λ s. joined (given_from least s hs)) (take-none least phase h e)
        ∙ same
        ∙ sym (ap (λ R. joined (rest_of least phase (joined R))) left_out)
    by false e same later =
        let next : Step = step least phase h in
        let stays : lasting (h ∷ hs) ≡ h ∷ lasting hs = rw e in
        ap joined (all_given-cons least phase h hs)
        ∙ ap (λ s. joined (given_from least s hs)) (take-lasts least phase h e)
        ∙ pieces_cong next.given (all_given least next.phase hs) (rest_of least next.phase (runs_of hs)) later
        ∙ sym (step-begins least phase h.level h.ticks (runs_of hs) o)
        ∙ sym (ap (λ R. joined (rest_of least phase (joined R))) stays)

-- at the beginning all runs are to be given
begun-is :
    (least : ℕ) (first : Level) (R : List Hold) → 0 < least
    → rest_of least (begun first) R ≡ gathered least first 0 R
begun-is least first [] h = rw (lt-leb least 0 h)
begun-is least first (q ∷ R) h = at first q.level
  where
    at :
        (l c : Level)
        → gathered least l 0 (join (hold_of l 0) (hold_of c q.ticks ∷ R)) ≡ gathered least l 0 (hold_of c q.ticks ∷ R)
    at Open Open = ap (λ n. gathered least Open 0 (hold_of Open n ∷ R)) (zero-add q.ticks)
    at Closed Closed = ap (λ n. gathered least Closed 0 (hold_of Closed n ∷ R)) (zero-add q.ticks)
    at Open Closed = rw (lt-leb least 0 h)
    at Closed Open = rw (lt-leb least 0 h)

pub settles_the_record : (least : ℕ) → 0 < least → SettlesTheRecord least
settles_the_record least h first holds =
    all_given-is least (begun first) holds h ∙ ap joined (begun-is least first (runs_of holds) h)

-- what has been given stands
pub gives_for_good : GivesForGood
gives_for_good least phase [] later = refl
gives_for_good least phase (h ∷ hs) later =
    let mine : List Hold = pieces_of (given_by least phase h) in
    let next : Phase = phase_after least phase h in
    all_given-cons least phase h (hs ++ later)
    ∙ ap (λ sent. mine ++ sent) (gives_for_good least next hs later)
    ∙ sym (append_assoc mine (given least next hs) (all_given least (phase_at least next hs) later))
