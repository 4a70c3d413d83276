-- Runs of holds that are joined as they come.
use Rattle.std.proofs.Common.{◌≡◌, ℕ, ◌+◌, List, [], ◌∷◌, ◌++◌, Bool, true, false, cond, Some, None, nat_le, ◌==◌, refl, ap, sym, ◌∙◌, zero-add, add-zero, arith}
use Rattle.std.proofs.lemmas.Bool.{eqb-true, eqb-false, ne_eqb}
use Rattle.xb_contact.specs.declared.level.Level.{Level}
use Rattle.xb_contact.specs.declared.level.Level.TheVariants.{Open, Closed}
use Rattle.xb_contact.specs.declared.hold.Hold.{Hold}
use Rattle.xb_contact.specs.Holds.{hold_of, join, joined, lasting, runs_of}
use Rattle.xb_contact.specs.Machine.{pieces_of}
use Rattle.xb_contact.proofs.JoinedHolds.{join_sum}
use Rattle.xb_contact.specs.Joints.{joint_of, full, left_of, all_joined}

-- a hold before runs, if it lasts
abbrev pub added : Hold → List Hold → List Hold
added h R = cond (h.ticks == 0) R (join h R)

runs_by :
    (h : Hold) (X : List Hold) (b : Bool)
    → joined (cond b (lasting X) (h ∷ lasting X)) ≡ cond b (joined (lasting X)) (join h (joined (lasting X)))
runs_by h X true = refl
runs_by h X false = refl

pub runs_of-cons : (h : Hold) (X : List Hold) → runs_of (h ∷ X) ≡ added h (runs_of X)
runs_of-cons h X = runs_by h X (h.ticks == 0)

-- a hold in two parts
pub added_sum :
    (c : Level) (a b : ℕ) (R : List Hold)
    → added (hold_of c a) (added (hold_of c b) R) ≡ added (hold_of c (a + b)) R
added_sum c a b R = by (a == 0) (b == 0) refl refl
  where
    by :
        (u v : Bool) → (a == 0) ≡ u → (b == 0) ≡ v
        → cond u (cond v R (join (hold_of c b) R)) (join (hold_of c a) (cond v R (join (hold_of c b) R)))
        ≡ added (hold_of c (a + b)) R
    by true v e k =
        let none : a ≡ 0 = eqb-true a 0 e in
        rw (none, zero-add b, k)
    by false true e k =
        let none : b ≡ 0 = eqb-true b 0 k in
        rw (none, add-zero a, e)
    by false false e k =
        let lasts : (a + b == 0) ≡ false = ne_eqb (a + b) 0 (omega (arith, eqb-false a 0 e)) in
        rw lasts (join_sum c a b R)

-- runs of a hold before others, which joins the first of them or not
runs_of-join : (h : Hold) (R : List Hold) → runs_of (join h R) ≡ runs_of (h ∷ R)
runs_of-join h [] = refl
runs_of-join h (g ∷ R) = at h.level g.level
  where
    same : (c : Level) → runs_of (hold_of c (h.ticks + g.ticks) ∷ R) ≡ runs_of (hold_of c h.ticks ∷ hold_of c g.ticks ∷ R)
    same c =
        let two : List Hold = hold_of c g.ticks ∷ R in
        runs_of-cons (hold_of c (h.ticks + g.ticks)) R
        ∙ sym (added_sum c h.ticks g.ticks (runs_of R))
        ∙ sym (ap (added (hold_of c h.ticks)) (runs_of-cons (hold_of c g.ticks) R))
        ∙ sym (runs_of-cons (hold_of c h.ticks) two)

    at :
        (l c : Level)
        → runs_of (join (hold_of l h.ticks) (hold_of c g.ticks ∷ R)) ≡ runs_of (hold_of l h.ticks ∷ hold_of c g.ticks ∷ R)
    at Open Open = same Open
    at Closed Closed = same Closed
    at Open Closed = refl
    at Closed Open = refl

-- runs of runs are these runs
pub runs_of-joined : (holds : List Hold) → runs_of (joined holds) ≡ runs_of holds
runs_of-joined [] = refl
runs_of-joined (h ∷ hs) =
    runs_of-join h (joined hs)
    ∙ runs_of-cons h (joined hs)
    ∙ ap (added h) (runs_of-joined hs)
    ∙ sym (runs_of-cons h hs)

-- what is given of a hold that another level ends is that hold, if it lasts
pub runs_of-left : (last : Hold) (X : List Hold) → runs_of (pieces_of (left_of last) ++ X) ≡ runs_of (last ∷ X)
runs_of-left last X = by (last.ticks == 0) refl
  where
    by :
        (b : Bool) → (last.ticks == 0) ≡ b
        → runs_of (pieces_of (cond b None (Some last)) ++ X) ≡ runs_of (last ∷ X)
    by true e = sym (runs_of-cons last X ∙ ap (λ b. cond b (runs_of X) (join last (runs_of X))) e)
    by false e = refl

-- holds that are joined as they come have the runs of the holds
pub runs_of-all_joined :
    (most : ℕ) (last : Hold) (holds : List Hold) → runs_of (all_joined most last holds) ≡ runs_of (last ∷ holds)
runs_of-all_joined most last [] = by (last.ticks == 0) refl
  where
    by : (b : Bool) → (last.ticks == 0) ≡ b → runs_of (pieces_of (cond b None (Some last))) ≡ runs_of (last ∷ [])
    by true e = rw e
    by false e = refl
runs_of-all_joined most last (h ∷ hs) =
    at last.level h.level (λ kept. runs_of-all_joined most kept hs)
  where
    same :
        (c : Level)
        → ((kept : Hold) → runs_of (all_joined most kept hs) ≡ runs_of (kept ∷ hs))
        → runs_of
        (pieces_of (full most (hold_of c (last.ticks + h.ticks))).given
        ++ all_joined most (full most (hold_of c (last.ticks + h.ticks))).last hs)
        ≡ runs_of (hold_of c last.ticks ∷ hold_of c h.ticks ∷ hs)
    same c later = by (nat_le most (last.ticks + h.ticks))
      where
        sum : Hold
        sum = hold_of c (last.ticks + h.ticks)

        whole : runs_of (sum ∷ hs) ≡ runs_of (hold_of c last.ticks ∷ hold_of c h.ticks ∷ hs)
        whole =
            runs_of-cons sum hs
            ∙ sym (added_sum c last.ticks h.ticks (runs_of hs))
            ∙ sym (ap (added (hold_of c last.ticks)) (runs_of-cons (hold_of c h.ticks) hs))
            ∙ sym (runs_of-cons (hold_of c last.ticks) (hold_of c h.ticks ∷ hs))

        by :
            (b : Bool)
            → runs_of
            (pieces_of (cond b (joint_of (Some sum) (hold_of c 0)) (joint_of None sum)).given
            ++ all_joined most (cond b (joint_of (Some sum) (hold_of c 0)) (joint_of None sum)).last hs)
            ≡ runs_of (hold_of c last.ticks ∷ hold_of c h.ticks ∷ hs)
        by true =
            runs_of-cons sum (all_joined most (hold_of c 0) hs)
            ∙ ap (added sum) (later (hold_of c 0))
            ∙ sym (runs_of-cons sum hs)
            ∙ whole
        by false = later sum ∙ whole

    differ :
        (l c : Level)
        → ((kept : Hold) → runs_of (all_joined most kept hs) ≡ runs_of (kept ∷ hs))
        → runs_of (pieces_of (left_of (hold_of l last.ticks)) ++ all_joined most (hold_of c h.ticks) hs)
        ≡ runs_of (hold_of l last.ticks ∷ hold_of c h.ticks ∷ hs)
    differ l c later =
        runs_of-left (hold_of l last.ticks) (all_joined most (hold_of c h.ticks) hs)
        ∙ runs_of-cons (hold_of l last.ticks) (all_joined most (hold_of c h.ticks) hs)
        ∙ ap (added (hold_of l last.ticks)) (later (hold_of c h.ticks))
        ∙ sym (runs_of-cons (hold_of l last.ticks) (hold_of c h.ticks ∷ hs))

    at :
        (l c : Level)
        → ((kept : Hold) → runs_of (all_joined most kept hs) ≡ runs_of (kept ∷ hs))
        → runs_of (all_joined most (hold_of l last.ticks) (hold_of c h.ticks ∷ hs))
        ≡ runs_of (hold_of l last.ticks ∷ hold_of c h.ticks ∷ hs)
    at Open Open later = same Open later
    at Closed Closed later = same Closed later
    at Open Closed later = differ Open Closed later
    at Closed Open later = differ Closed Open later
