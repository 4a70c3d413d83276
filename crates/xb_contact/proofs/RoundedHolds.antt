-- Holds in ms.
use Rattle.std.proofs.Common.{◌≡◌, ℕ, ◌+◌, ◌-◌, ◌*◌, ◌/◌, ◌<◌, ◌≤◌, List, [], ◌∷◌, ◌++◌, Bool, true, false, cond, refl, ap, sym, ◌∙◌, zero-add, add-zero, zero-mul, add_assoc, arith}
use Rattle.std.proofs.Math.Nat.{div-eq_of_lt-le, div-mul-le_self, mul-le-mul_right}
use Rattle.std.proofs.lemmas.Nat.{le-div}
use Rattle.xb_contact.specs.declared.hold.Hold.{Hold}
use Rattle.xb_contact.specs.Holds.{hold_of, same_level, join, joined, total_of}
use Rattle.xb_contact.specs.declared.scale.Scale.{Scale}
use Rattle.xb_contact.specs.Times.{ms_at, rounded_hold, rounded}
use Rattle.xb_contact.specs.TimeLaws.{PlacesHold}

-- quotients grow with what is divided
div-grows : (a b k : ℕ) → 0 < k → a ≤ b → a / k ≤ b / k
div-grows a b k h le = le-div (a / k) b k h (omega (arith, div-mul-le_self a k))

-- times in ms grow with the ticks
pub ms_at_grows : (scale : Scale) (a n : ℕ) → 0 < scale.ticks → ms_at scale a ≤ ms_at scale (a + n)
ms_at_grows scale a n h =
    div-grows (a * scale.ms + scale.ticks / 2) ((a + n) * scale.ms + scale.ticks / 2) scale.ticks h
    (omega (arith, mul-le-mul_right {m = a} {n = a + n} scale.ms (omega arith)))

-- tick 0 is at 0 ms
pub ms_at-zero : (scale : Scale) → 0 < scale.ticks → ms_at scale 0 ≡ 0
ms_at-zero scale h =
    let half : scale.ticks / 2 < scale.ticks = omega arith in
    rw (zero-mul, zero-add) (div-eq_of_lt-le scale.ticks (omega arith) (omega arith))

-- the sum of holds in ms
pub total_of-rounded :
    (scale : Scale) (at : ℕ) (holds : List Hold) → 0 < scale.ticks
    → ms_at scale at + total_of (rounded scale at holds) ≡ ms_at scale (at + total_of holds)
total_of-rounded scale at [] h = rw (add-zero, add-zero)
total_of-rounded scale at (hold ∷ rest) h =
    let here : ℕ = at + hold.ticks in
    let grows : ms_at scale at ≤ ms_at scale here = ms_at_grows scale at hold.ticks h in
    let later : ms_at scale here + total_of (rounded scale here rest) ≡ ms_at scale (here + total_of rest) =
    total_of-rounded scale here rest h in
    let sum : ms_at scale here ≡ ms_at scale at + (ms_at scale here - ms_at scale at) = omega arith in
    sym (add_assoc (ms_at scale at) (ms_at scale here - ms_at scale at) (total_of (rounded scale here rest)))
    ∙ ap (λ n. n + total_of (rounded scale here rest)) (sym sum)
    ∙ later
    ∙ ap (ms_at scale) (add_assoc at hold.ticks (total_of rest))

pub total_of-rounded_all :
    (scale : Scale) (holds : List Hold) → 0 < scale.ticks
    → total_of (rounded scale 0 holds) ≡ ms_at scale (total_of holds)
total_of-rounded_all scale holds h =
    sym (zero-add (total_of (rounded scale 0 holds)))
    ∙ ap (λ n. n + total_of (rounded scale 0 holds)) (sym (ms_at-zero scale h))
    ∙ total_of-rounded scale 0 holds h
    ∙ ap (ms_at scale) (zero-add (total_of holds))

-- holds after others
rounded-append :
    (scale : Scale) (at : ℕ) (before runs : List Hold)
    → rounded scale at (before ++ runs) ≡ rounded scale at before ++ rounded scale (at + total_of before) runs
rounded-append scale at [] runs = ap (λ n. rounded scale n runs) (sym (add-zero at))
rounded-append scale at (hold ∷ before) runs =
    let here : ℕ = at + hold.ticks in
    ap (λ R. rounded_hold scale at hold ∷ R) (rounded-append scale here before runs)
    ∙ ap (λ n. rounded_hold scale at hold ∷ (rounded scale here before ++ rounded scale n runs))
    (add_assoc at hold.ticks (total_of before))

pub places_hold : PlacesHold
places_hold scale before runs h = (
  rounded-append scale 0 before runs ∙ ap (λ n. rounded scale 0 before ++ rounded scale n runs) (zero-add (total_of before)),
  total_of-rounded_all scale before h,
)

-- a hold that is joined to another one, in ms
joined_sum :
    (scale : Scale) (at m n : ℕ) → 0 < scale.ticks
    → (ms_at scale (at + m) - ms_at scale at) + (ms_at scale ((at + m) + n) - ms_at scale (at + m))
    ≡ ms_at scale (at + (m + n)) - ms_at scale at
joined_sum scale at m n h =
    let first : ms_at scale at ≤ ms_at scale (at + m) = ms_at_grows scale at m h in
    let then_on : ms_at scale (at + m) ≤ ms_at scale ((at + m) + n) = ms_at_grows scale (at + m) n h in
    rw (← add_assoc at m n) (omega arith)

join-rounded_by :
    (scale : Scale) (at : ℕ) (h g : Hold) (R : List Hold) (b : Bool) → 0 < scale.ticks
    → cond b
    (hold_of h.level ((rounded_hold scale at h).ticks + (rounded_hold scale (at + h.ticks) g).ticks)
    ∷ rounded scale ((at + h.ticks) + g.ticks) R)
    (rounded_hold scale at h ∷ rounded_hold scale (at + h.ticks) g ∷ rounded scale ((at + h.ticks) + g.ticks) R)
    ≡ rounded scale at (cond b (hold_of h.level (h.ticks + g.ticks) ∷ R) (h ∷ g ∷ R))
join-rounded_by scale at h g R true some =
    ap (λ n. hold_of h.level n ∷ rounded scale ((at + h.ticks) + g.ticks) R) (joined_sum scale at h.ticks g.ticks some)
    ∙ ap (λ n. rounded_hold scale at (hold_of h.level (h.ticks + g.ticks)) ∷ rounded scale n R)
    (add_assoc at h.ticks g.ticks)
join-rounded_by scale at h g R false some = refl

join-rounded :
    (scale : Scale) (at : ℕ) (h : Hold) (R : List Hold) → 0 < scale.ticks
    → join (rounded_hold scale at h) (rounded scale (at + h.ticks) R) ≡ rounded scale at (join h R)
join-rounded scale at h [] some = refl
join-rounded scale at h (g ∷ R) some = join-rounded_by scale at h g R (same_level h.level g.level) some

-- runs in ms are those that the runs are in ms
pub joined-rounded :
    (scale : Scale) (at : ℕ) (holds : List Hold) → 0 < scale.ticks
    → joined (rounded scale at holds) ≡ rounded scale at (joined holds)
joined-rounded scale at [] some = refl
joined-rounded scale at (h ∷ hs) some =
    ap (λ R. join (rounded_hold scale at h) R) (joined-rounded scale (at + h.ticks) hs some)
    ∙ join-rounded scale at h (joined hs) some
