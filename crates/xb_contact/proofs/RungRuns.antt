-- What is given of holds goes by their runs.
use Rattle.std.proofs.Common.{◌≡◌, ℕ, ◌+◌, ◌-◌, ◌<◌, List, [], ◌∷◌, Bool, true, false, cond, nat_lt, ◌==◌, ◌&&◌, inl, inr, refl, ap, sym, ◌∙◌, arith}
use Rattle.std.proofs.lemmas.Bool.{and_cases, and_left, and_right, eqb-false, eqb-true, le-ltb, ltb-false, ne_eqb}
use Rattle.std.proofs.lemmas.Bool.Decides.{nat_tests}
use Rattle.xb_contact.specs.declared.bell.Bell.{Bell}
use Rattle.xb_contact.specs.declared.level.Level.{Level}
use Rattle.xb_contact.specs.declared.level.Level.TheVariants.{Open, Closed}
use Rattle.xb_contact.specs.declared.hold.Hold.{Hold}
use Rattle.xb_contact.specs.Holds.{hold_of, join, runs_of, total_of}
use Rattle.xb_contact.specs.Ringing.{Ringing, Rung, all_rung, bell_later, bell_of, in_break, in_make, make_lasts, ringing_with, rung, rung_of, silent, with_hold, with_make_on}
use Rattle.xb_contact.specs.RingingLaws.{RingsAllTime, RingsForGood}
use Rattle.xb_contact.specs.Seizures.{is_short_on_hook}
use Rattle.xb_contact.proofs.JoinedRuns.{added, runs_of-cons}
use Rattle.xb_contact.proofs.SeizedRuns.{runs_cong, runs_sum}

-- a break in two parts
later_sum : (bell : Bell) (a b : ℕ) → bell_later (bell_later bell a) b ≡ bell_later bell (a + b)
later_sum bell a b =
    let p : (bell.period - a) - b ≡ bell.period - (a + b) = omega arith in
    let w : (bell.waits - a) - b ≡ bell.waits - (a + b) = omega arith in
    ap (λ n. bell_of n bell.lacks ((bell.waits - a) - b)) p ∙ ap (λ n. bell_of (bell.period - (a + b)) bell.lacks n) w

break_sum : (line : Ringing) (a b : ℕ) → in_break (in_break line a) b ≡ in_break line (a + b)
break_sum line a b =
    let l : (line.lacks - a) - b ≡ line.lacks - (a + b) = omega arith in
    ap (λ n. ringing_with line Open line.call n line.wants (bell_later (bell_later line.bell a) b)) l
    ∙ ap (λ bell. ringing_with line Open line.call (line.lacks - (a + b)) line.wants bell) (later_sum line.bell a b)

-- a make in two parts
short_sum : (wants a b : ℕ) → nat_lt b (wants - a) ≡ nat_lt (a + b) wants
short_sum wants a b = grind (arith, nat_tests)

lasts_sum : (line : Ringing) (a b : ℕ) → in_make (make_lasts line a) b ≡ make_lasts line (a + b)
lasts_sum line a b = by (is_short_on_hook line.wants line.lacks a) refl
  where
    by :
        (v : Bool) → is_short_on_hook line.wants line.lacks a ≡ v
        → in_make
        (cond v (ringing_with line Closed line.call line.lacks (line.wants - a) (bell_later line.bell a))
        (ringing_with line Closed line.call line.release 0 silent)) b
        ≡ make_lasts line (a + b)
    by true e =
        let w : (line.wants - a) - b ≡ line.wants - (a + b) = omega arith in
        ap (λ t. cond ((line.lacks == 0) && t)
        (ringing_with line Closed line.call line.lacks ((line.wants - a) - b) (bell_later (bell_later line.bell a) b))
        (ringing_with line Closed line.call line.release 0 silent)) (short_sum line.wants a b)
        ∙ ap (λ n. cond (is_short_on_hook line.wants line.lacks (a + b))
        (ringing_with line Closed line.call line.lacks n (bell_later (bell_later line.bell a) b))
        (ringing_with line Closed line.call line.release 0 silent)) w
        ∙ ap (λ bell. cond (is_short_on_hook line.wants line.lacks (a + b))
        (ringing_with line Closed line.call line.lacks (line.wants - (a + b)) bell)
        (ringing_with line Closed line.call line.release 0 silent)) (later_sum line.bell a b)
    by false e =
        let never : is_short_on_hook 0 line.release b ≡ false =
        and_right (line.release == 0) (nat_lt b 0) (le-ltb b 0 (omega arith)) in
        let off : is_short_on_hook line.wants line.lacks (a + b) ≡ false =
        elim (and_cases (line.lacks == 0) (nat_lt a line.wants) e) [
          | inl some ↦ and_left (line.lacks == 0) (nat_lt (a + b) line.wants) some
          | inr far ↦ and_right (line.lacks == 0) (nat_lt (a + b) line.wants)
              (le-ltb (a + b) line.wants (omega (arith, ltb-false a line.wants far)))
        ] in
        ap (λ t. cond t
        (ringing_with line Closed line.call line.release (0 - b) (bell_later silent b))
        (ringing_with line Closed line.call line.release 0 silent)) never
        ∙ sym (ap (λ t. cond t
        (ringing_with line Closed line.call line.lacks (line.wants - (a + b)) (bell_later line.bell (a + b)))
        (ringing_with line Closed line.call line.release 0 silent)) off)

make_sum : (line : Ringing) (a b : ℕ) → in_make (in_make line a) b ≡ in_make line (a + b)
make_sum line a b = lasts_sum (with_make_on line) a b

-- the level at which a make is given does not change while it lasts
pub call_lasts : (line : Ringing) (t : ℕ) → (make_lasts line t).call ≡ line.call
call_lasts line t = by (is_short_on_hook line.wants line.lacks t)
  where
    by :
        (v : Bool)
        → (cond v (ringing_with line Closed line.call line.lacks (line.wants - t) (bell_later line.bell t))
        (ringing_with line Closed line.call line.release 0 silent)).call ≡ line.call
    by true = refl
    by false = refl

call_sum : (line : Ringing) (a b : ℕ) → (in_make line (a + b)).call ≡ (in_make line a).call
call_sum line a b = call_lasts (with_make_on line) (a + b) ∙ sym (call_lasts (with_make_on line) a)

abbrev given_then : Rung → List Hold → List Hold
given_then r hs = r.given ∷ all_rung r.after hs

-- a hold that lasts
lasting_rung :
    (line : Ringing) (c : Level) (t : ℕ) → (t == 0) ≡ false → rung line (hold_of c t) ≡ with_hold c line t
lasting_rung line c t e = ap (λ b. cond b (rung_of (hold_of c t) line) (with_hold c line t)) e

-- a hold in two parts
parts_rung :
    (line : Ringing) (c : Level) (a b : ℕ) (X : List Hold)
    → runs_of (given_then (with_hold c line (a + b)) X)
    ≡ runs_of ((with_hold c line a).given ∷ given_then (with_hold c (with_hold c line a).after b) X)
parts_rung line Open a b X =
    sym (ap (λ next. runs_of (hold_of Open a ∷ hold_of Open b ∷ all_rung next X)) (break_sum line a b)
    ∙ runs_sum Open a b (all_rung (in_break line (a + b)) X))
parts_rung line Closed a b X =
    sym (ap (λ next. runs_of (hold_of (in_make line a).call a ∷ hold_of next.call b ∷ all_rung next X)) (make_sum line a b)
    ∙ ap (λ c. runs_of (hold_of (in_make line a).call a ∷ hold_of c b ∷ all_rung (in_make line (a + b)) X)) (call_sum line a b)
    ∙ runs_sum (in_make line a).call a b (all_rung (in_make line (a + b)) X)
    ∙ sym (ap (λ c. runs_of (hold_of c (a + b) ∷ all_rung (in_make line (a + b)) X)) (call_sum line a b)))

-- a hold that takes in the first of the runs to come
join_rung :
    (line : Ringing) (c : Level) (t : ℕ) (R : List Hold) → (t == 0) ≡ false
    → runs_of (all_rung line (join (hold_of c t) R)) ≡ runs_of (all_rung line (hold_of c t ∷ R))
join_rung line c t [] lasts = refl
join_rung line c t (q ∷ R) lasts = at c q.level
  where
    some : 0 < t
    some = omega (arith, eqb-false t 0 lasts)

    none :
        (l : Level) → q.ticks ≡ 0
        → runs_of (given_then (rung line (hold_of l (t + q.ticks))) R)
        ≡ runs_of (given_then (rung line (hold_of l t)) (hold_of l q.ticks ∷ R))
    none l e =
        let same : t + q.ticks ≡ t = omega (arith, e) in
        ap (λ n. runs_of (given_then (rung line (hold_of l n)) R)) same
        ∙ sym (ap (λ n. runs_of (given_then (rung line (hold_of l t)) (hold_of l n ∷ R))) e
        ∙ runs_cong (rung line (hold_of l t)).given
        (hold_of l 0 ∷ all_rung (rung line (hold_of l t)).after R) (all_rung (rung line (hold_of l t)).after R) refl)

    both :
        (l : Level) → (q.ticks == 0) ≡ false
        → runs_of (given_then (rung line (hold_of l (t + q.ticks))) R)
        ≡ runs_of (given_then (rung line (hold_of l t)) (hold_of l q.ticks ∷ R))
    both l e =
        let all : (t + q.ticks == 0) ≡ false = ne_eqb (t + q.ticks) 0 (omega (arith, some)) in
        ap (λ r. runs_of (given_then r R)) (lasting_rung line l (t + q.ticks) all)
        ∙ parts_rung line l t q.ticks R
        ∙ sym (ap (λ r. runs_of (r.given ∷ given_then (rung r.after (hold_of l q.ticks)) R)) (lasting_rung line l t lasts)
        ∙ ap (λ r. runs_of ((with_hold l line t).given ∷ given_then r R))
        (lasting_rung (with_hold l line t).after l q.ticks e))

    same :
        (l : Level) (v : Bool) → (q.ticks == 0) ≡ v
        → runs_of (given_then (rung line (hold_of l (t + q.ticks))) R)
        ≡ runs_of (given_then (rung line (hold_of l t)) (hold_of l q.ticks ∷ R))
    same l true e = none l (eqb-true q.ticks 0 e)
    same l false e = both l e

    at :
        (l m : Level)
        → runs_of (all_rung line (join (hold_of l t) (hold_of m q.ticks ∷ R)))
        ≡ runs_of (all_rung line (hold_of l t ∷ hold_of m q.ticks ∷ R))
    at Open Open = same Open (q.ticks == 0) refl
    at Closed Closed = same Closed (q.ticks == 0) refl
    at Open Closed = refl
    at Closed Open = refl

pub rung_goes_by_runs :
    (line : Ringing) (holds : List Hold) → runs_of (all_rung line holds) ≡ runs_of (all_rung line (runs_of holds))
rung_goes_by_runs line [] = refl
rung_goes_by_runs line (h ∷ hs) =
    by (h.ticks == 0) refl (λ next. rung_goes_by_runs next hs)
    ∙ sym (ap (λ R. runs_of (all_rung line R)) (runs_of-cons h hs))
  where
    by :
        (v : Bool) → (h.ticks == 0) ≡ v
        → ((next : Ringing) → runs_of (all_rung next hs) ≡ runs_of (all_rung next (runs_of hs)))
        → runs_of (given_then (rung line h) hs) ≡ runs_of (all_rung line (added h (runs_of hs)))
    by true e later =
        ap (λ b. runs_of (given_then (cond b (rung_of h line) (with_hold h.level line h.ticks)) hs)) e
        ∙ runs_of-cons h (all_rung line hs)
        ∙ ap (λ b. cond b (runs_of (all_rung line hs)) (join h (runs_of (all_rung line hs)))) e
        ∙ later line
        ∙ sym (ap (λ b. runs_of (all_rung line (cond b (runs_of hs) (join h (runs_of hs))))) e)
    by false e later =
        runs_cong (rung line h).given (all_rung (rung line h).after hs) (all_rung (rung line h).after (runs_of hs))
        (later (rung line h).after)
        ∙ sym (join_rung line h.level h.ticks (runs_of hs) e)
        ∙ sym (ap (λ b. runs_of (all_rung line (cond b (runs_of hs) (join h (runs_of hs))))) e)

-- what was given stands
pub rings_for_good : RingsForGood
rings_for_good line [] later = refl
rings_for_good line (h ∷ hs) later =
    ap (λ rest. (rung line h).given ∷ rest) (rings_for_good (rung line h).after hs later)

-- time
rung-ticks : (line : Ringing) (h : Hold) → (rung line h).given.ticks ≡ h.ticks
rung-ticks line h = by (h.ticks == 0) h.level
  where
    by : (v : Bool) (c : Level) → (cond v (rung_of h line) (with_hold c line h.ticks)).given.ticks ≡ h.ticks
    by true c = refl
    by false Open = refl
    by false Closed = refl

pub rings_all_time : RingsAllTime
rings_all_time line [] = refl
rings_all_time line (h ∷ hs) =
    ap (λ n. n + total_of (all_rung (rung line h).after hs)) (rung-ticks line h)
    ∙ ap (λ n. h.ticks + n) (rings_all_time (rung line h).after hs)
