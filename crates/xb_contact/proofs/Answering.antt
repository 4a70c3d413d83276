-- Calls that answer the bell are written as breaks, and no other is.
use Rattle.std.proofs.Common.{◌≡◌, ℕ, ◌+◌, ◌-◌, ◌<◌, ◌≤◌, List, [], ◌∷◌, ◌++◌, Bool, true, false, cond, nat_lt, reverse, ◌==◌, ◌&&◌, refl, ap, sym, ◌∙◌, append_assoc, append-nil, arith}
use Rattle.std.proofs.lemmas.Bool.{le-ltb, leb-true, leb-false, lt-ltb, ne_eqb}
use Rattle.std.proofs.lemmas.List.{reverse-append}
use Rattle.xb_contact.specs.declared.level.Level.{Level}
use Rattle.xb_contact.specs.declared.level.Level.TheVariants.{Open, Closed}
use Rattle.xb_contact.specs.declared.hold.Hold.{Hold}
use Rattle.xb_contact.specs.Holds.{hold_of, runs_of, total_of}
use Rattle.xb_contact.specs.Rings.{awaits, ends_in_burst, is_period, level_of_make, periods_at_end, written}
use Rattle.xb_contact.specs.RingingLaws.{AreFlashes, AreShortMakes, Flash, HasNoBurst, LeavesCalls, OpensAnswers, call_runs, flashes, opened}
use Rattle.xb_contact.specs.Seizures.{is_open, is_short_on_hook}
use Rattle.xb_contact.proofs.SeizedRuns.{runs_of-runs}

-- what came earlier ends no burst
periods_last : (x y : List Hold) → periods_at_end x ≤ periods_at_end (x ++ y)
periods_last [] y = omega arith
periods_last (r ∷ []) y = omega arith
periods_last (r ∷ m ∷ x) y = by (is_period m r) (periods_last x y)
  where
    by :
        (b : Bool) → periods_at_end x ≤ periods_at_end (x ++ y)
        → cond b (periods_at_end x + 1) 0 ≤ cond b (periods_at_end (x ++ y) + 1) 0
    by true h = omega (arith, h)
    by false h = omega arith

no_burst_before : (x y : List Hold) → ends_in_burst (x ++ y) ≡ false → ends_in_burst x ≡ false
no_burst_before x y e = by (ends_in_burst x) refl
  where
    by : (b : Bool) → ends_in_burst x ≡ b → b ≡ false
    by false k = refl
    by true k =
        let many : 8 ≤ periods_at_end x = leb-true 8 (periods_at_end x) k in
        let few : periods_at_end (x ++ y) < 8 = leb-false 8 (periods_at_end (x ++ y)) e in
        absurd (omega (arith, many, few, periods_last x y))

-- no burst stands in runs to come, after those that came
abbrev NoBurst : List Hold → List Hold → Type 0
NoBurst all R = (a b : List Hold) → a ++ b ≡ R → ends_in_burst (reverse a ++ all) ≡ false

no_burst_next : (all : List Hold) (run : Hold) (R : List Hold) → NoBurst all (run ∷ R) → NoBurst (run ∷ all) R
no_burst_next all run R none a b e =
    sym (ap ends_in_burst
    (ap (λ x. x ++ all) (reverse-append (run ∷ []) a) ∙ append_assoc (reverse a) (run ∷ []) all))
    ∙ none (run ∷ a) b (ap (λ x. run ∷ x) e)

awaits_none :
    (wait : ℕ) (run : Hold) (past older R : List Hold) → NoBurst (past ++ older) (run ∷ R) → awaits wait past ≡ 0
    → awaits wait (run ∷ past) ≡ 0
awaits_none wait run past older R none e =
    let no : ends_in_burst (run ∷ past) ≡ false =
    no_burst_before (run ∷ past) older (none (run ∷ []) R refl) in
    let still : awaits wait past - run.ticks ≡ 0 = omega (arith, e) in
    ap (λ b. cond b wait (awaits wait past - run.ticks)) no ∙ still

stays :
    (wait least release lacks : ℕ) (past older R : List Hold) → NoBurst (past ++ older) R → awaits wait past ≡ 0
    → written wait least release Closed lacks past R ≡ R
stays wait least release lacks past older [] none e = refl
stays wait least release lacks past older (run ∷ R) none e =
    at run.level
    (stays wait least release (lacks - run.ticks) (run ∷ past) older R next still)
    (stays wait least release lacks (run ∷ past) older R next still)
    (stays wait least release release [] (run ∷ (past ++ older)) R next refl)
  where
    next : NoBurst (run ∷ (past ++ older)) R
    next = no_burst_next (past ++ older) run R none

    still : awaits wait (run ∷ past) ≡ 0
    still = awaits_none wait run past older R none e

    closed : (b : Bool) → cond b (cond (awaits wait past == 0) Closed Open) Closed ≡ Closed
    closed true = ap (λ n. cond (n == 0) Closed Open) e
    closed false = refl

    short_or_not :
        (b : Bool)
        → written wait least release Closed lacks (run ∷ past) R ≡ R
        → written wait least release Closed release [] R ≡ R
        → cond b (written wait least release Closed lacks (run ∷ past) R)
        (written wait least release Closed release [] R) ≡ R
    short_or_not true short long = short
    short_or_not false short long = long

    at_level : Level → List Hold
    at_level level =
        hold_of level run.ticks
        ∷ cond (is_short_on_hook least lacks run.ticks) (written wait least release level lacks (run ∷ past) R)
        (written wait least release level release [] R)

    at :
        (c : Level)
        → written wait least release Closed (lacks - run.ticks) (run ∷ past) R ≡ R
        → written wait least release Closed lacks (run ∷ past) R ≡ R
        → written wait least release Closed release [] R ≡ R
        → cond (is_open c)
        (hold_of c run.ticks ∷ written wait least release Closed (lacks - run.ticks) (run ∷ past) R)
        (at_level (level_of_make wait Closed lacks past))
        ≡ hold_of c run.ticks ∷ R
    at Open rests short long = ap (λ X. hold_of Open run.ticks ∷ X) rests
    at Closed rests short long =
        ap at_level (closed (lacks == 0))
        ∙ ap (λ X. hold_of Closed run.ticks ∷ X) (short_or_not (is_short_on_hook least lacks run.ticks) short long)

no_burst_at_all : (R : List Hold) → HasNoBurst R → NoBurst [] R
no_burst_at_all R none a b e = ap ends_in_burst (append-nil (reverse a)) ∙ none a b e

pub leaves_calls : LeavesCalls
leaves_calls wait least release holds none =
    ap runs_of (stays wait least release 0 [] [] (runs_of holds) (no_burst_at_all (runs_of holds) none) refl)
    ∙ runs_of-runs holds

-- how long an answer counts
awaits_most : (wait : ℕ) (past : List Hold) → awaits wait past ≤ wait
awaits_most wait [] = omega arith
awaits_most wait (run ∷ past) = by (ends_in_burst (run ∷ past)) (awaits_most wait past)
  where
    by :
        (b : Bool) → awaits wait past ≤ wait → cond b wait (awaits wait past - run.ticks) ≤ wait
    by true h = omega arith
    by false h = omega (arith, h)

awaits_still :
    (wait : ℕ) (run : Hold) (past : List Hold) (n : ℕ) → run.ticks + n < awaits wait past
    → n < awaits wait (run ∷ past)
awaits_still wait run past n h = by (ends_in_burst (run ∷ past)) (awaits_most wait past)
  where
    by :
        (b : Bool) → awaits wait past ≤ wait → n < cond b wait (awaits wait past - run.ticks)
    by true k = omega (arith, h, k)
    by false k = omega (arith, h)

pub awaits_all : (wait : ℕ) (past : List Hold) → ends_in_burst past ≡ true → awaits wait past ≡ wait
awaits_all wait [] e = cc
awaits_all wait (run ∷ past) e = ap (λ b. cond b wait (awaits wait past - run.ticks)) e

awaits_open : (wait : ℕ) (past : List Hold) → 0 < awaits wait past → cond (awaits wait past == 0) Closed Open ≡ Open
awaits_open wait past h =
    ap (λ b. cond b Closed Open) (ne_eqb (awaits wait past) 0 (omega (arith, h)))

-- on hook it does not matter how the makes of the last call were written
call_over :
    (wait least release : ℕ) (call : Level) (past R : List Hold)
    → written wait least release call 0 past R ≡ written wait least release Closed 0 past R
call_over wait least release call past [] = refl
call_over wait least release call past (run ∷ R) =
    at run.level (λ c. call_over wait least release c (run ∷ past) R)
  where
    none : 0 - run.ticks ≡ 0
    none = omega arith

    make : List Hold
    make =
        let level : Level = cond (awaits wait past == 0) Closed Open in
        hold_of level run.ticks
        ∷ cond (nat_lt run.ticks least) (written wait least release level 0 (run ∷ past) R)
        (written wait least release level release [] R)

    at :
        (c : Level)
        → ((level : Level)
        → written wait least release level 0 (run ∷ past) R ≡ written wait least release Closed 0 (run ∷ past) R)
        → cond (is_open c) (run ∷ written wait least release call (0 - run.ticks) (run ∷ past) R) make
        ≡ cond (is_open c) (run ∷ written wait least release Closed (0 - run.ticks) (run ∷ past) R) make
    at Open later =
        ap (λ n. run ∷ written wait least release call n (run ∷ past) R) none
        ∙ ap (λ X. run ∷ X) (later call)
        ∙ sym (ap (λ n. run ∷ written wait least release Closed n (run ∷ past) R) none)
    at Closed later = refl

-- a call that answers goes on to its release
module _ (wait least release end : ℕ) (later : List Hold) (ends : release ≤ end) where
  abbrev released : List Hold
  released = written wait least release Closed 0 (hold_of Open end ∷ []) later

  abbrev answer_then : Level → Level → ℕ → Bool → List Hold → List Hold → List Hold
  answer_then call level lacks short past R =
      cond short (written wait least release level lacks past R) (written wait least release level release [] R)

  talk_opens :
      (talk : List Flash) → AreFlashes release talk
      → written wait least release Open release [] (flashes talk ++ hold_of Open end ∷ later)
      ≡ opened (flashes talk) ++ hold_of Open end ∷ released
  talk_opens [] short =
      let none : release - end ≡ 0 = omega (arith, ends) in
      ap (λ n. hold_of Open end ∷ written wait least release Open n (hold_of Open end ∷ []) later) none
      ∙ ap (λ X. hold_of Open end ∷ X) (call_over wait least release Open (hold_of Open end ∷ []) later)
  talk_opens (flash ∷ talk) short =
      let off : (release - flash.rest == 0) ≡ false =
      ne_eqb (release - flash.rest) 0 (omega (arith, short.0)) in
      let before : List Hold = hold_of Open flash.rest ∷ [] in
      let X : List Hold = flashes talk ++ hold_of Open end ∷ later in
      ap (λ b. hold_of Open flash.rest
      ∷ hold_of (cond b (cond (awaits wait before == 0) Closed Open) Open) flash.make
      ∷ answer_then Open (cond b (cond (awaits wait before == 0) Closed Open) Open) (release - flash.rest)
      (b && nat_lt flash.make least) (hold_of Closed flash.make ∷ before) X) off
      ∙ ap (λ R. hold_of Open flash.rest ∷ hold_of Open flash.make ∷ R) (talk_opens talk short.1)

  -- it begins where an answer counts
  pub call_opens :
      (call : Level) (past : List Hold) (make : ℕ) (talk : List Flash) → 0 < awaits wait past → least ≤ make
      → AreFlashes release talk
      → written wait least release call 0 past (hold_of Closed make ∷ (flashes talk ++ hold_of Open end ∷ later))
      ≡ hold_of Open make ∷ (opened (flashes talk) ++ hold_of Open end ∷ released)
  call_opens call past make talk waits long short =
      let X : List Hold = flashes talk ++ hold_of Open end ∷ later in
      let far : nat_lt make least ≡ false = le-ltb make least long in
      ap (λ c. hold_of c make
      ∷ answer_then call c 0 (nat_lt make least) (hold_of Closed make ∷ past) X) (awaits_open wait past waits)
      ∙ ap (λ b. hold_of Open make ∷ answer_then call Open 0 b (hold_of Closed make ∷ past) X) far
      ∙ ap (λ R. hold_of Open make ∷ R) (talk_opens talk short)

-- what takes no line off hook is open
pause_opens :
    (wait least release : ℕ) (call : Level) (past pause rest out : List Hold) → AreShortMakes least pause
    → total_of pause < awaits wait past
    → ((level : Level) (before : List Hold) → 0 < awaits wait before
    → written wait least release level 0 before rest ≡ out)
    → written wait least release call 0 past (pause ++ rest) ≡ opened pause ++ out
pause_opens wait least release call past [] rest out short soon then = then call past soon
pause_opens wait least release call past (run ∷ pause) rest out short soon then =
    at run.level short.0
    (λ level. pause_opens wait least release level (run ∷ past) pause rest out short.1
    (awaits_still wait run past (total_of pause) soon) then)
  where
    none : 0 - run.ticks ≡ 0
    none = omega arith

    waits : cond (awaits wait past == 0) Closed Open ≡ Open
    waits = awaits_open wait past (omega (arith, soon))

    at :
        (c : Level) → (is_open c ≡ false → run.ticks < least)
        → ((level : Level)
        → written wait least release level 0 (run ∷ past) (pause ++ rest) ≡ opened pause ++ out)
        → cond (is_open c)
        (hold_of c run.ticks ∷ written wait least release call (0 - run.ticks) (run ∷ past) (pause ++ rest))
        (hold_of (cond (awaits wait past == 0) Closed Open) run.ticks
        ∷ cond (nat_lt run.ticks least)
        (written wait least release (cond (awaits wait past == 0) Closed Open) 0 (run ∷ past) (pause ++ rest))
        (written wait least release (cond (awaits wait past == 0) Closed Open) release [] (pause ++ rest)))
        ≡ hold_of Open run.ticks ∷ (opened pause ++ out)
    at Open few later =
        ap (λ n. hold_of Open run.ticks ∷ written wait least release call n (run ∷ past) (pause ++ rest)) none
        ∙ ap (λ X. hold_of Open run.ticks ∷ X) (later call)
    at Closed few later =
        ap (λ c. hold_of c run.ticks
        ∷ cond (nat_lt run.ticks least) (written wait least release c 0 (run ∷ past) (pause ++ rest))
        (written wait least release c release [] (pause ++ rest))) waits
        ∙ ap (λ b. hold_of Open run.ticks
        ∷ cond b (written wait least release Open 0 (run ∷ past) (pause ++ rest))
        (written wait least release Open release [] (pause ++ rest))) (lt-ltb run.ticks least (few refl))
        ∙ ap (λ X. hold_of Open run.ticks ∷ X) (later Open)

-- lists put together
pub opened-append : (x y : List Hold) → opened (x ++ y) ≡ opened x ++ opened y
opened-append [] y = refl
opened-append (h ∷ x) y = ap (λ R. hold_of Open h.ticks ∷ R) (opened-append x y)

answer_later :
    (pause : List Hold) (make : ℕ) (talk : List Flash) (end : ℕ) (later : List Hold)
    → (pause ++ call_runs make talk end) ++ later
    ≡ pause ++ hold_of Closed make ∷ (flashes talk ++ hold_of Open end ∷ later)
answer_later pause make talk end later =
    append_assoc pause (hold_of Closed make ∷ (flashes talk ++ hold_of Open end ∷ [])) later
    ∙ ap (λ R. pause ++ hold_of Closed make ∷ R) (append_assoc (flashes talk) (hold_of Open end ∷ []) later)

opened_later :
    (pause : List Hold) (make : ℕ) (talk : List Flash) (end : ℕ) (out : List Hold)
    → opened ((pause ++ call_runs make talk end)) ++ out
    ≡ opened pause ++ hold_of Open make ∷ (opened (flashes talk) ++ hold_of Open end ∷ out)
opened_later pause make talk end out =
    ap (λ R. R ++ out) (opened-append pause (hold_of Closed make ∷ (flashes talk ++ hold_of Open end ∷ []))
    ∙ ap (λ R. opened pause ++ hold_of Open make ∷ R) (opened-append (flashes talk) (hold_of Open end ∷ [])))
    ∙ append_assoc (opened pause) (hold_of Open make ∷ (opened (flashes talk) ++ hold_of Open end ∷ [])) out
    ∙ ap (λ R. opened pause ++ hold_of Open make ∷ R)
    (append_assoc (opened (flashes talk)) (hold_of Open end ∷ []) out)

pub opens_answers : OpensAnswers
opens_answers wait least release past pause make talk end later burst answer =
    let out : List Hold = written wait least release Closed 0 (hold_of Open end ∷ []) later in
    let soon : total_of pause < awaits wait past = omega (arith, answer.soon, awaits_all wait past burst) in
    ap (λ R. written wait least release Closed 0 past R) (answer_later pause make talk end later)
    ∙ pause_opens wait least release Closed past pause
    (hold_of Closed make ∷ (flashes talk ++ hold_of Open end ∷ later))
    (hold_of Open make ∷ (opened (flashes talk) ++ hold_of Open end ∷ out))
    answer.waits soon
    (λ level before waits.
    call_opens wait least release end later answer.call.releases level before make talk waits answer.call.long answer.call.goes_on)
    ∙ sym (opened_later pause make talk end out)
