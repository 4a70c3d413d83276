-- A night of ringing and of calls.
use Rattle.std.proofs.Common.{◌≡◌, ℕ, ◌+◌, ◌-◌, ◌<◌, ◌≤◌, List, [], ◌∷◌, ◌++◌, Bool, true, false, cond, length, nat_le, nat_lt, reverse, ◌==◌, ◌&&◌, refl, ap, sym, ◌∙◌, append_assoc, arith}
use Rattle.std.proofs.lemmas.Bool.{and_from, eqb-false, le-leb, le-ltb, ne_eqb}
use Rattle.std.proofs.lemmas.List.{reverse-append}
use Rattle.xb_contact.specs.declared.level.Level.{Level}
use Rattle.xb_contact.specs.declared.level.Level.TheVariants.{Open, Closed}
use Rattle.xb_contact.specs.declared.hold.Hold.{Hold}
use Rattle.xb_contact.specs.Holds.{hold_of, runs_of}
use Rattle.xb_contact.specs.Nights.{AreParts, ArePeriods, CountsAfterBursts, Part, LeavesOwnCalls, Period, call, night_left, night_runs, on_hook, rings}
use Rattle.xb_contact.specs.Rings.{awaits, ends_in_burst, lasts_a_period, periods_at_end, written}
use Rattle.xb_contact.specs.RingingLaws.{AreFlashes, Flash, IsCall, call_runs, flashes, opened}
use Rattle.xb_contact.specs.Seizures.{seizures}
use Rattle.xb_contact.proofs.Answering.{awaits_all, call_opens, opened-append}
use Rattle.xb_contact.proofs.Apart.{opened_seized, seized_answered, short_open}

-- a call of the line's own stays whole
module _ (wait least release end : ℕ) (later : List Hold) (ends : release ≤ end) where
  abbrev then_seized : List Hold
  then_seized = seizures least release 0 (written wait least release Closed 0 (hold_of Open end ∷ []) later)

  talk_stays :
      (talk : List Flash) → AreFlashes release talk
      → seizures least release release
      (written wait least release Closed release [] (flashes talk ++ hold_of Open end ∷ later))
      ≡ flashes talk ++ hold_of Open end ∷ then_seized
  talk_stays [] short =
      let none : release - end ≡ 0 = omega (arith, ends) in
      ap (λ n. hold_of Open end
      ∷ seizures least release n (written wait least release Closed n (hold_of Open end ∷ []) later)) none
  talk_stays (flash ∷ talk) short =
      let off : (release - flash.rest == 0) ≡ false =
      ne_eqb (release - flash.rest) 0 (omega (arith, short.0)) in
      let before : List Hold = hold_of Open flash.rest ∷ [] in
      let X : List Hold = flashes talk ++ hold_of Open end ∷ later in
      let W : List Hold = written wait least release Closed release [] X in
      ap (λ b. hold_of Open flash.rest ∷ seizures least release (release - flash.rest)
      (hold_of (cond b (cond (awaits wait before == 0) Closed Open) Closed) flash.make
      ∷ cond (b && nat_lt flash.make least)
      (written wait least release (cond b (cond (awaits wait before == 0) Closed Open) Closed) (release - flash.rest)
      (hold_of Closed flash.make ∷ before) X)
      (written wait least release (cond b (cond (awaits wait before == 0) Closed Open) Closed) release [] X))) off
      ∙ ap (λ b. hold_of Open flash.rest ∷ cond (b && nat_lt flash.make least)
      (hold_of Open flash.make ∷ seizures least release (release - flash.rest) W)
      (hold_of Closed flash.make ∷ seizures least release release W)) off
      ∙ ap (λ R. hold_of Open flash.rest ∷ hold_of Closed flash.make ∷ R) (talk_stays talk short.1)

  call_stays :
      (level : Level) (past : List Hold) (make : ℕ) (talk : List Flash) → (awaits wait past == 0) ≡ true
      → least ≤ make → AreFlashes release talk
      → seizures least release 0
      (written wait least release level 0 past (hold_of Closed make ∷ (flashes talk ++ hold_of Open end ∷ later)))
      ≡ hold_of Closed make ∷ (flashes talk ++ hold_of Open end ∷ then_seized)
  call_stays level past make talk none long short =
      let X : List Hold = flashes talk ++ hold_of Open end ∷ later in
      let W : List Hold = written wait least release Closed release [] X in
      let far : nat_lt make least ≡ false = le-ltb make least long in
      ap (λ b. seizures least release 0 (hold_of (cond b Closed Open) make
      ∷ cond (nat_lt make least) (written wait least release (cond b Closed Open) 0 (hold_of Closed make ∷ past) X)
      (written wait least release (cond b Closed Open) release [] X))) none
      ∙ ap (λ b. seizures least release 0 (hold_of Closed make
      ∷ cond b (written wait least release Closed 0 (hold_of Closed make ∷ past) X) W)) far
      ∙ ap (λ b. cond b (hold_of Open make ∷ seizures least release 0 W)
      (hold_of Closed make ∷ seizures least release release W)) far
      ∙ ap (λ R. hold_of Closed make ∷ R) (talk_stays talk short)

-- a call, and what comes later
call_later :
    (make : ℕ) (talk : List Flash) (end : ℕ) (later : List Hold)
    → call_runs make talk end ++ later ≡ hold_of Closed make ∷ (flashes talk ++ hold_of Open end ∷ later)
call_later make talk end later =
    ap (λ R. hold_of Closed make ∷ R) (append_assoc (flashes talk) (hold_of Open end ∷ []) later)

opened_call :
    (make : ℕ) (talk : List Flash) (end : ℕ) (later : List Hold)
    → opened (call_runs make talk end) ++ later
    ≡ hold_of Open make ∷ (opened (flashes talk) ++ hold_of Open end ∷ later)
opened_call make talk end later =
    ap (λ R. hold_of Open make ∷ (R ++ later)) (opened-append (flashes talk) (hold_of Open end ∷ []))
    ∙ ap (λ R. hold_of Open make ∷ R) (append_assoc (opened (flashes talk)) (hold_of Open end ∷ []) later)

module _ (wait least release : ℕ) where
  call_left :
      (level : Level) (past : List Hold) (make : ℕ) (talk : List Flash) (end : ℕ) (later out : List Hold)
      → IsCall least release make talk end
      → seizures least release 0 (written wait least release Closed 0 (hold_of Open end ∷ []) later) ≡ out
      → seizures least release 0 (written wait least release level 0 past (call_runs make talk end ++ later))
      ≡ cond (awaits wait past == 0) (call_runs make talk end) (opened (call_runs make talk end)) ++ out
  call_left level past make talk end later out is then =
      ap (λ R. seizures least release 0 (written wait least release level 0 past R)) (call_later make talk end later)
      ∙ by (awaits wait past == 0) refl
    where
      X : List Hold
      X = hold_of Closed make ∷ (flashes talk ++ hold_of Open end ∷ later)

      by :
          (b : Bool) → (awaits wait past == 0) ≡ b
          → seizures least release 0 (written wait least release level 0 past
          (hold_of Closed make ∷ (flashes talk ++ hold_of Open end ∷ later)))
          ≡ cond b (call_runs make talk end) (opened (call_runs make talk end)) ++ out
      by true e =
          call_stays wait least release end later is.releases level past make talk e is.long is.goes_on
          ∙ ap (λ R. hold_of Closed make ∷ (flashes talk ++ hold_of Open end ∷ R)) then
          ∙ sym (call_later make talk end out)
      by false e =
          let waits : 0 < awaits wait past = omega (arith, eqb-false (awaits wait past) 0 e) in
          let W : List Hold = written wait least release Closed 0 (hold_of Open end ∷ []) later in
          ap (seizures least release 0)
          (call_opens wait least release end later is.releases level past make talk waits is.long is.goes_on
          ∙ sym (opened_call make talk end W))
          ∙ opened_seized least release (call_runs make talk end) W
          ∙ ap (λ R. opened (call_runs make talk end) ++ R) then

  left_is :
      (parts : List Part) (level : Level) (past : List Hold) → AreParts least release parts
      → seizures least release 0 (written wait least release level 0 past (night_runs parts))
      ≡ night_left wait past parts
  left_is [] level past are = refl
  left_is (on_hook runs ∷ parts) level past are =
      short_open wait least release level past runs (night_runs parts)
      (night_left wait (reverse runs ++ past) parts) are.0
      (λ c. left_is parts c (reverse runs ++ past) are.1)
  left_is (call make talk end ∷ parts) level past are =
      call_left level past make talk end (night_runs parts) (night_left wait (hold_of Open end ∷ []) parts) are.0
      (left_is parts Closed (hold_of Open end ∷ []) are.1)

pub leaves_own_calls : LeavesOwnCalls
leaves_own_calls wait least release parts holds is are =
    seized_answered wait least release holds
    ∙ ap (λ R. runs_of (seizures least release 0 (written wait least release Closed 0 [] R))) is
    ∙ ap runs_of (left_is wait least release parts Closed [] are)

-- periods in a row
periods_count :
    (periods : List Period) (past : List Hold) → ArePeriods periods
    → length periods + periods_at_end past ≤ periods_at_end (reverse (rings periods) ++ past)
periods_count [] past are = omega arith
periods_count (period ∷ later) past are =
    let two : List Hold = hold_of Closed period.make ∷ hold_of Open period.rest ∷ [] in
    let sum : ℕ = period.make + period.rest in
    let lasts : lasts_a_period sum ≡ true =
    and_from (nat_le 15 sum) (nat_le sum 67) (le-leb 15 sum are.0) (le-leb sum 67 are.1) in
    let one : periods_at_end (hold_of Open period.rest ∷ hold_of Closed period.make ∷ past) ≡ periods_at_end past + 1 =
    ap (λ b. cond b (periods_at_end past + 1) 0) lasts in
    let more = periods_count later (hold_of Open period.rest ∷ hold_of Closed period.make ∷ past) are.2 in
    let same =
    ap periods_at_end (ap (λ x. x ++ past) (reverse-append two (rings later))
    ∙ append_assoc (reverse (rings later)) (hold_of Open period.rest ∷ hold_of Closed period.make ∷ []) past) in
    omega (arith, one, more, same)

pub counts_after_bursts : CountsAfterBursts
counts_after_bursts wait before periods are many =
    let runs : List Hold = before ++ rings periods in
    let count : 8 ≤ periods_at_end (reverse (rings periods) ++ reverse before) =
    omega (arith, many, periods_count periods (reverse before) are) in
    let burst : ends_in_burst (reverse runs) ≡ true =
    ap ends_in_burst (reverse-append before (rings periods))
    ∙ le-leb 8 (periods_at_end (reverse (rings periods) ++ reverse before)) count in
    (burst, awaits_all wait (reverse runs) burst)
