-- What is given of a line whose bell may ring is its record in which calls that answer the bell are breaks.
use Rattle.std.proofs.Common.{◌≡◌, ℕ, ◌-◌, ◌≤◌, List, [], ◌∷◌, Bool, true, false, cond, nat_lt, ◌==◌, refl, ap, sym, ◌∙◌, arith}
use Rattle.std.proofs.lemmas.Bool.{and_left, eqb-false, ne_eqb}
use Rattle.xb_contact.specs.declared.level.Level.{Level}
use Rattle.xb_contact.specs.declared.level.Level.TheVariants.{Open, Closed}
use Rattle.xb_contact.specs.declared.hold.Hold.{Hold}
use Rattle.xb_contact.specs.Holds.{AllLast, IsAlternating, differs_from_first, hold_of, joined, lasting, other_level, runs_of}
use Rattle.xb_contact.specs.Rings.{awaits, level_of_make, written}
use Rattle.xb_contact.specs.Ringing.{Ringing, all_rung, begun_ringing, bell_later, bell_with_make, call_level, in_break, in_make, make_lasts, ringing_with, rung_of, silent, with_hold, with_make_on, with_next_make}
use Rattle.xb_contact.specs.RingingLaws.{PassesTheAnswered, RingsEachHold, SeizesTheAnswered}
use Rattle.xb_contact.specs.Seizures.{is_open, is_short_on_hook, seizures}
use Rattle.xb_contact.proofs.Bells.{BellIs, bell_after, bell_is}
use Rattle.xb_contact.proofs.Records.{AllLast-join, IsAlternating-joined}
use Rattle.xb_contact.proofs.RungRuns.{rung_goes_by_runs}
use Rattle.xb_contact.proofs.SeizedRuns.{runs_of-runs}

-- a line after runs, the last one first, where a run of level `next` comes
record Follows (line : Ringing) (past : List Hold) (next : Level) : Type 0 where
  bell : line.bell ≡ bell_after line.wait past
  alternates : IsAlternating past
  differs : differs_from_first next past ≡ true
  opened : next ≡ Closed → line.level ≡ Open

abbrev FollowsAll : Ringing → List Hold → List Hold → Type 0
FollowsAll line past [] = Unit {0}
FollowsAll line past (run ∷ R) = Follows line past run.level

follows_next :
    (line : Ringing) (past R : List Hold) (c : Level) → differs_from_first c R ≡ true
    → Follows line past (other_level c) → FollowsAll line past R
follows_next line past [] c d f = tt
follows_next line past (q ∷ R) c d f = at c q.level d f
  where
    at :
        (c l : Level) → differs_from_first c (hold_of l q.ticks ∷ R) ≡ true
        → Follows line past (other_level c) → Follows line past l
    at Open Open e f = cc
    at Closed Closed e f = cc
    at Open Closed e f = f
    at Closed Open e f = f

abbrev AreWritten : Ringing → List Hold → List Hold → Type 0
AreWritten line past R =
    all_rung line R ≡ written line.wait line.least line.release line.call line.lacks past R

abbrev Writes : List Hold → Type 0
Writes R = (next : Ringing) (past : List Hold) → FollowsAll next past R → AreWritten next past R

-- a break
break_written :
    (line : Ringing) (past : List Hold) (t : ℕ) (R : List Hold) → (t == 0) ≡ false
    → differs_from_first Open R ≡ true → Follows line past Open → Writes R
    → AreWritten line past (hold_of Open t ∷ R)
break_written line past t R lasts d f later =
    let next : Ringing = in_break line t in
    ap (λ b. (cond b (rung_of (hold_of Open t) line) (with_hold Open line t)).given
    ∷ all_rung (cond b (rung_of (hold_of Open t) line) (with_hold Open line t)).after R) lasts
    ∙ ap (λ X. hold_of Open t ∷ X)
    (later next (hold_of Open t ∷ past)
    (follows_next next (hold_of Open t ∷ past) R Open d (record {
      bell = ap (λ bell. bell_later bell t) f.bell;
      alternates = (f.differs, f.alternates);
      differs = refl;
      opened = λ e. refl;
    })))

-- a make: what was heard of the bell is so, and the line waits for an answer or not
module _ (line : Ringing) (past : List Hold) (t : ℕ) (R : List Hold) (d : differs_from_first Closed R ≡ true)
    (f : Follows line past Closed) (later : Writes R) where
  call_is : call_level (bell_with_make line.wait line.bell) ≡ level_of_make line.wait line.call 0 past
  call_is =
      let is : BellIs line.wait past = bell_is line.wait past f.alternates f.differs in
      ap (λ b. call_level (bell_with_make line.wait b)) f.bell
      ∙ ap (λ n. cond (n == 0) Closed Open) is.waits

  -- a make that takes the line off hook, or goes on there
  goes : (call : Level) (wants : ℕ) → AreWritten (ringing_with line Closed call line.release wants silent) [] R
  goes call wants =
      later (ringing_with line Closed call line.release wants silent) []
      (follows_next (ringing_with line Closed call line.release wants silent) [] R Closed d (record {
        bell = refl;
        alternates = tt;
        differs = refl;
        opened = λ e. cc;
      }))

  -- a short one on hook
  stays :
      (call : Level) (wants : ℕ)
      → AreWritten (ringing_with line Closed call line.lacks wants (bell_later (bell_with_make line.wait line.bell) t))
      (hold_of Closed t ∷ past) R
  stays call wants =
      let next : Ringing =
      ringing_with line Closed call line.lacks wants (bell_later (bell_with_make line.wait line.bell) t) in
      later next (hold_of Closed t ∷ past) (follows_next next (hold_of Closed t ∷ past) R Closed d (record {
        bell = ap (λ b. bell_later (bell_with_make line.wait b) t) f.bell;
        alternates = (f.differs, f.alternates);
        differs = refl;
        opened = λ e. cc;
      }))

  abbrev then_written : Level → Bool → List Hold
  then_written call short =
      cond short (written line.wait line.least line.release call line.lacks (hold_of Closed t ∷ past) R)
      (written line.wait line.least line.release call line.release [] R)

  -- on hook
  on_hook :
      (line.lacks == 0) ≡ true
      → hold_of (make_lasts (ringing_with line Closed (call_level (bell_with_make line.wait line.bell)) line.lacks line.least
      (bell_with_make line.wait line.bell)) t).call t
      ∷ all_rung (make_lasts (ringing_with line Closed (call_level (bell_with_make line.wait line.bell)) line.lacks line.least
      (bell_with_make line.wait line.bell)) t) R
      ≡ hold_of (level_of_make line.wait line.call line.lacks past) t
      ∷ then_written (level_of_make line.wait line.call line.lacks past) (is_short_on_hook line.least line.lacks t)
  on_hook e =
      by (is_short_on_hook line.least line.lacks t)
      ∙ ap (λ c. hold_of c t ∷ then_written c (is_short_on_hook line.least line.lacks t)) level
    where
      level : call_level (bell_with_make line.wait line.bell) ≡ level_of_make line.wait line.call line.lacks past
      level =
          call_is
          ∙ sym (ap (λ b. cond b (cond (awaits line.wait past == 0) Closed Open) line.call) e)

      by :
          (v : Bool)
          → hold_of (cond v (ringing_with line Closed (call_level (bell_with_make line.wait line.bell)) line.lacks
          (line.least - t) (bell_later (bell_with_make line.wait line.bell) t))
          (ringing_with line Closed (call_level (bell_with_make line.wait line.bell)) line.release 0 silent)).call t
          ∷ all_rung (cond v (ringing_with line Closed (call_level (bell_with_make line.wait line.bell)) line.lacks
          (line.least - t) (bell_later (bell_with_make line.wait line.bell) t))
          (ringing_with line Closed (call_level (bell_with_make line.wait line.bell)) line.release 0 silent)) R
          ≡ hold_of (call_level (bell_with_make line.wait line.bell)) t
          ∷ then_written (call_level (bell_with_make line.wait line.bell)) v
      by true =
          ap (λ X. hold_of (call_level (bell_with_make line.wait line.bell)) t ∷ X)
          (stays (call_level (bell_with_make line.wait line.bell)) (line.least - t))
      by false =
          ap (λ X. hold_of (call_level (bell_with_make line.wait line.bell)) t ∷ X)
          (goes (call_level (bell_with_make line.wait line.bell)) 0)

  -- off hook
  off_hook :
      (line.lacks == 0) ≡ false
      → hold_of (make_lasts (ringing_with line Closed line.call line.lacks line.wants line.bell) t).call t
      ∷ all_rung (make_lasts (ringing_with line Closed line.call line.lacks line.wants line.bell) t) R
      ≡ hold_of (level_of_make line.wait line.call line.lacks past) t
      ∷ then_written (level_of_make line.wait line.call line.lacks past) (is_short_on_hook line.least line.lacks t)
  off_hook e =
      ap (λ b. hold_of (cond b short long).call t ∷ all_rung (cond b short long) R) (not_short line.wants)
      ∙ ap (λ X. hold_of line.call t ∷ X) (goes line.call 0)
      ∙ sym (ap (λ b. hold_of (level_of_make line.wait line.call line.lacks past) t
      ∷ then_written (level_of_make line.wait line.call line.lacks past) b) (not_short line.least)
      ∙ ap (λ b. hold_of (cond b (cond (awaits line.wait past == 0) Closed Open) line.call) t
      ∷ written line.wait line.least line.release (cond b (cond (awaits line.wait past == 0) Closed Open) line.call)
      line.release [] R) e)
    where
      short : Ringing
      short = ringing_with line Closed line.call line.lacks (line.wants - t) (bell_later line.bell t)

      long : Ringing
      long = ringing_with line Closed line.call line.release 0 silent

      not_short : (n : ℕ) → is_short_on_hook n line.lacks t ≡ false
      not_short n = and_left (line.lacks == 0) (nat_lt t n) e

  make_written : (t == 0) ≡ false → AreWritten line past (hold_of Closed t ∷ R)
  make_written lasts =
      ap (λ b. (cond b (rung_of (hold_of Closed t) line) (with_hold Closed line t)).given
      ∷ all_rung (cond b (rung_of (hold_of Closed t) line) (with_hold Closed line t)).after R) lasts
      ∙ ap (λ c. hold_of (make_lasts (cond (is_open c) (with_next_make line) line) t).call t
      ∷ all_rung (make_lasts (cond (is_open c) (with_next_make line) line) t) R) (f.opened refl)
      ∙ by (line.lacks == 0) refl
    where
      rings : Ringing
      rings =
          ringing_with line Closed (call_level (bell_with_make line.wait line.bell)) line.lacks line.least
          (bell_with_make line.wait line.bell)

      goes_on : Ringing
      goes_on = ringing_with line Closed line.call line.lacks line.wants line.bell

      by :
          (v : Bool) → (line.lacks == 0) ≡ v
          → hold_of (make_lasts (cond v rings goes_on) t).call t ∷ all_rung (make_lasts (cond v rings goes_on) t) R
          ≡ hold_of (level_of_make line.wait line.call line.lacks past) t
          ∷ then_written (level_of_make line.wait line.call line.lacks past) (is_short_on_hook line.least line.lacks t)
      by true e = on_hook e
      by false e = off_hook e

run_written :
    (line : Ringing) (past : List Hold) (c : Level) (t : ℕ) (R : List Hold) → (t == 0) ≡ false
    → differs_from_first c R ≡ true → Follows line past c → Writes R → AreWritten line past (hold_of c t ∷ R)
run_written line past Open t R lasts d f later = break_written line past t R lasts d f later
run_written line past Closed t R lasts d f later = make_written line past t R d f later lasts

runs_written :
    (R : List Hold) (line : Ringing) (past : List Hold) → IsAlternating R → AllLast 1 R → FollowsAll line past R
    → AreWritten line past R
runs_written [] line past a l f = refl
runs_written (q ∷ R) line past a l f =
    let some : 1 ≤ q.ticks = l.0 in
    run_written line past q.level q.ticks R (ne_eqb q.ticks 0 (omega (arith, some))) a.0 f
    (λ next before k. runs_written R next before a.1 l.1 k)

-- runs last
pub AllLast-runs : (holds : List Hold) → AllLast 1 (runs_of holds)
AllLast-runs [] = tt
AllLast-runs (h ∷ hs) = by (h.ticks == 0) refl (AllLast-runs hs)
  where
    by :
        (v : Bool) → (h.ticks == 0) ≡ v → AllLast 1 (runs_of hs)
        → AllLast 1 (joined (cond v (lasting hs) (h ∷ lasting hs)))
    by true e all = all
    by false e all = AllLast-join 1 h.level h.ticks (runs_of hs) (omega (arith, eqb-false h.ticks 0 e)) all

begun_follows : (wait least release : ℕ) (R : List Hold) → FollowsAll (begun_ringing wait least release) [] R
begun_follows wait least release [] = tt
begun_follows wait least release (q ∷ R) = record {
  bell = refl;
  alternates = tt;
  differs = refl;
  opened = λ e. refl;
}

pub passes_the_answered : (wait least release : ℕ) → PassesTheAnswered wait least release
passes_the_answered wait least release holds =
    let line : Ringing = begun_ringing wait least release in
    rung_goes_by_runs line holds
    ∙ ap runs_of (runs_written (runs_of holds) line [] (IsAlternating-joined (lasting holds)) (AllLast-runs holds)
    (begun_follows wait least release (runs_of holds)))

-- what is passed of it to the seizing
pub seizes_the_answered : SeizesTheAnswered
seizes_the_answered wait least release holds =
    ap (λ R. runs_of (seizures least release 0 R))
    (passes_the_answered wait least release holds
    ∙ sym (runs_of-runs (written wait least release Closed 0 [] (runs_of holds))))

-- where no answer counts
record IsDeaf (line : Ringing) : Type 0 where
  never : line.wait ≡ 0
  none : line.bell.waits ≡ 0
  plain : line.call ≡ Closed

deaf_make : (line : Ringing) → IsDeaf line → IsDeaf (with_make_on line)
deaf_make line w = by line.level (line.lacks == 0)
  where
    waits : (b : Bool) → cond b line.wait line.bell.waits ≡ 0
    waits true = w.never
    waits false = w.none

    none : (bell_with_make line.wait line.bell).waits ≡ 0
    none = waits ((bell_with_make line.wait line.bell).lacks == 0)

    by :
        (c : Level) (v : Bool)
        → IsDeaf (cond (is_open c)
        (cond v
        (ringing_with line Closed (call_level (bell_with_make line.wait line.bell)) line.lacks line.least
        (bell_with_make line.wait line.bell))
        (ringing_with line Closed line.call line.lacks line.wants line.bell)) line)
    by Closed v = w
    by Open true = record { never = w.never; none = none; plain = ap (λ n. cond (n == 0) Closed Open) none }
    by Open false = record { never = w.never; none = w.none; plain = w.plain }

deaf_lasts : (line : Ringing) (t : ℕ) → IsDeaf line → IsDeaf (make_lasts line t)
deaf_lasts line t w = by (is_short_on_hook line.wants line.lacks t)
  where
    by :
        (v : Bool)
        → IsDeaf (cond v (ringing_with line Closed line.call line.lacks (line.wants - t) (bell_later line.bell t))
        (ringing_with line Closed line.call line.release 0 silent))
    by true = record { never = w.never; none = omega (arith, w.none); plain = w.plain }
    by false = record { never = w.never; none = refl; plain = w.plain }

deaf_rings : (line : Ringing) (holds : List Hold) → IsDeaf line → all_rung line holds ≡ holds
deaf_rings line [] w = refl
deaf_rings line (h ∷ hs) w = by (h.ticks == 0) h.level (λ next k. deaf_rings next hs k)
  where
    by :
        (v : Bool) (c : Level) → ((next : Ringing) → IsDeaf next → all_rung next hs ≡ hs)
        → (cond v (rung_of (hold_of c h.ticks) line) (with_hold c line h.ticks)).given
        ∷ all_rung (cond v (rung_of (hold_of c h.ticks) line) (with_hold c line h.ticks)).after hs
        ≡ hold_of c h.ticks ∷ hs
    by true c later = ap (λ R. hold_of c h.ticks ∷ R) (later line w)
    by false Open later =
        ap (λ R. hold_of Open h.ticks ∷ R)
        (later (in_break line h.ticks) (record { never = w.never; none = omega (arith, w.none); plain = w.plain }))
    by false Closed later =
        let next : IsDeaf (in_make line h.ticks) = deaf_lasts (with_make_on line) h.ticks (deaf_make line w) in
        ap (λ c. hold_of c h.ticks ∷ all_rung (in_make line h.ticks) hs) next.plain
        ∙ ap (λ R. hold_of Closed h.ticks ∷ R) (later (in_make line h.ticks) next)

pub rings_each_hold : RingsEachHold
rings_each_hold least release holds =
    deaf_rings (begun_ringing 0 least release) holds (record { never = refl; none = refl; plain = refl })
