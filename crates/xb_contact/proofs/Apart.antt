-- What the seizing takes of a line whose bell may ring.
use Rattle.std.proofs.Common.{◌≡◌, ℕ, ◌+◌, ◌-◌, ◌<◌, List, [], ◌∷◌, ◌++◌, Bool, true, false, cond, nat_lt, reverse, ◌==◌, refl, ap, sym, ◌∙◌, append_assoc, arith}
use Rattle.std.proofs.lemmas.Bool.{eqb-true, lt-ltb, ne_eqb}
use Rattle.std.proofs.lemmas.List.{reverse-append}
use Rattle.xb_contact.specs.declared.level.Level.{Level}
use Rattle.xb_contact.specs.declared.level.Level.TheVariants.{Open, Closed}
use Rattle.xb_contact.specs.declared.hold.Hold.{Hold}
use Rattle.xb_contact.specs.Holds.{AllLast, IsAlternating, differs_from_first, hold_of, join, lasting, runs_of}
use Rattle.xb_contact.specs.Rings.{answered, awaits, level_of_make, written}
use Rattle.xb_contact.specs.RingingLaws.{AreShortMakes, opened}
use Rattle.xb_contact.specs.Seizures.{is_open, is_short_on_hook, seized, seizures}
use Rattle.xb_contact.proofs.JoinedHolds.{join-differs, join_is, left, taken_in}
use Rattle.xb_contact.proofs.JoinedRuns.{added, runs_of-cons}
use Rattle.xb_contact.proofs.Records.{IsAlternating-joined}
use Rattle.xb_contact.proofs.Rung.{AllLast-runs}
use Rattle.xb_contact.proofs.SeizedRuns.{break_goes_on, runs_cong, runs_of-runs, runs_sum}

-- each make lasts, and a break that lasts comes after it
abbrev BeginsOpen : List Hold → Type 0
BeginsOpen [] = Unit {0}
BeginsOpen (hold ∷ W) = (hold.level ≡ Open) × (0 < hold.ticks)

abbrev AreApart : List Hold → Type 0
AreApart [] = Unit {0}
AreApart (hold ∷ W) = (hold.level ≡ Closed → (0 < hold.ticks) × BeginsOpen W) × AreApart W

differs_then : (W : List Hold) → BeginsOpen W → differs_from_first Closed (runs_of W) ≡ true
differs_then [] o = refl
differs_then (h ∷ W) o =
    let some : 0 < h.ticks = o.1 in
    let lasts : (h.ticks == 0) ≡ false = ne_eqb h.ticks 0 (omega (arith, some)) in
    ap (differs_from_first Closed) (runs_of-cons h W)
    ∙ ap (λ b. differs_from_first Closed (cond b (runs_of W) (join h (runs_of W)))) lasts
    ∙ ap (λ R. differs_from_first Closed R) (join_is h.level h.ticks (runs_of W))
    ∙ ap (λ c. differs_from_first Closed (hold_of c (h.ticks + taken_in c (runs_of W)) ∷ left c (runs_of W))) o.0

-- of such holds the seizing takes the same, joined or not
module _ (least release : ℕ) where
  open_apart :
      (lacks t : ℕ) (W : List Hold)
      → runs_of (seizures least release (lacks - t) (runs_of W)) ≡ runs_of (seizures least release (lacks - t) W)
      → runs_of (seizures least release lacks (join (hold_of Open t) (runs_of W)))
      ≡ runs_of (hold_of Open t ∷ seizures least release (lacks - t) W)
  open_apart lacks t W later =
      let R : List Hold = runs_of W in
      let n : ℕ = taken_in Open R in
      let L : List Hold = left Open R in
      let still : lacks - (t + n) ≡ (lacks - t) - n = omega arith in
      ap (λ X. runs_of (seizures least release lacks X)) (join_is Open t R)
      ∙ ap (λ k. runs_of (hold_of Open (t + n) ∷ seizures least release k L)) still
      ∙ sym (runs_sum Open t n (seizures least release ((lacks - t) - n) L))
      ∙ runs_cong (hold_of Open t) (hold_of Open n ∷ seizures least release ((lacks - t) - n) L)
      (seizures least release (lacks - t) W) (sym (break_goes_on least release (lacks - t) R) ∙ later)

  apart : (lacks : ℕ) (W : List Hold) → AreApart W
      → runs_of (seizures least release lacks (runs_of W)) ≡ runs_of (seizures least release lacks W)
  apart lacks [] a = refl
  apart lacks (h ∷ W) a = at h.level a.0 (λ n. apart n W a.1)
    where
      cut : (c : Level) → runs_of (hold_of c h.ticks ∷ W) ≡ added (hold_of c h.ticks) (runs_of W)
      cut c = runs_of-cons (hold_of c h.ticks) W

      rests :
          (b : Bool) → (h.ticks == 0) ≡ b
          → ((n : ℕ) → runs_of (seizures least release n (runs_of W)) ≡ runs_of (seizures least release n W))
          → runs_of (seizures least release lacks (cond b (runs_of W) (join (hold_of Open h.ticks) (runs_of W))))
          ≡ runs_of (hold_of Open h.ticks ∷ seizures least release (lacks - h.ticks) W)
      rests true e later =
          let none : h.ticks ≡ 0 = eqb-true h.ticks 0 e in
          let same : lacks ≡ lacks - h.ticks = omega (arith, none) in
          later lacks
          ∙ ap (λ n. runs_of (seizures least release n W)) same
          ∙ sym (runs_of-cons (hold_of Open h.ticks) (seizures least release (lacks - h.ticks) W)
          ∙ ap (λ b. cond b (runs_of (seizures least release (lacks - h.ticks) W))
          (join (hold_of Open h.ticks) (runs_of (seizures least release (lacks - h.ticks) W)))) e)
      rests false e later = open_apart lacks h.ticks W (later (lacks - h.ticks))

      makes :
          (b : Bool)
          → ((n : ℕ) → runs_of (seizures least release n (runs_of W)) ≡ runs_of (seizures least release n W))
          → runs_of (cond b (hold_of Open h.ticks ∷ seizures least release lacks (runs_of W))
          (hold_of Closed h.ticks ∷ seizures least release release (runs_of W)))
          ≡ runs_of (cond b (hold_of Open h.ticks ∷ seizures least release lacks W)
          (hold_of Closed h.ticks ∷ seizures least release release W))
      makes true later =
          runs_cong (hold_of Open h.ticks) (seizures least release lacks (runs_of W)) (seizures least release lacks W)
          (later lacks)
      makes false later =
          runs_cong (hold_of Closed h.ticks) (seizures least release release (runs_of W))
          (seizures least release release W) (later release)

      at :
          (c : Level) → (c ≡ Closed → (0 < h.ticks) × BeginsOpen W)
          → ((n : ℕ) → runs_of (seizures least release n (runs_of W)) ≡ runs_of (seizures least release n W))
          → runs_of (seizures least release lacks (runs_of (hold_of c h.ticks ∷ W)))
          ≡ runs_of (seizures least release lacks (hold_of c h.ticks ∷ W))
      at Open o later =
          ap (λ R. runs_of (seizures least release lacks R)) (cut Open) ∙ rests (h.ticks == 0) refl later
      at Closed o later =
          let some : 0 < h.ticks = (o refl).0 in
          let lasts : (h.ticks == 0) ≡ false = ne_eqb h.ticks 0 (omega (arith, some)) in
          ap (λ R. runs_of (seizures least release lacks R)) (cut Closed
          ∙ ap (λ b. cond b (runs_of W) (join (hold_of Closed h.ticks) (runs_of W))) lasts
          ∙ join-differs (hold_of Closed h.ticks) (runs_of W) (differs_then W (o refl).1))
          ∙ makes (is_short_on_hook least lacks h.ticks) later

-- runs as they are written are apart
module _ (wait least release : ℕ) where
  begins_open :
      (call : Level) (lacks : ℕ) (past R : List Hold) → differs_from_first Closed R ≡ true → AllLast 1 R
      → BeginsOpen (written wait least release call lacks past R)
  begins_open call lacks past [] d l = tt
  begins_open call lacks past (q ∷ R) d l = at q.level d
    where
      at :
          (c : Level) → differs_from_first Closed (hold_of c q.ticks ∷ R) ≡ true
          → BeginsOpen (written wait least release call lacks past (hold_of c q.ticks ∷ R))
      at Closed e = cc
      at Open e = (refl, omega (arith, l.0))

  written_apart :
      (call : Level) (lacks : ℕ) (past R : List Hold) → IsAlternating R → AllLast 1 R
      → AreApart (written wait least release call lacks past R)
  written_apart call lacks past [] a l = tt
  written_apart call lacks past (run ∷ R) a l =
      at run.level a.0 (λ c n p. written_apart c n p R a.1 l.1)
    where
      some : 0 < run.ticks
      some = omega (arith, l.0)

      make_apart :
          (level : Level) (b : Bool) → differs_from_first Closed R ≡ true
          → ((c : Level) (n : ℕ) (p : List Hold) → AreApart (written wait least release c n p R))
          → AreApart (hold_of level run.ticks
          ∷ cond b (written wait least release level lacks (hold_of Closed run.ticks ∷ past) R)
          (written wait least release level release [] R))
      make_apart level true d later = (
        λ e. (some, begins_open level lacks (hold_of Closed run.ticks ∷ past) R d l.1),
        later level lacks (hold_of Closed run.ticks ∷ past),
      )
      make_apart level false d later =
          (λ e. (some, begins_open level release [] R d l.1), later level release [])

      at :
          (c : Level) → differs_from_first c R ≡ true
          → ((c : Level) (n : ℕ) (p : List Hold) → AreApart (written wait least release c n p R))
          → AreApart (written wait least release call lacks past (hold_of c run.ticks ∷ R))
      at Open d later = (λ e. cc, later call (lacks - run.ticks) (hold_of Open run.ticks ∷ past))
      at Closed d later =
          make_apart (level_of_make wait call lacks past) (is_short_on_hook least lacks run.ticks) d later

-- what the seizing takes of it
pub seized_answered :
    (wait least release : ℕ) (holds : List Hold)
    → seized least release (answered wait least release holds)
    ≡ runs_of (seizures least release 0 (written wait least release Closed 0 [] (runs_of holds)))
seized_answered wait least release holds =
    let W : List Hold = written wait least release Closed 0 [] (runs_of holds) in
    ap (λ R. runs_of (seizures least release 0 R)) (runs_of-runs W)
    ∙ apart least release 0 W
    (written_apart wait least release Closed 0 [] (runs_of holds) (IsAlternating-joined (lasting holds))
    (AllLast-runs holds))

-- short makes on hook are open then
pub short_open :
    (wait least release : ℕ) (call : Level) (past S rest out : List Hold) → AreShortMakes least S
    → ((level : Level)
    → seizures least release 0 (written wait least release level 0 (reverse S ++ past) rest) ≡ out)
    → seizures least release 0 (written wait least release call 0 past (S ++ rest)) ≡ opened S ++ out
short_open wait least release call past [] rest out short then = then call
short_open wait least release call past (run ∷ S) rest out short then =
    at run.level short.0
    (λ level. short_open wait least release level (run ∷ past) S rest out short.1
    (λ c. ap (λ p. seizures least release 0 (written wait least release c 0 p rest))
    (sym (ap (λ x. x ++ past) (reverse-append (run ∷ []) S) ∙ append_assoc (reverse S) (run ∷ []) past)) ∙ then c))
  where
    none : 0 - run.ticks ≡ 0
    none = omega arith

    here : Level
    here = cond (awaits wait past == 0) Closed Open

    open_make :
        (c : Level) (X : List Hold) → nat_lt run.ticks least ≡ true
        → seizures least release 0 (hold_of c run.ticks ∷ X) ≡ hold_of Open run.ticks ∷ seizures least release 0 X
    open_make Open X e = ap (λ n. hold_of Open run.ticks ∷ seizures least release n X) none
    open_make Closed X e =
        ap (λ b. cond b (hold_of Open run.ticks ∷ seizures least release 0 X)
        (hold_of Closed run.ticks ∷ seizures least release release X)) e

    at :
        (c : Level) → (is_open c ≡ false → run.ticks < least)
        → ((level : Level)
        → seizures least release 0 (written wait least release level 0 (run ∷ past) (S ++ rest)) ≡ opened S ++ out)
        → seizures least release 0 (cond (is_open c)
        (hold_of c run.ticks ∷ written wait least release call (0 - run.ticks) (run ∷ past) (S ++ rest))
        (hold_of here run.ticks ∷ cond (nat_lt run.ticks least)
        (written wait least release here 0 (run ∷ past) (S ++ rest))
        (written wait least release here release [] (S ++ rest))))
        ≡ hold_of Open run.ticks ∷ (opened S ++ out)
    at Open few later =
        ap (λ n. hold_of Open run.ticks
        ∷ seizures least release n (written wait least release call n (run ∷ past) (S ++ rest))) none
        ∙ ap (λ X. hold_of Open run.ticks ∷ X) (later call)
    at Closed few later =
        let short : nat_lt run.ticks least ≡ true = lt-ltb run.ticks least (few refl) in
        ap (λ b. seizures least release 0 (hold_of here run.ticks ∷ cond b
        (written wait least release here 0 (run ∷ past) (S ++ rest))
        (written wait least release here release [] (S ++ rest)))) short
        ∙ open_make here (written wait least release here 0 (run ∷ past) (S ++ rest)) short
        ∙ ap (λ X. hold_of Open run.ticks ∷ X) (later here)

-- and what is open stays so
pub opened_seized :
    (least release : ℕ) (X Y : List Hold)
    → seizures least release 0 (opened X ++ Y) ≡ opened X ++ seizures least release 0 Y
opened_seized least release [] Y = refl
opened_seized least release (h ∷ X) Y =
    let none : 0 - h.ticks ≡ 0 = omega arith in
    ap (λ n. hold_of Open h.ticks ∷ seizures least release n (opened X ++ Y)) none
    ∙ ap (λ R. hold_of Open h.ticks ∷ R) (opened_seized least release X Y)
