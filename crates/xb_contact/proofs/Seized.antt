-- What is passed of a line that is watched for seizures.
use Rattle.std.proofs.Common.{◌≡◌, ℕ, ◌+◌, ◌-◌, ◌<◌, ◌≤◌, List, [], ◌∷◌, ◌++◌, Bool, true, false, cond, Option, Some, None, nat_lt, ◌==◌, ◌⊎◌, inl, inr, refl, ap, sym, ◌∙◌, append_assoc, arith}
use Rattle.std.proofs.lemmas.Bool.{and_cases, and_parts, and_right, eqb-false, eqb-true, le-ltb, ltb-false, ltb-true, ne_eqb}
use Rattle.xb_contact.specs.declared.level.Level.{Level}
use Rattle.xb_contact.specs.declared.level.Level.TheVariants.{Open, Closed}
use Rattle.xb_contact.specs.declared.hold.Hold.{Hold}
use Rattle.xb_contact.specs.Holds.{hold_of, join, lasting, runs_of, total_of}
use Rattle.xb_contact.specs.Joints.{left_of}
use Rattle.xb_contact.specs.Machine.{pieces_of}
use Rattle.xb_contact.specs.Seizures.{is_short_on_hook, seizures}
use Rattle.xb_contact.specs.Seizing.{Taken, Seizing, all_passed, begun_seizing, certain_of, certain_with, line_after, line_past, line_with, nothing, passed, taken_of, piece_passed, pieces_in, seizing_of, with_break, with_level, with_make, withheld}
use Rattle.xb_contact.specs.SeizingLaws.{PassesAllTime, PassesEachHold, PassesForGood, PassesTheSeized}
use Rattle.xb_contact.proofs.JoinedHolds.{join_is, left, taken_in}
use Rattle.xb_contact.proofs.JoinedRuns.{added, added_sum, runs_of-all_joined, runs_of-cons, runs_of-left}
use Rattle.xb_contact.proofs.Records.{total_of-runs}
use Rattle.xb_contact.proofs.SeizedRuns.{break_goes_on, keeps_all_time, long_make, make_goes_on, runs_cong, runs_sum, short_make}

-- a make is withheld on hook alone, and it is short
pub record IsWatched (line : Seizing) : Type 0 where
  pub releases : 0 < line.release
  pub on_hook : 0 < line.make → line.lacks ≡ 0
  pub short : 0 < line.make → line.make < line.least

no_make :
    (line : Seizing) (lacks rest : ℕ) → 0 < line.release → IsWatched (line_with line lacks rest 0)
no_make line lacks rest some = record {
  releases = some;
  on_hook = λ h. absurd (omega (arith, h));
  short = λ h. absurd (omega (arith, h));
}

-- what is to be given of the runs that come
abbrev pub to_pass : Seizing → List Hold → List Hold
to_pass line R =
    hold_of Open line.rest ∷ seizures line.least line.release line.lacks (added (hold_of Closed line.make) R)

abbrev Passes : Seizing → List Hold → Type 0
Passes line holds = runs_of (all_passed line holds) ≡ runs_of (to_pass line (runs_of holds))

-- a hold that lasts, before runs
added-lasts : (c : Level) (t : ℕ) (R : List Hold) → (t == 0) ≡ false → added (hold_of c t) R ≡ join (hold_of c t) R
added-lasts c t R e = ap (λ b. cond b R (join (hold_of c t) R)) e

-- what was withheld is given, and then a hold
certain-runs :
    (rest make : ℕ) (hold : Hold) (X : List Hold)
    → runs_of (pieces_in (certain_with rest make hold) ++ X)
    ≡ runs_of (hold_of Open rest ∷ hold_of Closed make ∷ hold ∷ X)
certain-runs rest make hold X =
    let first : List Hold = pieces_of (left_of (hold_of Open rest)) in
    let second : List Hold = pieces_of (left_of (hold_of Closed make)) in
    ap runs_of (append_assoc first (second ++ hold ∷ []) X)
    ∙ runs_of-left (hold_of Open rest) ((second ++ hold ∷ []) ++ X)
    ∙ runs_cong (hold_of Open rest) ((second ++ hold ∷ []) ++ X) (hold_of Closed make ∷ hold ∷ X)
    (ap runs_of (append_assoc second (hold ∷ []) X) ∙ runs_of-left (hold_of Closed make) (hold ∷ X))

-- a break comes: a make that is withheld was too short
module _ (least release lacks rest make : ℕ) (on_hook : 0 < make → lacks ≡ 0) (short : 0 < make → make < least) where
  make_ends :
      (n : ℕ) (L : List Hold)
      → runs_of (hold_of Open rest ∷ seizures least release lacks (added (hold_of Closed make) (hold_of Open n ∷ L)))
      ≡ runs_of (hold_of Open (rest + make) ∷ hold_of Open n ∷ seizures least release (lacks - n) L)
  make_ends n L = by (make == 0) refl
    where
      S : List Hold
      S = seizures least release (lacks - n) L

      by :
          (b : Bool) → (make == 0) ≡ b
          → runs_of (hold_of Open rest ∷ seizures least release lacks
          (cond b (hold_of Open n ∷ L) (hold_of Closed make ∷ hold_of Open n ∷ L)))
          ≡ runs_of (hold_of Open (rest + make) ∷ hold_of Open n ∷ S)
      by true e =
          let none : make ≡ 0 = eqb-true make 0 e in
          let same : rest ≡ rest + make = omega (arith, none) in
          ap (λ k. runs_of (hold_of Open k ∷ hold_of Open n ∷ S)) same
      by false e =
          let some : 0 < make = omega (arith, eqb-false make 0 e) in
          ap (λ R. runs_of (hold_of Open rest ∷ R))
          (short_make least release lacks make (hold_of Open n ∷ L) (on_hook some) (short some))
          ∙ runs_sum Open rest make (hold_of Open n ∷ S)

  pub break_passes :
      (t : ℕ) (R : List Hold)
      → runs_of (hold_of Open ((rest + make) + t) ∷ seizures least release (lacks - t) R)
      ≡ runs_of (hold_of Open rest ∷ seizures least release lacks (added (hold_of Closed make) (join (hold_of Open t) R)))
  break_passes t R =
      let n : ℕ = taken_in Open R in
      let L : List Hold = left Open R in
      let w : ℕ = rest + make in
      let sum : (w + t) + n ≡ w + (t + n) = omega arith in
      let still : (lacks - t) - n ≡ lacks - (t + n) = omega arith in
      runs_cong (hold_of Open (w + t)) (seizures least release (lacks - t) R)
      (hold_of Open n ∷ seizures least release ((lacks - t) - n) L) (break_goes_on least release (lacks - t) R)
      ∙ runs_sum Open (w + t) n (seizures least release ((lacks - t) - n) L)
      ∙ ap (λ k. runs_of (hold_of Open k ∷ seizures least release ((lacks - t) - n) L)) sum
      ∙ ap (λ k. runs_of (hold_of Open (w + (t + n)) ∷ seizures least release k L)) still
      ∙ sym (runs_sum Open w (t + n) (seizures least release (lacks - (t + n)) L))
      ∙ sym (make_ends (t + n) L)
      ∙ sym (ap (λ X. runs_of (hold_of Open rest ∷ seizures least release lacks (added (hold_of Closed make) X)))
      (join_is Open t R))

-- a make comes that seizes
make_passes :
    (least release lacks rest m : ℕ) (R : List Hold) → 0 < release → (m == 0) ≡ false
    → (0 < lacks) ⊎ (least ≤ m)
    → runs_of (hold_of Open rest ∷ hold_of Closed m ∷ seizures least release release R)
    ≡ runs_of (hold_of Open rest ∷ seizures least release lacks (added (hold_of Closed m) R))
make_passes least release lacks rest m R some lasts long =
    let n : ℕ = taken_in Closed R in
    let L : List Hold = left Closed R in
    let longer : (0 < lacks) ⊎ (least ≤ m + n) =
    elim long [ inl off ↦ inl off | inr far ↦ inr (omega (arith, far)) ] in
    runs_cong (hold_of Open rest) (hold_of Closed m ∷ seizures least release release R)
    (hold_of Closed (m + n) ∷ seizures least release release L)
    (runs_cong (hold_of Closed m) (seizures least release release R)
    (hold_of Closed n ∷ seizures least release release L) (make_goes_on least release R some)
    ∙ runs_sum Closed m n (seizures least release release L))
    ∙ sym (ap (λ X. runs_of (hold_of Open rest ∷ X)) (long_make least release lacks (m + n) L longer))
    ∙ sym (ap (λ X. runs_of (hold_of Open rest ∷ seizures least release lacks X))
    (added-lasts Closed m R lasts ∙ join_is Closed m R))

-- what a hold gives, and what comes later
pub all_passed-cons :
    (line : Seizing) (h : Hold) (hs : List Hold)
    → all_passed line (h ∷ hs) ≡ pieces_in (passed line h).given ++ all_passed (passed line h).after hs
all_passed-cons line h hs =
    append_assoc (pieces_in (passed line h).given) (certain_of (passed line h).after hs)
    (pieces_of (withheld (line_after (passed line h).after hs)))

pub piece_passes :
    (line : Seizing) (piece : Option Hold) (later : List Hold)
    → all_passed line (pieces_of piece ++ later) ≡ piece_passed line piece ++ all_passed (line_past line piece) later
piece_passes line None later = refl
piece_passes line (Some hold) later = all_passed-cons line hold later

abbrev passed_then : Taken → List Hold → List Hold
passed_then p hs = pieces_in p.given ++ all_passed p.after hs

-- each hold gives the beginning of what is to be given
module _ (line : Seizing) (w : IsWatched line) (t : ℕ) (lasts : (t == 0) ≡ false) (hs : List Hold)
    (later : (next : Seizing) → IsWatched next → Passes next hs) where
  break_taken :
      runs_of (passed_then (with_break line t) hs) ≡ runs_of (to_pass line (added (hold_of Open t) (runs_of hs)))
  break_taken =
      by (is_short_on_hook (line.most - (line.rest + line.make)) (line.lacks - t) t)
      ∙ break_passes line.least line.release line.lacks line.rest line.make w.on_hook w.short t (runs_of hs)
      ∙ sym (ap (λ X. runs_of (to_pass line X)) (added-lasts Open t (runs_of hs) lasts))
    where
      kept : ℕ
      kept = line.rest + line.make

      S : List Hold
      S = seizures line.least line.release (line.lacks - t) (runs_of hs)

      by :
          (b : Bool)
          → runs_of (passed_then
          (cond b (taken_of nothing (line_with line (line.lacks - t) ((line.rest + line.make) + t) 0))
          (taken_of (certain_with (line.rest + line.make) 0 (hold_of Open t)) (line_with line (line.lacks - t) 0 0))) hs)
          ≡ runs_of (hold_of Open ((line.rest + line.make) + t) ∷ S)
      by true =
          later (line_with line (line.lacks - t) (kept + t) 0) (no_make line (line.lacks - t) (kept + t) w.releases)
      by false =
          let next : Seizing = line_with line (line.lacks - t) 0 0 in
          certain-runs kept 0 (hold_of Open t) (all_passed next hs)
          ∙ runs_cong (hold_of Open kept) (hold_of Open t ∷ all_passed next hs) (hold_of Open t ∷ S)
          (runs_cong (hold_of Open t) (all_passed next hs) S
          (later next (no_make line (line.lacks - t) 0 w.releases)))
          ∙ runs_sum Open kept t S

  make_taken :
      runs_of (passed_then (with_make line t) hs) ≡ runs_of (to_pass line (added (hold_of Closed t) (runs_of hs)))
  make_taken =
      by (is_short_on_hook (line.least - line.make) line.lacks t) refl
      ∙ sym (ap (λ X. runs_of (hold_of Open line.rest ∷ seizures line.least line.release line.lacks X))
      (added_sum Closed line.make t (runs_of hs)))
    where
      positive : 0 < t
      positive = omega (arith, eqb-false t 0 lasts)

      S : List Hold
      S = seizures line.least line.release line.release (runs_of hs)

      waits : Seizing
      waits = line_with line line.lacks line.rest (line.make + t)

      goes : Seizing
      goes = line_with line line.release 0 0

      by :
          (b : Bool) → is_short_on_hook (line.least - line.make) line.lacks t ≡ b
          → runs_of (passed_then (cond b (taken_of nothing (line_with line line.lacks line.rest (line.make + t)))
          (taken_of (certain_with line.rest line.make (hold_of Closed t)) (line_with line line.release 0 0))) hs)
          ≡ runs_of (hold_of Open line.rest ∷ seizures line.least line.release line.lacks
          (added (hold_of Closed (line.make + t)) (runs_of hs)))
      by true e =
          let parts = and_parts (line.lacks == 0) (nat_lt t (line.least - line.make)) e in
          let none : line.lacks ≡ 0 = eqb-true line.lacks 0 parts.0 in
          let short : t < line.least - line.make = ltb-true t (line.least - line.make) parts.1 in
          later waits (record {
            releases = w.releases;
            on_hook = λ h. none;
            short = λ h. omega (arith, short);
          })
      by false e =
          let long : (0 < line.lacks) ⊎ (line.least ≤ line.make + t) =
          elim (and_cases (line.lacks == 0) (nat_lt t (line.least - line.make)) e) [
            | inl off ↦ inl (omega (arith, eqb-false line.lacks 0 off))
            | inr far ↦ inr (omega (arith, ltb-false t (line.least - line.make) far))
          ] in
          let all : (line.make + t == 0) ≡ false = ne_eqb (line.make + t) 0 (omega (arith, positive)) in
          certain-runs line.rest line.make (hold_of Closed t) (all_passed goes hs)
          ∙ runs_cong (hold_of Open line.rest) (hold_of Closed line.make ∷ hold_of Closed t ∷ all_passed goes hs)
          (hold_of Closed (line.make + t) ∷ S)
          (runs_sum Closed line.make t (all_passed goes hs)
          ∙ runs_cong (hold_of Closed (line.make + t)) (all_passed goes hs) S
          (later goes (no_make line line.release 0 w.releases)))
          ∙ make_passes line.least line.release line.lacks line.rest (line.make + t) (runs_of hs) w.releases all long

-- any hold
hold_taken :
    (line : Seizing) (h : Hold) (hs : List Hold) → IsWatched line
    → ((next : Seizing) → IsWatched next → Passes next hs) → Passes line (h ∷ hs)
hold_taken line h hs w later =
    ap runs_of (all_passed-cons line h hs)
    ∙ by (h.ticks == 0) refl
    ∙ sym (ap (λ R. runs_of (to_pass line R)) (runs_of-cons h hs))
  where
    at :
        (c : Level) → (h.ticks == 0) ≡ false
        → runs_of (passed_then (with_level c line h.ticks) hs)
        ≡ runs_of (to_pass line (added (hold_of c h.ticks) (runs_of hs)))
    at Open e = break_taken line w h.ticks e hs later
    at Closed e = make_taken line w h.ticks e hs later

    by :
        (b : Bool) → (h.ticks == 0) ≡ b
        → runs_of (passed_then (cond b (taken_of nothing line) (with_level h.level line h.ticks)) hs)
        ≡ runs_of (to_pass line (added h (runs_of hs)))
    by true e =
        later line w ∙ sym (ap (λ b. runs_of (to_pass line (cond b (runs_of hs) (join h (runs_of hs))))) e)
    by false e = at h.level e

-- where the recording ends
end_passes : (line : Seizing) → IsWatched line → Passes line []
end_passes line w =
    runs_of-all_joined 0 (hold_of Open (line.rest + line.make)) [] ∙ by (line.make == 0) refl
  where
    by :
        (b : Bool) → (line.make == 0) ≡ b
        → runs_of (hold_of Open (line.rest + line.make) ∷ [])
        ≡ runs_of (hold_of Open line.rest ∷ seizures line.least line.release line.lacks
        (cond b [] (hold_of Closed line.make ∷ [])))
    by true e =
        let none : line.make ≡ 0 = eqb-true line.make 0 e in
        let same : line.rest + line.make ≡ line.rest = omega (arith, none) in
        ap (λ k. runs_of (hold_of Open k ∷ [])) same
    by false e =
        let some : 0 < line.make = omega (arith, eqb-false line.make 0 e) in
        sym (runs_sum Open line.rest line.make [])
        ∙ sym (ap (λ R. runs_of (hold_of Open line.rest ∷ R))
        (short_make line.least line.release line.lacks line.make [] (w.on_hook some) (w.short some)))

all_passed-is : (line : Seizing) (holds : List Hold) → IsWatched line → Passes line holds
all_passed-is line [] w = end_passes line w
all_passed-is line (h ∷ hs) w = hold_taken line h hs w (λ next k. all_passed-is next hs k)

pub passes_the_seized : (least release most : ℕ) → 0 < release → PassesTheSeized least release most
passes_the_seized least release most some holds =
    all_passed-is (begun_seizing least release most) holds
    (no_make (begun_seizing least release most) 0 0 some)

pub passes_all_time : PassesAllTime
passes_all_time least release most holds some =
    sym (total_of-runs (all_passed (begun_seizing least release most) holds))
    ∙ ap total_of (passes_the_seized least release most some holds)
    ∙ keeps_all_time least release holds

-- what was given stands
pub passes_for_good : PassesForGood
passes_for_good line [] later = refl
passes_for_good line (h ∷ hs) later =
    let mine : List Hold = pieces_in (passed line h).given in
    let next : Seizing = (passed line h).after in
    all_passed-cons line h (hs ++ later)
    ∙ ap (λ sent. mine ++ sent) (passes_for_good next hs later)
    ∙ sym (append_assoc mine (certain_of next hs) (all_passed (line_after next hs) later))

-- where each make seizes
abbrev plain_line : ℕ → ℕ → Seizing
plain_line release lacks = seizing_of 0 release 0 lacks 0 0

plain_passes : (release lacks : ℕ) (holds : List Hold) → all_passed (plain_line release lacks) holds ≡ lasting holds
plain_passes release lacks [] = refl
plain_passes release lacks (h ∷ hs) =
    all_passed-cons (plain_line release lacks) h hs
    ∙ by (h.ticks == 0) (λ n. plain_passes release n hs)
  where
    never : (n : ℕ) → is_short_on_hook (0 - 0) n h.ticks ≡ false
    never n = and_right (n == 0) (nat_lt h.ticks (0 - 0)) (le-ltb h.ticks (0 - 0) (omega arith))

    at :
        (c : Level) → ((n : ℕ) → all_passed (plain_line release n) hs ≡ lasting hs)
        → passed_then (with_level c (plain_line release lacks) h.ticks) hs ≡ hold_of c h.ticks ∷ lasting hs
    at Open later =
        ap (λ b. passed_then
        (cond b (taken_of nothing (line_with (plain_line release lacks) (lacks - h.ticks) ((0 + 0) + h.ticks) 0))
        (taken_of (certain_with (0 + 0) 0 (hold_of Open h.ticks)) (line_with (plain_line release lacks) (lacks - h.ticks) 0 0))) hs)
        (never (lacks - h.ticks))
        ∙ ap (λ R. hold_of Open h.ticks ∷ R) (later (lacks - h.ticks))
    at Closed later =
        ap (λ b. passed_then
        (cond b (taken_of nothing (line_with (plain_line release lacks) lacks 0 (0 + h.ticks)))
        (taken_of (certain_with 0 0 (hold_of Closed h.ticks)) (line_with (plain_line release lacks) release 0 0))) hs)
        (never lacks)
        ∙ ap (λ R. hold_of Closed h.ticks ∷ R) (later release)

    by :
        (b : Bool) → ((n : ℕ) → all_passed (plain_line release n) hs ≡ lasting hs)
        → passed_then (cond b (taken_of nothing (plain_line release lacks)) (with_level h.level (plain_line release lacks) h.ticks)) hs
        ≡ cond b (lasting hs) (h ∷ lasting hs)
    by true later = later lacks
    by false later = at h.level later

pub passes_each_hold : PassesEachHold
passes_each_hold release most holds = plain_passes release 0 holds
