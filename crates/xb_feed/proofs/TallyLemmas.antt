-- The short runs of a record, counted hold by hold.
use Rattle.std.proofs.Common.{◌≡◌, ℕ, ◌+◌, ◌^◌, ◌<◌, ◌≤◌, max, List, [], ◌∷◌, Bool, true, false, cond, ◌||◌, ◌==◌, nat_le, length, refl, ap, sym, ◌∙◌, arith}
use Rattle.std.specs.Prelude.{nat_lt}
use Rattle.std.proofs.lemmas.Bool.{eqb-false}
use Rattle.std.proofs.lemmas.Bool.Decides.{nat_tests}
use Rattle.xb_contact.specs.declared.level.Level.{Level}
use Rattle.xb_contact.specs.declared.level.Level.TheVariants.{Open, Closed}
use Rattle.xb_contact.specs.declared.hold.Hold.{Hold}
use Rattle.xb_contact.specs.Holds.{hold_of, join, runs_of, same_level, total_of}
use Rattle.xb_contact.proofs.JoinedHolds.{join-differs, join_is, join_sum, left, same_level-eq, taken_in}
use Rattle.xb_contact.proofs.JoinedRuns.{runs_of-cons}
use Rattle.xb_feed.specs.declared.tally.Bounces.{Bounces}
use Rattle.xb_feed.specs.Tallies.{CountsTheShortRuns, begun_tally, bounces_of, longest_of, short_runs, tally_at_end, tally_of, up_to_most, with_run}

-- bounces with more of them
abbrev with_all : Bounces → List ℕ → Bounces
with_all bounces [] = bounces
with_all bounces (ticks ∷ rest) = with_all (bounces_of (bounces.count + 1) (max bounces.longest ticks)) rest

same-bounces : (a b c d : ℕ) → a ≡ b → c ≡ d → bounces_of a c ≡ bounces_of b d
same-bounces a b c d e f = ap (λ n. bounces_of n c) e ∙ ap (λ n. bounces_of b n) f

all-with :
    (bounces : Bounces) (shorts : List ℕ)
    → with_all bounces shorts ≡ bounces_of (bounces.count + length shorts) (max bounces.longest (longest_of shorts))
all-with bounces [] = same-bounces _ _ _ _ (omega arith) (omega arith)
all-with bounces (ticks ∷ rest) =
    all-with (bounces_of (bounces.count + 1) (max bounces.longest ticks)) rest
    ∙ same-bounces _ _ _ _ (omega arith) (omega arith)

-- a run that has ended
ended-by :
    (bounces : Bounces) (ticks : ℕ) (shorts : List ℕ) (short : Bool) → bounces.count + 1 < 2 ^ 64
    → with_all bounces (cond short (ticks ∷ shorts) shorts)
    ≡ with_all (cond short (bounces_of (up_to_most (bounces.count + 1)) (max bounces.longest ticks)) bounces) shorts
ended-by bounces ticks shorts true few =
    let most : up_to_most (bounces.count + 1) ≡ bounces.count + 1 = omega arith in
    ap (λ n. with_all (bounces_of n (max bounces.longest ticks)) shorts) (sym most)
ended-by bounces ticks shorts false few = refl

turned : (test : Bool) (short : Bool) (b c : Bounces) → test ≡ cond short false true → cond test b c ≡ cond short c b
turned test true b c e = ap (λ t. cond t b c) e
turned test false b c e = ap (λ t. cond t b c) e

is-short : (least ticks : ℕ) → 0 < ticks → ((ticks == 0) || nat_le least ticks) ≡ cond (nat_lt ticks least) false true
is-short least ticks some = grind (arith, nat_tests)

ended :
    (least : ℕ) (run next : Hold) (rest : List Hold) (bounces : Bounces) → 0 < run.ticks → bounces.count + 1 < 2 ^ 64
    → with_all bounces (short_runs least (run ∷ next ∷ rest))
    ≡ with_all (with_run bounces least run.ticks) (short_runs least (next ∷ rest))
ended least run next rest bounces some few =
    ended-by bounces run.ticks (short_runs least (next ∷ rest)) (nat_lt run.ticks least) few
    ∙ ap (λ b. with_all b (short_runs least (next ∷ rest)))
    (sym (turned ((run.ticks == 0) || nat_le least run.ticks) (nat_lt run.ticks least) bounces
    (bounces_of (up_to_most (bounces.count + 1)) (max bounces.longest run.ticks)) (is-short least run.ticks some)))

at-most-one-more : (bounces : Bounces) (ticks : ℕ) (test : Bool)
    → (cond test bounces (bounces_of (up_to_most (bounces.count + 1)) (max bounces.longest ticks))).count ≤ bounces.count + 1
at-most-one-more bounces ticks true = omega arith
at-most-one-more bounces ticks false = omega arith

-- from a run on, the short runs of the holds that follow are counted
abbrev Counts : ℕ → List Hold → Type 0
Counts least holds =
    (run : Hold) (bounces : Bounces) → 0 < run.ticks → run.ticks + total_of holds < 2 ^ 64
    → bounces.count + (run.ticks + total_of holds) < 2 ^ 64
    → (tally_at_end (tally_of least run bounces) holds).bounces ≡ with_all bounces (short_runs least (join run (runs_of holds)))

differs-turned : (a b : Level) → same_level a b ≡ false → cond (same_level b a) false true ≡ true
differs-turned Open Open e = cc
differs-turned Open Closed e = refl
differs-turned Closed Open e = refl
differs-turned Closed Closed e = cc

counts-by :
    (least : ℕ) (hold : Hold) (rest : List Hold) → Counts least rest → (run : Hold) (bounces : Bounces) → 0 < run.ticks
    → run.ticks + (hold.ticks + total_of rest) < 2 ^ 64
    → bounces.count + (run.ticks + (hold.ticks + total_of rest)) < 2 ^ 64
    → (is_none is_same : Bool) → (hold.ticks == 0) ≡ is_none → same_level hold.level run.level ≡ is_same
    → (tally_at_end (cond is_none (tally_of least run bounces) (cond is_same
    (tally_of least (hold_of run.level (up_to_most (run.ticks + hold.ticks))) bounces)
    (tally_of least hold (with_run bounces least run.ticks)))) rest).bounces
    ≡ with_all bounces (short_runs least (join run (cond is_none (runs_of rest) (join hold (runs_of rest)))))
counts-by least hold rest counts run bounces some fits few true is_same e f =
    counts run bounces some (omega arith) (omega arith)
counts-by least hold rest counts run bounces some fits few false true e f =
    let level : hold.level ≡ run.level = same_level-eq hold.level run.level f in
    let most : up_to_most (run.ticks + hold.ticks) ≡ run.ticks + hold.ticks = omega arith in
    ap (λ n. (tally_at_end (tally_of least (hold_of run.level n) bounces) rest).bounces) most
    ∙ counts (hold_of run.level (run.ticks + hold.ticks)) bounces (omega arith) (omega arith) (omega arith)
    ∙ ap (λ runs. with_all bounces (short_runs least runs)) (sym (join_sum run.level run.ticks hold.ticks (runs_of rest)))
    ∙ ap (λ l. with_all bounces (short_runs least (join run (join (hold_of l hold.ticks) (runs_of rest))))) (sym level)
counts-by least hold rest counts run bounces some fits few false false e f =
    let lasts : 0 < hold.ticks = omega (arith, eqb-false hold.ticks 0 e) in
    let next : Hold = hold_of hold.level (hold.ticks + taken_in hold.level (runs_of rest)) in
    let later : List Hold = left hold.level (runs_of rest) in
    let is : join hold (runs_of rest) ≡ next ∷ later = join_is hold.level hold.ticks (runs_of rest) in
    let one = at-most-one-more bounces run.ticks ((run.ticks == 0) || nat_le least run.ticks) in
    counts hold (with_run bounces least run.ticks) lasts (omega arith) (omega arith)
    ∙ ap (λ runs. with_all (with_run bounces least run.ticks) (short_runs least runs)) is
    ∙ sym (ended least run next later bounces some (omega arith))
    ∙ ap (λ runs. with_all bounces (short_runs least runs))
    (sym (join-differs run (next ∷ later) (differs-turned hold.level run.level f)) ∙ ap (join run) (sym is))

counts : (least : ℕ) (holds : List Hold) → Counts least holds
counts least [] run bounces some fits few = refl
counts least (hold ∷ rest) run bounces some fits few =
    counts-by least hold rest (counts least rest) run bounces some fits few (hold.ticks == 0) (same_level hold.level run.level) refl refl
    ∙ ap (λ runs. with_all bounces (short_runs least (join run runs))) (sym (runs_of-cons hold rest))

-- from the beginning on
begins-by :
    (least : ℕ) (first : Level) (hold : Hold) (rest : List Hold)
    → (tally_at_end (begun_tally least first) rest).bounces ≡ with_all (bounces_of 0 0) (short_runs least (runs_of rest))
    → hold.ticks + total_of rest < 2 ^ 64
    → (is_none is_same : Bool) → (hold.ticks == 0) ≡ is_none → same_level hold.level first ≡ is_same
    → (tally_at_end (cond is_none (begun_tally least first) (cond is_same
    (tally_of least (hold_of first (up_to_most (0 + hold.ticks))) (bounces_of 0 0))
    (tally_of least hold (with_run (bounces_of 0 0) least 0)))) rest).bounces
    ≡ with_all (bounces_of 0 0) (short_runs least (cond is_none (runs_of rest) (join hold (runs_of rest))))
begins-by least first hold rest before fits true is_same e f = before
begins-by least first hold rest before fits false true e f =
    let lasts : 0 < hold.ticks = omega (arith, eqb-false hold.ticks 0 e) in
    let level : hold.level ≡ first = same_level-eq hold.level first f in
    let most : up_to_most (0 + hold.ticks) ≡ hold.ticks = omega arith in
    ap (λ n. (tally_at_end (tally_of least (hold_of first n) (bounces_of 0 0)) rest).bounces) most
    ∙ counts least rest (hold_of first hold.ticks) (bounces_of 0 0) lasts (omega arith) (omega arith)
    ∙ ap (λ l. with_all (bounces_of 0 0) (short_runs least (join (hold_of l hold.ticks) (runs_of rest)))) (sym level)
begins-by least first hold rest before fits false false e f =
    let lasts : 0 < hold.ticks = omega (arith, eqb-false hold.ticks 0 e) in
    counts least rest hold (bounces_of 0 0) lasts (omega arith) (omega arith)

begins :
    (least : ℕ) (first : Level) (holds : List Hold) → total_of holds < 2 ^ 64
    → (tally_at_end (begun_tally least first) holds).bounces ≡ with_all (bounces_of 0 0) (short_runs least (runs_of holds))
begins least first [] fits = refl
begins least first (hold ∷ rest) fits =
    begins-by least first hold rest (begins least first rest (omega arith)) fits (hold.ticks == 0) (same_level hold.level first) refl refl
    ∙ ap (λ runs. with_all (bounces_of 0 0) (short_runs least runs)) (sym (runs_of-cons hold rest))

pub counts_the_short_runs : CountsTheShortRuns
counts_the_short_runs least first holds fits =
    begins least first holds fits ∙ all-with (bounces_of 0 0) (short_runs least (runs_of holds))
    ∙ same-bounces _ _ _ _ (omega arith) (omega arith)
