-- Parts of runs: how they are cut one by one, and that they are the chain's pieces and trains.
use Rattle.std.proofs.Common.{◌≡◌, ◌==◌, eqb-true, ℕ, zero, suc, ◌+◌, ◌-◌, ◌<◌, ◌≤◌, List, [], ◌∷◌, ◌++◌, Bool, true, false, not, ◌||◌, cond, nat_lt, refl, sym, ap, ◌∙◌, map, length, take, drop, get_or, arith, Some, None, Option, is_some, add-one, append-nil, append_assoc}
use Rattle.std.specs.List.{find, position, prefix_len, position_or_len}
use Rattle.std.proofs.lemmas.List.Sums.{prefix_len_passes}
use Rattle.std.proofs.lemmas.List.{map-append, take_rest}
use Rattle.std.proofs.lemmas.List.Quantifiers.{position-Some}
use Rattle.std.proofs.lemmas.Bool.{ltb-false}
use Rattle.xb_model.specs.declared.row.Contact.TheVariants.{Make}
use Rattle.xb_model.specs.declared.limits.Limits.{Limits}
use Rattle.xb_model.specs.Records.{Attempt, is_break, is_release, ends_train, into_first, pieces_of, has_runs, heard, is_timed, onto_first, cut_at_pauses, without_first, without_first_break}
use Rattle.xb_heard.specs.declared.run.PlacedRun.{PlacedRun}
use Rattle.xb_heard.specs.declared.parts.Part.{Part}
use Rattle.xb_heard.specs.declared.parts.Cut.TheVariants.{AtReleases, AtPauses}
use Rattle.xb_heard.specs.PlacedRuns.{placed, run_in}
use Rattle.xb_heard.specs.Parts.{RunsPart, part_of, part_in, onto_part, parts_by, parts_of, times_out, heard_placed, without_idle, without_front, has_placed}
use Rattle.xb_heard.specs.Digits.{digits_of_parts, train_in}

-- the first run that passes the test ends a part
pub parts_by-cut : (test : PlacedRun → Bool) (R : List PlacedRun) (i : ℕ) (d : PlacedRun)
    → i < length R → test (get_or R i d) ≡ true → ((k : ℕ) → k < i → test (get_or R k d) ≡ false)
    → parts_by test R ≡ part_of (take i R) (Some (get_or R i d)) ∷ parts_by test (drop (suc i) R)
parts_by-cut test [] i d below passes before = absurd (omega arith)
parts_by-cut test (r ∷ R) zero d below passes before = rw passes refl
parts_by-cut test (r ∷ R) (suc i) d below passes before =
    let first : test r ≡ false = before 0 (omega arith) in
    let rest = parts_by-cut test R i d (omega arith) passes (λ k h. before (suc k) (omega arith)) in
    rw first (ap (onto_part r) rest)

-- what is left where none passes
abbrev pub left_over : List PlacedRun → List RunsPart
left_over [] = []
left_over (r ∷ R) = part_of (r ∷ R) None ∷ []

pub parts_by-none : (test : PlacedRun → Bool) (R : List PlacedRun) (d : PlacedRun)
    → ((k : ℕ) → k < length R → test (get_or R k d) ≡ false) → parts_by test R ≡ left_over R
parts_by-none test [] d none = refl
parts_by-none test (r ∷ R) d none =
    let first : test r ≡ false = none 0 (omega arith) in
    let rest = parts_by-none test R d (λ k h. none (suc k) (omega arith)) in
    rw first (ap (onto_part r) rest ∙ one R)
  where
    one : (R : List PlacedRun) → onto_part r (left_over R) ≡ part_of (r ∷ R) None ∷ []
    one [] = refl
    one (q ∷ R) = refl

-- where no place is found, no run passes
nowhere : (test : PlacedRun → Bool) (R : List PlacedRun) (d : PlacedRun) → position test R ≡ None
    → (k : ℕ) → k < length R → test (get_or R k d) ≡ false
nowhere test R d none k below = by (nat_lt (position_or_len test R) (length R)) refl none
  where
    fails : (b : Bool) → not b ≡ true → b ≡ false
    fails true e = sym e
    fails false e = refl

    by : (b : Bool) → nat_lt (position_or_len test R) (length R) ≡ b
        → cond b (Some (position_or_len test R)) None ≡ None → test (get_or R k d) ≡ false
    by true t e = cc
    by false t e =
        let long : length R ≤ prefix_len (λ x. not (test x)) R = ltb-false _ _ t in
        fails _ (prefix_len_passes (λ x. not (test x)) R k d (omega arith))

-- the first run that ends a part, by its place
pub parts_by-at : (test : PlacedRun → Bool) (R : List PlacedRun) (i : ℕ) (d : PlacedRun) → position test R ≡ Some i
    → parts_by test R ≡ part_of (take i R) (Some (get_or R i d)) ∷ parts_by test (drop (i + 1) R)
parts_by-at test R i d at =
    let found = position-Some test R i d at in
    rw add-one (parts_by-cut test R i d found.0 found.1 found.2)

pub parts_by-nowhere : (test : PlacedRun → Bool) (R : List PlacedRun) → position test R ≡ None
    → parts_by test R ≡ left_over R
parts_by-nowhere test R none =
    let d : PlacedRun = placed Make 0 0 0 in
    parts_by-none test R d (nowhere test R d none)

-- up to the first run that times out
heard_placed-cut : (L : Limits) (R : List PlacedRun) (i : ℕ) (d : PlacedRun)
    → i < length R → times_out L (get_or R i d) ≡ true → ((k : ℕ) → k < i → times_out L (get_or R k d) ≡ false)
    → (take (suc i) R ≡ heard_placed L R) × (Some (get_or R i d) ≡ find (times_out L) R)
heard_placed-cut L [] i d below passes before = absurd (omega arith)
heard_placed-cut L (r ∷ R) zero d below passes before = (rw passes refl, rw passes refl)
heard_placed-cut L (r ∷ R) (suc i) d below passes before =
    let first : times_out L r ≡ false = before 0 (omega arith) in
    let rest = heard_placed-cut L R i d (omega arith) passes (λ k h. before (suc k) (omega arith)) in
    (rw first (ap (λ R. r ∷ R) rest.0), rw first rest.1)

pub heard_placed-at : (L : Limits) (R : List PlacedRun) (i : ℕ) → position (times_out L) R ≡ Some i
    → (take (i + 1) R ≡ heard_placed L R) × (Some (get_or R i (placed Make 0 0 0)) ≡ find (times_out L) R)
heard_placed-at L R i at =
    let d : PlacedRun = placed Make 0 0 0 in
    let found = position-Some (times_out L) R i d at in
    rw add-one (heard_placed-cut L R i d found.0 found.1 found.2)

heard_placed-all : (L : Limits) (R : List PlacedRun) (d : PlacedRun)
    → ((k : ℕ) → k < length R → times_out L (get_or R k d) ≡ false)
    → (R ≡ heard_placed L R) × (None ≡ find (times_out L) R)
heard_placed-all L [] d none = (refl, refl)
heard_placed-all L (r ∷ R) d none =
    let first : times_out L r ≡ false = none 0 (omega arith) in
    let rest = heard_placed-all L R d (λ k h. none (suc k) (omega arith)) in
    (rw first (ap (λ R. r ∷ R) rest.0), rw first rest.1)

pub heard_placed-nowhere : (L : Limits) (R : List PlacedRun) → position (times_out L) R ≡ None
    → (R ≡ heard_placed L R) × (None ≡ find (times_out L) R)
heard_placed-nowhere L R none =
    let d : PlacedRun = placed Make 0 0 0 in
    heard_placed-all L R d (nowhere (times_out L) R d none)

-- without places

-- a part as a piece of the chain
abbrev pub piece_alone : RunsPart → Attempt
piece_alone part = record { runs = map run_in part.inner; released = is_some part.last }

piece-onto : (r : PlacedRun) (P : List RunsPart)
    → map piece_alone (onto_part r P) ≡ into_first (run_in r) (map piece_alone P)
piece-onto r [] = refl
piece-onto r (p ∷ P) = refl

-- the parts at releases are the pieces
pub pieces-alone : (L : Limits) (R : List PlacedRun)
    → map piece_alone (parts_of L AtReleases R) ≡ pieces_of L (map run_in R)
pieces-alone L [] = refl
pieces-alone L (r ∷ R) = by (is_release L (run_in r)) (pieces-alone L R)
  where
    by : (b : Bool) → map piece_alone (parts_of L AtReleases R) ≡ pieces_of L (map run_in R)
        → map piece_alone (cond b (part_of [] (Some r) ∷ parts_of L AtReleases R) (onto_part r (parts_of L AtReleases R)))
        ≡ cond b (record { runs = []; released = true } ∷ pieces_of L (map run_in R))
        (into_first (run_in r) (pieces_of L (map run_in R)))
    by true rest = ap (λ P. piece_alone (part_of [] (Some r)) ∷ P) rest
    by false rest = piece-onto r (parts_of L AtReleases R) ∙ ap (into_first (run_in r)) rest

train-onto : (L : Limits) (r : PlacedRun) (P : List RunsPart)
    → map train_in (digits_of_parts L (onto_part r P)) ≡ onto_first (run_in r) (map train_in (digits_of_parts L P))
train-onto L r [] = refl
train-onto L r (p ∷ P) = by p.last
  where
    by : (last : Option PlacedRun)
        → map train_in (digits_of_parts L (part_of (r ∷ p.inner) last ∷ P))
        ≡ onto_first (run_in r) (map train_in (digits_of_parts L (part_of p.inner last ∷ P)))
    by None = refl
    by (Some pause) = refl

-- the digits of the parts at pauses are the trains
pub trains-alone : (L : Limits) (R : List PlacedRun)
    → map train_in (digits_of_parts L (parts_of L AtPauses R)) ≡ cut_at_pauses L (map run_in R)
trains-alone L [] = refl
trains-alone L (r ∷ R) = by (ends_train L (run_in r)) (trains-alone L R)
  where
    by : (b : Bool) → map train_in (digits_of_parts L (parts_of L AtPauses R)) ≡ cut_at_pauses L (map run_in R)
        → map train_in (digits_of_parts L (cond b (part_of [] (Some r) ∷ parts_of L AtPauses R) (onto_part r (parts_of L AtPauses R))))
        ≡ cond b (record { inner = []; last = run_in r } ∷ cut_at_pauses L (map run_in R))
        (onto_first (run_in r) (cut_at_pauses L (map run_in R)))
    by true rest = ap (λ T. record { inner = []; last = run_in r } ∷ T) rest
    by false rest = train-onto L r (parts_of L AtPauses R) ∙ ap (onto_first (run_in r)) rest

-- the heard runs
pub heard-alone : (L : Limits) (R : List PlacedRun) → map run_in (heard_placed L R) ≡ heard L (map run_in R)
heard-alone L [] = refl
heard-alone L (r ∷ R) = by (times_out L r) (heard-alone L R)
  where
    by : (b : Bool) → map run_in (heard_placed L R) ≡ heard L (map run_in R)
        → run_in r ∷ map run_in (cond b [] (heard_placed L R)) ≡ run_in r ∷ cond b [] (heard L (map run_in R))
    by true rest = refl
    by false rest = ap (λ R. run_in r ∷ R) rest

-- whether an attempt is timed out
pub timed-alone : (L : Limits) (R : List PlacedRun) → is_some (find (times_out L) R) ≡ is_timed L (map run_in R)
timed-alone L [] = refl
timed-alone L (r ∷ R) = by (times_out L r) (timed-alone L R)
  where
    by : (b : Bool) → is_some (find (times_out L) R) ≡ is_timed L (map run_in R)
        → is_some (cond b (Some r) (find (times_out L) R)) ≡ b || is_timed L (map run_in R)
    by true rest = refl
    by false rest = rest

pub without_front-alone : (R : List PlacedRun) → map run_in (without_front R) ≡ without_first (map run_in R)
without_front-alone [] = refl
without_front-alone (r ∷ R) = refl

pub without_idle-alone : (R : List PlacedRun) → map run_in (without_idle R) ≡ without_first_break (map run_in R)
without_idle-alone [] = refl
without_idle-alone (r ∷ R) = by (is_break (run_in r))
  where
    by : (b : Bool) → map run_in (cond b R (r ∷ R)) ≡ cond b (map run_in R) (run_in r ∷ map run_in R)
    by true = refl
    by false = refl

pub has_placed-alone : (R : List PlacedRun) → has_placed R ≡ has_runs (map run_in R)
has_placed-alone [] = refl
has_placed-alone (r ∷ R) = refl

-- runs that are left are one part, unless there are none
left_over-some : (R : List PlacedRun) → false ≡ (length R == 0) → part_of R None ∷ [] ≡ left_over R
left_over-some [] some = cc
left_over-some (r ∷ R) some = refl

left_over-none : (R : List PlacedRun) → true ≡ (length R == 0) → [] ≡ left_over R
left_over-none [] none = refl
left_over-none (r ∷ R) none =
    let zero_long : suc (length R) ≡ 0 = eqb-true (suc (length R)) 0 (sym none) in
    absurd (omega arith)

-- one part more is cut off
pub parts-more : (test : PlacedRun → Bool) (earlier new : List Part) (part : Part) (R : List PlacedRun) (all : List RunsPart) (i : ℕ) (d : PlacedRun)
    → new ≡ earlier ++ part ∷ [] → part_in part ≡ part_of (take i R) (Some (get_or R i d))
    → position test R ≡ Some i
    → map part_in earlier ++ parts_by test R ≡ all
    → map part_in new ++ parts_by test (take (length R - (i + 1)) (drop (i + 1) R)) ≡ all
parts-more test earlier new part R all i d pushed is at so_far =
    ap (λ parts. map part_in parts ++ parts_by test (take (length R - (i + 1)) (drop (i + 1) R))) pushed
    ∙ ap (λ rest. map part_in (earlier ++ part ∷ []) ++ parts_by test rest) (take_rest R (i + 1))
    ∙ ap (λ parts. parts ++ parts_by test (drop (i + 1) R)) (map-append part_in earlier (part ∷ []))
    ∙ append_assoc (map part_in earlier) (part_in part ∷ []) (parts_by test (drop (i + 1) R))
    ∙ ap (λ one. map part_in earlier ++ one ∷ parts_by test (drop (i + 1) R)) is
    ∙ ap (λ parts. map part_in earlier ++ parts) (sym (parts_by-at test R i d at))
    ∙ so_far

-- what is left over where nothing is cut off
pub parts-end : (test : PlacedRun → Bool) (earlier : List Part) (R : List PlacedRun) (all : List RunsPart)
    → position test R ≡ None → map part_in earlier ++ parts_by test R ≡ all
    → map part_in earlier ++ left_over R ≡ all
parts-end test earlier R all none so_far =
    ap (λ parts. map part_in earlier ++ parts) (sym (parts_by-nowhere test R none)) ∙ so_far

-- which is a part, unless nothing is
pub left-some : (earlier new : List Part) (part : Part) (R : List PlacedRun) (all : List RunsPart)
    → new ≡ earlier ++ part ∷ [] → part_in part ≡ part_of R None → false ≡ (length R == 0)
    → map part_in earlier ++ left_over R ≡ all → map part_in new ≡ all
left-some earlier new part R all pushed is some so_far =
    ap (map part_in) pushed
    ∙ map-append part_in earlier (part ∷ [])
    ∙ ap (λ one. map part_in earlier ++ one ∷ []) is
    ∙ ap (λ parts. map part_in earlier ++ parts) (left_over-some R some)
    ∙ so_far

pub left-none : (earlier : List Part) (R : List PlacedRun) (all : List RunsPart) → true ≡ (length R == 0)
    → map part_in earlier ++ left_over R ≡ all → map part_in earlier ≡ all
left-none earlier R all none so_far =
    sym (append-nil (map part_in earlier))
    ∙ ap (λ parts. map part_in earlier ++ parts) (left_over-none R none)
    ∙ so_far
