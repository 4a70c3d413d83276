use Rattle.std.proofs.Common.{◌≡◌, ◌∙◌, ℕ, ◌+◌, ◌-◌, ◌^◌, ◌<◌, ◌≤◌, List, [], ◌∷◌, ◌++◌, take, drop, length, min, set, sym, ap, subst, arith, refl, rules, ℤ, to_z, of_z, FitsSigned}
use Rattle.std.specs.Int.{w16}
use Rattle.std.proofs.lemmas.Int.{to_z-of_z}
use Rattle.std.proofs.lemmas.List.{drop-drop}
use Rattle.xb_measured.specs.Tapes.{IsTapeOf, Taped}
use Rattle.xb_measured.proofs.TapeSteps.{kept-length, kept-more, tape-more, tape-same}
use Rattle.xb_measured.proofs.last_samples.LastSamples.take.Goals as goal

abbrev same16 : ℤ → ℤ
same16 x = to_z w16 (of_z w16 x)

-- a sample is written as it is
written : (all : List ℤ) (b f : ℕ) (x : ℤ) → FitsSigned w16 x → b ≤ f → f < length all
    → drop b (take (f + 1) (set all f (same16 x))) ≡ drop b (take f all) ++ x ∷ []
written all b f x fits from below =
    ap (λ (y : ℤ). drop b (take (f + 1) (set all f y))) (to_z-of_z w16 x fits) ∙ kept-more all b f x from below

-- and a window goes
gone-on : (all : List ℤ) (b f : ℕ) (x : ℤ) → FitsSigned w16 x → b ≤ f → f < length all
    → drop (b + 20) (take (f + 1) (set all f (same16 x))) ≡ drop 20 (drop b (take f all) ++ x ∷ [])
gone-on all b f x fits from below =
    sym (drop-drop 20 b (take (f + 1) (set all f (same16 x))))
    ∙ ap (λ (zs : List ℤ). drop 20 zs) (written all b f x fits from below)

-- a window goes of samples that are enough
window-goes : (all : List ℤ) (b f gone : ℕ) (x : ℤ) (new : Taped) (samples : List ℤ) → FitsSigned w16 x → b ≤ f → f < length all
    → f + 1 ≡ b + 1420 → IsTapeOf (record { kept = drop b (take f all); gone = gone }) samples
    → new.kept ≡ drop (b + 20) (take (f + 1) (set all f (same16 x))) → new.gone ≡ min (gone + 1) (2 ^ 64 - 1)
    → IsTapeOf new (samples ++ x ∷ [])
window-goes all b f gone x new samples fits from below enough is kept more =
    let full : length (drop b (take f all)) + 1 ≡ 1420 = omega (arith, kept-length all b f (omega (arith, below)), enough) in
    tape-more (record { kept = drop b (take f all); gone = gone }) new samples x is full (kept ∙ gone-on all b f x fits from below) more

pub returns-then-self-lt-KEPT : goal.returns-then-self-lt-KEPT
returns-then-self-lt-KEPT c samples is =
    let all = c.self.inside.samples in
    let b : ℕ = c.self.inside.begun in
    let f : ℕ = c.self.inside.filled in
    let from : b ≤ f = c.self.invariant.1 in
    let below : f < length all = omega (arith, c.self.told, c.self.invariant.0, c.self.invariant.2) in
    let before = subst (λ tape. IsTapeOf tape samples) (sym c.self.view_is) is in
    let few : length (drop b (take f all)) + 1 < 1420 =
    omega (arith, kept-length all b f (omega (arith, below)), from, c.if-self-lt-KEPT.true) in
    tape-same _ _ samples c.args.sample before few (written all b f c.args.sample c.ranges.sample from below) refl

pub returns-then-self-le-ROOM : goal.returns-then-self-le-ROOM
returns-then-self-le-ROOM c samples is =
    window-goes c.self.inside.samples c.self.inside.begun c.self.inside.filled c.self.inside.gone c.args.sample _ samples
    c.ranges.sample c.self.invariant.1 (omega (arith, c.self.told, c.self.invariant.0, c.self.invariant.2))
    (omega (arith, c.self.invariant.1, c.self.invariant.2, c.if-self-lt-KEPT.false))
    (subst (λ tape. IsTapeOf tape samples) (sym c.self.view_is) is) refl (search rules)

pub returns : goal.returns
returns c samples is =
    window-goes c.self.inside.samples c.self.inside.begun c.self.inside.filled c.self.inside.gone c.args.sample _ samples
    c.ranges.sample c.self.invariant.1 (omega (arith, c.self.told, c.self.invariant.0, c.self.invariant.2))
    (omega (arith, c.self.invariant.1, c.self.invariant.2, c.if-self-lt-KEPT.false))
    (subst (λ tape. IsTapeOf tape samples) (sym c.self.view_is) is) c.move_back.ensures.moved (search rules)
