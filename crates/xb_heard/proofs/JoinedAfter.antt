-- Runs that are joined one after another.
use Rattle.std.proofs.Common.{◌≡◌, ◌<◌, ℕ, ◌+◌, ◌-◌, List, [], ◌∷◌, ◌++◌, Bool, true, false, cond, refl, sym, ap, ◌∙◌, arith, length, get_or, set, take, eq-eqb, ◌==◌, length-set, append_assoc}
use Rattle.std.proofs.lemmas.List.{take_all, take_more, take_more_set}
use Rattle.xb_model.specs.Rows.{LoopRow}
use Rattle.xb_model.specs.Records.{is_close, same_contact}
use Rattle.xb_heard.specs.declared.run.PlacedRun.{PlacedRun}
use Rattle.xb_heard.specs.PlacedRuns.{end_of, join_placed, joined_after, joined_placed, placed, runs_after}
use Rattle.xb_heard.proofs.PlacedRuns.{same-equal}

-- a list whose last element is known
pub at-last : (xs : List PlacedRun) (n : ℕ) (x : PlacedRun) → n ≡ length xs → 0 < n → x ≡ get_or xs (n - 1) x
    → xs ≡ take (n - 1) xs ++ x ∷ []
at-last xs n x len some is =
    let all : take (n - 1 + 1) xs ≡ xs = take_all (n - 1 + 1) xs (omega (arith, len, some)) in
    let more : take (n - 1 + 1) xs ≡ take (n - 1) xs ++ get_or xs (n - 1) x ∷ [] = take_more xs (n - 1) x (omega (arith, len, some)) in
    sym all ∙ more ∙ ap (λ y. take (n - 1) xs ++ y ∷ []) (sym is)

-- the same list with another last element
pub set-last : (xs : List PlacedRun) (n : ℕ) (y : PlacedRun) → n ≡ length xs → 0 < n → set xs (n - 1) y ≡ take (n - 1) xs ++ y ∷ []
set-last xs n y len some =
    let all : take (n - 1 + 1) (set xs (n - 1) y) ≡ set xs (n - 1) y =
    take_all (n - 1 + 1) (set xs (n - 1) y) (omega (arith, len, some, length-set xs (n - 1) y)) in
    let more : take (n - 1 + 1) (set xs (n - 1) y) ≡ take (n - 1) xs ++ y ∷ [] = take_more_set xs (n - 1) y (omega (arith, len, some)) in
    sym all ∙ more

-- an element that is put where it stands
pub set-same : (xs : List PlacedRun) (n : ℕ) (x : PlacedRun) → n ≡ length xs → 0 < n → x ≡ get_or xs (n - 1) x → set xs (n - 1) x ≡ xs
set-same xs n x len some is = set-last xs n x len some ∙ sym (at-last xs n x len some is)

-- a list without a last element
pub none-last : (xs : List PlacedRun) (n : ℕ) → n ≡ length xs → (0 < n → ⊥) → xs ≡ []
none-last [] n len none = refl
none-last (x ∷ xs) n len none = absurd (none (omega (arith, len)))

pub end_of-last : (ys : List PlacedRun) (x : PlacedRun) → end_of (ys ++ x ∷ []) ≡ x.start + x.ms
end_of-last [] x = refl
end_of-last (y ∷ []) x = refl
end_of-last (y ∷ z ∷ ys) x = end_of-last (z ∷ ys) x

-- where the last run ends, all do
pub end-is : (xs : List PlacedRun) (n : ℕ) (x : PlacedRun) → n ≡ length xs → 0 < n → x ≡ get_or xs (n - 1) x → end_of xs ≡ x.start + x.ms
end-is xs n x len some is = ap end_of (at-last xs n x len some is) ∙ end_of-last (take (n - 1) xs) x

-- the last run is longer, and so are all
pub end-longer : (xs : List PlacedRun) (n ms : ℕ) (x : PlacedRun) → n ≡ length xs → 0 < n → x ≡ get_or xs (n - 1) x
    → end_of (set xs (n - 1) (placed x.contact (x.ms + ms) x.start x.first_record)) ≡ end_of xs + ms
end-longer xs n ms x len some is =
    let longer = placed x.contact (x.ms + ms) x.start x.first_record in
    let now : end_of (set xs (n - 1) longer) ≡ x.start + (x.ms + ms) =
    ap end_of (set-last xs n longer len some) ∙ end_of-last (take (n - 1) xs) longer in
    omega (arith, now, end-is xs n x len some is)

pub joined_after-last : (ys : List PlacedRun) (x : PlacedRun) (more : List PlacedRun)
    → joined_after (ys ++ x ∷ []) more ≡ ys ++ joined_placed (x ∷ more)
joined_after-last [] x more = refl
joined_after-last (y ∷ []) x more = refl
joined_after-last (y ∷ z ∷ ys) x more = ap (λ R. y ∷ R) (joined_after-last (z ∷ ys) x more)

-- where no more come
pub joined_after-none : (xs : List PlacedRun) → joined_after xs [] ≡ xs
joined_after-none [] = refl
joined_after-none (x ∷ []) = refl
joined_after-none (x ∷ y ∷ xs) = ap (λ R. x ∷ R) (joined_after-none (y ∷ xs))

-- two neighbours of one contact are one run
join-same : (x r : PlacedRun) (R : List PlacedRun) → same_contact x.contact r.contact ≡ true
    → join_placed x (join_placed r R) ≡ join_placed (placed x.contact (x.ms + r.ms) x.start x.first_record) R
join-same x r [] same = rw same refl
join-same x r (q ∷ R) same =
    let equal : x.contact ≡ r.contact = same-equal x.contact r.contact same in
    by (same_contact r.contact q.contact) (ap (λ c. same_contact c q.contact) equal)
  where
    sum : x.ms + (r.ms + q.ms) ≡ x.ms + r.ms + q.ms
    sum = omega arith

    by : (b : Bool) → same_contact x.contact q.contact ≡ b
        → join_placed x (cond b (placed r.contact (r.ms + q.ms) r.start r.first_record ∷ R) (r ∷ q ∷ R))
        ≡ cond (same_contact x.contact q.contact) (placed x.contact (x.ms + r.ms + q.ms) x.start x.first_record ∷ R)
        (placed x.contact (x.ms + r.ms) x.start x.first_record ∷ q ∷ R)
    by true e = rw (same, e) (ap (λ n. placed x.contact n x.start x.first_record ∷ R) sum)
    by false e = rw (same, e) refl

-- a run of another contact follows
join-other : (x r : PlacedRun) (R : List PlacedRun) → same_contact x.contact r.contact ≡ false
    → join_placed x (join_placed r R) ≡ x ∷ join_placed r R
join-other x r [] other = rw other refl
join-other x r (q ∷ R) other = by (same_contact r.contact q.contact)
  where
    by : (b : Bool) → join_placed x (cond b (placed r.contact (r.ms + q.ms) r.start r.first_record ∷ R) (r ∷ q ∷ R))
        ≡ x ∷ cond b (placed r.contact (r.ms + q.ms) r.start r.first_record ∷ R) (r ∷ q ∷ R)
    by true = rw other refl
    by false = rw other refl

-- the last run is longer
pub lengthened : (xs : List PlacedRun) (n : ℕ) (x r : PlacedRun) (more : List PlacedRun) → n ≡ length xs → 0 < n
    → x ≡ get_or xs (n - 1) x → same_contact x.contact r.contact ≡ true
    → joined_after (set xs (n - 1) (placed x.contact (x.ms + r.ms) x.start x.first_record)) more ≡ joined_after xs (r ∷ more)
lengthened xs n x r more len some is same =
    let longer = placed x.contact (x.ms + r.ms) x.start x.first_record in
    ap (λ R. joined_after R more) (set-last xs n longer len some)
    ∙ joined_after-last (take (n - 1) xs) longer more
    ∙ ap (λ R. take (n - 1) xs ++ R) (sym (join-same x r (joined_placed more) same))
    ∙ sym (joined_after-last (take (n - 1) xs) x (r ∷ more))
    ∙ ap (λ R. joined_after R (r ∷ more)) (sym (at-last xs n x len some is))

-- a run follows the last one
pub followed : (xs : List PlacedRun) (n : ℕ) (x r : PlacedRun) (more : List PlacedRun) → n ≡ length xs → 0 < n
    → x ≡ get_or xs (n - 1) x → same_contact x.contact r.contact ≡ false
    → joined_after (xs ++ r ∷ []) more ≡ joined_after xs (r ∷ more)
followed xs n x r more len some is other =
    let ys = take (n - 1) xs in
    let xs-is : xs ≡ ys ++ x ∷ [] = at-last xs n x len some is in
    let left : joined_after (xs ++ r ∷ []) more ≡ xs ++ joined_placed (r ∷ more) = joined_after-last xs r more in
    let right : joined_after xs (r ∷ more) ≡ ys ++ x ∷ joined_placed (r ∷ more) =
    ap (λ R. joined_after R (r ∷ more)) xs-is ∙ joined_after-last ys x (r ∷ more)
    ∙ ap (λ R. ys ++ R) (join-other x r (joined_placed more) other) in
    let here : xs ++ joined_placed (r ∷ more) ≡ ys ++ x ∷ joined_placed (r ∷ more) =
    ap (λ R. R ++ joined_placed (r ∷ more)) xs-is ∙ append_assoc ys (x ∷ []) (joined_placed (r ∷ more)) in
    left ∙ here ∙ sym right

-- a close of the line, and nothing after it counts
pub closed-by : (xs : List PlacedRun) (closed : Bool) (n : ℕ) (row : LoopRow) (rows : List LoopRow) → is_close row.contact ≡ true
    → xs ≡ runs_after xs closed row.line n (row ∷ rows)
closed-by xs true n row rows close = refl
closed-by xs false n row rows close =
    let here : (row.line == row.line) ≡ true = eq-eqb row.line row.line refl in
    rw (here, close) (sym (joined_after-none xs))
