-- What is known of the winks of the lead, row by row.
use Rattle.std.proofs.Common.{◌≡◌, ◌≤◌, ℕ, ◌+◌, Bool, true, false, ◌&&◌, List, [], ◌∷◌, ◌++◌, Option, Some, None, refl, sym, ap, ◌∙◌, subst, ⊎_elim, arith, append_assoc, le-leb, leb-true}
use Rattle.std.proofs.lemmas.List.Sums.{sum_by-append}
use Rattle.std.specs.Prelude.{nat_le, if◌then◌else◌}
use Rattle.xb_model.specs.Records.{Run, is_make, run_of}
use Rattle.xb_model.specs.declared.row.Contact.TheVariants.{Make}
use Rattle.xb_trunk.specs.declared.start_dial.TheConstants.{LEAST_WINK, MOST_WINK}
use Rattle.xb_trunk.specs.Leads.{EndsWink, lasting, last_make}
use Rattle.xb_trunk.specs.Starts.{Dial, is_winked, wink_with}
use Rattle.xb_trunk.proofs.Rows.{split-last, true-false}

and-both : (a b : Bool) → a ≡ true → b ≡ true → (a && b) ≡ true
and-both a b x y = ap (λ (z : Bool). z && b) x ∙ y

and-first : (a b : Bool) → (a && b) ≡ true → a ≡ true
and-first true b e = refl
and-first false b e = e

and-second : (a b : Bool) → (a && b) ≡ true → b ≡ true
and-second true b e = e
and-second false b e = absurd (true-false (sym e))

-- what a break ends, where it ends a wink
pub winked-wink : (d : Dial) (rows : List Run) (row : Run) → d.lead_ms ≡ lasting rows → d.make_ms ≡ last_make rows → is_make row ≡ false → is_winked d ≡ true → EndsWink rows row d.since_ms
winked-wink d rows row lasts makes ends is =
    let least = leb-true LEAST_WINK d.make_ms (and-first (nat_le LEAST_WINK d.make_ms) (nat_le d.make_ms MOST_WINK && nat_le (d.since_ms + d.make_ms) d.lead_ms) is) in
    let others = and-second (nat_le LEAST_WINK d.make_ms) (nat_le d.make_ms MOST_WINK && nat_le (d.since_ms + d.make_ms) d.lead_ms) is in
    let most = leb-true d.make_ms MOST_WINK (and-first (nat_le d.make_ms MOST_WINK) (nat_le (d.since_ms + d.make_ms) d.lead_ms) others) in
    let began = leb-true (d.since_ms + d.make_ms) d.lead_ms (and-second (nat_le d.make_ms MOST_WINK) (nat_le (d.since_ms + d.make_ms) d.lead_ms) others) in
    record {
      ends = ends;
      least = subst (λ (n : ℕ). LEAST_WINK ≤ n) makes least;
      most = subst (λ (n : ℕ). n ≤ MOST_WINK) makes most;
      began = omega (arith, began, lasts, makes);
    }

pub wink-winked : (d : Dial) (rows : List Run) (row : Run) → d.lead_ms ≡ lasting rows → d.make_ms ≡ last_make rows → EndsWink rows row d.since_ms → is_winked d ≡ true
wink-winked d rows row lasts makes wink =
    let began : d.since_ms + d.make_ms ≤ d.lead_ms = omega (arith, wink.began, lasts, makes) in
    and-both (nat_le LEAST_WINK d.make_ms) (nat_le d.make_ms MOST_WINK && nat_le (d.since_ms + d.make_ms) d.lead_ms)
    (le-leb LEAST_WINK d.make_ms (subst (λ (n : ℕ). LEAST_WINK ≤ n) (sym makes) wink.least))
    (and-both (nat_le d.make_ms MOST_WINK) (nat_le (d.since_ms + d.make_ms) d.lead_ms)
    (le-leb d.make_ms MOST_WINK (subst (λ (n : ℕ). n ≤ MOST_WINK) (sym makes) wink.most))
    (le-leb (d.since_ms + d.make_ms) d.lead_ms began))

-- a wink that is kept is one of these rows
pub record Known (rows : List Run) (since ended : ℕ) : Type 0 where
  pub earlier : List Run
  pub row : Run
  pub later : List Run
  pub are : rows ≡ earlier ++ row ∷ later
  pub wink : EndsWink earlier row since
  pub is : ended ≡ lasting earlier

abbrev pub IsKnown : List Run → ℕ → Option ℕ → Type 0
IsKnown rows since None = Unit {0}
IsKnown rows since (Some ended) = Known rows since ended

-- a wink is kept that ended by then
abbrev pub IsBy : Option ℕ → ℕ → Type 0
IsBy None now = ⊥
IsBy (Some ended) now = ended ≤ now

-- of the rows since then the first wink is kept
abbrev pub IsKept : List Run → List Run → ℕ → Option ℕ → Type 0
IsKept before later since wink = (first : List Run) (row : Run) (more : List Run) → later ≡ first ++ row ∷ more
    → EndsWink (before ++ first) row since → IsBy wink (lasting (before ++ first))

pub known-more : (rows : List Run) (row : Run) (since : ℕ) (wink : Option ℕ) → IsKnown rows since wink → IsKnown (rows ++ row ∷ []) since wink
known-more rows row since None known = tt
known-more rows row since (Some ended) known = record {
  earlier = known.earlier;
  row = known.row;
  later = known.later ++ row ∷ [];
  are = ap (λ (l : List Run). l ++ row ∷ []) known.are ∙ append_assoc known.earlier (known.row ∷ known.later) (row ∷ []);
  wink = known.wink;
  is = known.is;
}

known-by : (rows : List Run) (since ended : ℕ) → Known rows since ended → ended ≤ lasting rows
known-by rows since ended known =
    let all : lasting rows ≡ lasting (known.earlier ++ known.row ∷ known.later) = ap lasting known.are in
    let both : lasting (known.earlier ++ known.row ∷ known.later) ≡ lasting known.earlier + lasting (known.row ∷ known.later) = sum_by-append (λ (r : Run). r.ms) known.earlier (known.row ∷ known.later) in
    let is = known.is in
    omega (arith, all, both, is)

module _ (d : Dial) (rows : List Run) (row : Run) (lasts : d.lead_ms ≡ lasting rows) (makes : d.make_ms ≡ last_make rows) (ends : is_make row ≡ false) where
  known-new : (b : Bool) → is_winked d ≡ b → IsKnown (rows ++ row ∷ []) d.since_ms (if b then Some d.lead_ms else None)
  known-new true is = record { earlier = rows; row = row; later = []; are = refl; wink = winked-wink d rows row lasts makes ends is; is = lasts }
  known-new false is = tt

  pub known-break : (wink : Option ℕ) → IsKnown rows d.since_ms wink → IsKnown (rows ++ row ∷ []) d.since_ms (wink_with d wink)
  known-break None known = known-new (is_winked d) refl
  known-break (Some ended) known = known-more rows row d.since_ms (Some ended) known

  by-new : (b : Bool) → is_winked d ≡ b → EndsWink rows row d.since_ms → IsBy (if b then Some d.lead_ms else None) (lasting rows)
  by-new true is wink = omega (arith, lasts)
  by-new false is wink = absurd (true-false (sym (wink-winked d rows row lasts makes wink) ∙ is))

  by-last : (wink : Option ℕ) → IsKnown rows d.since_ms wink → EndsWink rows row d.since_ms → IsBy (wink_with d wink) (lasting rows)
  by-last None known wink = by-new (is_winked d) refl wink
  by-last (Some ended) known wink = known-by rows d.since_ms ended known

  by-kept : (wink : Option ℕ) (now : ℕ) → IsBy wink now → IsBy (wink_with d wink) now
  by-kept None now by = absurd by
  by-kept (Some ended) now by = by

  pub kept-break : (before later : List Run) (wink : Option ℕ) → rows ≡ before ++ later → IsKnown rows d.since_ms wink → IsKept before later d.since_ms wink
      → IsKept before (later ++ row ∷ []) d.since_ms (wink_with d wink)
  kept-break before later wink are known kept first r more is ended =
      ⊎_elim
      (λ h.
      let all : rows ≡ before ++ first = are ∙ ap (λ (l : List Run). before ++ l) (sym h.0) in
      subst (λ (l : List Run). IsBy (wink_with d wink) (lasting l)) all
      (by-last wink known (subst (λ (x : Run). EndsWink rows x d.since_ms) h.1 (subst (λ (l : List Run). EndsWink l r d.since_ms) (sym all) ended))))
      (λ h. by-kept wink (lasting (before ++ first)) (kept first r h.0 h.1 ended))
      (split-last later first more row r is)

-- a make ends none
pub kept-make : (before later : List Run) (ms since : ℕ) (wink : Option ℕ) → IsKept before later since wink → IsKept before (later ++ run_of Make ms ∷ []) since wink
kept-make before later ms since wink kept first r more is ended =
    ⊎_elim (λ h. absurd (true-false (sym (ap is_make h.1) ∙ ended.ends))) (λ h. kept first r h.0 h.1 ended) (split-last later first more (run_of Make ms) r is)
