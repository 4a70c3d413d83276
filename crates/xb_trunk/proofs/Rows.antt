-- Rows of the lead, one more after others.
use Rattle.std.proofs.Common.{◌≡◌, ◌⊎◌, ℕ, suc, ◌+◌, true, false, List, [], ◌∷◌, ◌++◌, length, get_or, drop, take, reverse, refl, sym, ap, ◌∙◌, inl, inr, ⊎_elim, arith, zero-add, length-append}
use Rattle.std.proofs.lemmas.List.{reverse-append}
use Rattle.std.proofs.lemmas.List.Sums.{sum_by-append}
use Rattle.std.specs.Prelude.{take_while}
use Rattle.std.specs.List.{prefix_len}
use Rattle.xb_model.specs.Records.{Run, is_make, run_of}
use Rattle.xb_model.specs.declared.row.Contact.{Contact}
use Rattle.xb_model.specs.declared.row.Contact.TheVariants.{Make, Brk, Close}
use Rattle.xb_trunk.specs.Leads.{lasting, last_make}

pub true-false : true ≡ false → ⊥
true-false e = grind (arith, e)

pub lasting-more : (rows : List Run) (row : Run) → lasting (rows ++ row ∷ []) ≡ lasting rows + row.ms
lasting-more rows row =
    sum_by-append (λ (r : Run). r.ms) rows (row ∷ []) ∙ ap (λ (n : ℕ). lasting rows + n) (zero-add row.ms)

lasting-first : (row : Run) (rows : List Run) → lasting (row ∷ rows) ≡ lasting rows + row.ms
lasting-first row rows =
    let both : lasting (row ∷ rows) ≡ lasting (row ∷ []) + lasting rows = sum_by-append (λ (r : Run). r.ms) (row ∷ []) rows in
    let alone : lasting (row ∷ []) ≡ row.ms = zero-add row.ms in
    omega (arith, both, alone)

pub make-more : (rows : List Run) (ms : ℕ) → last_make (rows ++ run_of Make ms ∷ []) ≡ last_make rows + ms
make-more rows ms =
    let n : ℕ = prefix_len is_make (reverse rows) in
    let next : 1 + n ≡ suc n = omega arith in
    ap (λ (all : List Run). lasting (take_while is_make all)) (reverse-append rows (run_of Make ms ∷ []))
    ∙ ap (λ (k : ℕ). lasting (take k (run_of Make ms ∷ reverse rows))) next
    ∙ lasting-first (run_of Make ms) (take_while is_make (reverse rows))

pub make-none : (rows : List Run) (contact : Contact) (ms : ℕ) → is_make (run_of contact ms) ≡ false → last_make (rows ++ run_of contact ms ∷ []) ≡ 0
make-none rows Make ms is = absurd (true-false is)
make-none rows Brk ms is = ap (λ (all : List Run). lasting (take_while is_make all)) (reverse-append rows (run_of Brk ms ∷ []))
make-none rows Close ms is = ap (λ (all : List Run). lasting (take_while is_make all)) (reverse-append rows (run_of Close ms ∷ []))

-- where a list with one more element is cut around an element, it is that one, or an earlier one
abbrev pub Split : List Run → List Run → Run → Run → Type 0
Split rows first last row = ((first ≡ rows) × (row ≡ last)) ⊎ ((rest : List Run) × (rows ≡ first ++ row ∷ rest))

none-mid : (first : List Run) (row : Run) (more : List Run) → [] ≡ first ++ row ∷ more → ⊥
none-mid first row more is =
    let many : length (first ++ row ∷ more) ≡ length first + length (row ∷ more) = length-append first (row ∷ more) in
    let none : 0 ≡ length (first ++ row ∷ more) = ap length is in
    omega (arith, many, none)

pub split-last : (rows first more : List Run) (last row : Run) → rows ++ last ∷ [] ≡ first ++ row ∷ more → Split rows first last row
split-last [] [] more last row is = inl (refl, sym (ap (λ (l : List Run). get_or l 0 last) is))
split-last [] (f ∷ first) more last row is = absurd (none-mid first row more (ap (drop 1) is))
split-last (x ∷ rows) [] more last row is = inr (rows, ap (λ (z : Run). z ∷ rows) (ap (λ (l : List Run). get_or l 0 last) is))
split-last (x ∷ rows) (f ∷ first) more last row is =
    let same : x ≡ f = ap (λ (l : List Run). get_or l 0 last) is in
    ⊎_elim (λ h. inl (ap (λ (z : Run). z ∷ first) (sym same) ∙ ap (λ (l : List Run). x ∷ l) h.0, h.1))
    (λ h. inr (h.0, ap (λ (z : Run). z ∷ rows) same ∙ ap (λ (l : List Run). f ∷ l) h.1))
    (split-last rows first more last row (ap (drop 1) is))

pub none-split : (first more : List Run) (row : Run) → [] ≡ first ++ row ∷ more → ⊥
none-split first more row is = none-mid first row more is
