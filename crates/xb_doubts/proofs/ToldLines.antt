-- What is told of the lines of the office, one after the other.
use Rattle.std.proofs.Common.{◌≡◌, ◌∙◌, ℕ, ◌+◌, ◌<◌, ◌≤◌, Bool, true, false, cond, nat_lt, length, get_or, List, [], ◌∷◌, ◌++◌, map, refl, ap, sym, subst, arith, ⊎_elim}
use Rattle.std.proofs.Math.Path.{fun_ext}
use Rattle.std.proofs.lemmas.Bool.{cases_eq, cond-true, cond-false}
use Rattle.std.proofs.lemmas.Bool.Decides.{nat_tests}
use Rattle.std.proofs.lemmas.List.Sums.{count_by-le-length, length-filter}
use Rattle.std.proofs.lemmas.List.{get_or-map, length-append}
use Rattle.std.specs.Prelude.{◌==◌, ◌&&◌, ◌||◌, not}
use Rattle.std.specs.List.{list_any}
use Rattle.xb_model.specs.declared.limits.Limits.{Limits}
use Rattle.xb_model.specs.declared.row.Contact.{Contact}
use Rattle.xb_model.specs.declared.row.Contact.TheVariants.{Make, Brk, Close}
use Rattle.xb_model.specs.Records.{Run, is_make, join, joined, record_of, run_of, same_contact}
use Rattle.xb_model.specs.Rows.{LoopRow}
use Rattle.xb_model.specs.declared.line.TheConstants.{LINES}
use Rattle.xb_heard.specs.declared.run.PlacedRun.{PlacedRun}
use Rattle.xb_heard.specs.PlacedRuns.{AreOfRecords, run_in}
use Rattle.xb_heard.proofs.PlacedRuns.{same-equal}
use Rattle.xb_doubts.specs.declared.lines.Told.{Told}
use Rattle.xb_doubts.specs.Exchanged.{exchanged_rows}
use Rattle.xb_doubts.specs.Lines.{OfLines, nothing_told, nothing_told_of_any, rows_of_others, told_at, told_below, told_of_records}

-- whether one of joined runs is a make
make_by : (run next : Run) (rest : List Run) (same : Bool) → (same ≡ true → run.contact ≡ next.contact)
    → list_any is_make (cond same (run_of run.contact (run.ms + next.ms) ∷ rest) (run ∷ next ∷ rest))
    ≡ (is_make run || (is_make next || list_any is_make rest))
make_by run next rest false e = refl
make_by run next rest true e =
    let one : is_make next ≡ is_make run = sym (ap (λ (c : Contact). is_make (run_of c 0)) (e refl)) in
    rw one (twice (is_make run) (list_any is_make rest))
  where
    twice : (a b : Bool) → (a || b) ≡ (a || (a || b))
    twice true b = refl
    twice false b = refl

make_join : (run : Run) (runs : List Run) → list_any is_make (join run runs) ≡ (is_make run || list_any is_make runs)
make_join run [] = refl
make_join run (next ∷ rest) =
    make_by run next rest (same_contact run.contact next.contact) (λ e. same-equal run.contact next.contact e)

pub make_joined : (runs : List Run) → list_any is_make (joined runs) ≡ list_any is_make runs
make_joined [] = refl
make_joined (run ∷ runs) = make_join run (joined runs) ∙ ap (λ more. is_make run || more) (make_joined runs)

-- no line
pub told_none : (limits : Limits) (rows : List LoopRow) → told_below limits rows 0 ≡ nothing_told_of_any
told_none limits rows = fun_ext (λ (l : ℕ). none (nat_lt l 0) l (grind (arith, nat_tests)))
  where
    none : (b : Bool) (l : ℕ) → b ≡ false
        → cond b (told_of_records limits (record_of l rows) (record_of l (exchanged_rows rows))) nothing_told ≡ nothing_told
    none b l e = cond-false b _ _ e

-- one line more
pub told_step : (limits : Limits) (rows : List LoopRow) (n : ℕ)
    → told_below limits rows (n + 1)
    ≡ told_at n (told_of_records limits (record_of n rows) (record_of n (exchanged_rows rows))) (told_below limits rows n)
told_step limits rows n = fun_ext (λ (l : ℕ).
    ⊎_elim
    (λ (e : l ≡ n).
    let is : (l == n) ≡ true = grind (arith, nat_tests) in
    let below : nat_lt l (n + 1) ≡ true = grind (arith, nat_tests) in
    cond-true (nat_lt l (n + 1)) (of l) nothing_told below ∙ ap of e
    ∙ sym (cond-true (l == n) (of n) (told_below limits rows n l) is))
    (λ (e : l ≡ n → ⊥).
    let is : (l == n) ≡ false = grind (arith, nat_tests) in
    let same : nat_lt l (n + 1) ≡ nat_lt l n = grind (arith, nat_tests) in
    ap (λ b. cond b (of l) nothing_told) same
    ∙ sym (cond-false (l == n) (of n) (told_below limits rows n l) is))
    (cases_eq l n))
  where
    of : ℕ → Told
    of l = told_of_records limits (record_of l rows) (record_of l (exchanged_rows rows))

-- the rows of some lines are no more than those of all
pub others_are_few : (told : OfLines) (rows : List LoopRow) → length (rows_of_others told rows) ≤ length rows
others_are_few told rows =
    let test = λ (row : LoopRow). not (told row.line).is_exchanged in
    subst (λ n. n ≤ length rows) (sym (length-filter test rows)) (count_by-le-length test rows)

pub same_told : (a b c d : Bool) → a ≡ b → c ≡ d
    → (let left : Told = record { is_quiet = a; is_exchanged = c } in left) ≡ (record { is_quiet = b; is_exchanged = d })
same_told a b c d e f = rw (e, f) refl

pub and_then : (call may a b : Bool) → call ≡ a → may ≡ b → call ≡ false → may ≡ (not a && b)
and_then call may a b e f g = f ∙ sym (ap (λ x. not x && b) (sym e ∙ g))

pub and_not : (call a b : Bool) → call ≡ a → call ≡ true → not call ≡ (not a && b)
and_not call a b e g = ap not g ∙ sym (ap (λ x. not x && b) (sym e ∙ g))

-- the runs of a line among those of all lines
pub line_runs : {V : Type 0} (items : V → List PlacedRun) (lines : List V) (rows : List LoopRow) (l : ℕ) (v : V)
    → length lines ≡ LINES → l < LINES → ((d : V) → v ≡ get_or lines l d) → AreOfRecords rows (map items lines)
    → map run_in (items v) ≡ joined (record_of l rows)
line_runs items lines rows l v every below is are =
    ap (map run_in) (ap items (is v) ∙ sym (get_or-map items lines l v [] (omega (arith, every, below)))) ∙ are l [] below

pub kept_are_few : (told : OfLines) (rows kept rest : List LoopRow) → kept ++ rest ≡ rows_of_others told rows
    → length kept ≤ length rows
kept_are_few told rows kept rest e =
    let few = others_are_few told rows in
    let all : length kept + length rest ≡ length (rows_of_others told rows) = sym (length-append kept rest) ∙ ap length e in
    omega (arith, few, all)
