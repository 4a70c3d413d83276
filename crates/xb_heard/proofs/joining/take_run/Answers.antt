use Rattle.std.proofs.Common.{◌≡◌, ◌∙◌, ◌++◌, [], ◌∷◌, ℕ, ap, arith, sym, true, false, refl}
use Rattle.xb_heard.specs.PlacedRuns.{end_of, joined_after, placed}
use Rattle.xb_heard.proofs.JoinedAfter.{end-is, end-longer, end_of-last, followed, lengthened, none-last, set-same}
use Rattle.xb_heard.proofs.joining.take_run.Goals as goal
use Rattle.xb_heard.proofs.joining.take_run.Goals.{in-Some+else-same_contact, in_default}

pub overflow_add-last : goal.overflow_add-last
overflow_add-last c =
    omega (arith, c.requires, end-is c.args.runs.now.items _ c.in-Some.last.now c.args.runs.now.ok.0 (c.in-Some.ensures.variant.0 refl) c.in-Some.ensures.value)

pub returns-then-same_contact-clause-joined : goal.returns-then-same_contact-clause-joined
returns-then-same_contact-clause-joined c = λ more.
    lengthened c.args.runs.now.items _ c.in-Some.last.now (placed c.args.contact c.args.ms (end_of c.args.runs.now.items) c.args.first_record) more
    c.args.runs.now.ok.0 (c.in-Some.ensures.variant.0 refl) c.in-Some.ensures.value (sym c.if-same_contact.ensures)

pub returns-then-same_contact-clause-end : goal.returns-then-same_contact-clause-end
returns-then-same_contact-clause-end c =
    end-longer c.args.runs.now.items _ c.args.ms c.in-Some.last.now c.args.runs.now.ok.0 (c.in-Some.ensures.variant.0 refl) c.in-Some.ensures.value

pub overflow_add-start : goal.overflow_add-start
overflow_add-start c =
    omega (arith, c.requires, end-is c.args.runs.now.items _ c.in-Some.last.now c.args.runs.now.ok.0 (c.in-Some.ensures.variant.0 refl) c.in-Some.ensures.value)

pub returns-clause-end : goal.returns-clause-end
returns-clause-end c = elim c.match-last_mut.branch [
  | in-Some+else-same_contact w ↦
      let old = end-is c.args.runs.now.items _ w.in-Some.last.now c.args.runs.now.ok.0 (w.in-Some.ensures.variant.0 refl) w.in-Some.ensures.value in
      let new = ap end_of c.in_ok-push.ensures.items ∙ end_of-last c.match-last_mut.runs.items _ in
      omega (arith, old, new, w.start-is)
  | in_default w ↦
      let none = none-last c.args.runs.now.items _ c.args.runs.now.ok.0
      (λ some. let bad : false ≡ true = rw w.in_default.is at (c.last_mut.ensures.variant.1 some) in let no : ⊥ = cc in no) in
      let new = ap end_of c.in_ok-push.ensures.items ∙ end_of-last c.match-last_mut.runs.items _ in
      omega (arith, new, ap end_of none, w.start-is)
]

pub returns-clause-joined : goal.returns-clause-joined
returns-clause-joined c = elim c.match-last_mut.branch [
  | in-Some+else-same_contact w ↦ λ more.
      let xs = c.args.runs.now.items in
      let last = w.in-Some.last.now in
      let len = c.args.runs.now.ok.0 in
      let some = w.in-Some.ensures.variant.0 refl in
      let run = placed c.args.contact c.args.ms (end_of xs) c.args.first_record in
      let start = w.start-is ∙ sym (end-is xs _ last len some w.in-Some.ensures.value) in
      let same = ap (λ v. v.items) w.runs-is ∙ set-same xs _ last len some w.in-Some.ensures.value in
      ap (λ R. joined_after R more) (c.in_ok-push.ensures.items ∙ ap (λ R. R ++ placed c.args.contact c.args.ms c.match-last_mut.start c.args.first_record ∷ []) same
      ∙ ap (λ t. xs ++ placed c.args.contact c.args.ms t c.args.first_record ∷ []) start)
      ∙ followed xs _ last run more len some w.in-Some.ensures.value (sym w.if-same_contact.ensures)
  | in_default w ↦ λ more.
      let xs = c.args.runs.now.items in
      let run = λ (t : ℕ). placed c.args.contact c.args.ms t c.args.first_record in
      let none = none-last xs _ c.args.runs.now.ok.0
      (λ some. let bad : false ≡ true = rw w.in_default.is at (c.last_mut.ensures.variant.1 some) in let no : ⊥ = cc in no) in
      let same = ap (λ v. v.items) w.runs-is ∙ none in
      ap (λ R. joined_after R more) (c.in_ok-push.ensures.items ∙ ap (λ R. R ++ run c.match-last_mut.start ∷ []) same ∙ ap (λ t. run t ∷ []) w.start-is)
      ∙ sym (ap (λ R. joined_after R (run (end_of R) ∷ more)) none)
]
