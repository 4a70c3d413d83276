use Rattle.std.proofs.Common.{◌≡◌, ◌∙◌, ℕ, ap, map, sym, false, true}
use Rattle.xb_model.specs.Records.{joined, record_of}
use Rattle.xb_heard.specs.PlacedRuns.{run_in}
use Rattle.xb_doubts.specs.declared.lines.Told.{Told}
use Rattle.xb_doubts.specs.Exchanged.{exchanged_rows}
use Rattle.xb_doubts.specs.Lines.{OfLines, told_at, told_below, told_of_records}
use Rattle.xb_doubts.proofs.ToldLines.{line_runs, told_none, told_step}
use Rattle.xb_doubts.proofs.lines.Lines.of_rows.Goals as goal
use Rattle.xb_doubts.proofs.lines.Lines.of_rows.Goals.{in-Some+in_ok-told, in_default}

pub loop-number-init : goal.loop-number-init
loop-number-init c = c.in_ok-lines.ensures ∙ sym (told_none c.args.limits c.args.rows.now)

pub loop-number-preserved : goal.loop-number-preserved
loop-number-preserved c = elim c.match-new.branch [
  | in-Some+in_ok-told w ↦
      let limits = c.args.limits in
      let rows = c.args.rows.now in
      let n = c.loop-number.number in
      let line = w.in-Some.line in
      let others : c.deref.result.now ≡ exchanged_rows rows = c.deref.ensures.value ∙ c.in_ok-others.ensures in
      let runs : map run_in w.deref-in-Some.result.now ≡ joined (record_of line rows) =
      ap (map run_in) w.deref-in-Some.ensures.value
      ∙ line_runs (λ v. v.items) c.in_ok-straight.straight rows line w.get.result.now w.get.ensures.lines
      w.get.ensures.below w.get.ensures.value c.in_ok-straight.ensures.runs in
      let exchanged : map run_in w.deref-in-Some-2.result.now ≡ joined (record_of line (exchanged_rows rows)) =
      ap (map run_in) w.deref-in-Some-2.ensures.value
      ∙ line_runs (λ v. v.items) c.in_ok-exchanged.exchanged c.deref.result.now line w.get-in-Some.result.now
      w.get-in-Some.ensures.lines w.get-in-Some.ensures.below w.get-in-Some.ensures.value c.in_ok-exchanged.ensures.runs
      ∙ ap (λ some. joined (record_of line some)) others in
      let of : ℕ → Told = λ l. told_of_records limits (record_of l rows) (record_of l (exchanged_rows rows)) in
      rw w.lines-is (w.put.ensures
      ∙ ap (λ (told : Told). told_at line told _) (w.in_ok-told.ensures (record_of line rows) (record_of line (exchanged_rows rows)) runs exchanged)
      ∙ ap (λ (some : OfLines). told_at line (of line) some) c.loop-number.invariant
      ∙ ap (λ l. told_at l (of l) (told_below limits rows n)) w.in-Some.ensures.value
      ∙ sym (told_step limits rows n))
  | in_default w ↦
      let bad : false ≡ true = rw w.in_default.is at (c.new-in-loop-number.ensures.variant.1 c.loop-number-test.true) in
      absurd (let no : ⊥ = cc in no)
]
