use Rattle.std.proofs.Common.{◌≡◌, ◌∙◌, ap, arith, map, sym, false, true}
use Rattle.xb_model.specs.Records.{joined, record_of}
use Rattle.xb_heard.specs.PlacedRuns.{run_in}
use Rattle.xb_doubts.specs.declared.heard.Heard.{Heard}
use Rattle.xb_doubts.specs.Heard.{heard_below, heard_on, heard_with}
use Rattle.xb_doubts.proofs.HeardLines.{heard_all, heard_none, heard_step}
use Rattle.xb_doubts.proofs.ToldLines.{line_runs}
use Rattle.xb_doubts.proofs.heard.heard_in.Goals as goal
use Rattle.xb_doubts.proofs.heard.heard_in.Goals.{in-Some+in_ok-heard_on, in_default}

pub loop-number-init : goal.loop-number-init
loop-number-init c = c.nothing_heard-heard.ensures ∙ sym (heard_none c.args.limits c.args.rows.now)

pub loop-number-preserved : goal.loop-number-preserved
loop-number-preserved c = elim c.match-new.branch [
  | in-Some+in_ok-heard_on w ↦
      let limits = c.args.limits in
      let rows = c.args.rows.now in
      let n = c.loop-number.number in
      let line = w.in-Some.line in
      let runs : map run_in w.deref.result.now ≡ joined (record_of line rows) = ap (map run_in) w.deref.ensures.value
      ∙ line_runs (λ v. v.items) c.in_ok-lines.lines rows line w.get.result.now w.get.ensures.lines w.get.ensures.below
      w.get.ensures.value c.in_ok-lines.ensures.runs in
      rw w.heard-is (w.with-heard.ensures
      ∙ ap (λ (one : Heard). heard_with c.loop-number.heard one) (w.in_ok-heard_on.ensures (record_of line rows) runs)
      ∙ ap (λ (some : Heard). heard_with some (heard_on limits (record_of line rows))) c.loop-number.invariant
      ∙ ap (λ l. heard_with (heard_below limits rows n) (heard_on limits (record_of l rows))) w.in-Some.ensures.value
      ∙ sym (heard_step limits rows n))
  | in_default w ↦
      let bad : false ≡ true = rw w.in_default.is at (c.new.ensures.variant.1 c.loop-number-test.true) in
      absurd (let no : ⊥ = cc in no)
]

pub returns : goal.returns
returns c =
    let all : c.loop-number.number ≡ 10000 = omega (arith, c.loop-number.auto.number-end, c.loop-number-test.false) in
    heard_all c.args.limits c.args.rows.now c.loop-number.heard
    (c.loop-number.invariant ∙ ap (heard_below c.args.limits c.args.rows.now) all)
