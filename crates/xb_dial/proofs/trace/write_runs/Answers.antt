use Rattle.std.proofs.Common.{◌++◌, ◌≡◌, ◌∙◌, ℕ, suc, ◌+◌, ◌<◌, List, ◌∷◌, drop, length, get_or, map, ap, subst, sym, arith, add-zero}
use Rattle.std.specs.Io.KnownBytes.{Appends}
use Rattle.std.proofs.lemmas.List.{drop_all}
use Rattle.std.proofs.lemmas.Result.{on_ok_weaker}
use Rattle.std.proofs.Math.Seq.{drop-cons}
use Rattle.xb_text.specs.Writing.{AppendsBeginning}
use Rattle.xb_contact.specs.declared.hold.Hold.{Hold}
use Rattle.xb_contact.specs.Holds.{hold_of, total_of}
use Rattle.xb_contact.specs.declared.level.Level.TheVariants.{Open}
use Rattle.xb_chance.specs.Words.{state_after}
use Rattle.xb_dial.specs.Runs.{in_us}
use Rattle.xb_dial.specs.Traces.{end_text, run_text, runs_text}
use Rattle.xb_dial.proofs.Texts.{run-first, runs_left}
use Rattle.xb_dial.proofs.Writings.{Lacks, lacks-begun, lacks-end, lacks-less, lacks-none}
use Rattle.xb_dial.proofs.trace.write_runs.Goals as goal

-- run i
abbrev run_at : List Hold → ℕ → Hold
run_at runs i = get_or runs i (hold_of Open 0)

-- the runs that are left are the next, and those after it
next : (runs : List Hold) (i : ℕ) → i < length runs
    → map in_us (drop i runs) ≡ in_us (run_at runs i) ∷ map in_us (drop (i + 1) runs)
next runs i within =
    let count : suc i ≡ i + 1 = omega arith in
    ap (map in_us) (drop-cons runs i (hold_of Open 0) within ∙ ap (λ (n : ℕ). run_at runs i ∷ drop n runs) count)

-- what is left is the text of the next run, and what is left after it
first-left : (tick us again state all : ℕ) (runs : List Hold) (i : ℕ) → i < length runs
    → runs_left tick us again state (map in_us (drop i runs)) all
    ≡ run_text tick us state (in_us (run_at runs i))
    ++ runs_left (tick + (in_us (run_at runs i)).ticks) again again (state_after state 9) (map in_us (drop (i + 1) runs)) all
first-left tick us again state all runs i within =
    ap (λ (left : List Hold). runs_left tick us again state left all) (next runs i within)
    ∙ run-first tick us again state (in_us (run_at runs i)) (map in_us (drop (i + 1) runs)) all

pub returns-in_err-write_run-clause-beginning : goal.returns-in_err-write_run-clause-beginning
returns-in_err-write_run-clause-beginning g c =
    let runs = c.args.runs.now in
    let run : Hold = in_us (run_at runs c.loop-next.next-index) in
    let tick = c.loop-next.tick in
    let us = c.loop-next.us in
    let state = c.loop-next.state in
    let old = g.W.Write.contents c.args.out.now in
    let mid = g.W.Write.contents c.loop-next.out in
    let new = g.W.Write.contents c.write_run.new.out in
    let begun : AppendsBeginning mid new (run_text tick us state run) =
    subst (λ (run : Hold). AppendsBeginning mid new (run_text tick us state run)) c.in_us-run.ensures c.write_run.ensures.beginning in
    lacks-begun old mid new (run_text tick us state run) _ (runs_text c.args.bouncing runs) _ c.loop-next.invariant.lacks
    (first-left tick us c.args.bouncing.us state (total_of (map in_us runs)) runs c.loop-next.next-index c.loop-next-test.true) begun

pub loop-next-preserved : goal.loop-next-preserved
loop-next-preserved g c =
    let i = c.loop-next.next-index in
    let runs = c.args.runs.now in
    let run : Hold = in_us (run_at runs i) in
    let tick = c.loop-next.tick in
    let us = c.loop-next.us in
    let state = c.loop-next.state in
    let then = c.args.bouncing.us in
    let all : ℕ = total_of (map in_us runs) in
    let old = g.W.Write.contents c.args.out.now in
    let mid = g.W.Write.contents c.loop-next.out in
    let new = g.W.Write.contents c.write_run.new.out in
    let rest : List Hold = map in_us (drop (i + 1) runs) in
    let left = next runs i c.loop-next-test.true in
    let whole : Appends mid new (run_text tick us state run) =
    subst (λ (run : Hold). Appends mid new (run_text tick us state run)) c.in_us-run.ensures c.in_ok-write_run.ensures.whole in
    let lacks = lacks-less old mid new (run_text tick us state run)
    (runs_left (tick + run.ticks) then then (state_after state 9) rest all) (runs_text c.args.bouncing runs)
    (runs_left tick us then state (map in_us (drop i runs)) all) c.loop-next.invariant.lacks
    (first-left tick us then state all runs i c.loop-next-test.true) whole in
    let time : run.ticks ≡ c.in_us-run.result.ticks = ap (λ (h : Hold). h.ticks) (sym c.in_us-run.ensures) in
    let spent : tick + (run.ticks + total_of rest) ≡ all =
    ap (λ (runs : List Hold). tick + total_of runs) (sym left) ∙ c.loop-next.invariant.spent in
    record {
      lacks =
          subst (λ (n : ℕ). Lacks old new (runs_left (tick + c.in_us-run.result.ticks) then then n rest all) (runs_text c.args.bouncing runs))
          (sym c.state_after-state.ensures)
          (subst (λ (n : ℕ). Lacks old new (runs_left (tick + n) then then (state_after state 9) rest all) (runs_text c.args.bouncing runs))
          time lacks);
      spent = omega (arith, spent, time);
    }

pub returns : goal.returns
returns g c =
    let runs = c.args.runs.now in
    let tick = c.loop-next.tick in
    let old = g.W.Write.contents c.args.out.now in
    let mid = g.W.Write.contents c.loop-next.out in
    let new = g.W.Write.contents c.write_whole.new.out in
    let all : ℕ = total_of (map in_us runs) in
    let none = drop_all c.loop-next.next-index runs (omega (arith, c.loop-next-test.false)) in
    let end : tick ≡ all =
    sym (add-zero tick) ∙ ap (λ (runs : List Hold). tick + total_of (map in_us runs)) (sym none) ∙ c.loop-next.invariant.spent in
    let lacks : Lacks old mid (end_text all) (runs_text c.args.bouncing runs) =
    subst (λ (left : List Hold). Lacks old mid (runs_left tick c.loop-next.us c.args.bouncing.us c.loop-next.state (map in_us left) all) (runs_text c.args.bouncing runs))
    none c.loop-next.invariant.lacks in
    let text : c.as_bytes.result.now ≡ end_text all =
    c.as_bytes.ensures.value ∙ c.deref.ensures.0 ∙ c.end_text.ensures ∙ ap end_text end in
    record {
      whole =
          on_ok_weaker c.write_whole.result
          (λ more. lacks-none old mid new (end_text all) (runs_text c.args.bouncing runs) lacks
          (subst (λ (text : List ℕ). Appends mid new text) text more))
          c.write_whole.ensures.whole;
      beginning =
          lacks-end old mid new (end_text all) (runs_text c.args.bouncing runs) lacks
          (subst (λ (text : List ℕ). AppendsBeginning mid new text) text c.write_whole.ensures.beginning);
    }
