use Rattle.std.proofs.Common.{map, ◌≡◌, ◌∙◌, ℕ, ◌++◌, List, codes, refl, ap, subst, arith}
use Rattle.std.proofs.KnownBytes.{Appends-trans}
use Rattle.std.specs.Io.KnownBytes.{Appends}
use Rattle.xb_model.specs.Rows.{LoopRow}
use Rattle.xb_text.specs.Writing.{AppendsBeginning}
use Rattle.xb_text.proofs.Beginnings.{AppendsBeginning-first, AppendsBeginning-second}
use Rattle.xb_contact.specs.declared.hold.Hold.{Hold}
use Rattle.xb_dial.specs.declared.bouncing.Bouncing.{Bouncing}
use Rattle.xb_contact.specs.Holds.{total_of}
use Rattle.xb_dial.specs.Runs.{in_us, runs_in, us_in}
use Rattle.xb_dial.specs.Traces.{runs_text, trace_text}
use Rattle.xb_dial.proofs.TraceTotals.{end-is}
use Rattle.xb_dial.proofs.trace.write_trace.Goals as goal

-- what stands before the changes
abbrev head : List ℕ
head = codes "$timescale 1 us $end\n$var wire 1 ! loop $end\n$enddefinitions $end\n"

parts : (bouncing : Bouncing) (rows : List LoopRow) → head ++ runs_text bouncing (runs_in rows) ≡ trace_text bouncing rows
parts bouncing rows = refl

pub returns-in_err-write_whole-clause-beginning : goal.returns-in_err-write_whole-clause-beginning
returns-in_err-write_whole-clause-beginning g c =
    subst (λ (text : List ℕ). AppendsBeginning (g.W.Write.contents c.args.out.now) (g.W.Write.contents c.write_whole.new.out) text)
    (parts c.args.bouncing c.args.rows.now)
    (AppendsBeginning-first _ _ head (runs_text c.args.bouncing (runs_in c.args.rows.now))
    (subst (λ (text : List ℕ). AppendsBeginning (g.W.Write.contents c.args.out.now) (g.W.Write.contents c.write_whole.new.out) text)
    c.as_bytes.ensures.value c.write_whole.ensures.beginning))

-- the runs are as long as the recording
pub write_runs-requires : goal.write_runs-requires
write_runs-requires g c =
    let runs : c.deref.result.now ≡ runs_in c.args.rows.now = c.deref.ensures.value ∙ c.in_ok-runs.ensures in
    let long = end-is c.args.rows.now in
    let same : total_of (map in_us c.deref.result.now) ≡ us_in c.args.rows.now =
    ap (λ (runs : List Hold). total_of (map in_us runs)) runs ∙ long in
    omega (arith, same, c.us_in.ensures, c.if-us_in-eq18446744073709551615.false)

pub returns-in_err-write_runs-clause-beginning : goal.returns-in_err-write_runs-clause-beginning
returns-in_err-write_runs-clause-beginning g c =
    let runs : c.deref.result.now ≡ runs_in c.args.rows.now = c.deref.ensures.value ∙ c.in_ok-runs.ensures in
    subst (λ (text : List ℕ). AppendsBeginning (g.W.Write.contents c.args.out.now) (g.W.Write.contents c.write_runs.new.out) text) (parts c.args.bouncing c.args.rows.now)
    (AppendsBeginning-second (g.W.Write.contents c.args.out.now) (g.W.Write.contents c.write_whole.new.out) (g.W.Write.contents c.write_runs.new.out) head (runs_text c.args.bouncing (runs_in c.args.rows.now))
    (subst (λ (text : List ℕ). Appends (g.W.Write.contents c.args.out.now) (g.W.Write.contents c.write_whole.new.out) text) c.as_bytes.ensures.value c.in_ok-write_whole.ensures.whole)
    (subst (λ (runs : List Hold). AppendsBeginning (g.W.Write.contents c.write_whole.new.out) (g.W.Write.contents c.write_runs.new.out) (runs_text c.args.bouncing runs)) runs c.write_runs.ensures.beginning))

pub returns-clause-whole : goal.returns-clause-whole
returns-clause-whole g c =
    let runs : c.deref.result.now ≡ runs_in c.args.rows.now = c.deref.ensures.value ∙ c.in_ok-runs.ensures in
    subst (λ (text : List ℕ). Appends (g.W.Write.contents c.args.out.now) (g.W.Write.contents c.write_runs.new.out) text) (parts c.args.bouncing c.args.rows.now)
    (Appends-trans (g.W.Write.contents c.args.out.now) (g.W.Write.contents c.write_whole.new.out) (g.W.Write.contents c.write_runs.new.out) head (runs_text c.args.bouncing (runs_in c.args.rows.now))
    (subst (λ (text : List ℕ). Appends (g.W.Write.contents c.args.out.now) (g.W.Write.contents c.write_whole.new.out) text) c.as_bytes.ensures.value c.in_ok-write_whole.ensures.whole)
    (subst (λ (runs : List Hold). Appends (g.W.Write.contents c.write_whole.new.out) (g.W.Write.contents c.write_runs.new.out) (runs_text c.args.bouncing runs)) runs c.in_ok-write_runs.ensures.whole))

pub returns-clause-beginning : goal.returns-clause-beginning
returns-clause-beginning g c =
    let runs : c.deref.result.now ≡ runs_in c.args.rows.now = c.deref.ensures.value ∙ c.in_ok-runs.ensures in
    subst (λ (text : List ℕ). AppendsBeginning (g.W.Write.contents c.args.out.now) (g.W.Write.contents c.write_runs.new.out) text) (parts c.args.bouncing c.args.rows.now)
    (AppendsBeginning-second (g.W.Write.contents c.args.out.now) (g.W.Write.contents c.write_whole.new.out) (g.W.Write.contents c.write_runs.new.out) head (runs_text c.args.bouncing (runs_in c.args.rows.now))
    (subst (λ (text : List ℕ). Appends (g.W.Write.contents c.args.out.now) (g.W.Write.contents c.write_whole.new.out) text) c.as_bytes.ensures.value c.in_ok-write_whole.ensures.whole)
    (subst (λ (runs : List Hold). AppendsBeginning (g.W.Write.contents c.write_whole.new.out) (g.W.Write.contents c.write_runs.new.out) (runs_text c.args.bouncing runs)) runs c.write_runs.ensures.beginning))
