use Rattle.std.proofs.Common.{◌≡◌, ◌∙◌, ℕ, ◌+◌, ◌<◌, ◌++◌, length, take, drop, List, ap, ap₂, arith, set}
use Rattle.std.proofs.lemmas.List.{length-set, length-take}
use Rattle.xb_page.specs.LineEnds.{begins_with_crlf, lf_ended}
use Rattle.xb_page.proofs.LineEnds.{asked, at_end, left_out, written}
use Rattle.xb_page.proofs.line_ends.end_lines_at_lf.Goals as goal
use Rattle.xb_page.proofs.line_ends.end_lines_at_lf.Goals.{then-not-begins_with_crlf, else-not-begins_with_crlf}

pub loop-at-preserved : goal.loop-at-preserved
loop-at-preserved c =
    let now : List ℕ = c.loop-at.page.items in
    let all : List ℕ = lf_ended c.args.page.now.items in
    let within : c.loop-at.at < length now = omega (arith, c.loop-at-test.true, c.loop-at.invariant.same, c.len-at-end.ensures) in
    let says : begins_with_crlf (drop c.loop-at.at now) ≡ c.begins_with_crlf.result =
    asked c.begins_with_crlf.result c.deref.result.now now c.loop-at.at c.deref.ensures.value c.begins_with_crlf.ensures in
    elim c.if-not-begins_with_crlf.branch [
      | then-not-begins_with_crlf w ↦
          let wrote : c.if-not-begins_with_crlf.page.items ≡ set now c.loop-at.kept w.index.result.now = ap (λ p. p.items) w.page-is in
          record {
            built = written all now c.if-not-begins_with_crlf.page.items c.loop-at.kept c.if-not-begins_with_crlf.kept c.loop-at.at
                w.index.result.now c.loop-at.invariant.low within w.kept-is w.index.ensures wrote c.loop-at.invariant.built
                (says ∙ w.if-not-begins_with_crlf.true);
            low = omega (arith, c.loop-at.invariant.low, w.kept-is);
            same = ap length wrote ∙ length-set now c.loop-at.kept w.index.result.now ∙ c.loop-at.invariant.same;
          }
      | else-not-begins_with_crlf w ↦
          record {
            built = ap₂ (λ (k : ℕ) (ns : List ℕ). take k ns ++ lf_ended (drop (c.loop-at.at + 1) ns)) w.kept-is (ap (λ p. p.items) w.page-is)
                ∙ left_out all now c.loop-at.kept c.loop-at.at 0 within c.loop-at.invariant.built
                (says ∙ w.if-not-begins_with_crlf.false);
            low = omega (arith, c.loop-at.invariant.low, w.kept-is);
            same = ap (λ p. length p.items) w.page-is ∙ c.loop-at.invariant.same;
          }
    ]

pub returns-clause-lines : goal.returns-clause-lines
returns-clause-lines c =
    c.truncate.ensures.items
    ∙ at_end (lf_ended c.args.page.now.items) c.loop-at.page.items c.loop-at.kept c.loop-at.at
    (omega (arith, c.loop-at-test.false, c.loop-at.invariant.same, c.len-at-end.ensures)) c.loop-at.invariant.built

pub returns-clause-length : goal.returns-clause-length
returns-clause-length c =
    omega (arith, ap length c.truncate.ensures.items, length-take c.loop-at.kept c.loop-at.page.items, c.loop-at.invariant.same)
