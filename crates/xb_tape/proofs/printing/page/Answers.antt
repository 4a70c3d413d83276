use Rattle.std.proofs.Common.{◌≡◌, ◌++◌, ◌∷◌, ◌+◌, [], ◌∙◌, ℕ, ap, length, string_bytes, arith}
use Rattle.std.proofs.lemmas.List.{length_push}
use Rattle.std.proofs.lemmas.List.FromFn.{length-enumerate_from}
use Rattle.xb_model.specs.Page.{tape_text}
use Rattle.xb_model.proofs.LineValues.{IsLeft-start, IsLeft-turn, IsLeft-end}
use Rattle.xb_tape.proofs.PageLines.{AreWritten-start, AreWritten-more, AreWritten-end}
use Rattle.xb_tape.proofs.printing.page.Goals as goal

pub loop-line-init : goal.loop-line-init
loop-line-init c =
    let left = c.into_iter-line-iterator.ensures.into_iter_gives ∙ c.lines-line-items.ensures.left in
    record {
      can = tt;
      finite = tt;
      left = IsLeft-start c.args.tapes.now _ left;
      lines = omega (arith, ap length left, length-enumerate_from 0 c.args.tapes.now, c.lines-line-items.ensures.lines);
      keyed_fits = omega arith;
      refused_fits = omega arith;
      written = rw c.new-out.ensures.bytes (AreWritten-start c.args.tapes.now);
    }

pub loop-line-preserved : goal.loop-line-preserved
loop-line-preserved c =
    let inv = c.loop-line.invariant in
    let n : ℕ = length c.loop-line.yielded in
    let t = IsLeft-turn c.args.tapes.now n _ _ _ _ inv.left c.in-Some.ensures.steps in
    let more : length (c.loop-line.yielded ++ (c.in-Some.line, c.in-Some.marks) ∷ []) ≡ n + 1 = length_push _ _ in
    let marks = c.in-Some.marks.now in
    let text = c.in_ok-totals.ensures.text ∙ ap (λ l. string_bytes c.loop-line.out ++ tape_text l marks) t.line_is in
    record {
      can = tt;
      finite = tt;
      left = rw more t.left_is;
      lines = omega (arith, more, inv.lines, ap length c.in-Some.ensures.steps);
      keyed_fits = omega (arith, more, c.in_ok-totals.ensures.keyed_fits, inv.keyed_fits);
      refused_fits = omega (arith, more, c.in_ok-totals.ensures.refused_fits, inv.refused_fits);
      written = rw more (AreWritten-more marks _ _ _ inv.written t.below (t.value_is []) text c.in_ok-totals.ensures.keyed c.in_ok-totals.ensures.refused);
    }

pub returns : goal.returns
returns c =
    let whole = IsLeft-end c.args.tapes.now _ _ c.loop-line.invariant.left c.in-None.ensures.steps.0 in
    ap (λ v. v.items) c.into_bytes.ensures.value
    ∙ c.in_ok-write_totals.ensures
    ∙ AreWritten-end c.loop-line.invariant.written whole
