use Rattle.std.proofs.Common.{◌≡◌, ◌+◌, ◌<◌, ◌++◌, ◌∷◌, [], ◌∙◌, ℕ, List, get_or, length, ap, sym, rules, arith}
use Rattle.std.proofs.lemmas.List.{length_push}
use Rattle.xb_model.proofs.LineValues.{IsLeft-end, IsLeft-start, IsLeft-turn}
use Rattle.xb_parts.specs.declared.load.Load.{Load}
use Rattle.xb_parts.proofs.SameLoads.{AreSameBelow-all, AreSameBelow-more}
use Rattle.xb_parts.proofs.splitting.check_loads.Goals as goal

pub loop-line-init : goal.loop-line-init
loop-line-init c = record {
  can = tt;
  finite = tt;
  left = IsLeft-start c.args.loads.now _ (c.into_iter-line-iterator.ensures.into_iter_gives ∙ c.iter-line-items.ensures.left);
  lines = λ some. absurd (omega (arith, some));
  same = λ k d below. absurd (omega (arith, below));
}

pub loop-line-preserved : goal.loop-line-preserved
loop-line-preserved c =
    let loads : List Load = c.args.loads.now in
    let counted : List Load = c.args.counted.now in
    let inv = c.loop-line.invariant in
    let n : ℕ = length c.loop-line.yielded in
    let t = IsLeft-turn loads n _ _ _ _ inv.left c.in-Some.ensures.steps in
    let more : length (c.loop-line.yielded ++ (c.in-Some.line, c.in-Some.load) ∷ []) ≡ n + 1 = length_push _ _ in
    let here : c.in-Some.load.now ≡ c.get.result.now = search (rules, c.ne.ensures, c.if-ne.false) in
    let at : (d : Load) → get_or loads n d ≡ get_or counted n d
    = λ d. sym (t.value_is d) ∙ here ∙ c.get.ensures.value d ∙ ap (λ l. get_or counted l d) t.line_is in
    record {
      can = tt;
      finite = tt;
      left = rw more t.left_is;
      lines = λ some. c.get.ensures.lines;
      same = rw more (AreSameBelow-more n loads counted inv.same at);
    }

pub returns-clause-same : goal.returns-clause-same
returns-clause-same c =
    let loads : List Load = c.args.loads.now in
    let inv = c.loop-line.invariant in
    let all = IsLeft-end loads (length c.loop-line.yielded) _ inv.left c.in-None.ensures.steps.0 in
    let some : 0 < length c.loop-line.yielded = omega (arith, all, c.iter-line-items.ensures.lines) in
    AreSameBelow-all (length c.loop-line.yielded) loads c.args.counted.now all
    (c.iter-line-items.ensures.lines ∙ sym (inv.lines some)) inv.same
