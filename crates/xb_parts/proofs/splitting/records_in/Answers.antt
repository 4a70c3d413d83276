use Rattle.std.proofs.Common.{◌≡◌, ◌+◌, ◌++◌, ◌∷◌, [], ◌∙◌, ℕ, length, ap, sym}
use Rattle.std.proofs.lemmas.List.{length_push}
use Rattle.xb_model.proofs.LineValues.{IsLeft-end, IsLeft-start, IsLeft-turn}
use Rattle.xb_parts.specs.Counts.{counted}
use Rattle.xb_parts.proofs.RangeRecords.{in_range, out_of_range, records_before-all, records_before-same, records_before-start, records_before-with}
use Rattle.xb_parts.proofs.splitting.records_in.Goals as goal

pub loop-line-init : goal.loop-line-init
loop-line-init c = record {
  can = tt;
  finite = tt;
  left = IsLeft-start c.args.loads.now _ (c.into_iter-line-iterator.ensures.into_iter_gives ∙ c.iter-line-items.ensures.left);
  records = sym (records_before-start c.args.loads.now c.args.lines);
}

pub loop-line-preserved-then-has : goal.loop-line-preserved-then-has
loop-line-preserved-then-has c =
    let inv = c.loop-line.invariant in
    let n : ℕ = length c.loop-line.yielded in
    let t = IsLeft-turn c.args.loads.now n _ _ _ _ inv.left c.in-Some.ensures.steps in
    let more : length (c.loop-line.yielded ++ (c.in-Some.line, c.in-Some.load) ∷ []) ≡ n + 1 = length_push _ _ in
    let has = in_range c.args.lines c.in-Some.line n t.line_is (sym c.has.ensures ∙ c.if-has.true) in
    let next = records_before-with c.args.loads.now c.args.lines n c.in-Some.load.now t.below t.value_is has.0 has.1 in
    record {
      can = tt;
      finite = tt;
      left = rw more t.left_is;
      records = rw more (c.saturating_add-records.ensures ∙ ap (λ (k : ℕ). counted (k + c.in-Some.load.now.records)) inv.records ∙ sym next);
    }

pub loop-line-preserved : goal.loop-line-preserved
loop-line-preserved c =
    let inv = c.loop-line.invariant in
    let n : ℕ = length c.loop-line.yielded in
    let t = IsLeft-turn c.args.loads.now n _ _ _ _ inv.left c.in-Some.ensures.steps in
    let more : length (c.loop-line.yielded ++ (c.in-Some.line, c.in-Some.load) ∷ []) ≡ n + 1 = length_push _ _ in
    let out = out_of_range c.args.lines c.in-Some.line n t.line_is (sym c.has.ensures ∙ c.if-has.false) in
    record {
      can = tt;
      finite = tt;
      left = rw more t.left_is;
      records = rw more (inv.records ∙ sym (records_before-same c.args.loads.now c.args.lines n out));
    }

pub returns : goal.returns
returns c =
    let inv = c.loop-line.invariant in
    let n : ℕ = length c.loop-line.yielded in
    let all = IsLeft-end c.args.loads.now n _ inv.left c.in-None.ensures.steps.0 in
    inv.records ∙ records_before-all c.args.loads.now c.args.lines n all
