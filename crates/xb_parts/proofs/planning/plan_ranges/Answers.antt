use Rattle.std.proofs.Common.{◌≡◌, ◌<◌, ◌+◌, ◌++◌, ◌∷◌, [], ◌∙◌, ℕ, ap, refl, sym, subst, rules, arith, length, get_or}
use Rattle.std.proofs.lemmas.Bool.{both_ways, eq-eqb}
use Rattle.std.proofs.lemmas.List.{length_push}
use Rattle.std.proofs.lemmas.List.FromFn.{length-enumerate_from}
use Rattle.xb_model.specs.declared.line.TheConstants.{LINES}
use Rattle.xb_model.proofs.LineValues.{IsLeft-start, IsLeft-turn}
use Rattle.xb_parts.specs.declared.load.Load.{Load}
use Rattle.xb_parts.specs.declared.range.LineRange.{LineRange}
use Rattle.xb_parts.specs.Loads.{IsWithin}
use Rattle.xb_parts.specs.Ranges.{Cover}
use Rattle.xb_parts.proofs.PlannedRanges.{IsPlanned, IsPlanned-start, IsPlanned-with, IsPlanned-cut, IsPlanned-end, first-line}
use Rattle.xb_parts.proofs.planning.plan_ranges.Goals as goal
use Rattle.xb_parts.proofs.planning.plan_ranges.Goals.{then-get-first, else-get-first}

abbrev range_with : ℕ → ℕ → LineRange
range_with first end = record { first = first; end = end }

pub loop-line-init : goal.loop-line-init
loop-line-init c =
    let left = c.into_iter-line-iterator.ensures.into_iter_gives ∙ c.iter-line-items.ensures.left in
    let load = c.default-load.result in
    record {
      can = tt;
      finite = tt;
      left = IsLeft-start c.args.loads.now _ left;
      lines = omega (arith, ap length left, length-enumerate_from 0 c.args.loads.now, c.iter-line-items.ensures.lines);
      planned =
          subst (λ ranges. IsPlanned c.args.loads.now c.args.most ranges 0 load 0) (sym c.new-ranges.ensures.items)
          (IsPlanned-start c.args.loads.now c.args.most load (search rules) (search rules));
    }

pub returns-then-not-is_within-clause-too_much : goal.returns-then-not-is_within-clause-too_much
returns-then-not-is_within-clause-too_much c =
    let inv = c.loop-line.invariant in
    let n : ℕ = length c.loop-line.yielded in
    let t = IsLeft-turn c.args.loads.now n _ _ _ _ inv.left c.in-Some.ensures.steps in
    let exceeds : IsWithin c.in-Some.here.now c.args.most → ⊥ = search rules in (
      omega (arith, t.line_is, t.below, inv.lines, inv.left.within, ap length c.in-Some.ensures.steps),
      λ d fits.
          exceeds (subst (λ (load : Load). IsWithin load c.args.most) (ap (λ (l : ℕ). get_or c.args.loads.now l d) t.line_is ∙ sym (t.value_is d)) fits),
    )

pub loop-line-preserved-then-is_within : goal.loop-line-preserved-then-is_within
loop-line-preserved-then-is_within c =
    let inv = c.loop-line.invariant in
    let n : ℕ = length c.loop-line.yielded in
    let t = IsLeft-turn c.args.loads.now n _ _ _ _ inv.left c.in-Some.ensures.steps in
    let more : length (c.loop-line.yielded ++ (c.in-Some.line, c.in-Some.here) ∷ []) ≡ n + 1 = length_push _ _ in
    let here : Load = c.in-Some.here.now in
    let fits : IsWithin here c.args.most = search rules in
    let within : IsWithin c.with-more.result c.args.most =
    elim c.if-get-first.branch [
      | then-get-first w ↦
          (let same : c.loop-line.first ≡ n = omega (arith, t.line_is, c.get.ensures.value) in
          let none = first-line c.args.loads.now c.args.most c.loop-line.ranges.items c.loop-line.first c.loop-line.load here n inv.planned t.below t.value_is fits same in (
            omega (arith, none.0, fits.0, c.with-more.ensures.records),
            omega (arith, none.1, fits.1, c.with-more.ensures.bytes),
          ))
      | else-get-first w ↦ search rules
    ] in
    record {
      can = tt;
      finite = tt;
      left = rw more t.left_is;
      lines = omega (arith, more, inv.lines, ap length c.in-Some.ensures.steps);
      planned =
          rw more
          (IsPlanned-with c.args.loads.now c.args.most c.loop-line.ranges.items c.loop-line.first c.loop-line.load here n inv.planned t.below t.value_is fits
          c.with-more.result c.with-more.ensures.records c.with-more.ensures.bytes within);
    }

pub loop-line-preserved : goal.loop-line-preserved
loop-line-preserved c =
    let inv = c.loop-line.invariant in
    let n : ℕ = length c.loop-line.yielded in
    let t = IsLeft-turn c.args.loads.now n _ _ _ _ inv.left c.in-Some.ensures.steps in
    let more : length (c.loop-line.yielded ++ (c.in-Some.line, c.in-Some.here) ∷ []) ≡ n + 1 = length_push _ _ in
    let here : Load = c.in-Some.here.now in
    let fits : IsWithin here c.args.most = search rules in
    let up : c.loop-line.first < n =
    elim c.if-get-first.branch [
      | then-get-first w ↦
          absurd (both_ways c.if-get-first.value c.if-is_within.false (w.value-is ∙ eq-eqb c.get.result c.loop-line.first w.if-get-first.true))
      | else-get-first w ↦ omega (arith, inv.planned.low, t.line_is, c.get.ensures.value)
    ] in
    let exceeds : IsWithin c.with-more.result c.args.most → ⊥ =
    elim c.if-get-first.branch [
      | then-get-first w ↦
          absurd (both_ways c.if-get-first.value c.if-is_within.false (w.value-is ∙ eq-eqb c.get.result c.loop-line.first w.if-get-first.true))
      | else-get-first w ↦ search rules
    ] in
    let ends : c.get-else-is_within.result ≡ n = c.get-else-is_within.ensures.value ∙ t.line_is in
    let starts : n ≡ c.get-first.result = sym (c.get-first.ensures.value ∙ t.line_is) in
    record {
      can = tt;
      finite = tt;
      left = rw more t.left_is;
      lines = omega (arith, more, inv.lines, ap length c.in-Some.ensures.steps);
      planned =
          rw more
          (subst (λ (first : ℕ). IsPlanned c.args.loads.now c.args.most c.push.new.self.items first here (n + 1)) starts
          (IsPlanned-cut c.args.loads.now c.args.most c.loop-line.ranges.items c.loop-line.first c.loop-line.load here n inv.planned t.below t.value_is fits
          (range_with c.loop-line.first c.get-else-is_within.result) c.push.new.self.items refl ends up c.in_ok-push.ensures.items
          c.with-more.result c.with-more.ensures.records c.with-more.ensures.bytes exceeds));
    }

pub returns-clause-cover : goal.returns-clause-cover
returns-clause-cover c =
    let inv = c.loop-line.invariant in
    let n : ℕ = length c.loop-line.yielded in
    let all : n ≡ LINES = omega (arith, inv.lines, ap length c.in-None.ensures.steps.0) in
    let some : 0 < n = omega arith in
    let end =
    IsPlanned-end c.args.loads.now c.args.most c.loop-line.ranges.items c.loop-line.first c.loop-line.load n inv.planned some all
    (range_with c.loop-line.first LINES) c.push-2.new.self.items refl (sym all) c.in_ok-push-2.ensures.items in
    subst (λ (l : ℕ). Cover 0 l c.push-2.new.self.items) all end.0
