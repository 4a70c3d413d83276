use Rattle.std.proofs.Common.{◌≡◌, ◌∷◌, ◌++◌, [], ◌+◌, ℕ, length, map, take, ap, ap₂, ◌∙◌, sym, arith, take_all}
use Rattle.std.proofs.lemmas.List.{length_push, map-append, take_more}
use Rattle.xb_model.proofs.LineValues.{IsLeft-turn, IsLeft-end}
use Rattle.xb_calls.specs.LineRows.{lists_of}
use Rattle.xb_calls.proofs.line_rows.lists_of.Goals as goal

pub loop-line-preserved : goal.loop-line-preserved
loop-line-preserved c =
    let lines = c.args.lines.now in
    let n : ℕ = length c.loop-line.yielded in
    let t = IsLeft-turn lines n _ _ _ _ c.loop-line.invariant.left c.in-Some.ensures.steps in
    let more : length (c.loop-line.yielded ++ (c.in-Some._line, c.in-Some.rows) ∷ [])
    ≡ n + 1 = length_push _ _ in
    let first = c.in-Some.rows.now in
    record {
      can = tt;
      finite = tt;
      left = rw more t.left_is;
      lists = rw more
          (ap lists_of c.in_ok-push.ensures.items
          ∙ map-append (λ list. list.now) c.loop-line.lists.items (c.as_slice.result ∷ [])
          ∙ ap₂ (λ xs x. xs ++ x ∷ []) c.loop-line.invariant.lists
          (c.as_slice.ensures.value ∙ ap (λ rows. rows.items) (t.value_is first))
          ∙ sym (ap (map (λ rows. rows.items)) (take_more lines n first t.below)
          ∙ map-append (λ rows. rows.items) (take n lines) _));
    }

pub returns : goal.returns
returns c =
    let lines = c.args.lines.now in
    let whole = IsLeft-end lines _ _ c.loop-line.invariant.left c.in-None.ensures.steps.0 in
    c.loop-line.invariant.lists
    ∙ ap (map (λ rows. rows.items)) (take_all (length c.loop-line.yielded) lines (omega (arith, whole)))
