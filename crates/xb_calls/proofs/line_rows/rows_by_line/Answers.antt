use Rattle.std.proofs.Common.{◌≡◌, ◌∷◌, ◌++◌, [], ◌+◌, ◌<◌, ℕ, map, take, take_all, set, sym, ap, ◌∙◌, subst, rules}
use Rattle.std.proofs.lemmas.List.{take_more}
use Rattle.std.proofs.lemmas.List.Elements.{All-nil, All-more}
use Rattle.xb_model.specs.declared.line.TheConstants.{LINES}
use Rattle.xb_calls.specs.Calls.{AreCalls, DialledCall, IsCall}
use Rattle.xb_calls.proofs.LinesOfCalls.{AreLineRows, AreLineRows-more, AreLineRows-none, AreLineRows-all}
use Rattle.xb_calls.proofs.line_rows.rows_by_line.Goals as goal

pub loop-call-init : goal.loop-call-init
loop-call-init c =
    record {
      rows =
          AreLineRows-none (λ rows. rows.items) c.args.speed c.in_ok-lines.lines c.in_ok-lines.ensures.lines
          (λ k d h. let made = c.in_ok-lines.ensures.made k d h in search rules);
      calls = All-nil IsCall;
    }

pub loop-call-preserved : goal.loop-call-preserved
loop-call-preserved c =
    let calls = c.args.calls.now in
    let i : ℕ = c.loop-call.call-index in
    let call : DialledCall = c.call-item.result in
    let next : take (i + 1) calls ≡ take i calls ++ call ∷ [] =
    take_more calls i call c.loop-call-test.true
    ∙ ap (λ one. take i calls ++ one ∷ []) (sym c.call-item.is) in
    let below : call.line < LINES = subst (λ l. l < LINES) c.line.ensures c.get_mut.ensures.below in
    let is_call : IsCall call = record { line = below; digits = c.in_ok-push_next_call.ensures.digits } in
    let lines = map (λ rows. rows.items) (set c.loop-call.lines c.line.result c.push_next_call.new.rows) in
    record {
      rows = subst (λ all. AreLineRows c.args.speed all lines) (sym next)
          (AreLineRows-more (λ rows. rows.items) c.args.speed (take i calls) call c.loop-call.lines
          c.line.result
          c.get_mut.result.now c.push_next_call.new.rows c.loop-call.invariant.rows c.line.ensures
          c.get_mut.ensures.below (c.get_mut.ensures.value c.get_mut.result.now)
          c.in_ok-push_next_call.ensures.rows);
      calls = All-more IsCall calls i call c.loop-call-test.true c.loop-call.invariant.calls
          (subst IsCall c.call-item.is is_call);
    }

pub returns : goal.returns
returns c =
    let calls = c.args.calls.now in
    let whole : take c.loop-call.call-index calls
    ≡ calls = take_all c.loop-call.call-index calls c.loop-call-test.false in
    record {
      rows = AreLineRows-all c.args.speed calls _
          (subst (λ all. AreLineRows c.args.speed all (map (λ rows. rows.items) c.loop-call.lines)) whole
          c.loop-call.invariant.rows);
      calls = subst AreCalls whole c.loop-call.invariant.calls;
    }
