-- What is heard of all lines, one row after another.
use Rattle.std.proofs.Common.{◌≡◌, ◌<◌, ℕ, List, [], ◌∷◌, ◌++◌, length, get_or, set, sym, ap, ◌∙◌, subst}
use Rattle.std.specs.List.{All}
use Rattle.xb_model.specs.declared.line.TheConstants.{LINES}
use Rattle.xb_model.specs.declared.signal.Signal.{Signal}
use Rattle.xb_model.specs.Lines.{row_line}
use Rattle.xb_model.specs.Rows.{LoopRow}
use Rattle.xb_model.specs.States.{AreStates}
use Rattle.xb_model.proofs.States.{state_held, states_fresh, states_more}
use Rattle.xb_pulse.specs.Machine.{signals_by}
use Rattle.xb_routes.specs.Table.{Table}
use Rattle.xb_live.specs.declared.line_hearing.Hearing.{Hearing}
use Rattle.xb_live.specs.declared.hearings.Hearings.{Hearings}
use Rattle.xb_live.specs.Hearings.{HasHeard, after_row, fresh_hearing, hearing_machine, row_signals}

-- before the first row
pub heard-none : (table : Table) (hearings : Hearings) → hearings.limits ≡ table.limits → hearings.plan ≡ table.plan → length hearings.lines ≡ LINES
    → All (λ heard. heard ≡ fresh_hearing table.limits table.plan) hearings.lines → HasHeard table hearings []
heard-none table hearings limits plan lines fresh = record {
  limits_are = limits;
  plan_is = plan;
  lines = states_fresh row_line (hearing_machine table.limits table.plan) hearings.lines lines fresh;
}

-- the signals of a row are those of its line
pub heard-signals :
    (hearings : Hearings) (row : LoopRow) (k : ℕ) (before : Hearing) (signals : List Signal)
    → k < LINES → k ≡ row_line row → before ≡ get_or hearings.lines k before
    → signals ≡ signals_by hearings.limits before.pulse row
    → (table : Table) (rows : List LoopRow) → HasHeard table hearings rows → signals ≡ row_signals table rows row
heard-signals hearings row k before signals below on held sends table rows heard =
    sends
    ∙ ap (λ l. signals_by l before.pulse row) heard.limits_are
    ∙ ap (λ (h : Hearing). signals_by table.limits h.pulse row)
    (state_held row_line (hearing_machine table.limits table.plan) rows row hearings.lines k before heard.lines below on held)

-- one row more, of which its line hears
pub heard-more :
    (hearings after : Hearings) (row : LoopRow) (k : ℕ) (before next : Hearing)
    → after.limits ≡ hearings.limits → after.plan ≡ hearings.plan → after.lines ≡ set hearings.lines k next
    → length hearings.lines ≡ LINES → k < LINES → k ≡ row_line row → before ≡ get_or hearings.lines k before
    → next ≡ after_row hearings.limits hearings.plan before row
    → (table : Table) (rows : List LoopRow) → HasHeard table hearings rows → HasHeard table after (rows ++ row ∷ [])
heard-more hearings after row k before next limits plan lines count below on held takes table rows heard =
    let m = hearing_machine table.limits table.plan in
    let is = state_held row_line m rows row hearings.lines k before heard.lines below on held in
    let next_is : next ≡ after_row table.limits table.plan before row
    = takes
    ∙ ap (λ l. after_row l hearings.plan before row) heard.limits_are
    ∙ ap (λ p. after_row table.limits p before row) heard.plan_is in
    record {
      limits_are = limits ∙ heard.limits_are;
      plan_is = plan ∙ heard.plan_is;
      lines = subst (λ ls. AreStates row_line m ls (rows ++ row ∷ [])) (sym lines)
          (states_more row_line m rows row before is hearings.lines k next heard.lines count below on next_is);
    }
