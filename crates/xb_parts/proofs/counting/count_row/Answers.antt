use Rattle.std.proofs.Common.{◌+◌, ◌<◌, ℕ, ap, get_or, min, ◌-◌, ◌^◌, set, subst, ◌∙◌}
use Rattle.xb_model.specs.declared.line.TheConstants.{LINES}
use Rattle.xb_parts.proofs.CountedRows.{AreLoadsOf-more}
use Rattle.xb_parts.proofs.counting.count_row.Goals as goal

pub returns : goal.returns
returns c = λ rows are.
    let row = c.args.row in
    let loads = c.args.loads.now in
    let load' = c.count.new.self in
    let below : row.line < LINES = subst (λ (l : ℕ). l < LINES) c.line.ensures c.get_mut.ensures.below in
    AreLoadsOf-more rows row loads (set loads c.line.result load') c.get_mut.result.now load' c.get_mut.ensures.lines below
    (λ d. c.get_mut.ensures.value d ∙ ap (λ (l : ℕ). get_or loads l d) c.line.ensures)
    (ap (λ (l : ℕ). set loads l load') c.line.ensures)
    c.count.ensures.records
    (c.count.ensures.bytes ∙ ap (λ (n : ℕ). min (c.get_mut.result.now.bytes + n) (2 ^ 64 - 1)) c.record_bytes.ensures) are
