use Rattle.std.proofs.Common.{ap, sym, ◌∙◌}
use Rattle.std.proofs.lemmas.Result.{IfErr-weaker}
use Rattle.xb_contact.specs.Steps.{result_and_then, said_before}
use Rattle.xb_csv.specs.Tables.{row_says, table_state, times_decided}
use Rattle.xb_csv.proofs.RowLemmas.{then_refused}
use Rattle.xb_csv.proofs.columns.Columns.take_first_time.Goals as goal

pub returns-clause-refused : goal.returns-clause-refused
returns-clause-refused c =
    let state = table_state c.args.self.now in
    let line = c.args.line.now in
    IfErr-weaker c.take_row.result _ _
    (λ refusal refused other.
    ap (λ time. result_and_then (λ said. said_before said.0 (row_says said.1 line)) (times_decided state c.args.cut time)) (sym c.first_number.ensures)
    ∙ then_refused (λ s. row_says s line) (times_decided state c.args.cut c.first_number.result) c.args.events.now.items
    c.decide.new.events.items (table_state c.decide.new.self) refusal c.in_ok-decide.ensures.said (refused other))
    c.take_row.ensures.refused
