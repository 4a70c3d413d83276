use Rattle.std.proofs.Common.{subst, sym}
use Rattle.xb_parts.specs.Splits.{IsOpened, IsTable}
use Rattle.xb_parts.proofs.SplitDecks.{counted, rows_fault}
use Rattle.xb_parts.proofs.splitting.count.Goals as goal

pub returns-in-Err-check_table-clause-fault : goal.returns-in-Err-check_table-clause-fault
returns-in-Err-check_table-clause-fault g c = λ parts.
    let deck = g.F.SplitFiles.bytes c.args.files.now c.args.big.now in
    c.in-Err-check_table.ensures.fault deck parts c.in-Ok.deck.1
    (subst (λ table. IsOpened deck table c.in-Ok.deck.1) (sym c.deref.ensures.value) c.in-Ok.ensures.deck)

pub returns-in-Err-count_rows-clause-fault : goal.returns-in-Err-count_rows-clause-fault
returns-in-Err-count_rows-clause-fault g c = λ parts.
    rows_fault (g.F.SplitFiles.bytes c.args.files.now c.args.big.now) c.in-Ok.deck.0.items _ parts c.in-Err-count_rows.fault
    c.in-Ok.ensures.deck (subst IsTable c.deref.ensures.value c.in_default.ensures.taken) c.in-Err-count_rows.ensures.fault

pub returns-in-Ok-count_rows-clause-counted : goal.returns-in-Ok-count_rows-clause-counted
returns-in-Ok-count_rows-clause-counted g c =
    counted (g.F.SplitFiles.bytes c.args.files.now c.args.big.now) c.in-Ok.deck.0.items _ c.in-Ok-count_rows.loads
    c.in-Ok.ensures.deck (subst IsTable c.deref.ensures.value c.in_default.ensures.taken) c.in-Ok-count_rows.ensures.loads
