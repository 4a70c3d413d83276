use Rattle.xb_parts.proofs.SplitDecks.{table_fault}
use Rattle.xb_parts.proofs.splitting.open_deck.Goals as goal

pub returns-in-Err-read_table-clause-fault : goal.returns-in-Err-read_table-clause-fault
returns-in-Err-read_table-clause-fault g c parts =
    let deck = g.F.SplitFiles.bytes c.args.files.now c.args.big.now in
    table_fault deck _ c.in-Err-read_table.fault c.in-Ok.ensures c.in-Err-read_table.ensures.fault
