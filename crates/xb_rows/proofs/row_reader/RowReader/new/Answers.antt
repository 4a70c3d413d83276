use Rattle.xb_rows.proofs.StreamRows.{stream_left-start}
use Rattle.xb_rows.proofs.row_reader.RowReader.new.Goals as goal

pub returns : goal.returns
returns g c = stream_left-start c.args.most (g.R.Read.remaining c.args.reader) _ c.new.ensures
