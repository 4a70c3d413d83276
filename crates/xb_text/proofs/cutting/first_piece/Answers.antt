use Rattle.xb_text.proofs.CutPieces.{piece-cut, piece-whole}
use Rattle.xb_text.proofs.cutting.first_piece.Goals as goal

pub returns-in-Some : goal.returns-in-Some
returns-in-Some c = piece-cut c.args.byte c.args.text.now c.in-Some.piece.now c.in-Some.later.now c.in-Some.ensures

pub returns-in-None : goal.returns-in-None
returns-in-None c = piece-whole c.args.byte c.args.text.now c.in-None.ensures
