use Rattle.std.proofs.KnownBytes.{Keeps-refl}
use Rattle.xb_parts.proofs.Refusals.{LeavesNone-refl, folder_refused, list_left, number_refused}
use Rattle.xb_parts.proofs.splitting.split.Goals as goal

pub returns-in-Err-clause-split : goal.returns-in-Err-clause-split
returns-in-Err-clause-split g c =
    let files = c.args.files.now in
    let request = c.args.request.now in
    let folder = request.folder.now in
    let deck = g.F.SplitFiles.bytes files request.big.now in
    let list = g.F.SplitFiles.listed files folder in (
      number_refused deck (g.F.SplitFiles.filled files folder) request.parts c.in-Err.fault c.in-Err.ensures.fault,
      list_left deck (g.F.SplitFiles.fresh files) request.parts c.in-Err.fault (g.F.SplitFiles.named files folder)
          list list (Keeps-refl list),
    )

pub returns-in-Err-clause-none_left : goal.returns-in-Err-clause-none_left
returns-in-Err-clause-none_left g c = LeavesNone-refl (g.F.SplitFiles.unfinished c.args.files.now)

pub returns-in-Err-check_folder-clause-split : goal.returns-in-Err-check_folder-clause-split
returns-in-Err-check_folder-clause-split g c =
    let files = c.args.files.now in
    let request = c.args.request.now in
    let folder = request.folder.now in
    let deck = g.F.SplitFiles.bytes files request.big.now in
    let list = g.F.SplitFiles.listed files folder in
    let f = c.in-Err-check_folder.fault in (
      folder_refused deck (g.F.SplitFiles.filled files folder) request.parts f c.in-Err-check_folder.ensures.fault,
      list_left deck (g.F.SplitFiles.fresh files) request.parts f (g.F.SplitFiles.named files folder)
          list list (Keeps-refl list),
    )

pub returns-in-Err-check_folder-clause-none_left : goal.returns-in-Err-check_folder-clause-none_left
returns-in-Err-check_folder-clause-none_left g c = LeavesNone-refl (g.F.SplitFiles.unfinished c.args.files.now)
