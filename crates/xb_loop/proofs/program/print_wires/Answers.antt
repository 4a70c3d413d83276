use Rattle.std.proofs.KnownBytes.{Keeps-refl}
use Rattle.xb_loop.proofs.Attended.{wires_listed}
use Rattle.xb_loop.proofs.program.print_wires.Goals as goal

pub returns-in-Ok : goal.returns-in-Ok
returns-in-Ok g c =
    wires_listed c.args.request.now (g.R.Read.remaining c.args.recording.now) c.in-Ok.listing c.write_wires.result
    (g.W.Write.contents c.args.out.now) (g.W.Write.contents c.write_wires.new.out) c.in-Ok.ensures.listed
    c.write_wires.ensures

pub returns-in-Err : goal.returns-in-Err
returns-in-Err g c = (c.in-Err.ensures.fault, Keeps-refl (g.W.Write.contents c.args.out.now))
