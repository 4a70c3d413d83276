use Rattle.std.proofs.Common.{rules, string_bytes, subst}
use Rattle.xb_loop.proofs.Attended.{fails_to_print, lists_instead}
use Rattle.xb_feed.specs.Feeding.{FailsToListen, ListensTo}
use Rattle.xb_recording.specs.Says.{names_in}
use Rattle.xb_loop.specs.Program.{IsFaultOfRecording, header, with_release}
use Rattle.xb_loop.specs.Watching.{by_rows}
use Rattle.xb_loop.proofs.program.print.Goals as goal

pub returns-then-is_none_asked-clause-fault : goal.returns-then-is_none_asked-clause-fault
returns-then-is_none_asked-clause-fault g c =
    lists_instead (g.F.Files.bytes c.args.files.now) c.args.request c.no_line.result (g.R.Read.remaining c.args.recording.now)
    (g.W.Write.contents c.args.out.now) (search rules) c.no_line.ensures.wires c.no_line.ensures.listed

pub returns-clause-fault : goal.returns-clause-fault
returns-clause-fault g c =
    let files = g.F.Files.bytes c.args.files.now in
    let request = c.args.request in
    let before = c.in_ok-before.before.items in
    let release = c.in_ok-before.release_ms in
    let named : IsFaultOfRecording (names_in request.wanted) c.in-Err.fault c.fault_of_recording.result =
    (rw c.deref-in-Err.ensures.value at c.fault_of_recording.ensures) in
    fails_to_print files request c.in-Err.fault c.fault_of_recording.result _ _ _ named (
      before,
      release,
      record { text = c.in_ok-before.ensures.text; release_is = c.in_ok-before.ensures.release },
      subst (λ b. FailsToListen by_rows header (with_release request release) b c.in-Err.fault (g.R.Read.remaining c.args.recording.now)
          (g.W.Write.contents c.args.out.now) (g.W.Write.contents c.listen.new.out)) c.deref-2.ensures.value c.in-Err.ensures.fault,
    )

pub returns-in-Ok-clause-prints : goal.returns-in-Ok-clause-prints
returns-in-Ok-clause-prints g c =
    let request = c.args.request in
    let before = c.in_ok-before.before.items in
    let release = c.in_ok-before.release_ms in (
      before,
      release,
      record { text = c.in_ok-before.ensures.text; release_is = c.in_ok-before.ensures.release },
      subst (λ b. ListensTo by_rows header (with_release request release) b (string_bytes c.in-Ok.told)
          (g.R.Read.remaining c.args.recording.now) (g.W.Write.contents c.args.out.now)
          (g.W.Write.contents c.listen.new.out)) c.deref-2.ensures.value c.in-Ok.ensures.listens,
    )
