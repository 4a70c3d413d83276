use Rattle.std.proofs.Common.{◌≡◌, inr, subst, ◌∙◌}
use Rattle.xb_recording.specs.Says.{names_in}
use Rattle.xb_bench.specs.Program.{FailsWhole, IsFaultTold, PrintsWhole}
use Rattle.xb_bench.specs.Told.{first_text, last_text}
use Rattle.xb_bench.proofs.program.print.Goals as goal

pub returns-in-Ok-print_whole-clause-prints : goal.returns-in-Ok-print_whole-clause-prints
returns-in-Ok-print_whole-clause-prints g c =
    let first : c.as_bytes.result.now ≡ first_text c.args.request.common = c.as_bytes.ensures.value ∙ c.in-Ok.ensures in
    let last : c.as_bytes-2.result.now ≡ last_text c.args.request.common =
    c.as_bytes-2.ensures.value ∙ c.in-Ok-last_text.ensures in
    subst (λ l. PrintsWhole c.args.request.common.form (first_text c.args.request.common) l c.args.request
    (g.R.Read.remaining c.args.recording.now) (g.W.Write.contents c.args.out.now)
    (g.W.Write.contents c.print_whole.new.out)) last
    (subst (λ f. PrintsWhole c.args.request.common.form f c.as_bytes-2.result.now c.args.request
    (g.R.Read.remaining c.args.recording.now) (g.W.Write.contents c.args.out.now)
    (g.W.Write.contents c.print_whole.new.out)) first c.in-Ok-print_whole.ensures.prints)

pub returns-clause-fault : goal.returns-clause-fault
returns-clause-fault g c =
    let first : c.as_bytes.result.now ≡ first_text c.args.request.common = c.as_bytes.ensures.value ∙ c.in-Ok.ensures in
    let last : c.as_bytes-2.result.now ≡ last_text c.args.request.common =
    c.as_bytes-2.ensures.value ∙ c.in-Ok-last_text.ensures in
    let named : IsFaultTold (names_in c.args.request.wanted) c.in-Err.fault c.fault_told.result =
    (rw c.deref.ensures.value at c.fault_told.ensures) in
    inr (
      c.in-Err.fault,
      named,
      subst (λ l. FailsWhole c.args.request.common.form (first_text c.args.request.common) l c.args.request c.in-Err.fault
          (g.R.Read.remaining c.args.recording.now) (g.W.Write.contents c.args.out.now)
          (g.W.Write.contents c.print_whole.new.out)) last
          (subst (λ f. FailsWhole c.args.request.common.form f c.as_bytes-2.result.now c.args.request c.in-Err.fault
          (g.R.Read.remaining c.args.recording.now) (g.W.Write.contents c.args.out.now)
          (g.W.Write.contents c.print_whole.new.out)) first c.in-Err.ensures.fault),
    )
