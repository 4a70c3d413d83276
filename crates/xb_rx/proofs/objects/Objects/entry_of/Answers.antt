use Rattle.std.proofs.Common.{◌≡◌, ◌∙◌, List, Result, Ok, Err, ap, string_bytes, sym}
use Rattle.std.specs.Prelude.{IfOk}
use Rattle.xb_measured.specs.declared.heard.Heard.{Heard}
use Rattle.xb_rx.specs.declared.begun.Step.{Step}
use Rattle.xb_rx.specs.Begun.{step_of}
use Rattle.xb_rx.specs.Objects.{objected}
use Rattle.xb_rx.specs.Timed.{timing_by}
use Rattle.xb_rx.proofs.ObjectSteps.{breaks, completes, keeps}
use Rattle.xb_rx.proofs.objects.Objects.entry_of.Goals as goal

-- what is done with a key after the keys as they are passed is done with it after these
by-step : (passed begun : List Heard) (key : Heard) (result step : Step) → passed ≡ begun → result ≡ step_of passed key
    → result ≡ step → step_of begun key ≡ step
by-step passed begun key result step same is known =
    ap (λ ks. step_of ks key) (sym same) ∙ sym is ∙ known

all-ok : {S E : Type 0} {P Q R T : S → Type 0} (r : Result S E) → ((s : S) → P s → Q s → R s → T s) → IfOk r P → IfOk r Q
    → IfOk r R → IfOk r T
all-ok (Ok s) step p q r = step s p q r
all-ok (Err e) step p q r = tt

pub returns-in_ok-keep-in-Keeps-clause-ended : goal.returns-in_ok-keep-in-Keeps-clause-ended
returns-in_ok-keep-in-Keeps-clause-ended c = λ clock tells.
    keeps (timing_by c.args.since clock) (objected c.args.self.now) (objected c.keep.new.self) c.args.key c.requires.begun
    (by-step c.deref.result.now (objected c.args.self.now).begun c.args.key _ _ c.deref.ensures.value c.step_of.ensures c.in-Keeps.is)
    c.in_ok-keep-in-Keeps.ensures.kept (string_bytes c.new.result) c.new.ensures.bytes c.keep.ensures.count

pub returns-in-Completes-clause-ended : goal.returns-in-Completes-clause-ended
returns-in-Completes-clause-ended c = λ clock tells.
    all-ok c.complete.result
    (λ line is none one. completes (timing_by c.args.since clock) (objected c.args.self.now) (objected c.complete.new.self) c.args.key c.requires.begun
    (string_bytes line)
    (by-step c.deref.result.now (objected c.args.self.now).begun c.args.key _ _ c.deref.ensures.value c.step_of.ensures c.in-Completes.is)
    none one is)
    (c.complete.ensures.line clock tells) c.complete.ensures.none c.complete.ensures.one

pub returns-in_ok-break_off-in-BreaksOff-clause-ended : goal.returns-in_ok-break_off-in-BreaksOff-clause-ended
returns-in_ok-break_off-in-BreaksOff-clause-ended c = λ clock tells.
    breaks (timing_by c.args.since clock) (objected c.args.self.now) (objected c.break_off.new.self) c.args.key c.requires.begun
    (by-step c.deref.result.now (objected c.args.self.now).begun c.args.key _ _ c.deref.ensures.value c.step_of.ensures c.in-BreaksOff.is)
    c.in_ok-break_off-in-BreaksOff.ensures.after (string_bytes c.new-in-BreaksOff.result) c.new-in-BreaksOff.ensures.bytes
    c.break_off.ensures.count
