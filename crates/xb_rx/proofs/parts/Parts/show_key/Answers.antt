use Rattle.std.proofs.Common.{◌≡◌, ◌∙◌, List, ap, string_bytes, sym}
use Rattle.xb_measured.specs.declared.heard.Heard.{Heard}
use Rattle.xb_rx.specs.declared.begun.Step.{Step}
use Rattle.xb_rx.specs.Begun.{step_of}
use Rattle.xb_rx.specs.Shown.{shown}
use Rattle.xb_rx.proofs.PartSteps.{breaks-begun-on, breaks-shown, completes-begun-on, completes-shown, keeps-begun-on, keeps-shown}
use Rattle.xb_rx.proofs.parts.Parts.show_key.Goals as goal

-- what is done with a key after the keys as they are passed is done with it after these
by-step : (passed begun : List Heard) (key : Heard) (result step : Step) → passed ≡ begun → result ≡ step_of passed key
    → result ≡ step → step_of begun key ≡ step
by-step passed begun key result step same is known =
    ap (λ ks. step_of ks key) (sym same) ∙ sym is ∙ known

pub returns-in-Keeps-clause-text : goal.returns-in-Keeps-clause-text
returns-in-Keeps-clause-text c =
    keeps-shown c.keep.result (shown c.args.self.now) (shown c.keep.new.self) c.args.key c.requires.begun
    (string_bytes c.args.out.now) (string_bytes c.args.out.now) c.keep.ensures.kept

pub returns-in-Keeps-clause-begun : goal.returns-in-Keeps-clause-begun
returns-in-Keeps-clause-begun c =
    keeps-begun-on c.keep.result (shown c.args.self.now) (shown c.keep.new.self) c.args.key c.requires.begun
    (string_bytes c.args.out.now) (string_bytes c.args.out.now)
    (by-step c.deref.result.now (shown c.args.self.now).begun c.args.key _ _ c.deref.ensures.value c.step_of.ensures c.in-Keeps.is)
    c.keep.ensures.kept

pub returns-in-Completes-clause-text : goal.returns-in-Completes-clause-text
returns-in-Completes-clause-text c =
    completes-shown c.complete.result (shown c.args.self.now) (shown c.complete.new.self) c.args.key c.requires.begun
    (string_bytes c.args.out.now) (string_bytes c.complete.new.out)
    (by-step c.deref.result.now (shown c.args.self.now).begun c.args.key _ _ c.deref.ensures.value c.step_of.ensures c.in-Completes.is)
    c.complete.ensures.text c.complete.ensures.last c.complete.ensures.none c.complete.ensures.one

pub returns-in-Completes-clause-begun : goal.returns-in-Completes-clause-begun
returns-in-Completes-clause-begun c =
    completes-begun-on c.complete.result (shown c.args.self.now) (shown c.complete.new.self) c.args.key c.requires.begun
    (string_bytes c.args.out.now) (string_bytes c.complete.new.out) c.complete.ensures.none

pub returns-in-BreaksOff-clause-text : goal.returns-in-BreaksOff-clause-text
returns-in-BreaksOff-clause-text c =
    breaks-shown c.break_off.result (shown c.args.self.now) (shown c.break_off.new.self) c.args.key c.requires.begun
    (string_bytes c.args.out.now) (string_bytes c.break_off.new.out)
    (by-step c.deref.result.now (shown c.args.self.now).begun c.args.key _ _ c.deref.ensures.value c.step_of.ensures c.in-BreaksOff.is)
    c.break_off.ensures.text c.break_off.ensures.last c.break_off.ensures.after c.break_off.ensures.count

pub returns-in-BreaksOff-clause-begun : goal.returns-in-BreaksOff-clause-begun
returns-in-BreaksOff-clause-begun c =
    breaks-begun-on c.break_off.result (shown c.args.self.now) (shown c.break_off.new.self) c.args.key c.requires.begun
    (string_bytes c.args.out.now) (string_bytes c.break_off.new.out) c.break_off.ensures.after
