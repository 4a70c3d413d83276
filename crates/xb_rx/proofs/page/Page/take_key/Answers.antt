use Rattle.std.proofs.Common.{◌≡◌, ◌∙◌, List, ap, sym}
use Rattle.xb_measured.specs.declared.heard.Heard.{Heard}
use Rattle.xb_rx.specs.declared.begun.Step.{Step}
use Rattle.xb_rx.specs.Begun.{step_of}
use Rattle.xb_rx.specs.Pages.{paged}
use Rattle.xb_rx.proofs.KeySteps.{breaks-page, breaks-told, completes-page, completes-told, keeps-begun, keeps-page, keeps-told}
use Rattle.xb_rx.proofs.page.Page.take_key.Goals as goal

-- what is done with a key after the keys as they are passed is done with it after these
by-step : (passed begun : List Heard) (key : Heard) (result step : Step) → passed ≡ begun → result ≡ step_of passed key
    → result ≡ step → step_of begun key ≡ step
by-step passed begun key result step same is known =
    ap (λ ks. step_of ks key) (sym same) ∙ sym is ∙ known

pub returns-in-Keeps-clause-page : goal.returns-in-Keeps-clause-page
returns-in-Keeps-clause-page g c =
    keeps-page (paged c.args.self.now) (paged c.keep.new.self) c.args.key c.keep.result c.keep.ensures.kept _

pub returns-in-Keeps-clause-told : goal.returns-in-Keeps-clause-told
returns-in-Keeps-clause-told g c =
    keeps-told (paged c.args.self.now) (paged c.keep.new.self) c.args.key c.keep.result c.keep.ensures.kept _

pub returns-in-Keeps-clause-begun : goal.returns-in-Keeps-clause-begun
returns-in-Keeps-clause-begun g c =
    keeps-begun (paged c.args.self.now) (paged c.keep.new.self) c.args.key c.keep.result c.requires.begun
    (by-step c.deref.result.now (paged c.args.self.now).begun c.args.key _ _ c.deref.ensures.value c.step_of.ensures c.in-Keeps.is) c.keep.ensures.kept

pub returns-in-Completes-clause-page : goal.returns-in-Completes-clause-page
returns-in-Completes-clause-page g c =
    completes-page (paged c.args.self.now) (paged c.complete.new.self) c.args.key c.complete.result c.requires.begun
    (by-step c.deref.result.now (paged c.args.self.now).begun c.args.key _ _ c.deref.ensures.value c.step_of.ensures c.in-Completes.is) c.complete.ensures.after _ _ c.complete.ensures.page

pub returns-in-Completes-clause-told : goal.returns-in-Completes-clause-told
returns-in-Completes-clause-told g c =
    completes-told (paged c.args.self.now) (paged c.complete.new.self) c.args.key c.complete.result c.requires.begun
    (by-step c.deref.result.now (paged c.args.self.now).begun c.args.key _ _ c.deref.ensures.value c.step_of.ensures c.in-Completes.is) c.complete.ensures.after _ _ c.complete.ensures.told

pub returns-in-BreaksOff-clause-page : goal.returns-in-BreaksOff-clause-page
returns-in-BreaksOff-clause-page g c =
    breaks-page (paged c.args.self.now) (paged c.break_off.new.self) c.args.key c.break_off.result c.requires.begun
    (by-step c.deref.result.now (paged c.args.self.now).begun c.args.key _ _ c.deref.ensures.value c.step_of.ensures c.in-BreaksOff.is) c.break_off.ensures.after _

pub returns-in-BreaksOff-clause-told : goal.returns-in-BreaksOff-clause-told
returns-in-BreaksOff-clause-told g c =
    breaks-told (paged c.args.self.now) (paged c.break_off.new.self) c.args.key c.break_off.result c.requires.begun
    (by-step c.deref.result.now (paged c.args.self.now).begun c.args.key _ _ c.deref.ensures.value c.step_of.ensures c.in-BreaksOff.is) c.break_off.ensures.after _ _ c.break_off.ensures.whole c.break_off.ensures.beginning
