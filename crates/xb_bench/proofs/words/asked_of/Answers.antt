use Rattle.std.proofs.Common.{◌≡◌, ap, false, inl, inr, rules, subst, sym, Some}
use Rattle.xb_feed.specs.Options.{Say as SaysOf, SayNothing as SaysNothingOf}
use Rattle.xb_bench.specs.declared.setting.Form.{Form}
use Rattle.xb_bench.specs.declared.setting.Setting.{Setting}
use Rattle.xb_bench.specs.Options.{IsSetting, ReadsForm, SayNothing, can_tell}
use Rattle.xb_bench.proofs.Unfit.{unfit_weaker}
use Rattle.xb_bench.proofs.words.asked_of.Goals as goal

pub returns-in-Err-request_of-clause-nothing : goal.returns-in-Err-request_of-clause-nothing
returns-in-Err-request_of-clause-nothing c =
    unfit_weaker (SaysNothingOf c.args.words.now) (SayNothing c.args.words.now) c.in-Err-request_of.answer
    (λ none. inr (inl none)) c.in-Err-request_of.ensures.nothing

pub returns-then-not-can_tell-clause-nothing : goal.returns-then-not-can_tell-clause-nothing
returns-then-not-can_tell-clause-nothing c =
    let request = c.in-Ok-request_of.request in
    let says = c.in-Ok-request_of.ensures.says in
    let test : c.can_tell.result ≡ false = search rules in
    let form = ap (λ (s : Setting). s.form) says.common_is in
    let reads : ReadsForm c.args.words.now (Some request.common.form) =
    subst (λ (f : Form). ReadsForm c.args.words.now (Some f)) (sym form) c.in-Ok.ensures.says.form in
    let fits : can_tell request.common.form request.lines.items ≡ false = search (rules, form) in
    inr (inr (
      request,
      subst (λ common. SaysOf c.args.words.now common request) (sym says.common_is) says,
      reads,
      fits,
    ))

pub returns-clause-says : goal.returns-clause-says
returns-clause-says c =
    let request = c.in-Ok-request_of.request in
    let says = c.in-Ok-request_of.ensures.says in
    let form = ap (λ (s : Setting). s.form) says.common_is in record {
      setting = subst (IsSetting c.args.words.now) (sym says.common_is) c.in-Ok.ensures.says;
      fits = search (rules, form);
      rest = subst (λ common. SaysOf c.args.words.now common request) (sym says.common_is) says;
    }
