use Rattle.std.proofs.Common.{◌∙◌, Err, ap}
use Rattle.std.proofs.lemmas.Result.{err_from_is_err_and}
use Rattle.xb_measured.specs.Receivers.{listed}
use Rattle.xb_rx.specs.Pages.{page_told, page_rest, paged}
use Rattle.xb_rx.proofs.LastSteps.{end-after, end-fault}
use Rattle.xb_rx.proofs.page.Page.end.Goals as goal

pub returns-in_err-take-clause-page : goal.returns-in_err-take-clause-page
returns-in_err-take-clause-page g c =
    let p = err_from_is_err_and c.from_residual.result c.from_residual.ensures.1 in
    end-fault page_rest (paged c.args.self.now) (listed c.args.key) c.in_err-take.field-0.0 _ _ _ (p.1 ∙ ap (λ f. Err f) p.2)
    c.in_err-take.ensures.page

pub returns-clause-page : goal.returns-clause-page
returns-clause-page g c =
    end-after page_rest (paged c.args.self.now) (paged c.take.new.self) (listed c.args.key) c.close.result _ _ _
    c.in_ok-take.ensures.page c.close.ensures.page

pub returns-in_err-take-clause-told : goal.returns-in_err-take-clause-told
returns-in_err-take-clause-told g c =
    let p = err_from_is_err_and c.from_residual.result c.from_residual.ensures.1 in
    end-fault page_told (paged c.args.self.now) (listed c.args.key) c.in_err-take.field-0.0 _ _ _ (p.1 ∙ ap (λ f. Err f) p.2)
    c.in_err-take.ensures.told

pub returns-clause-told : goal.returns-clause-told
returns-clause-told g c =
    end-after page_told (paged c.args.self.now) (paged c.take.new.self) (listed c.args.key) c.close.result _ _ _
    c.in_ok-take.ensures.told c.close.ensures.told
