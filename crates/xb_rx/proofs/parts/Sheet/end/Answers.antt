use Rattle.std.proofs.Common.{OnOk, string_bytes, subst, sym}
use Rattle.std.proofs.lemmas.Result.{on_ok_weaker}
use Rattle.xb_rx.specs.declared.parts.Sheet.{Sheet}
use Rattle.xb_rx.specs.Shown.{ShowsAll}
use Rattle.xb_rx.proofs.PartSteps.{plain-styles}
use Rattle.xb_rx.proofs.parts.Sheet.end.Goals as goal

pub returns-in-Page : goal.returns-in-Page
returns-in-Page c =
    subst (λ (s : Sheet). OnOk c.end.result (ShowsAll s (string_bytes c.args.out.now) (string_bytes c.end.new.out)))
    (sym c.in-Page.is) (on_ok_weaker c.end.result (λ e. record { styles = plain-styles; put = e }) c.end.ensures)

pub returns-in-Picture : goal.returns-in-Picture
returns-in-Picture c =
    subst (λ (s : Sheet). OnOk c.end-in-Picture.result (ShowsAll s (string_bytes c.args.out.now)
    (string_bytes c.end-in-Picture.new.out))) (sym c.in-Picture.is)
    (on_ok_weaker c.end-in-Picture.result (λ e. record { styles = λ n. e.looks; put = e.put }) c.end-in-Picture.ensures)
