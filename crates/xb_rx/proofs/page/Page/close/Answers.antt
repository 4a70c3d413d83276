use Rattle.std.proofs.Common.{◌≡◌, ◌∙◌, [], ap, sym, subst}
use Rattle.std.specs.Io.KnownBytes.{Appends}
use Rattle.xb_text.specs.Writing.{AppendsBeginning}
use Rattle.xb_rx.specs.Pages.{loose_lines, page_told, page_rest, paged}
use Rattle.xb_rx.proofs.WrittenText.{all-written, end-page, end-told, wrote-whole}
use Rattle.xb_rx.proofs.page.Page.close.Goals as goal

pub returns-then-is_err-clause-told : goal.returns-then-is_err-clause-told
returns-then-is_err-clause-told g c =
    let page = paged c.args.self.now in
    let text : c.as_bytes.result.now ≡ page_told page [] =
    c.as_bytes.ensures.value ∙ c.in_ok-text.ensures ∙ ap loose_lines c.deref.ensures.value ∙ sym (end-told page c.requires) in
    subst (AppendsBeginning _ _) text c.write_whole.ensures.beginning

pub returns-then-is_err-2-clause-page : goal.returns-then-is_err-2-clause-page
returns-then-is_err-2-clause-page g c =
    let page = paged c.args.self.now in
    let text : c.as_bytes-2.result.now ≡ page_rest page [] =
    c.as_bytes-2.ensures.value ∙ c.in_ok-last.ensures ∙ sym (end-page page c.requires) in
    subst (AppendsBeginning _ _) text c.write_whole-2.ensures.beginning

pub returns-then-is_err-2-clause-told : goal.returns-then-is_err-2-clause-told
returns-then-is_err-2-clause-told g c =
    let page = paged c.args.self.now in
    let text : c.as_bytes.result.now ≡ page_told page [] =
    c.as_bytes.ensures.value ∙ c.in_ok-text.ensures ∙ ap loose_lines c.deref.ensures.value ∙ sym (end-told page c.requires) in
    all-written _ _ _ (subst (Appends _ _) text
    (wrote-whole c.write_whole.result c.write_whole.ensures.whole (sym c.is_err.ensures.value ∙ c.if-is_err.false)))

pub returns-clause-page : goal.returns-clause-page
returns-clause-page g c =
    let page = paged c.args.self.now in
    let text : c.as_bytes-2.result.now ≡ page_rest page [] =
    c.as_bytes-2.ensures.value ∙ c.in_ok-last.ensures ∙ sym (end-page page c.requires) in
    subst (Appends _ _) text
    (wrote-whole c.write_whole-2.result c.write_whole-2.ensures.whole (sym c.is_err-2.ensures.value ∙ c.if-is_err-2.false))

pub returns-clause-told : goal.returns-clause-told
returns-clause-told g c =
    let page = paged c.args.self.now in
    let text : c.as_bytes.result.now ≡ page_told page [] =
    c.as_bytes.ensures.value ∙ c.in_ok-text.ensures ∙ ap loose_lines c.deref.ensures.value ∙ sym (end-told page c.requires) in
    subst (Appends _ _) text
    (wrote-whole c.write_whole.result c.write_whole.ensures.whole (sym c.is_err.ensures.value ∙ c.if-is_err.false))
