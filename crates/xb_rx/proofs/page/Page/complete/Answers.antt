use Rattle.std.proofs.Common.{◌≡◌, ◌∙◌, ◌+◌, [], ◌∷◌, ◌++◌, List, ℕ, Option, Result, Ok, Err, ap, drop, string_bytes, subst, sym}
use Rattle.std.proofs.lemmas.Result.{err_from_is_err_and}
use Rattle.xb_measured.specs.declared.heard.Heard.{Heard}
use Rattle.xb_model.specs.declared.mark.Mark.{Mark}
use Rattle.xb_model.specs.Keyings.{keying}
use Rattle.xb_rx.specs.declared.page.PageFault.{PageFault}
use Rattle.xb_rx.specs.declared.page.PageFault.TheVariants as page_fault
use Rattle.xb_measured.specs.DoubtLines.{began_ms, doubts_text}
use Rattle.xb_measured.specs.Keyings.{digits_in}
use Rattle.xb_rx.specs.Entries.{KeyedEntry}
use Rattle.xb_rx.specs.Placed.{Placed, placed_of}
use Rattle.xb_rx.specs.Pages.{IsTextOf, Paged, WritesOf, paged, text_after, text_rest, told_parts}
use Rattle.xb_rx.proofs.WrittenText.{all-written, entry-begun, entry-told, entry-told-begun, entry-whole, no-doubts, no-entry, none-written, wrote-whole}
use Rattle.xb_rx.proofs.page.Page.complete.Goals as goal

-- the key was kept, and the marks are those of before
same-marks : (page kept : Paged) (key : Heard) (marks : List Mark) → kept ≡ record page { begun = page.begun ++ key ∷ [] }
    → marks ≡ keying page.trunk (digits_in (drop 1 page.begun)) → marks ≡ keying kept.trunk (digits_in (drop 1 page.begun))
same-marks page kept key marks is are =
    are ∙ ap (λ (p : Paged). keying p.trunk (digits_in (drop 1 page.begun))) (sym is)

of-page : (page kept : Paged) (key : Heard) (entry : Placed) (after : List Placed → List ℕ) (r : Result (Unit {0}) PageFault)
    (a b : Option (List ℕ)) → kept ≡ record page { begun = page.begun ++ key ∷ [] }
    → WritesOf (λ later. text_rest kept (entry ∷ later)) after r a b
    → WritesOf (λ later. text_rest page (entry ∷ later)) after r a b
of-page page kept key entry after r a b is wrote =
    subst (λ (p : Paged). WritesOf (λ later. text_rest p (entry ∷ later)) after r a b) is wrote

-- the entry is told where its keys began before the last
told-at-began : (page : Paged) (against next : Option (List KeyedEntry)) (begun : List Heard) (at line n : ℕ) (marks : List Mark)
    (text : List ℕ) → begun ≡ page.begun → at ≡ began_ms begun → IsTextOf against next line n marks at text
    → IsTextOf against next line n marks (placed_of page.begun).at text
told-at-began page against next begun at line n marks text are is told =
    subst (λ (ms : ℕ). IsTextOf against next line n marks ms text) (is ∙ ap began_ms are) told

same-doubts : (page kept : Paged) (key : Heard) (bytes : List ℕ) → kept ≡ record page { begun = page.begun ++ key ∷ [] }
    → bytes ≡ doubts_text (kept.count + 1) kept.begun → bytes ≡ doubts_text (page.count + 1) (page.begun ++ key ∷ [])
same-doubts page kept key bytes is are = are ∙ ap (λ (p : Paged). doubts_text (p.count + 1) p.begun) is

pub returns-in_err-marks-clause-page : goal.returns-in_err-marks-clause-page
returns-in_err-marks-clause-page g c =
    let p = err_from_is_err_and c.from_residual.result c.from_residual.ensures.1 in
    no-entry _ _ c.from_residual.result _ _ p.1

pub returns-in_err-marks-clause-told : goal.returns-in_err-marks-clause-told
returns-in_err-marks-clause-told g c =
    let p = err_from_is_err_and c.from_residual.result c.from_residual.ensures.1 in
    no-doubts _ _ c.from_residual.result _ _ p.1

pub returns-in_err-keep-clause-page : goal.returns-in_err-keep-clause-page
returns-in_err-keep-clause-page g c =
    let p = err_from_is_err_and c.from_residual-in_err-keep.result c.from_residual-in_err-keep.ensures.1 in
    no-entry _ _ c.from_residual-in_err-keep.result _ _ p.1

pub returns-in_err-keep-clause-told : goal.returns-in_err-keep-clause-told
returns-in_err-keep-clause-told g c =
    let p = err_from_is_err_and c.from_residual-in_err-keep.result c.from_residual-in_err-keep.ensures.1 in
    no-doubts _ _ c.from_residual-in_err-keep.result _ _ p.1

pub returns-in_err-told-clause-page : goal.returns-in_err-told-clause-page
returns-in_err-told-clause-page g c =
    let p = err_from_is_err_and c.from_residual-in_err-told.result c.from_residual-in_err-told.ensures.1 in
    no-entry _ _ c.from_residual-in_err-told.result _ _ p.1

pub returns-in_err-told-clause-told : goal.returns-in_err-told-clause-told
returns-in_err-told-clause-told g c =
    let p = err_from_is_err_and c.from_residual-in_err-told.result c.from_residual-in_err-told.ensures.1 in
    no-doubts _ _ c.from_residual-in_err-told.result _ _ p.1

pub returns-in_err-text-clause-page : goal.returns-in_err-text-clause-page
returns-in_err-text-clause-page g c =
    let p = err_from_is_err_and c.from_residual-in_err-text.result c.from_residual-in_err-text.ensures.1 in
    no-entry _ _ c.from_residual-in_err-text.result _ _ p.1

pub returns-in_err-text-clause-told : goal.returns-in_err-text-clause-told
returns-in_err-text-clause-told g c =
    let p = err_from_is_err_and c.from_residual-in_err-text.result c.from_residual-in_err-text.ensures.1 in
    no-doubts _ _ c.from_residual-in_err-text.result _ _ p.1

pub returns-then-is_err-clause-page : goal.returns-then-is_err-clause-page
returns-then-is_err-clause-page g c =
    let page = paged c.args.self.now in
    let kept = paged c.keep.new.self in
    let is = c.in_ok-keep.ensures.kept in
    let entry = placed_of page.begun in
    of-page page kept c.args.key entry (text_rest page) (Err page_fault.Write) (g.W.Write.contents c.args.out.now) (g.W.Write.contents c.write_whole.new.out) is
    (entry-begun kept c.text_of.new.against entry c.deref-3.result.now (string_bytes c.in_ok-text.text)
    c.as_bytes.result.now (same-marks page kept c.args.key _ is (c.deref-3.ensures.value ∙ c.in_ok-marks.ensures)) (told-at-began page kept.against c.text_of.new.against c.deref.result.now c.began_ms-at.result _ _ _ _ c.deref.ensures.value c.began_ms-at.ensures c.in_ok-text.ensures) c.as_bytes.ensures.value
    (text_rest page) page_fault.Write _ _ c.write_whole.ensures.beginning)

pub returns-then-is_err-clause-told : goal.returns-then-is_err-clause-told
returns-then-is_err-clause-told g c = λ parts. none-written _ _

pub returns-then-is_err-2-clause-page : goal.returns-then-is_err-2-clause-page
returns-then-is_err-2-clause-page g c =
    let page = paged c.args.self.now in
    let kept = paged c.keep.new.self in
    let is = c.in_ok-keep.ensures.kept in
    let entry = placed_of page.begun in
    of-page page kept c.args.key entry (text_rest page) (Err page_fault.Tell) (g.W.Write.contents c.args.out.now) (g.W.Write.contents c.write_whole.new.out) is
    (entry-begun kept c.text_of.new.against entry c.deref-3.result.now (string_bytes c.in_ok-text.text)
    c.as_bytes.result.now (same-marks page kept c.args.key _ is (c.deref-3.ensures.value ∙ c.in_ok-marks.ensures)) (told-at-began page kept.against c.text_of.new.against c.deref.result.now c.began_ms-at.result _ _ _ _ c.deref.ensures.value c.began_ms-at.ensures c.in_ok-text.ensures) c.as_bytes.ensures.value
    (text_rest page) page_fault.Tell _ _
    (all-written _ _ _ (wrote-whole c.write_whole.result c.write_whole.ensures.whole (sym c.is_err.ensures.value ∙ c.if-is_err.false))))

pub returns-then-is_err-2-clause-told : goal.returns-then-is_err-2-clause-told
returns-then-is_err-2-clause-told g c =
    let page = paged c.args.self.now in
    let kept = paged c.keep.new.self in
    let is = c.in_ok-keep.ensures.kept in
    let bytes = same-doubts page kept c.args.key c.as_bytes-2.result.now is
    (c.as_bytes-2.ensures.value ∙ c.in_ok-told.ensures ∙ ap (λ (ks : List Heard). doubts_text (kept.count + 1) ks) c.deref-2.ensures.value) in
    entry-told-begun (page.count + 1) (kept.count + 1) (page.begun ++ c.args.key ∷ []) c.as_bytes-2.result.now bytes
    (told_parts (kept.count + 1)) page_fault.Tell _ _ c.write_whole-2.ensures.beginning

pub returns-clause-page : goal.returns-clause-page
returns-clause-page g c =
    let page = paged c.args.self.now in
    let kept = paged c.keep.new.self in
    let is = c.in_ok-keep.ensures.kept in
    let entry = placed_of page.begun in
    of-page page kept c.args.key entry (λ later. text_after c.text_of.new.against kept.line kept.trunk (kept.count + 1) later) (Ok tt)
    (g.W.Write.contents c.args.out.now) (g.W.Write.contents c.write_whole.new.out) is
    (entry-whole kept c.text_of.new.against entry c.deref-3.result.now (string_bytes c.in_ok-text.text)
    c.as_bytes.result.now (same-marks page kept c.args.key _ is (c.deref-3.ensures.value ∙ c.in_ok-marks.ensures)) (told-at-began page kept.against c.text_of.new.against c.deref.result.now c.began_ms-at.result _ _ _ _ c.deref.ensures.value c.began_ms-at.ensures c.in_ok-text.ensures) c.as_bytes.ensures.value _ _
    (wrote-whole c.write_whole.result c.write_whole.ensures.whole (sym c.is_err.ensures.value ∙ c.if-is_err.false)))

pub returns-clause-told : goal.returns-clause-told
returns-clause-told g c =
    let page = paged c.args.self.now in
    let kept = paged c.keep.new.self in
    let is = c.in_ok-keep.ensures.kept in
    let bytes = same-doubts page kept c.args.key c.as_bytes-2.result.now is
    (c.as_bytes-2.ensures.value ∙ c.in_ok-told.ensures ∙ ap (λ (ks : List Heard). doubts_text (kept.count + 1) ks) c.deref-2.ensures.value) in
    entry-told (page.count + 1) (kept.count + 1) (page.begun ++ c.args.key ∷ []) c.as_bytes-2.result.now bytes
    (ap (λ (p : Paged). p.count + 1) is) _ _
    (wrote-whole c.write_whole-2.result c.write_whole-2.ensures.whole (sym c.is_err-2.ensures.value ∙ c.if-is_err-2.false))
