use Rattle.std.proofs.Common.{◌≡◌, ◌++◌, ◌∷◌, ◌∙◌, []}
use Rattle.std.proofs.lemmas.Bool.{cond-true}
use Rattle.xb_parts.proofs.ReadTexts.{HavePages-next}
use Rattle.xb_parts.proofs.joining.read_pages.Goals as goal

pub loop-name-preserved : goal.loop-name-preserved
loop-name-preserved g c =
    let items : c.push.new.self.items ≡ c.loop-name.pages.items ++ c.in-Ok.page ∷ []
    = c.push.ensures.items ∙ cond-true _ _ _ c.if-is_err.ensures.negation in
    HavePages-next (g.F.Files.bytes c.args.files.now) (λ name. name.now) (λ page. page.items) c.args.names.now
    c.loop-name.name-index _ c.loop-name.pages.items c.push.new.self.items c.in-Ok.page c.loop-name-test.true items
    c.loop-name.invariant c.in-Ok.ensures
