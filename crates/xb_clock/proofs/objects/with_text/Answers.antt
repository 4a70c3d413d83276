use Rattle.std.proofs.Common.{◌∙◌, ap, sym}
use Rattle.serde_json.specs.View.{view}
use Rattle.xb_clock.specs.Objects.{with_text}
use Rattle.xb_clock.proofs.PutTexts.{inserted}
use Rattle.xb_clock.proofs.objects.with_text.Goals as goal

pub returns-in_ok-insert-in-Object : goal.returns-in_ok-insert-in-Object
returns-in_ok-insert-in-Object c =
    inserted c.in-Object.members c.insert.new.self _ _ _ _ c.in_ok-insert-in-Object.ensures.entries
    c.in_ok-name-in-Object.ensures.ok c.in_ok-text-in-Object.ensures.ok
    ∙ ap (λ value. with_text c.args.name.now c.args.text.now (view value)) (sym c.in-Object.is)
