use Rattle.std.proofs.Common.{[], ◌∷◌, OnOk, string_bytes, subst, sym}
use Rattle.xb_shown.specs.Pictures.{Part, part_in}
use Rattle.xb_rx.specs.declared.parts.Sheet.{Sheet}
use Rattle.xb_rx.specs.declared.parts.Sheet.TheVariants as sheet
use Rattle.xb_rx.specs.Shown.{Shows}
use Rattle.xb_rx.proofs.PartSteps.{page-shows, picture-shows}
use Rattle.xb_rx.proofs.parts.Sheet.take.Goals as goal

pub returns-in-Page : goal.returns-in-Page
returns-in-Page c =
    let part : Part = part_in c.args.part.now in
    subst (λ (s : Sheet). OnOk c.take.result (Shows s (part ∷ []) (sheet.Page c.take.new.self) []
    (string_bytes c.args.out.now) (string_bytes c.take.new.out))) (sym c.in-Page.is)
    (page-shows c.take.result c.in-Page.page c.take.new.self part _ _ c.take.ensures.text c.take.ensures.begun)

pub returns-in-Picture : goal.returns-in-Picture
returns-in-Picture c =
    let part : Part = part_in c.args.part.now in
    subst (λ (s : Sheet). OnOk c.take-in-Picture.result (Shows s (part ∷ []) (sheet.Picture c.take-in-Picture.new.self) []
    (string_bytes c.args.out.now) (string_bytes c.args.out.now))) (sym c.in-Picture.is)
    (picture-shows c.take-in-Picture.result c.in-Picture.picture c.take-in-Picture.new.self part _ c.take-in-Picture.ensures.drawn)
