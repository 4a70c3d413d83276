use Rattle.std.proofs.Common.{◌≡◌, List, map, Ok}
use Rattle.std.proofs.lemmas.Result.{IfErr-weaker, IfOk-weaker}
use Rattle.xb_parts.specs.Joining.{BlamesNoPart, Given, IsFaultOf, MakesTheWhole, given_of, join_of}
use Rattle.xb_parts.proofs.JoinedPages.{blames_no_part, makes_the_whole}
use Rattle.xb_parts.proofs.pages.join_pages.Goals as goal

pub returns-clause-whole : goal.returns-clause-whole
returns-clause-whole c =
    let given : List Given = map given_of c.args.parts.now in
    IfOk-weaker c.join.result (λ page. join_of given ≡ Ok page.items) (λ page. MakesTheWhole given page.items)
    (λ page e. makes_the_whole given page.items e) c.join.ensures.page

pub returns-clause-unharmed : goal.returns-clause-unharmed
returns-clause-unharmed c =
    let given : List Given = map given_of c.args.parts.now in
    IfErr-weaker c.join.result (IsFaultOf (join_of given)) (BlamesNoPart given) (blames_no_part given) c.join.ensures.fault
