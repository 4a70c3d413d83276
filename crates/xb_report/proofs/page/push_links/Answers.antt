use Rattle.std.proofs.Common.{◌≡◌, ◌==◌, ◌++◌, ◌∷◌, [], ℕ, List, append_assoc, codes, false, length, refl, string_bytes, sym}
use Rattle.std.specs.List.{flat_map}
use Rattle.xb_report.specs.Pages.{link_text, links_text}
use Rattle.xb_report.proofs.Pushed.{both, last, str}
use Rattle.xb_report.proofs.page.push_links.Goals as goal

-- links to some lines
some_links : (title lines : List ℕ) → (length lines == 0) ≡ false
    → codes "<p>" ++ title ++ flat_map link_text lines ++ codes "\n</p>\n" ≡ links_text title lines
some_links title [] none = cc none
some_links title (line ∷ lines) some = refl

pub returns : goal.returns
returns c =
    let o = string_bytes c.args.out.now in
    let title = both o _ _ _ _ c.in_ok-push_str.ensures.bytes c.in_ok-push_str-2.ensures.bytes in
    let links = both o _ _ _ _ title c.in_ok-push_each_link.ensures in
    let end = str c.push_str-3.result _ _ (codes "\n</p>\n") c.push_str-3.ensures.bytes in
    last c.push_str-3.result o _ _ _ _ (links_text c.args.title.now c.args.lines.now) links end
    (some_links c.args.title.now c.args.lines.now (sym c.if-is_empty.ensures))
