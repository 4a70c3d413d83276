use Rattle.std.proofs.Common.{map, take}
use Rattle.xb_parts.specs.Files.{HavePages}
use Rattle.xb_parts.proofs.joining.read_pages.Given as goal

abbrev pub invariant-loop-name : goal.invariant-loop-name
invariant-loop-name g l =
    HavePages (g.F.Files.bytes l.files) (map (λ name. name.now) (take l.name-index l.names))
    (map (λ page. page.items) l.pages.items)
