use Rattle.std.proofs.Common.{string_bytes}
use Rattle.xb_svg.proofs.Pushed.{both}
use Rattle.xb_shown.proofs.sections.Sections.take.Goals as goal

pub returns-clause-text : goal.returns-clause-text
returns-clause-text c =
    let part = c.in_ok-push_part.ensures in
    record { looks = part.looks; put = both (string_bytes c.args.out.now) _ _ _ _ c.in_ok-begin.ensures part.put }
