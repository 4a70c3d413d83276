use Rattle.std.proofs.Common.{string_bytes}
use Rattle.xb_svg.proofs.Pushed.{str}
use Rattle.xb_shown.specs.Sections.{start_text}
use Rattle.xb_shown.proofs.page.push_page_start.Goals as goal

pub returns : goal.returns
unfolding start_text
returns c = str c.push_str.result (string_bytes c.args.out.now) _ start_text c.push_str.ensures.bytes
