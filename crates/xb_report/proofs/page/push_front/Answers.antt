use Rattle.std.proofs.Common.{string_bytes}
use Rattle.xb_report.specs.Pages.{front_text}
use Rattle.xb_report.proofs.Pushed.{str}
use Rattle.xb_report.proofs.page.push_front.Goals as goal

pub returns : goal.returns
unfolding front_text
returns c = str c.push_str.result (string_bytes c.args.out.now) _ front_text c.push_str.ensures.bytes
