use Rattle.std.proofs.Common.{string_bytes}
use Rattle.xb_report.specs.Pages.{style_text}
use Rattle.xb_report.proofs.Pushed.{str}
use Rattle.xb_report.proofs.page.push_style.Goals as goal

pub returns : goal.returns
unfolding style_text
returns c = str c.push_str.result (string_bytes c.args.out.now) _ style_text c.push_str.ensures.bytes
