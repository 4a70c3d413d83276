use Rattle.std.proofs.Common.{◌∙◌, ap, nat_le}
use Rattle.xb_doubts.proofs.PartRows.{rings_known}
use Rattle.xb_doubts.proofs.whole.whole_of.Goals as goal

pub returns-clause-ringing : goal.returns-clause-ringing
returns-clause-ringing c =
    c.is_ringing.ensures ∙ ap (λ n. nat_le 10 n) c.in_ok-heard.ensures.rings ∙ rings_known _
