use Rattle.std.proofs.Common.{◌++◌, ap, arith, string_bytes, sym, ◌∙◌}
use Rattle.xb_loop.proofs.BounceTexts.{thousands_written}
use Rattle.xb_loop.proofs.bounce_lines.write_thousands.Goals as goal

pub returns : goal.returns
returns c =
    c.in_ok-write-2.ensures.bytes
    ∙ ap (λ text. string_bytes c.args.said.now ++ text)
    (sym (thousands_written c.args.thousands c.args.units (omega (arith, c.if-thousands-eq0.false))
    (omega (arith, c.ranges.thousands.fits)) c.requires))
