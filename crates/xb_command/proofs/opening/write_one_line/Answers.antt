use Rattle.std.proofs.Common.{◌∙◌, ap, flat_map, map-id, sym}
use Rattle.std.proofs.Output.{has_written_of_eq}
use Rattle.std.proofs.lemmas.Iterator.{YieldsList-from_chars}
use Rattle.std.proofs.lemmas.Iterator.Consumers.{YieldsList-end}
use Rattle.xb_command.specs.FaultTexts.{sign_text}
use Rattle.xb_command.proofs.opening.write_one_line.Goals as goal

pub returns : goal.returns
returns g c = λ plain ok.
    let end = YieldsList-end (YieldsList-from_chars c.args.name.now c.utf8.name cc) c.loop-sign.yielded _ c.loop-sign.yielded_by _ _ c.in-None.is c.next.ensures.steps in
    has_written_of_eq _ _ _ _ _ (ap (flat_map sign_text) (sym (map-id c.loop-sign.yielded) ∙ end.0)) (c.loop-sign.invariant plain)
