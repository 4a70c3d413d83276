use Rattle.std.proofs.Common.{◌-◌, length, sym, refl}
use Rattle.xb_riff.proofs.HeadLemmas.{format_known}
use Rattle.xb_riff.proofs.head.after_format.Goals as goal

pub returns-clause-says : goal.returns-clause-says
returns-clause-says c = λ rest.
    format_known c.args.chunk.now rest c.args.size (c.args.size - length c.args.chunk.now) c.in_ok-format.format
    c.passed.result c.requires (sym c.in_ok-format.ensures.value) c.passed.ensures refl
