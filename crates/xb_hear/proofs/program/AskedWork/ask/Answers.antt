use Rattle.std.proofs.Common.{refl, sym}
use Rattle.xb_hear.proofs.program.AskedWork.ask.Goals as goal

pub returns-in-Ok-clause-asks : goal.returns-in-Ok-clause-asks
returns-in-Ok-clause-asks g c = record {
  words = record {
    rows = c.args.words.now;
    takes = c.requires;
    options = c.options_of-options.result;
    says = c.options_of-options.ensures;
    asks = sym c.in-Some.ensures;
  };
  file = refl;
  recording = c.in-Ok.ensures.asks;
}
