use Rattle.std.proofs.Common.{subst, sym}
use Rattle.xb_feed.specs.Options.{Say as SaysOf}
use Rattle.xb_loop.specs.declared.common.Common.{Common}
use Rattle.xb_loop.specs.Options.{IsCommon}
use Rattle.xb_loop.proofs.words.asked_of.Goals as goal

pub returns-in-Ok-clause-says : goal.returns-in-Ok-clause-says
returns-in-Ok-clause-says c =
    let says = c.in-Ok.ensures.says in
    record {
      common = subst (λ (common : Common). IsCommon c.args.words.now common) (sym says.common_is) c.common_of.ensures;
      rest = subst (λ (common : Common). SaysOf c.args.words.now common c.in-Ok.request) (sym says.common_is) says;
      list = c.flag.ensures;
    }
