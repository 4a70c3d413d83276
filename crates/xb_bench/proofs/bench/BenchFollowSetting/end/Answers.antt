use Rattle.std.proofs.Common.{string_bytes}
use Rattle.std.proofs.lemmas.Result.{on_ok_weaker}
use Rattle.xb_bench.proofs.Ended.{ended}
use Rattle.xb_bench.proofs.bench.BenchFollowSetting.end.Goals as goal

pub returns : goal.returns
returns c =
    on_ok_weaker c.push_told.result
    (λ e. ended c.args.line c.args.self c.last-said.new.self c.last-said.result c.left.result
    (string_bytes c.args.text.now) (string_bytes c.push_any.new.text) (string_bytes c.push_left.new.text)
    (string_bytes c.push_told.new.out)
    c.last-said.ensures.after c.last-said.ensures.said c.left.ensures c.in_ok-push_any.ensures
    c.in_ok-push_left.ensures e)
    c.push_told.ensures
