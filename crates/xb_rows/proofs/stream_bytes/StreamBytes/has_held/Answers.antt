use Rattle.std.proofs.Common.{◌≡◌, length, arith, rules, ltb-false}
use Rattle.xb_rows.proofs.HeldBytes.{none-held}
use Rattle.xb_rows.proofs.stream_bytes.StreamBytes.has_held.Goals as goal

pub returns-then-self-clause-none : goal.returns-then-self-clause-none
returns-then-self-clause-none g c = λ no.
    let size : length c.args.self.now.buffer ≡ 8192 = search rules in
    let past = ltb-false c.args.self.now.at 8192 no in
    none-held c.args.self.now.at c.args.self.now.filled c.args.self.now.buffer (omega arith)

pub returns-else-self-clause-none : goal.returns-else-self-clause-none
returns-else-self-clause-none g c = λ no.
    none-held c.args.self.now.at c.args.self.now.filled c.args.self.now.buffer (omega (arith, c.if-self.false))
