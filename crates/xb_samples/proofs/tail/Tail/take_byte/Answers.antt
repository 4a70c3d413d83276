use Rattle.std.proofs.Common.{◌≡◌, ◌≤◌, ◌∷◌, ◌++◌, [], length, rules, sym, ◌∙◌}
use Rattle.xb_samples.specs.Tails.{are_more}
use Rattle.xb_samples.proofs.TailLemmas.{byte_last, other_not}
use Rattle.xb_samples.proofs.tail.Tail.take_byte.Goals as goal

pub returns-clause-taken : goal.returns-clause-taken
returns-clause-taken c = λ text.
    let old = c.args.self.now in
    let new = c.begin_chunk.new.self in
    let head = c.push.new.self.items in
    let pushed : head ≡ old.head.items ++ c.args.byte ∷ [] = search rules in
    let many : 8 ≤ length head = search rules in
    byte_last old.left old.more old.head.items head c.args.byte new.is_other new.left new.more new.head.items text
    c.if-self-gt0.false c.if-self-gt0-2.false pushed many c.begin_chunk.ensures.other c.begin_chunk.ensures.left
    c.begin_chunk.ensures.more c.begin_chunk.ensures.head
    ∙ sym (other_not old.is_other (are_more old.left old.more old.head.items (c.args.byte ∷ text)) c.if-self.false)
