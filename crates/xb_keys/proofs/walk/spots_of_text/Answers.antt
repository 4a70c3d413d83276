use Rattle.std.proofs.Common.{◌≡◌, ◌∙◌, ◌+◌, ◌-◌, ◌*◌, sym, arith, length, rules}
use Rattle.xb_keys.specs.Walks.{walk_of}
use Rattle.xb_keys.proofs.Walking.{walked_out, walked_over, walked_turn}
use Rattle.xb_keys.proofs.walk.spots_of_text.Goals as goal

pub returns-then-is_empty : goal.returns-then-is_empty
returns-then-is_empty c =
    let l = c.loop-turn in
    sym (l.invariant.1 ∙ walked_over (2 * length c.args.text.now - l._turn) c.args.total (walk_of l.walk) l.rest.now
    (sym c.if-is_empty.ensures))

pub loop-turn-preserved : goal.loop-turn-preserved
loop-turn-preserved c =
    let l = c.loop-turn in
    let len = length c.args.text.now in (
      search rules,
      l.invariant.1 ∙ walked_turn (2 * len - l._turn) (2 * len - (l._turn + 1)) c.args.total (walk_of l.walk)
          l.rest.now _ _ (omega arith) (sym c.if-is_empty.ensures) c.in_ok-rest.ensures,
    )

pub returns : goal.returns
returns c =
    let l = c.loop-turn in
    let none : 2 * length c.args.text.now - l._turn ≡ 0 = omega arith in
    sym (l.invariant.1 ∙ rw none (walked_out c.args.total (walk_of l.walk) l.rest.now))
