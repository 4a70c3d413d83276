use Rattle.std.proofs.Common.{◌≤◌, Ok, false, length, vec_len, vec_capacity}
use Rattle.xb_posts.specs.Feeds.{AreRows}
use Rattle.xb_posts.specs.Fillings.{Fills}
use Rattle.xb_posts.specs.declared.filling.TheConstants.{AHEAD}
use Rattle.xb_posts.proofs.filling.fill.Given as goal

abbrev pub invariant-loop-source : goal.invariant-loop-source
invariant-loop-source g l = record {
  room : AHEAD ≤ vec_capacity l.held;
  few : vec_len l.held ≤ AHEAD;
  rows : AreRows l.held.items;
  fills : Fills (g.S.RowSource.rest l.fn.source) l.fn.held.items l.fn.uses (Ok false) (g.S.RowSource.rest l.source) l.held.items l.uses;
}

abbrev pub decreases-loop-source : goal.decreases-loop-source
decreases-loop-source g l = length (g.S.RowSource.rest l.source).rows
