-- What the walk over a route table holds.
use Rattle.xb_keys.specs.declared.walk.Walk as code
use Rattle.xb_keys.specs.Spots.{Walk}

abbrev pub walk_of : code.Walk → Walk
walk_of walk = record {
  spots = walk.spots.items;
  nests = walk.nests.items;
  section = walk.section;
  want = walk.want;
}
