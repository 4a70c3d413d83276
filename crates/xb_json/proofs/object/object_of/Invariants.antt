use Rattle.std.proofs.Common.{◌≡◌, drop}
use Rattle.serde_json.specs.Data.{object}
use Rattle.serde_json.specs.View.{members_view}
use Rattle.xb_json.specs.Objects.{object_of, with_members}
use Rattle.xb_json.proofs.object.object_of.Given as goal

abbrev pub invariant-loop-name : goal.invariant-loop-name
invariant-loop-name l =
    object (with_members (members_view l.map.entries) (drop l.name-index l.members)) ≡ object_of l.members
