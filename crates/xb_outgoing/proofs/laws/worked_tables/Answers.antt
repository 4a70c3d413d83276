use Rattle.std.proofs.Common.{refl}
use Rattle.std.specs.Str.{chars, is_utf8}
use Rattle.toml.proofs.OnLiterals.{toml_on_literals}
use Rattle.xb_routes.specs.Text.{routes_from}
use Rattle.xb_outgoing.specs.Groups.{groups_from}
use Rattle.xb_outgoing.proofs.laws.worked_tables.Goals as goal

pub returns : goal.returns
unfolding toml_on_literals routes_from groups_from is_utf8 chars
returns c = record {
  empty = refl;
  none = refl;
  one = refl;
  two = refl;
  another_text = refl;
  in_capitals = refl;
  another_type = refl;
  then_keyed = refl;
  then_pulsed = refl;
  table_first = refl;
}
