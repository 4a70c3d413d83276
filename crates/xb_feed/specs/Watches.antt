-- What is known of the lines that are listened to.
use Rattle.xb_feed.specs.declared.lines.Lines.{Lines}
use Rattle.xb_feed.specs.Watching.{Watch}

abbrev pub watch_of : {C G : Type 0} → Lines C G → Watch C G
watch_of lines = record {
  lines = lines.lines.items;
  common = lines.common;
  scale = lines.scale;
  first = lines.first;
  now = lines.now;
}
