-- A replay, as one value.
use Rattle.std.specs.Prelude.{◌≡◌, ℕ, ◌<◌, true, false, None, List, ◌++◌}
use mathlib.Core.List.{IsPrefix}
use Rattle.rtrb.specs.Ring.{sent}
use Rattle.xb_model.specs.declared.line.TheConstants.{LINES}
use Rattle.xb_model.specs.declared.mark.Mark.{Mark}
use Rattle.xb_model.specs.Rows.{LoopRow}
use Rattle.xb_model.specs.Tapes.{marks_at, joined_tape}
use Rattle.xb_flow.specs.Flows.{flow_of}
use Rattle.xb_routes.specs.Table.{Table}
use Rattle.xb_closes.specs.Fed.{fed}
use Rattle.xb_posts.specs.Feeds.{to_come}
use Rattle.xb_run.specs.Laws.{StageLaws}
use Rattle.xb_run.specs.Posts.{FeedPost, Posts}
use Rattle.xb_run.specs.Rings.{AreLinked}

-- the rows, the route table, and all posts
pub record World : Type 0 where
  pub rows : List LoopRow
  pub table : Table
  pub posts : Posts

-- the source of the feed stops with an end, and can't run out of memory; what was sent, followed by
-- what is still to come, is the fed rows with one End
pub record FeedLaw (rows : List LoopRow) (feed : FeedPost) : Type 0 where
  pub stop : feed.rest.stop ≡ None
  pub may_allocate : feed.rest.may_allocate ≡ false
  pub fed : sent feed.producer ++ to_come feed feed.rest.rows None ≡ flow_of (fed rows None) true

-- each ring lies between its two posts, and each post keeps its law
pub record WorldLaw (w : World) : Type 0 where
  pub links : AreLinked w.posts
  pub stages : StageLaws w.table w.posts
  pub feed : FeedLaw w.rows w.posts.feed

-- the marks of line l so far
abbrev pub marks_of : World → ℕ → List Mark
marks_of w l = marks_at w.posts.tape.tapes l

-- the tape of line l: that of the rows by the plan, the limits and the routes of the table
abbrev pub whole_tape : World → ℕ → List Mark
whole_tape w l = joined_tape w.table.plan w.table.limits w.table.routes l w.rows

-- the marks of each line are a prefix of its tape
abbrev pub ArePrefixes : World → Type 0
ArePrefixes w = (l : ℕ) → l < LINES → IsPrefix (marks_of w l) (whole_tape w l)

-- the marks of each line are its tape
abbrev pub AreWhole : World → Type 0
AreWhole w = (l : ℕ) → l < LINES → marks_of w l ≡ whole_tape w l
