-- A chain that was just made.
use Rattle.std.specs.Prelude.{◌≡◌, ℕ, true, List, length, Option}
use Rattle.xb_model.specs.declared.fault.RowFault.{RowFault}
use Rattle.xb_model.specs.Rows.{LoopRow}
use Rattle.xb_model.specs.Sources.{Rest}
use Rattle.xb_flow.specs.Flows.{flow_of}
use Rattle.xb_routes.specs.Table.{Table}
use Rattle.xb_closes.specs.Fed.{fed}
use Rattle.xb_posts.specs.Feeds.{to_come}
use Rattle.xb_run.specs.Laws.{StageLaws}
use Rattle.xb_run.specs.Posts.{IsBlank, Posts}
use Rattle.xb_run.specs.Rings.{AreLinked, HaveRoom}
use Rattle.xb_run.specs.declared.chain.Chain.{Chain}

-- the posts of a chain
abbrev pub posts_of : {S : Type 0} → Chain S → Posts
posts_of chain = record {
  feed = chain.feed;
  pulse = chain.pulse;
  register = chain.register;
  translate = chain.translate;
  deal = chain.deal;
  senders = chain.senders.items;
  gather = chain.gather;
  tape = chain.tape;
}

-- the posts of this source and table, with so many senders, on rings of this capacity; nothing went
-- through these, and no post holds anything
pub record IsChain (posts : Posts) (rest : Rest) (table : Table) (senders ring : ℕ) : Type 0 where
  pub linked : AreLinked posts
  pub room : HaveRoom ring posts
  pub senders_are : length posts.senders ≡ senders
  pub source : posts.feed.rest ≡ rest
  pub to_come : (rows : List LoopRow) (stop : Option RowFault) →
      to_come posts.feed rows stop ≡ flow_of (fed rows stop) true
  pub laws : StageLaws table posts
  pub blank : IsBlank posts
