-- The posts that make no event in a turn of another.
use Rattle.std.proofs.Common.{◌≢◌, ℕ, ◌<◌, length, get_or, refl}
use Rattle.xb_flow.specs.declared.post.Post.{Post}
use Rattle.xb_flow.specs.declared.post.Post.TheVariants as posts
use Rattle.xb_station.specs.Stations.{Stays as StationStays}
use Rattle.xb_replay.specs.Turns.{FeedStays, DealStays, GatherStays, TapeStays, OthersStay}
use Rattle.xb_run.specs.Posts.{SenderPost, GatherPost, TapePost, Posts}

-- no post but this one makes an event, post by post
pub record EachOther (post : Post) (old new : Posts) : Type 0 where
  pub feed : posts.Feed ≢ post → FeedStays old.feed new.feed
  pub pulse : posts.Pulse ≢ post → StationStays old.pulse new.pulse
  pub register : posts.Register ≢ post → StationStays old.register new.register
  pub translate : posts.Translate ≢ post → StationStays old.translate new.translate
  pub deal : posts.Deal ≢ post → DealStays old.deal new.deal
  pub senders : (j : ℕ) (s : SenderPost) → posts.Send j ≢ post → j < length old.senders
      → StationStays (get_or old.senders j s) (get_or new.senders j s)
  pub gather : posts.Gather ≢ post → GatherStays old.gather new.gather
  pub tape : posts.Tape ≢ post → TapeStays old.tape new.tape

pub others-stay : (post : Post) (old new : Posts) → EachOther post old new → OthersStay old post new
others-stay post old new each posts.Feed other = each.feed other
others-stay post old new each posts.Pulse other = each.pulse other
others-stay post old new each posts.Register other = each.register other
others-stay post old new each posts.Translate other = each.translate other
others-stay post old new each posts.Deal other = each.deal other
others-stay post old new each (posts.Send j) other = λ s h. each.senders j s other h
others-stay post old new each posts.Gather other = each.gather other
others-stay post old new each posts.Tape other = each.tape other

-- after a turn of the tape station
pub tape-others : (old : Posts) (gather : GatherPost) (tape : TapePost) → GatherStays old.gather gather
    → EachOther posts.Tape old (record old { gather = gather; tape = tape })
tape-others old gather tape stays = record {
  feed = λ n. (refl, refl);
  pulse = λ n. (refl, refl, refl);
  register = λ n. (refl, refl, refl);
  translate = λ n. (refl, refl, refl);
  deal = λ n. (refl, (refl, λ j p h. refl), refl, refl);
  senders = λ j s n h. (refl, refl, refl);
  gather = λ n. stays;
  tape = λ n. absurd (n refl);
}
