use Rattle.std.proofs.Common.{rules, refl, ap, ◌∙◌}
use Rattle.rtrb.specs.Ring.{sent}
use Rattle.xb_posts.proofs.Feeds.{feeds_on-looked, feeds_on-after, feeds_on-then, moved}
use Rattle.xb_posts.proofs.feed.Feed.turn.Goals as goal

pub returns-then-is_full : goal.returns-then-is_full
returns-then-is_full g c = record {
  end = search rules;
  feeds_on = rw (← c.self.view_is) (feeds_on-looked _ _ refl c.is_full.ensures.looked.1);
  event = search rules;
  fits = search rules;
  ended = search rules;
}

pub returns-in_err-take_ahead : goal.returns-in_err-take_ahead
returns-in_err-take_ahead g c = record {
  end = search rules;
  feeds_on = rw (← c.self.view_is) (feeds_on-after _ _ _ c.take_ahead.ensures.feeds_on refl c.is_full.ensures.looked.1);
  event = search rules;
  fits = search rules;
  ended = search rules;
}

pub returns-then-is_empty : goal.returns-then-is_empty
returns-then-is_empty g c =
    let now = c.take_ahead.new.self in
    let sends = c.send_after_rows.ensures.sends in
    let t = c.in_ok-take_ahead.ensures.takes in
    record {
      end = search rules;
      feeds_on = rw (← c.self.view_is) (feeds_on-after _ _ _ (feeds_on-then _ _ _ c.take_ahead.ensures.feeds_on sends.feeds_on) refl c.is_full.ensures.looked.1);
      event = rw (← c.self.view_is) (moved _ now c.send_after_rows.new.self t.0 (ap sent c.take_ahead.ensures.producer ∙ c.is_full.ensures.looked.1) t.2 t.1 sends);
      fits = λ moved. sends.fits;
      ended = search rules;
    }

pub returns-else-is_empty : goal.returns-else-is_empty
returns-else-is_empty g c =
    let now = c.take_ahead.new.self in
    let sends = c.send_rows.ensures.sends in
    let t = c.in_ok-take_ahead.ensures.takes in
    record {
      end = search rules;
      feeds_on = rw (← c.self.view_is) (feeds_on-after _ _ _ (feeds_on-then _ _ _ c.take_ahead.ensures.feeds_on sends.feeds_on) refl c.is_full.ensures.looked.1);
      event = rw (← c.self.view_is) (moved _ now c.send_rows.new.self t.0 (ap sent c.take_ahead.ensures.producer ∙ c.is_full.ensures.looked.1) t.2 t.1 sends);
      fits = λ moved. sends.fits;
      ended = search rules;
    }
