use Rattle.std.proofs.Common.{◌≡◌, false, refl, ap, ◌∙◌}
use Rattle.rtrb.specs.Ring.{sent}
use Rattle.xb_flow.specs.Flows.{has_end}
use Rattle.xb_posts.specs.Feeds.{has_fed}
use Rattle.xb_posts.proofs.Feeds.{feeds_on-filled}
use Rattle.xb_posts.proofs.feed.Feed.take_ahead.Goals as goal

pub returns-in-Err-clause-feeds_on : goal.returns-in-Err-clause-feeds_on
returns-in-Err-clause-feeds_on g c =
    let going : has_end (sent c.self.inside.producer) ≡ false = ap has_fed c.self.view_is ∙ c.requires in
    rw (← c.self.view_is) (feeds_on-filled _ _ going c.fill.result refl c.fill.ensures.fills)

pub returns-in-Ok-true-clause-feeds_on : goal.returns-in-Ok-true-clause-feeds_on
returns-in-Ok-true-clause-feeds_on g c =
    let going : has_end (sent c.self.inside.producer) ≡ false = ap has_fed c.self.view_is ∙ c.requires in
    rw (← c.self.view_is) (feeds_on-filled _ _ going c.fill.result refl c.fill.ensures.fills)

pub returns-in-Ok-false-clause-feeds_on : goal.returns-in-Ok-false-clause-feeds_on
returns-in-Ok-false-clause-feeds_on g c =
    let going : has_end (sent c.self.inside.producer) ≡ false = ap has_fed c.self.view_is ∙ c.requires in
    rw (← c.self.view_is) (feeds_on-filled _ _ going c.fill.result refl c.fill.ensures.fills)
