use Rattle.std.proofs.Common.{◌≡◌, ◌∷◌, [], false, refl, sym, ap, ◌∙◌, inl, inr, length}
use Rattle.rtrb.specs.Ring.{sent}
use Rattle.xb_model.specs.Sources.{told}
use Rattle.xb_flow.specs.declared.flow.Flow.TheVariants.{Item, End}
use Rattle.xb_flow.specs.Flows.{has_end, counted}
use Rattle.xb_flow.proofs.Flows.{has_end-item, has_end-end, items_of-end, IsFlow-more, count_more}
use Rattle.xb_posts.specs.Feeds.{has_fed, has_met}
use Rattle.xb_posts.proofs.Feeds.{feeds_on-close, feeds_on-end}
use Rattle.xb_posts.proofs.feed.Feed.send_after_rows.Goals as goal

pub invariant_of-self : goal.invariant_of-self
invariant_of-self g c =
    let i = c.self.inside in
    let v = c.self.invariant in
    let outs = sent i.producer in
    let x = c.in-Some.close in
    let going : has_end outs ≡ false = ap has_fed c.self.view_is ∙ c.requires.going in
    rw c.push_reserved.ensures.sent.0 (record {
      room = v.room;
      few = v.few;
      rows = v.rows;
      at = v.at;
      over = has_end-item outs x going ∙ sym (sym v.over ∙ going);
      formed = IsFlow-more outs (Item x) going v.formed;
      count = c.saturating_add-self-inside.ensures ∙ count_more outs (Item x) going i.given v.count;
    })

pub invariant_of-self-in-None : goal.invariant_of-self-in-None
invariant_of-self-in-None g c =
    let i = c.self.inside in
    let v = c.self.invariant in
    let outs = sent i.producer in
    let going : has_end outs ≡ false = ap has_fed c.self.view_is ∙ c.requires.going in
    rw c.push_reserved-in-None.ensures.sent.0 (record {
      room = v.room;
      few = v.few;
      rows = v.rows;
      at = rw c.in-Stopped.is at v.at;
      over = has_end-end outs going;
      formed = IsFlow-more outs End going v.formed;
      count = v.count ∙ ap (λ xs. counted (length xs)) (sym (items_of-end outs going));
    })

pub returns-in-Some-clause-sends : goal.returns-in-Some-clause-sends
returns-in-Some-clause-sends g c =
    let i = c.self.inside in
    let going : has_end (sent i.producer) ≡ false = ap has_fed c.self.view_is ∙ c.requires.going in
    let none : i.held.items ≡ [] = ap (λ v. v.held) c.self.view_is ∙ c.requires.held in
    let at : g.S.RowSource.rest i.source ≡ told c.in-Stopped.stop = rw c.in-Stopped.is at c.self.invariant.at in
    let sends = c.push_reserved.ensures.sent.0 in
    rw (← c.self.view_is) (record {
      items = Item c.in-Some.close ∷ [];
      sends = sends;
      event = inl refl;
      held = inr (none, refl, none);
      fits = inl none;
      rest = refl;
      met = refl;
      feeds_on = feeds_on-close _ _ going c.in-Stopped.stop at refl none c.in-Some.close sends none c.in-Some.ensures.some;
    })

pub returns-in-None-clause-sends : goal.returns-in-None-clause-sends
returns-in-None-clause-sends g c =
    let i = c.self.inside in
    let going : has_end (sent i.producer) ≡ false = ap has_fed c.self.view_is ∙ c.requires.going in
    let none : i.held.items ≡ [] = ap (λ v. v.held) c.self.view_is ∙ c.requires.held in
    let at : g.S.RowSource.rest i.source ≡ told c.in-Stopped.stop = rw c.in-Stopped.is at c.self.invariant.at in
    let sends = c.push_reserved-in-None.ensures.sent.0 in
    rw (← c.self.view_is) (record {
      items = End ∷ [];
      sends = sends;
      event = inl refl;
      held = inr (none, refl, none);
      fits = inl none;
      rest = refl;
      met = sym (ap has_met c.in-Stopped.is);
      feeds_on = feeds_on-end _ _ going c.in-Stopped.stop at refl none sends c.in-None.ensures.none;
    })
