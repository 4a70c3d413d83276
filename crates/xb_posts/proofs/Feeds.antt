-- What was sent, followed by what is still to be sent, from event to event.
use Rattle.std.proofs.Common.{◌≡◌, Bool, true, false, cond, List, [], ◌∷◌, ◌++◌, Option, Result, Ok, refl, sym, ap, ◌∙◌, subst, inl, append-nil, append_assoc}
use Rattle.rtrb.specs.Ring.{sent}
use Rattle.xb_model.specs.declared.fault.RowFault.{RowFault}
use Rattle.xb_model.specs.Rows.{LoopRow}
use Rattle.xb_model.specs.Sources.{told}
use Rattle.xb_flow.specs.declared.flow.Flow.{Flow}
use Rattle.xb_flow.specs.declared.flow.Flow.TheVariants.{Item, End}
use Rattle.xb_flow.specs.declared.turn.Turn.TheVariants.{Moved}
use Rattle.xb_flow.specs.Flows.{has_end, flow_of}
use Rattle.xb_closes.specs.Left.{left}
use Rattle.xb_posts.specs.Fillings.{MayGive, held_and_left, held_with, Fills}
use Rattle.xb_posts.specs.Feeds.{FeedOf, AreRows, has_fed, to_come, FeedsOn, TakesAhead, SendsHeld, SendsOne, IsFeedTurn, HasFed, result_of}
use Rattle.xb_posts.proofs.Fillings.{may_give-told, fills-earlier}
use Rattle.xb_posts.proofs.Slices.{rows_end, has_end-append}

module _ {A P : Type 0} where
  to_come-going : (feed : FeedOf A P) → has_fed feed ≡ false → (rows : List LoopRow) (stop : Option RowFault)
      → to_come feed rows stop ≡ held_and_left feed.held feed.uses rows stop
  to_come-going feed going rows stop = ap (λ b. cond b [] (held_and_left feed.held feed.uses rows stop)) going

  to_come-over : (feed : FeedOf A P) → has_fed feed ≡ true → (rows : List LoopRow) (stop : Option RowFault) → to_come feed rows stop ≡ []
  to_come-over feed over rows stop = ap (λ b. cond b [] (held_and_left feed.held feed.uses rows stop)) over

  -- no step, and one step after another
  pub feeds_on-same : (feed : FeedOf A P) → FeedsOn feed feed
  feeds_on-same feed = record { earlier = λ rows stop m. (rows, m, refl) }

  pub feeds_on-then : (old now new : FeedOf A P) → FeedsOn old now → FeedsOn now new → FeedsOn old new
  feeds_on-then old now new first second = record {
    earlier = λ rows stop m.
        let b = second.earlier rows stop m in
        let a = first.earlier b.0 stop b.1 in
        (a.0, a.1, b.2 ∙ a.2);
  }

  -- what was taken ahead, and then one event, are a turn
  pub moved : (old now new : FeedOf A P) (taken : List LoopRow) → sent now.producer ≡ sent old.producer
      → now.held ≡ held_with old.held old.uses taken → TakesAhead old taken now → SendsOne now new → IsFeedTurn old (Ok Moved) new
  moved old now new taken looked holds takes s = record {
    taken = taken;
    takes = subst (λ rest. TakesAhead old taken (record new { rest = rest })) (sym s.rest)
        (subst (λ met. TakesAhead old taken (record new { rest = now.rest; met = met })) (sym s.met) takes);
    items = s.items;
    sends = s.sends ∙ ap (λ zs. zs ++ s.items) looked;
    event = s.event;
    held = subst (λ ready. SendsHeld ready s.items new.held) holds s.held;
  }

  module _ (old new : FeedOf A P) where
    -- a look for room
    pub feeds_on-looked : new ≡ record old { producer = new.producer } → sent new.producer ≡ sent old.producer → FeedsOn old new
    feeds_on-looked same looked = record {
      earlier = λ rows stop m. (
        rows,
        subst (λ (feed : FeedOf A P). MayGive feed.rest rows stop) same m,
        ap (λ zs. zs ++ to_come new rows stop) looked
            ∙ ap (λ zs. sent old.producer ++ zs)
            (ap (λ (feed : FeedOf A P). cond (has_fed new) [] (held_and_left feed.held feed.uses rows stop)) same
            ∙ ap (λ zs. cond (has_end zs) [] (held_and_left old.held old.uses rows stop)) looked),
      );
    }

    module _ (going : has_fed old ≡ false) where
      -- rows were taken ahead
      pub feeds_on-filled : (result : Result Bool RowFault) → new.producer ≡ old.producer → Fills old.rest old.held old.uses result new.rest new.held new.uses → FeedsOn old new
      feeds_on-filled result end fills = record {
        earlier = λ rows stop m.
            let f = fills-earlier _ _ _ result _ _ _ fills rows stop m in
            let still : has_fed new ≡ false = ap (λ p. has_end (sent p)) end ∙ going in (
              f.0,
              f.1,
              ap (λ p. sent p ++ to_come new rows stop) end
                  ∙ ap (λ zs. sent old.producer ++ zs) (to_come-going new still rows stop ∙ f.2 ∙ sym (to_come-going old going f.0 stop)),
            );
      }

      -- some of the rows that were held were sent
      pub feeds_on-sent : (items : List (Flow LoopRow)) → AreRows items → sent new.producer ≡ sent old.producer ++ items → old.held ≡ items ++ new.held
          → new.rest ≡ old.rest → new.uses ≡ old.uses → FeedsOn old new
      feeds_on-sent items are sends split rest uses = record {
        earlier = λ rows stop m.
            let still : has_fed new ≡ false = ap has_end sends ∙ has_end-append items (sent old.producer) going ∙ rows_end items are in
            let F : List (Flow LoopRow) = flow_of (left old.uses rows stop) true in (
              rows,
              subst (λ r. MayGive r rows stop) rest m,
              ap (λ zs. zs ++ to_come new rows stop) sends
                  ∙ ap (λ zs. (sent old.producer ++ items) ++ zs)
                  (to_come-going new still rows stop ∙ ap (λ us. new.held ++ flow_of (left us rows stop) true) uses)
                  ∙ append_assoc (sent old.producer) items (new.held ++ F)
                  ∙ ap (λ zs. sent old.producer ++ zs)
                  (sym (append_assoc items new.held F) ∙ ap (λ zs. zs ++ F) (sym split) ∙ sym (to_come-going old going rows stop)),
            );
      }

      -- the source stopped, and no row is held
      module _ (told_stop : Option RowFault) (at : old.rest ≡ told told_stop) (rest : new.rest ≡ old.rest) (none : old.held ≡ []) where
        come : (rows : List LoopRow) (stop : Option RowFault) → MayGive new.rest rows stop → (MayGive old.rest rows stop) × (to_come old rows stop ≡ flow_of (left old.uses [] told_stop) true)
        come rows stop m =
            let t = may_give-told new.rest told_stop rows stop (rest ∙ at) m in (
              subst (λ r. MayGive r rows stop) rest m,
              to_come-going old going rows stop
                  ∙ ap (λ h. held_and_left h old.uses rows stop) none
                  ∙ ap (λ rs. flow_of (left old.uses rs stop) true) t.0
                  ∙ ap (λ s. flow_of (left old.uses [] s) true) t.1,
            )

        -- a close was sent
        pub feeds_on-close : (close : LoopRow) → sent new.producer ≡ sent old.producer ++ Item close ∷ [] → new.held ≡ []
            → left old.uses [] told_stop ≡ close ∷ left new.uses [] told_stop → FeedsOn old new
        feeds_on-close close sends none' left_is = record {
          earlier = λ rows stop m.
              let t = may_give-told new.rest told_stop rows stop (rest ∙ at) m in
              let c = come rows stop m in
              let still : has_fed new ≡ false = ap has_end sends ∙ has_end-append (Item close ∷ []) (sent old.producer) going in (
                rows,
                c.0,
                ap (λ zs. zs ++ to_come new rows stop) sends
                    ∙ append_assoc (sent old.producer) (Item close ∷ []) (to_come new rows stop)
                    ∙ ap (λ zs. sent old.producer ++ Item close ∷ zs)
                    (to_come-going new still rows stop
                    ∙ ap (λ h. held_and_left h new.uses rows stop) none'
                    ∙ ap (λ rs. flow_of (left new.uses rs stop) true) t.0
                    ∙ ap (λ s. flow_of (left new.uses [] s) true) t.1)
                    ∙ ap (λ zs. sent old.producer ++ flow_of zs true) (sym left_is)
                    ∙ ap (λ zs. sent old.producer ++ zs) (sym c.1),
              );
        }

        -- the End was sent
        pub feeds_on-end : sent new.producer ≡ sent old.producer ++ End ∷ [] → left old.uses [] told_stop ≡ [] → FeedsOn old new
        feeds_on-end sends left_is = record {
          earlier = λ rows stop m.
              let c = come rows stop m in
              let over : has_fed new ≡ true = ap has_end sends ∙ has_end-append (End ∷ []) (sent old.producer) going in (
                rows,
                c.0,
                ap (λ zs. zs ++ to_come new rows stop) sends
                    ∙ ap (λ zs. (sent old.producer ++ End ∷ []) ++ zs) (to_come-over new over rows stop)
                    ∙ append-nil _
                    ∙ ap (λ zs. sent old.producer ++ flow_of zs true) (sym left_is)
                    ∙ ap (λ zs. sent old.producer ++ zs) (sym c.1),
              );
        }

    -- once the End was sent, all was sent
    pub has_fed-whole : FeedsOn old new → has_fed new ≡ true → new.rest ≡ told new.rest.stop → (result : Result (Unit {0}) RowFault) → result ≡ result_of new.rest.stop → HasFed old result new
    has_fed-whole on over at result is =
        let stop : Option RowFault = new.rest.stop in
        let t = on.earlier [] stop (subst (λ r. MayGive r [] stop) (sym at) (inl (refl, refl))) in
        record {
          rows = t.0;
          stop = stop;
          may_give = t.1;
          result_is = is;
          sends = sym (append-nil _) ∙ ap (λ zs. sent new.producer ++ zs) (sym (to_come-over new over [] stop)) ∙ t.2;
        }

  -- a look for room, and then a step
  pub feeds_on-after : (old now new : FeedOf A P) → FeedsOn now new → now ≡ record old { producer = now.producer }
      → sent now.producer ≡ sent old.producer → FeedsOn old new
  feeds_on-after old now new step same looked = feeds_on-then old now new (feeds_on-looked old now same looked) step
