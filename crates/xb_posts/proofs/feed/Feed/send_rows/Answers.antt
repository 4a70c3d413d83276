use Rattle.std.proofs.Common.{rules, ◌≡◌, ◌≢◌, ◌<◌, ◌≤◌, ◌+◌, ◌-◌, ◌^◌, min, ◌++◌, ◌∷◌, [], false, refl, sym, ap, ◌∙◌, inl, inr, subst, length, append-nil, arith}
use Rattle.rtrb.specs.Ring.{sent, known_free}
use Rattle.xb_flow.specs.Flows.{has_end}
use Rattle.xb_posts.specs.declared.filling.TheConstants.{AHEAD}
use Rattle.xb_posts.specs.Feeds.{AreRows, has_fed}
use Rattle.xb_posts.proofs.Feeds.{feeds_on-sent}
use Rattle.xb_posts.proofs.Slices.{has_end-append, IsFlow-append, count_append, rows_end, rows_flow, rows_length, rows_first, split_rows, one_push}
use Rattle.xb_posts.proofs.feed.Feed.send_rows.Goals as goal

-- all rows were sent
pub invariant_of-self : goal.invariant_of-self
invariant_of-self g c =
    let i = c.self.inside in
    let v = c.self.invariant in
    let outs = sent i.producer in
    let rows = i.held.items in
    let going : has_end outs ≡ false = ap has_fed c.self.view_is ∙ c.requires.going in
    let e : sent c.push_entire_slice.new.self ≡ outs ++ rows = rw c.as_slice.ensures.value at c.in-Ok.ensures.ok.0 in
    rw e (record {
      room = subst (λ n. AHEAD ≤ n) (sym c.clear.ensures.capacity) v.room;
      few = search rules;
      rows = rw c.clear.ensures.items refl;
      at = v.at;
      over = has_end-append rows outs going ∙ rows_end rows v.rows ∙ sym (sym v.over ∙ going);
      formed = IsFlow-append rows outs going v.formed (rows_flow rows v.rows);
      count = c.saturating_add-self-inside.ensures
          ∙ ap (λ k. min (i.given + k) (2 ^ 64 - 1)) (c.len.ensures ∙ i.held.ok.0 ∙ sym (rows_length rows v.rows))
          ∙ count_append rows outs going i.given v.count;
    })

pub returns-in-Ok-clause-sends : goal.returns-in-Ok-clause-sends
returns-in-Ok-clause-sends g c =
    let i = c.self.inside in
    let v = c.self.invariant in
    let rows = i.held.items in
    let going : has_end (sent i.producer) ≡ false = ap has_fed c.self.view_is ∙ c.requires.going in
    let some : rows ≢ [] = λ none. c.requires.held (ap (λ view. view.held) (sym c.self.view_is) ∙ none) in
    let e : sent c.push_entire_slice.new.self ≡ sent i.producer ++ rows = rw c.as_slice.ensures.value at c.in-Ok.ensures.ok.0 in
    let few : length rows ≤ AHEAD = omega (arith, v.few, i.held.ok.0) in
    let split : rows ≡ rows ++ c.clear.new.self.items = sym (append-nil rows) ∙ ap (λ zs. rows ++ zs) (sym c.clear.ensures.items) in
    rw (← c.self.view_is) (record {
      items = rows;
      sends = e;
      event = one_push rows some few v.rows;
      held = inl (split, λ two. c.clear.ensures.items);
      fits = inl c.clear.ensures.items;
      rest = refl;
      met = refl;
      feeds_on = feeds_on-sent _ _ going rows v.rows e split refl refl;
    })

-- the first row was sent
pub invariant_of-self-in-Err : goal.invariant_of-self-in-Err
invariant_of-self-in-Err g c =
    let i = c.self.inside in
    let v = c.self.invariant in
    let outs = sent i.producer in
    let r = c.remove-first.ensures in
    let x = c.remove-first.result in
    let going : has_end outs ≡ false = ap has_fed c.self.view_is ∙ c.requires.going in
    let some : i.held.items ≢ [] = λ none. c.requires.held (ap (λ view. view.held) (sym c.self.view_is) ∙ none) in
    let split = split_rows i.held.items c.remove-first.new.self.items x some r.value r.items in
    let are = rows_first x c.remove-first.new.self.items (subst AreRows split v.rows) in
    let e : sent c.push_reserved.new.self ≡ outs ++ x ∷ [] = c.push_reserved.ensures.sent.0 ∙ ap (λ zs. zs ++ x ∷ []) c.in-Err.ensures.full.0.1 in
    rw e (record {
      room = subst (λ n. AHEAD ≤ n) (sym r.capacity) v.room;
      few = search rules;
      rows = are.1;
      at = v.at;
      over = has_end-append (x ∷ []) outs going ∙ rows_end (x ∷ []) are.0 ∙ sym (sym v.over ∙ going);
      formed = IsFlow-append (x ∷ []) outs going v.formed (rows_flow (x ∷ []) are.0);
      count = c.saturating_add-self-inside-in-Err.ensures
          ∙ ap (λ k. min (i.given + k) (2 ^ 64 - 1)) (sym (rows_length (x ∷ []) are.0))
          ∙ count_append (x ∷ []) outs going i.given v.count;
    })

pub returns-in-Err-clause-sends : goal.returns-in-Err-clause-sends
returns-in-Err-clause-sends g c =
    let i = c.self.inside in
    let r = c.remove-first.ensures in
    let x = c.remove-first.result in
    let going : has_end (sent i.producer) ≡ false = ap has_fed c.self.view_is ∙ c.requires.going in
    let some : i.held.items ≢ [] = λ none. c.requires.held (ap (λ view. view.held) (sym c.self.view_is) ∙ none) in
    let split = split_rows i.held.items c.remove-first.new.self.items x some r.value r.items in
    let are = rows_first x c.remove-first.new.self.items (subst AreRows split c.self.invariant.rows) in
    let e : sent c.push_reserved.new.self ≡ sent i.producer ++ x ∷ [] =
    c.push_reserved.ensures.sent.0 ∙ ap (λ zs. zs ++ x ∷ []) c.in-Err.ensures.full.0.1 in
    let less : known_free c.push_entire_slice.new.self < length i.held.items = rw c.as_slice.ensures.value at c.in-Err.ensures.full.2 in
    let full : known_free c.push_reserved.new.self < length c.remove-first.new.self.items =
    omega (arith, less, c.push_reserved.ensures.sent.1, ap length split) in
    rw (← c.self.view_is) (record {
      items = x ∷ [];
      sends = e;
      event = inl refl;
      held = inl (split, λ two. absurd (omega (arith, two)));
      fits = inr full;
      rest = refl;
      met = refl;
      feeds_on = feeds_on-sent _ _ going (x ∷ []) are.0 e split refl refl;
    })
