-- What a feed of listed rows has still to send, from turn to turn.
use Rattle.std.proofs.Common.{◌≡◌, true, false, List, [], ◌++◌, Option, Some, None, refl, sym, ap, ◌∙◌, inl, inr, ⊎_elim}
use Rattle.std.proofs.lemmas.Bool.{cases_Bool, false≢true}
use Rattle.rtrb.specs.Ring.{sent}
use Rattle.xb_model.specs.declared.fault.RowFault.{RowFault}
use Rattle.xb_model.specs.declared.fault.RowFault.TheVariants.{NoMemory}
use Rattle.xb_model.specs.Rows.{LoopRow}
use Rattle.xb_model.specs.Sources.{Rest, told}
use Rattle.xb_posts.specs.Feeds.{FeedsOn, to_come}
use Rattle.xb_posts.specs.Fillings.{MayGive}
use Rattle.xb_posts.proofs.Feeds.{feeds_on-looked}
use Rattle.xb_run.specs.Posts.{FeedPost}
use Rattle.xb_replay.specs.World.{FeedLaw}

-- of a source that can't run out of memory, all that is left is given
all-given : (rest : Rest) → rest.may_allocate ≡ false → (rows : List LoopRow) (stop : Option RowFault) → MayGive rest rows stop
    → (rows ≡ rest.rows) × (stop ≡ rest.stop)
all-given rest never rows stop m = ⊎_elim (λ all. all) (λ part. absurd (false≢true (sym never ∙ part.0))) m

none-is-no-fault : {X : Type 0} (x : X) → Some x ≡ None → ⊥
none-is-no-fault x e = cc e

module _ (rows : List LoopRow) (old new : FeedPost) where
  -- whatever it does, a feed of listed rows keeps its law
  pub feed_law-on : FeedsOn old new → FeedLaw rows old → FeedLaw rows new
  feed_law-on on law =
      let now = on.earlier new.rest.rows new.rest.stop (inl (refl, refl)) in
      let all = all-given old.rest law.may_allocate now.0 new.rest.stop now.1 in
      let stop : new.rest.stop ≡ None = all.1 ∙ law.stop in
      record {
        stop = stop;
        may_allocate =
            ⊎_elim
            (λ (may : new.rest.may_allocate ≡ true).
            let early = on.earlier [] (Some NoMemory) (inr (may, (new.rest.rows, refl), refl)) in
            absurd (none-is-no-fault NoMemory ((all-given old.rest law.may_allocate early.0 (Some NoMemory) early.1).1 ∙ law.stop)))
            (λ never. never)
            (cases_Bool new.rest.may_allocate);
        fed =
            ap (λ s. sent new.producer ++ to_come new new.rest.rows s) (sym stop)
            ∙ (now.2
            ∙ (ap (λ rs. sent old.producer ++ to_come old rs new.rest.stop) all.0
            ∙ (ap (λ s. sent old.producer ++ to_come old old.rest.rows s) stop ∙ law.fed)));
      }

  -- so it meets no fault
  pub feed_law-no_fault : (fault : RowFault) → FeedLaw rows new → new.rest ≡ told (Some fault) → ⊥
  feed_law-no_fault fault law told_fault = none-is-no-fault fault (sym (ap (λ (r : Rest). r.stop) told_fault) ∙ law.stop)

  -- nor does a look change what it has to send
  pub feed_law-looked : new ≡ record old { producer = new.producer } → sent new.producer ≡ sent old.producer → FeedLaw rows old → FeedLaw rows new
  feed_law-looked same looked = feed_law-on (feeds_on-looked old new same looked)
