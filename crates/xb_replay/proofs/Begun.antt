-- A replay before its first turn keeps the law of the world, and no post has ended.
use Rattle.std.proofs.Common.{◌≡◌, ◌≤◌, ◌++◌, ℕ, true, None, List, [], length, sym, ap, ◌∙◌}
use Rattle.std.proofs.lemmas.Bool.{false≢true}
use Rattle.rtrb.specs.Ring.{sent}
use Rattle.xb_model.specs.Rows.{LoopRow}
use Rattle.xb_model.specs.Sources.{Rest, ended_by}
use Rattle.xb_flow.specs.declared.flow.Flow.{Flow}
use Rattle.xb_flow.specs.declared.post.Post.TheVariants as posts
use Rattle.xb_flow.specs.Flows.{flow_of, has_end}
use Rattle.xb_routes.specs.Table.{Table}
use Rattle.xb_closes.specs.Fed.{fed}
use Rattle.xb_posts.specs.Feeds.{to_come}
use Rattle.xb_run.specs.Chains.{IsChain}
use Rattle.xb_run.specs.Posts.{IsBlank, Posts}
use Rattle.xb_replay.specs.Turns.{NoneEnded}
use Rattle.xb_replay.specs.World.{WorldLaw}
use Rattle.xb_replay.proofs.Prefixes.{no_sender}

without_end : {X : Type 0} (xs : List (Flow X)) → xs ≡ [] → has_end xs ≡ true → ⊥
without_end xs none ended = false≢true (sym (ap has_end none) ∙ ended)

pub none_ended : (all : Posts) → IsBlank all → 1 ≤ length all.deal.producers → NoneEnded all
none_ended all blank some posts.Feed over = without_end (sent all.feed.producer) blank.feed.0 over
none_ended all blank some posts.Pulse over = without_end (sent all.pulse.producer) blank.pulse.1 over
none_ended all blank some posts.Register over = without_end (sent all.register.producer) blank.register.1 over
none_ended all blank some posts.Translate over = without_end (sent all.translate.producer) blank.translate.1 over
none_ended all blank some posts.Deal over =
    let p = all.translate.producer in
    without_end _ (blank.deal_outputs 0 p some) (over 0 p some)
none_ended all blank some (posts.Send j) over = let s = no_sender all in without_end _ (blank.senders j s over.0).1 (over.1 s)
none_ended all blank some posts.Gather over = without_end (sent all.gather.producer) blank.gather_output over
none_ended all blank some posts.Tape over = without_end _ blank.tape over

-- a chain of listed rows keeps the law of the world
pub begun_law : (rows : List LoopRow) (table : Table) (all : Posts) (rest : Rest) (senders ring : ℕ) → IsChain all rest table senders ring
    → rest ≡ ended_by rows → WorldLaw (record { rows = rows; table = table; posts = all })
begun_law rows table all rest senders ring made listed =
    let given = made.source ∙ listed in
    record {
      links = made.linked;
      stages = made.laws;
      feed = record {
        stop = ap (λ (r : Rest). r.stop) given;
        may_allocate = ap (λ (r : Rest). r.may_allocate) given;
        fed =
            ap (λ zs. zs ++ to_come all.feed all.feed.rest.rows None) made.blank.feed.0
            ∙ (made.to_come all.feed.rest.rows None
            ∙ ap (λ (r : Rest). flow_of (fed r.rows None) true) given);
      };
    }
