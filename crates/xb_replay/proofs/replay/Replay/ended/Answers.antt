use Rattle.std.proofs.Common.{◌≡◌, ◌∙◌, ap, subst}
use Rattle.rtrb.specs.Ring.{received}
use Rattle.xb_flow.specs.declared.post.Post.TheVariants.{Tape}
use Rattle.xb_flow.specs.Flows.{has_end}
use Rattle.xb_replay.specs.World.{WorldLaw}
use Rattle.xb_replay.proofs.Prefixes.{all-ended, tape-whole}
use Rattle.xb_replay.proofs.replay.Replay.ended.Goals as goal

pub returns : goal.returns
returns c =
    let law : WorldLaw c.args.self.now = subst WorldLaw c.self.view_is c.self.invariant in
    let over : c.has_ended.result ≡ has_end (received c.args.self.now.posts.tape.consumer) = c.has_ended.ensures ∙ ap (λ w. has_end (received w.posts.tape.consumer)) c.self.view_is in
    record {
      ended = (λ h. all-ended c.args.self.now law.links law.stages law.feed (rw (← over) h), λ all. rw over (all Tape tt));
      whole = λ h. tape-whole c.args.self.now law.links law.stages law.feed (rw (← over) h);
    }
