use Rattle.std.proofs.Common.{◌≡◌, ◌∙◌, ap, subst}
use Rattle.xb_flow.specs.declared.post.Post.TheVariants.{Tape}
use Rattle.xb_replay.specs.World.{WorldLaw, marks_of}
use Rattle.xb_replay.proofs.Prefixes.{tape-prefix, tape-whole}
use Rattle.xb_replay.proofs.replay.Replay.marks.Goals as goal

pub returns : goal.returns
returns c =
    let law : WorldLaw c.args.self.now = subst WorldLaw c.self.view_is c.self.invariant in
    let marks : c.marks.result.now ≡ marks_of c.args.self.now c.args.line = c.marks.ensures.value ∙ ap (λ w. marks_of w c.args.line) c.self.view_is in
    record {
      value = marks;
      prefix = rw marks (tape-prefix c.args.self.now law.links law.stages law.feed c.args.line c.marks.ensures.line);
      whole = λ all. marks ∙ tape-whole c.args.self.now law.links law.stages law.feed (all Tape tt) c.args.line c.marks.ensures.line;
    }
