use Rattle.std.proofs.Common.{◌∙◌, ℕ, ◌*◌, ◌++◌, List, suc, ◌≤◌, drop, length, take, ap, sym, subst, arith}
use Rattle.std.proofs.KnownBytes.{Appends-nil, Appends-trans}
use Rattle.std.specs.Io.KnownBytes.{Appends}
use Rattle.std.proofs.lemmas.List.{take_all}
use Rattle.xb_text.specs.Writing.{AppendsBeginning}
use Rattle.xb_sound.proofs.Beginnings.{beginning-after, beginning-more, whole-begins}
use Rattle.xb_signal.specs.declared.moment.Moment.{Moment}
use Rattle.xb_signal.specs.declared.segment.Segment.{Segment}
use Rattle.xb_signal.specs.Forms.{samples_coded}
use Rattle.xb_signal.specs.Moments.{moment_after, start}
use Rattle.xb_signal.specs.Segments.{segment_sound, signal_from, signal_of}
use Rattle.xb_signal.proofs.Parts.{signal-next, signal-parts, moment-taken, moment_before}
use Rattle.xb_signal.proofs.writing.write_segments.Goals as goal

pub loop-segment-init : goal.loop-segment-init
loop-segment-init g c = record { moment = c.start-moment.ensures; written = Appends-nil _ }

pub loop-segment-preserved : goal.loop-segment-preserved
loop-segment-preserved g c =
    let before : Moment = moment_before (start c.args.setting.now.seed) (take c.loop-segment.segment-index c.args.segments.now) in
    let part : Appends (g.W.Write.contents c.loop-segment.out) (g.W.Write.contents c.write_segment.new.out) (samples_coded c.args.setting.now.form (segment_sound c.args.setting.now before c.segment-item.result)) =
    subst (λ (moment : Moment). Appends (g.W.Write.contents c.loop-segment.out) (g.W.Write.contents c.write_segment.new.out) (samples_coded c.args.setting.now.form (segment_sound c.args.setting.now moment c.segment-item.result))) c.loop-segment.invariant.moment
    c.in_ok-write_segment.ensures.whole in
    record {
      moment =
          c.after-moment.ensures
          ∙ ap (λ (n : ℕ). moment_after c.loop-segment.moment n) c.segment_length.ensures.value
          ∙ ap (λ (moment : Moment). moment_after moment (c.segment-item.result.ms * 8)) c.loop-segment.invariant.moment
          ∙ sym (moment-taken (start c.args.setting.now.seed) c.args.segments.now c.loop-segment.segment-index c.segment-item.result c.loop-segment-test.true c.segment-item.is);
      written =
          subst (λ (bytes : List ℕ). Appends (g.W.Write.contents c.args.out.now) (g.W.Write.contents c.write_segment.new.out) bytes)
          (sym (signal-next c.args.setting.now (start c.args.setting.now.seed) c.args.segments.now c.loop-segment.segment-index c.segment-item.result c.loop-segment-test.true c.segment-item.is))
          (Appends-trans (g.W.Write.contents c.args.out.now) (g.W.Write.contents c.loop-segment.out) (g.W.Write.contents c.write_segment.new.out) (samples_coded c.args.setting.now.form (signal_of c.args.setting.now (take c.loop-segment.segment-index c.args.segments.now)))
          (samples_coded c.args.setting.now.form (segment_sound c.args.setting.now before c.segment-item.result)) c.loop-segment.invariant.written part);
    }

pub returns-in_err-write_segment-clause-beginning : goal.returns-in_err-write_segment-clause-beginning
returns-in_err-write_segment-clause-beginning g c =
    let before : Moment = moment_before (start c.args.setting.now.seed) (take c.loop-segment.segment-index c.args.segments.now) in
    let rest = samples_coded c.args.setting.now.form (signal_from c.args.setting.now (moment_after before (c.segment-item.result.ms * 8)) (drop (suc c.loop-segment.segment-index) c.args.segments.now)) in
    let part = samples_coded c.args.setting.now.form (segment_sound c.args.setting.now before c.segment-item.result) in
    let begun : AppendsBeginning (g.W.Write.contents c.loop-segment.out) (g.W.Write.contents c.write_segment.new.out) part =
    subst (λ (moment : Moment). AppendsBeginning (g.W.Write.contents c.loop-segment.out) (g.W.Write.contents c.write_segment.new.out) (samples_coded c.args.setting.now.form (segment_sound c.args.setting.now moment c.segment-item.result)))
    c.loop-segment.invariant.moment c.write_segment.ensures.beginning in
    subst (λ bytes. AppendsBeginning (g.W.Write.contents c.args.out.now) (g.W.Write.contents c.write_segment.new.out) bytes)
    (sym (signal-parts c.args.setting.now (start c.args.setting.now.seed) c.args.segments.now c.loop-segment.segment-index c.segment-item.result c.loop-segment-test.true c.segment-item.is))
    (beginning-after (g.W.Write.contents c.args.out.now) (g.W.Write.contents c.loop-segment.out) (g.W.Write.contents c.write_segment.new.out) (samples_coded c.args.setting.now.form (signal_of c.args.setting.now (take c.loop-segment.segment-index c.args.segments.now))) (part ++ rest)
    c.loop-segment.invariant.written (beginning-more (g.W.Write.contents c.loop-segment.out) (g.W.Write.contents c.write_segment.new.out) part rest begun))

pub returns-clause-beginning : goal.returns-clause-beginning
returns-clause-beginning g c =
    let past : length c.args.segments.now ≤ c.loop-segment.segment-index = omega arith in
    subst (λ (all : List Segment). AppendsBeginning (g.W.Write.contents c.args.out.now) (g.W.Write.contents c.loop-segment.out) (samples_coded c.args.setting.now.form (signal_of c.args.setting.now all)))
    (take_all c.loop-segment.segment-index c.args.segments.now past)
    (whole-begins (g.W.Write.contents c.args.out.now) (g.W.Write.contents c.loop-segment.out) (samples_coded c.args.setting.now.form (signal_of c.args.setting.now (take c.loop-segment.segment-index c.args.segments.now)))
    c.loop-segment.invariant.written)
