use Rattle.std.proofs.Common.{◌∙◌, ℕ, List, subst}
use Rattle.std.proofs.KnownBytes.{Appends-trans}
use Rattle.std.specs.Io.KnownBytes.{Appends}
use Rattle.xb_text.specs.Writing.{AppendsBeginning}
use Rattle.xb_sound.proofs.Beginnings.{beginning-after, beginning-more}
use Rattle.xb_signal.specs.Forms.{samples_coded}
use Rattle.xb_signal.specs.Segments.{signal_of}
use Rattle.xb_signal.specs.Writings.{head_before}
use Rattle.xb_signal.proofs.writing.write_signal.Goals as goal

pub returns-in_err-write_whole-clause-beginning : goal.returns-in_err-write_whole-clause-beginning
returns-in_err-write_whole-clause-beginning g c =
    let head = head_before c.args.setting.now.form c.args.raw c.args.segments.now in
    let rest = samples_coded c.args.setting.now.form (signal_of c.args.setting.now c.args.segments.now) in
    beginning-more (g.W.Write.contents c.args.out.now) (g.W.Write.contents c.write_whole.new.out) head rest
    (subst (λ (bytes : List ℕ). AppendsBeginning (g.W.Write.contents c.args.out.now) (g.W.Write.contents c.write_whole.new.out) bytes) (c.deref.ensures.value ∙ c.in_ok-head.ensures.head)
    c.write_whole.ensures.beginning)

pub returns-in_err-write_segments-clause-beginning : goal.returns-in_err-write_segments-clause-beginning
returns-in_err-write_segments-clause-beginning g c =
    let head = head_before c.args.setting.now.form c.args.raw c.args.segments.now in
    let rest = samples_coded c.args.setting.now.form (signal_of c.args.setting.now c.args.segments.now) in
    beginning-after (g.W.Write.contents c.args.out.now) (g.W.Write.contents c.write_whole.new.out) (g.W.Write.contents c.write_segments.new.out) head rest
    (subst (λ (bytes : List ℕ). Appends (g.W.Write.contents c.args.out.now) (g.W.Write.contents c.write_whole.new.out) bytes) (c.deref.ensures.value ∙ c.in_ok-head.ensures.head)
    c.in_ok-write_whole.ensures.whole) c.write_segments.ensures.beginning

pub returns-clause-whole : goal.returns-clause-whole
returns-clause-whole g c =
    let head = head_before c.args.setting.now.form c.args.raw c.args.segments.now in
    let rest = samples_coded c.args.setting.now.form (signal_of c.args.setting.now c.args.segments.now) in
    Appends-trans (g.W.Write.contents c.args.out.now) (g.W.Write.contents c.write_whole.new.out) (g.W.Write.contents c.write_segments.new.out) head rest
    (subst (λ (bytes : List ℕ). Appends (g.W.Write.contents c.args.out.now) (g.W.Write.contents c.write_whole.new.out) bytes) (c.deref.ensures.value ∙ c.in_ok-head.ensures.head)
    c.in_ok-write_whole.ensures.whole) c.in_ok-write_segments.ensures.whole

pub returns-clause-beginning : goal.returns-clause-beginning
returns-clause-beginning g c =
    let head = head_before c.args.setting.now.form c.args.raw c.args.segments.now in
    let rest = samples_coded c.args.setting.now.form (signal_of c.args.setting.now c.args.segments.now) in
    beginning-after (g.W.Write.contents c.args.out.now) (g.W.Write.contents c.write_whole.new.out) (g.W.Write.contents c.write_segments.new.out) head rest
    (subst (λ (bytes : List ℕ). Appends (g.W.Write.contents c.args.out.now) (g.W.Write.contents c.write_whole.new.out) bytes) (c.deref.ensures.value ∙ c.in_ok-head.ensures.head)
    c.in_ok-write_whole.ensures.whole) c.write_segments.ensures.beginning
