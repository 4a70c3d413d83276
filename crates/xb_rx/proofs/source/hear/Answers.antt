use Rattle.std.proofs.Common.{◌≡◌, ◌∙◌, ◌≤◌, ◌-◌, ◌*◌, ◌++◌, ℕ, false, length, take, drop, ap, sym, arith, refl, rules, FitsSigned}
use Rattle.std.specs.Int.{w16}
use Rattle.std.specs.Prelude.{◌==◌}
use Rattle.std.proofs.lemmas.Bool.Decides.{nat_tests}
use Rattle.std.proofs.lemmas.Int.{to_z-of_z}
use Rattle.std.proofs.lemmas.List.{length-take-le}
use borrow.Rule.Slice.PartMut.{put_mid, same_len_mid}
use Rattle.xb_rx.proofs.Channels.{channel-length}
use Rattle.xb_rx.proofs.Filters.{hears-many, hears-one}
use Rattle.xb_rx.proofs.Slides.{filled, slid}
use Rattle.xb_rx.proofs.source.hear.Goals as goal

pub returns-then-frames-eq1 : goal.returns-then-frames-eq1
returns-then-frames-eq1 c =
    let fits : FitsSigned w16 c.first_sample.result = search rules in
    hears-one c.args.form c.args.group.now _ _ _ (omega (arith, c.if-frames-eq1.true))
    (to_z-of_z w16 c.first_sample.result fits ∙ c.first_sample.ensures)

-- the samples of the group were put at the end of the window, which went on by them
pub returns : goal.returns
returns c =
    let form = c.args.form in
    let frames : ℕ = form.frames in
    let old = c.args.window.now in
    let put = c.put_samples.new.samples in
    let all : ℕ = 8 * frames in
    let at : ℕ = all - frames in
    let most : frames ≤ 24 = c.requires.form.frames in
    let room : all ≤ length old = omega (arith, most) in
    let long : length put ≡ frames = ap length c.put_samples.ensures ∙ channel-length form frames _ in
    let full : all ≤ length (put_mid at (all - at) old put) =
    omega (arith, same_len_mid at (all - at) old put c.put_samples.auto.samples, room) in
    let window : take all (put_mid at (all - at) old put) ≡ take (7 * frames) old ++ put =
    filled old put frames all at (all - at) refl refl refl room long in
    let before : length (take (7 * frames) old) ≡ 7 * frames = length-take-le (7 * frames) old (omega (arith, room)) in
    let after : take (7 * frames) c.copy_within.new.self ≡ drop frames (take (7 * frames) old ++ put) =
    slid old put frames all at (all - at) refl refl refl room c.copy_within.new.self long full c.copy_within.ensures.after in
    let fits : FitsSigned w16 c.filtered-sample.result = search rules in
    let many : (frames == 1) ≡ false = grind (arith, nat_tests, c.if-frames-eq1.false) in
    hears-many form c.args.group.now (take (7 * frames) old) (take (7 * frames) c.copy_within.new.self)
    (take all (put_mid at (all - at) old put)) _ many before
    (window ∙ ap (λ xs. take (7 * frames) old ++ xs) c.put_samples.ensures)
    (to_z-of_z w16 c.filtered-sample.result fits ∙ c.filtered-sample.ensures)
    (after ∙ ap (drop frames) (sym window))
