use Rattle.std.proofs.Common.{◌≡◌, ◌∙◌, ◌≤◌, ◌<◌, ◌+◌, ◌-◌, ◌*◌, ℕ, List, length, length-drop, drop, take, ap, ap₂, arith, rules, ℤ, to_z, of_z, FitsSigned}
use Rattle.std.specs.Int.{w16}
use Rattle.std.proofs.lemmas.Int.{to_z-of_z}
use Rattle.std.proofs.lemmas.List.{length-take, take_rest}
use Rattle.xb_riff.specs.Codings.{sample_at, width}
use Rattle.xb_rx.specs.declared.coding.SampleForm.{SampleForm}
use Rattle.xb_rx.specs.Samples.{IsForm, channel_bytes, frame_bytes, group_bytes}
use Rattle.xb_rx.proofs.Channels.{frame-there, put-all, put-more}
use Rattle.xb_rx.proofs.coding.SampleForm.put_samples.Goals as goal

-- a frame is there whole, by the numbers that are reckoned
there : (form : SampleForm) (i frame before : ℕ) (group : List ℕ) → IsForm form → frame ≡ frame_bytes form
    → before ≡ channel_bytes form → i < form.frames → length group ≡ group_bytes form
    → i * frame + before + width form.coding ≤ length group
there form i frame before group is whole starts less size =
    let same : i * frame ≡ i * frame_bytes form = ap (λ (m : ℕ). i * m) whole in
    omega (arith, frame-there form i group is less size, same, starts)

fits : (form : SampleForm) (i frame before : ℕ) (group : List ℕ) → IsForm form → frame ≡ frame_bytes form
    → before ≡ channel_bytes form → i < form.frames → length group ≡ group_bytes form
    → width form.coding ≤ length (take (length group - (i * frame + before)) (drop (i * frame + before) group))
fits form i frame before group is whole starts less size =
    omega (
      arith,
      there form i frame before group is whole starts less size,
      length-take (length group - (i * frame + before)) (drop (i * frame + before) group),
      length-drop (i * frame + before) group,
    )

pub loop-n-preserved : goal.loop-n-preserved
loop-n-preserved c =
    let form = c.args.self in
    let group = c.args.group.now in
    let i : ℕ = c.loop-n.n in
    let x : ℤ = c.sample_of.result in
    let x-fits : FitsSigned w16 x = search rules in
    let here = simp take_rest at c.sample_of.ensures in
    let is : to_z w16 (of_z w16 x) ≡ sample_at form.coding (drop (i * frame_bytes form + channel_bytes form) group) =
    to_z-of_z w16 x x-fits
    ∙ here
    ∙ ap₂ (λ (m k : ℕ). sample_at form.coding (drop (i * m + k) group))
    c.frame_bytes-frame.ensures.value c.channel_bytes-before.ensures.value in
    put-more form group c.loop-n.samples i _ _ (omega (arith, c.loop-n.auto.samples, c.loop-n-test.true))
    (c.loop-n.auto.samples ∙ c.requires.samples) is c.loop-n.invariant

pub returns : goal.returns
returns c =
    put-all c.args.self c.args.group.now c.loop-n.samples c.loop-n.n _
    (omega (arith, c.loop-n.auto.samples, c.loop-n-test.false)) (c.loop-n.auto.samples ∙ c.requires.samples) c.loop-n.invariant
