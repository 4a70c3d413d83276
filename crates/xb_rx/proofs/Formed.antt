-- A sound that is asked for has a form.
use Rattle.std.proofs.Common.{◌≡◌, ◌<◌, ◌≤◌, ◌%◌}
use Rattle.std.proofs.Math.Logic.{∥∥₁_elim}
use Rattle.std.proofs.Props.{props}
use Rattle.std.specs.Coded.{Unit-prop}
use Rattle.xb_rx.specs.Hearing.{HasForm}
use Rattle.xb_rx.specs.declared.request.Input.{Input}
use Rattle.xb_rx.specs.declared.request.Input.TheVariants as input
use Rattle.xb_rx.specs.Samples.{IsForm}
use Rattle.xb_rx.specs.declared.coding.SampleForm.{SampleForm}
use Rattle.xb_rx.specs.declared.coding.TheConstants.{MOST_CHANNELS, MOST_FRAMES}

-- there is one proof of it at most
IsForm-prop : (form : SampleForm) → IsProp (IsForm form)
IsForm-prop form x y =
    let channel_prop : IsProp (form.channel < form.channels) = hlevel props in
    let channels_prop : IsProp (form.channels ≤ MOST_CHANNELS) = hlevel props in
    let one_prop : IsProp (1 ≤ form.frames) = hlevel props in
    let frames_prop : IsProp (form.frames ≤ MOST_FRAMES) = hlevel props in
    let whole_prop : IsProp (MOST_FRAMES % form.frames ≡ 0) = hlevel props in
    λ i. record {
      channel = channel_prop x.channel y.channel i;
      channels = channels_prop x.channels y.channels i;
      one_frame = one_prop x.one_frame y.one_frame i;
      frames = frames_prop x.frames y.frames i;
      whole = whole_prop x.whole y.whole i;
    }

HasForm-prop : (how : Input) → IsProp (HasForm how)
HasForm-prop (input.Wav channel) = Unit-prop
HasForm-prop (input.Raw form) = IsForm-prop form

pub formed : (how : Input) → ∥ HasForm how ∥₁ → HasForm how
formed how has = ∥∥₁_elim has (HasForm-prop how) (λ form. form)
