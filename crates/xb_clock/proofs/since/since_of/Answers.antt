use Rattle.std.proofs.Common.{◌≡◌, ◌∙◌, Ok, ap, refl, subst}
use Rattle.jiff_fmt.specs.Temporal.{parse_timestamp}
use Rattle.xb_clock.specs.declared.since.Since.TheVariants as since
use Rattle.xb_clock.specs.Since.{IsRead}
use Rattle.xb_clock.proofs.since.since_of.Goals as goal

pub returns-in-Ok : goal.returns-in-Ok
returns-in-Ok c =
    let read : Ok c.in-Ok.time.nanosecond ≡ parse_timestamp c.in-Some.word.now = c.in-Ok.ensures ∙ ap parse_timestamp c.as_bytes.ensures.value in
    rw (c.in-Some.is) (subst (λ r. IsRead r (since.Time c.in-Ok.time)) read (c.in-Ok.time, refl, refl))
