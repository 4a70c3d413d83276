use Rattle.std.proofs.Common.{◌∙◌, List, Option, ℕ, ℤ, ap, ap₂}
use Rattle.xb_ear.specs.declared.sight.Sight.{Sight}
use Rattle.xb_ear.specs.declared.hearing.Hearing.{Hearing}
use Rattle.xb_measured.specs.Blanks.{blank_at, blank_in}
use Rattle.xb_measured.specs.Stretches.{heard_on}
use Rattle.xb_measured.proofs.receiver.measured.Goals as goal

pub returns : goal.returns
returns c samples keys ear tape =
    c.measure.ensures
    ∙ ap (λ (blank : ℕ). heard_on c.args.tape.now.kept c.args.tape.now.gone c.args.key blank)
    (c.blank_of.ensures
    ∙ ap₂ (λ (held : List (Option Sight)) (hearing : Hearing). blank_at held hearing.at c.args.key) ear.held ear.hearing)
    ∙ ap₂ (λ (kept : List ℤ) (gone : ℕ). heard_on kept gone c.args.key (blank_in samples c.args.key)) tape.kept tape.gone
