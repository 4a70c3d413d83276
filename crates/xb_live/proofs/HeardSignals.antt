-- What a signal leaves of what is heard of a line.
use Rattle.std.proofs.Common.{◌≡◌, ℕ, ◌+◌, ◌-◌, ◌^◌, min, List, if◌then◌else◌, ◌==◌, Option, Some, None, option_to_list, refl, ap, ◌∙◌}
use Rattle.xb_model.specs.declared.dialled.Dialled.{Dialled}
use Rattle.xb_model.specs.declared.limits.Limits.{Limits}
use Rattle.xb_model.specs.declared.plan.Plan.{Plan}
use Rattle.xb_model.specs.declared.signal.Signal.{Signal}
use Rattle.xb_model.specs.Rows.{LoopRow}
use Rattle.xb_pulse.specs.declared.state.Phase.{Phase as PulsePhase}
use Rattle.xb_pulse.specs.Machine.{phase_after as pulse_after, signals_by}
use Rattle.xb_register.specs.declared.state.Phase.{Phase}
use Rattle.xb_register.specs.declared.state.Phase.TheVariants.{OnHook, Listening, Done}
use Rattle.xb_register.specs.Laws.{is_seizure}
use Rattle.xb_register.specs.Machine.{advance, outcomes_by, phase_after}
use Rattle.xb_register.specs.Plain.{plain_of}
use Rattle.xb_live.specs.declared.line_hearing.Hearing.{Hearing}
use Rattle.xb_live.specs.Hearings.{after_row, after_signal, after_signals, digits_by, digits_kept, in_phase, later_by}

-- the digits that the register keeps, by its plain values
pub kept_plain : (phase : Phase) (before : List ℕ) → digits_kept phase before ≡ (if (plain_of phase).phase == 1 then (plain_of phase).digits else before)
kept_plain OnHook before = refl
kept_plain (Listening digits) before = refl
kept_plain Done before = refl

-- what is given once as a list is given
one-given : (given brought : Option Dialled) → option_to_list given ≡ option_to_list brought → given ≡ brought
one-given None None e = refl
one-given None (Some b) e = absurd (cc e)
one-given (Some a) None e = absurd (cc e)
one-given (Some a) (Some b) e = cc e

pub heard-signal : (plan : Plan) (heard : Hearing) (signal : Signal) (given : Option Dialled) (register : Phase) (began : ℕ) (dialled : List ℕ)
    → began ≡ (if is_seizure signal then heard.at else heard.began)
    → register ≡ phase_after plan heard.register signal → option_to_list given ≡ outcomes_by plan heard.register signal
    → dialled ≡ digits_by given register heard.dialled
    → (let after : Hearing = record { pulse = heard.pulse; register = register; at = heard.at; began = began; dialled = dialled } in after ≡ after_signal plan heard signal)
heard-signal plan heard signal given register began dialled begins phase brings keeps =
    let step = advance plan heard.register signal in
    let brought : given ≡ step.outcome = one-given given step.outcome brings in
    let digits : dialled ≡ digits_by step.outcome step.phase heard.dialled
    = keeps ∙ ap (λ o. digits_by o register heard.dialled) brought ∙ ap (λ p. digits_by step.outcome p heard.dialled) phase in
    ap (λ (b : ℕ). let after : Hearing = record { pulse = heard.pulse; register = register; at = heard.at; began = b; dialled = dialled } in after) begins
    ∙ ap (λ (p : Phase). let after : Hearing = record { pulse = heard.pulse; register = p; at = heard.at; began = (if is_seizure signal then heard.at else heard.began); dialled = dialled } in after) phase
    ∙ ap (λ (ds : List ℕ). let after : Hearing = record { pulse = heard.pulse; register = step.phase; at = heard.at; began = (if is_seizure signal then heard.at else heard.began); dialled = ds } in after) digits

-- and what a row leaves, whose signals were taken
pub heard-row : (limits : Limits) (plan : Plan) (heard : Hearing) (row : LoopRow) (phase : PulsePhase) (signals : List Signal) (next : Hearing) (at : ℕ)
    → phase ≡ pulse_after limits heard.pulse row → signals ≡ signals_by limits heard.pulse row
    → (let begun : Hearing = record { pulse = phase; register = heard.register; at = heard.at; began = heard.began; dialled = heard.dialled } in next ≡ after_signals plan begun signals)
    → at ≡ min (next.at + row.ms) (2 ^ 64 - 1)
    → (let after : Hearing = record { pulse = next.pulse; register = next.register; at = at; began = next.began; dialled = next.dialled } in after ≡ after_row limits plan heard row)
heard-row limits plan heard row phase signals next at enters sends takes lasts =
    let all : next ≡ after_signals plan (in_phase limits row heard) (signals_by limits heard.pulse row)
    = takes
    ∙ ap (λ (p : PulsePhase). let begun : Hearing = record { pulse = p; register = heard.register; at = heard.at; began = heard.began; dialled = heard.dialled } in after_signals plan begun signals) enters
    ∙ ap (after_signals plan (in_phase limits row heard)) sends in
    ap (λ (t : ℕ). let after : Hearing = record { pulse = next.pulse; register = next.register; at = t; began = next.began; dialled = next.dialled } in after) lasts
    ∙ ap (later_by row.ms) all
