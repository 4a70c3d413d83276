-- The runs of a line are the record of its rows: makes and breaks in turn, of which none lasts 0 ms.
use Rattle.std.proofs.Common.{◌≡◌, ℕ, ◌<◌, true, false, List, [], ◌∷◌, ◌++◌, refl, ap, ◌∙◌, append-nil, subst}
use Rattle.std.specs.List.{AllByRecursion, flat_map}
use Rattle.xb_model.specs.Records.{Run, break, record_up_to_close, runs_of, without_first_break}
use Rattle.xb_calls.specs.Dialling.{on_line}
use Rattle.xb_calls.proofs.DialledRuns.{Alternate, joined-alternate, kept-first, record-alternate}
use Rattle.xb_worn.specs.declared.pulse.SentPulse.{SentPulse}
use Rattle.xb_worn.specs.SentCalls.{Lasts, PulseLasts, SentCall, call_runs, line_runs, pulse_runs}

alternate-pulses : (pulses : List SentPulse) (rest : List Run) → AllByRecursion PulseLasts pulses
    → Alternate false rest
    → Alternate false (flat_map pulse_runs pulses ++ rest)
alternate-pulses [] rest last h = h
alternate-pulses (pulse ∷ pulses) rest last h =
    (refl, last.0.0, (refl, last.0.1, alternate-pulses pulses rest last.1 h))

alternate-call : (call : SentCall) (rest : List Run) → Lasts call → Alternate false rest
    → Alternate true (call_runs call ++ rest)
alternate-call call rest last h = (refl, last.seizes, alternate-pulses call.pulses rest last.pulses h)

alternate-line : (hang_up : ℕ) → 0 < hang_up → (calls : List SentCall) → AllByRecursion Lasts calls
    → Alternate true (line_runs hang_up calls)
alternate-line hang_up some [] last = tt
alternate-line hang_up some (call ∷ []) last =
    subst (Alternate true) (append-nil (call_runs call)) (alternate-call call [] last.0 tt)
alternate-line hang_up some (call ∷ next ∷ more) last =
    alternate-call call (break hang_up ∷ line_runs hang_up (next ∷ more)) last.0
    (refl, some, alternate-line hang_up some (next ∷ more) last.1)

-- the runs of the record of the rows of a line
pub runs-line : (hang_up : ℕ) → 0 < hang_up → (l : ℕ) (calls : List SentCall) → AllByRecursion Lasts calls
    → runs_of (record_up_to_close (on_line l (line_runs hang_up calls))) ≡ line_runs hang_up calls
runs-line hang_up some l calls last =
    let alternate = alternate-line hang_up some calls last in
    ap runs_of (record-alternate l true _ alternate)
    ∙ ap without_first_break (joined-alternate true _ alternate)
    ∙ kept-first _ alternate
