-- One signal more, and one row more.
use Rattle.std.proofs.Common.{◌≡◌, ℕ, ◌<◌, List, [], ◌∷◌, ◌++◌, length, get_or, set, refl, sym, ap, ◌∙◌, subst, append_assoc}
use Rattle.std.specs.List.{All}
use Rattle.xb_model.specs.declared.dialled.Dialled.{Dialled}
use Rattle.xb_model.specs.declared.limits.Limits.{Limits}
use Rattle.xb_model.specs.declared.line.LineNo.{LineNo}
use Rattle.xb_model.specs.declared.line.TheConstants.{LINES}
use Rattle.xb_model.specs.declared.on.On.{On}
use Rattle.xb_model.specs.declared.plan.Plan.{Plan}
use Rattle.xb_model.specs.declared.signal.Signal.{Signal}
use Rattle.xb_model.specs.Lines.{row_line, on_line_of}
use Rattle.xb_model.specs.Rows.{LoopRow}
use Rattle.xb_model.specs.Image.{Machine, image}
use Rattle.xb_model.specs.OnLines.{on_line}
use Rattle.xb_model.proofs.Images.{image_after-none}
use Rattle.xb_model.proofs.OnLines.{on_line-append}
use Rattle.xb_model.proofs.States.{states_fresh, state_held, states_more, image_more}
use Rattle.xb_pulse.specs.declared.state.PulseState.{PulseState}
use Rattle.xb_pulse.specs.Machine.{machine as pulse_machine}
use Rattle.xb_register.specs.declared.state.RegisterState.{RegisterState}
use Rattle.xb_register.specs.Machine.{machine as register_machine}
use Rattle.xb_serial.specs.Taken.{Dialling, HasDialled, Hearing, HasHeard}

module _ (plan : Plan) where
  abbrev r : Machine (On Signal) (On Dialled) RegisterState
  r = register_machine plan

  -- where every register is as before its first signal, no signal is taken
  pub dialled-none : (d : Dialling) → d.plan ≡ plan → length d.lines ≡ LINES → All (λ state. state ≡ r.start) d.lines → d.dialled ≡ [] → HasDialled plan d []
  dialled-none d plans count fresh empty = record {
    plan_is = plans;
    states = states_fresh on_line_of r d.lines count fresh;
    dialled = empty ∙ sym (image_after-none on_line_of r []);
  }

  -- where a line is given its state after a signal, and what comes of it is kept, the signal is taken
  pub dialled-more :
      (d after : Dialling) (signals : List (On Signal)) (x : On Signal) (k : ℕ) (before state : RegisterState)
      → HasDialled plan d signals → after.plan ≡ d.plan → after.lines ≡ set d.lines k state
      → length d.lines ≡ LINES → k < LINES → k ≡ on_line_of x → before ≡ get_or d.lines k before
      → state ≡ (register_machine d.plan).next before x → after.dialled ≡ d.dialled ++ (register_machine d.plan).outs before x
      → HasDialled plan after (signals ++ x ∷ [])
  dialled-more d after signals x k before state taken plans lines count below on held next given =
      let is = state_held on_line_of r signals x d.lines k before taken.states below on held in
      record {
        plan_is = plans ∙ taken.plan_is;
        states = rw lines (states_more on_line_of r signals x before is d.lines k state taken.states count below on
            (next ∙ ap (λ n. (register_machine n).next before x) taken.plan_is));
        dialled = image_more on_line_of r signals x before is d.dialled (r.outs before x) after.dialled taken.dialled refl
            (given ∙ ap (λ n. d.dialled ++ (register_machine n).outs before x) taken.plan_is);
      }

-- one more of a line's signals, after others
pub on_line-more : (line : LineNo) (front : List (On Signal)) (first : List Signal) (what : Signal)
    → (front ++ on_line line first) ++ record { line = line; what = what } ∷ [] ≡ front ++ on_line line (first ++ what ∷ [])
on_line-more line front first what =
    append_assoc front (on_line line first) _ ∙ ap (λ back. front ++ back) (sym (on_line-append line first (what ∷ [])))

module _ (limits : Limits) (plan : Plan) where
  abbrev p : Machine LoopRow (On Signal) PulseState
  p = pulse_machine limits

  -- where every loop is as before its first row, no row is taken
  pub heard-none : (h : Hearing) → h.limits ≡ limits → length h.lines ≡ LINES → All (λ state. state ≡ p.start) h.lines → HasDialled plan h.registers [] → HasHeard limits plan h []
  heard-none h judged count fresh registers = record {
    limits_are = judged;
    states = states_fresh row_line p h.lines count fresh;
    registers = subst (HasDialled plan h.registers) (sym (image_after-none row_line p [])) registers;
  }

  -- where a line is given its state after a row, and the registers take its signals, the row is taken
  pub heard-more :
      (h after : Hearing) (rows : List LoopRow) (x : LoopRow) (k : ℕ) (before state : PulseState)
      → HasHeard limits plan h rows → after.limits ≡ h.limits → after.lines ≡ set h.lines k state
      → length h.lines ≡ LINES → k < LINES → k ≡ row_line x → before ≡ get_or h.lines k before
      → state ≡ (pulse_machine h.limits).next before x
      → ((signals : List (On Signal)) → HasDialled plan h.registers signals → HasDialled plan after.registers (signals ++ (pulse_machine h.limits).outs before x))
      → HasHeard limits plan after (rows ++ x ∷ [])
  heard-more h after rows x k before state taken judged lines count below on held next more =
      let is = state_held row_line p rows x h.lines k before taken.states below on held in
      record {
        limits_are = judged ∙ taken.limits_are;
        states = rw lines (states_more row_line p rows x before is h.lines k state taken.states count below on
            (next ∙ ap (λ n. (pulse_machine n).next before x) taken.limits_are));
        registers = subst (HasDialled plan after.registers)
            (image_more row_line p rows x before is (image row_line p rows) (p.outs before x) _ refl refl
            (ap (λ n. image row_line p rows ++ (pulse_machine n).outs before x) taken.limits_are))
            (more (image row_line p rows) taken.registers);
      }
