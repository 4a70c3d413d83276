use Rattle.std.proofs.Common.{◌≡◌, ◌∙◌, subst}
use Rattle.xb_model.specs.Lines.{row_line, on_line_of}
use Rattle.xb_model.specs.LawfulLimits.{IsLawful}
use Rattle.xb_pulse.specs.Machine.{machine as pulse_machine}
use Rattle.xb_register.specs.Machine.{machine as register_machine}
use Rattle.xb_routes.specs.Table.{Table}
use Rattle.xb_routes.specs.Machine.{machine as translate_machine}
use Rattle.xb_run.specs.Laws.{KeepsImage}
use Rattle.xb_run.proofs.originating.link_originating.Goals as goal

pub returns : goal.returns
returns g c =
    let f = c.in_ok-feed.ensures in
    let p = c.in_ok-pulse.ensures in
    let r = c.in_ok-register.ensures in
    let t = c.in_ok-translate.ensures in
    let pulse = c.in_ok-pulse.pulse in
    let register = c.in_ok-register.register in
    let translate = c.in_ok-translate.translate in
    let pulse_stage : pulse.stage ≡ c.args.table.now.limits = p.stage ∙ (c.new.ensures.limits ∙ c.limits.ensures.value) in
    let register_stage : register.stage ≡ c.args.table.now.plan = r.stage ∙ (c.new-2.ensures.plan ∙ c.plan.ensures) in
    let translate_stage : translate.stage ≡ c.args.table.now = t.stage ∙ c.new-3.ensures.table in
    record {
      rows = rw p.input f.ring.0;
      signals = rw r.input p.ring.0;
      dialled = rw t.input r.ring.0;
      orders = t.ring.0;
      rows_room = f.ring.1;
      signals_room = p.ring.1;
      dialled_room = r.ring.1;
      orders_room = t.ring.1;
      source = f.rest;
      to_come = f.to_come;
      limits = subst IsLawful c.limits.ensures.value c.limits.ensures.lawful;
      pulse_law = subst (λ limits. KeepsImage row_line (pulse_machine limits) pulse) pulse_stage p.lawful;
      pulse_stage = pulse_stage;
      register_law = subst (λ plan. KeepsImage on_line_of (register_machine plan) register) register_stage r.lawful;
      register_stage = register_stage;
      translate_law = subst (λ (table : Table). KeepsImage on_line_of (translate_machine table.routes) translate) translate_stage t.lawful;
      translate_stage = translate_stage;
      blank_feed = (f.ring.2, f.fresh);
      blank_pulse = p.blank;
      blank_register = r.blank;
      blank_translate = t.blank;
      blank_end = t.ring.3;
    }
