use Rattle.std.proofs.Common.{◌∙◌, ap, sym, subst}
use Rattle.rtrb.specs.Ring.{received}
use Rattle.xb_flow.specs.Rings.{IsRing}
use Rattle.xb_run.proofs.chain.Chain.link.Goals as goal

pub returns : goal.returns
returns g c =
    let f = c.in_ok-first.ensures in
    let r = c.in_ok-rest.ensures in
    let b = r.branches in
    let translate = c.in_ok-first.first.translate in
    record {
      linked = record {
        rows = f.rows;
        signals = f.signals;
        dialled = f.dialled;
        orders = subst (λ end. IsRing translate.producer end) (sym r.input) f.orders;
        outputs = b.outputs_len ∙ sym b.senders_len;
        inputs = b.inputs_len ∙ sym b.senders_len;
        dealt = b.dealt;
        gathered = b.gathered;
        marks = r.marks;
      };
      room = record {
        rows = f.rows_room;
        signals = f.signals_room;
        dialled = f.dialled_room;
        orders = f.orders_room;
        dealt = b.dealt_room;
        gathered = b.gathered_room;
        marks = r.marks_room;
      };
      senders_are = b.senders_len;
      source = f.source;
      to_come = f.to_come;
      laws = record {
        limits = f.limits;
        pulse = f.pulse_law;
        pulse_stage = f.pulse_stage;
        register = f.register_law;
        register_stage = f.register_stage;
        translate = f.translate_law;
        translate_stage = f.translate_stage;
        deal = r.deal_law;
        senders = b.lawful_senders;
        gather = r.gather_law;
        tape = r.tape_law;
        lost = r.lost;
      };
      blank = record {
        feed = f.blank_feed;
        pulse = f.blank_pulse;
        register = f.blank_register;
        translate = f.blank_translate;
        deal_input = ap received r.input ∙ f.blank_end;
        deal_outputs = b.blank_outputs;
        deal_held = r.deal_held;
        senders = b.blank_senders;
        gather_inputs = b.blank_inputs;
        gather_output = r.blank_output;
        gather_held = r.gather_held;
        tape = r.blank_tape;
        marks = r.blank_tapes;
      };
    }
