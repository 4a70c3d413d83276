use Rattle.std.proofs.Common.{refl}
use Rattle.xb_run.proofs.outgoing.link_outgoing.Goals as goal

pub returns : goal.returns
returns c =
    let all = c.in_ok-all.ensures in
    let marks = c.in_ok-marks.ensures in
    let tape = c.in_ok-tape.ensures in
    let deal = c.new-deal.ensures in
    let gather = c.new-gather.ensures in
    record {
      input = rw deal.post refl;
      branches = rw (deal.post, gather.post) all;
      marks = rw (gather.post, tape.end) marks.ring;
      marks_room = rw gather.post marks.producer.2;
      deal_law = deal.lawful;
      deal_held = rw deal.post refl;
      gather_law = gather.lawful;
      gather_held = rw gather.post refl;
      tape_law = tape.lawful.1;
      lost = tape.lawful.0;
      blank_output = rw gather.post marks.producer.0;
      blank_tape = rw tape.end marks.consumer.0;
      blank_tapes = tape.blank;
    }
