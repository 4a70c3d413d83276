use Rattle.std.proofs.Common.{◌++◌, ◌∷◌, [], reverse, length, append-nil, append_assoc, sym, ap, ◌∙◌, refl, arith}
use Rattle.xb_run.proofs.Pairs.{pairs-nil, pairs-started, pairs-at}
use Rattle.xb_run.proofs.senders.start_senders.Goals as goal

pub loop-sender-init : goal.loop-sender-init
loop-sender-init g c = record {
  done = [];
  split = sym (append-nil c.args.senders.items);
  zipped = pairs-at refl (sym (ap reverse c.requires.none)) pairs-nil;
  few = c.requires.few;
  count = omega (arith, c.args.started.ok.0, ap length c.requires.none);
  room = omega (arith, c.args.started.ok.0, ap length c.requires.none);
  refused = λ h. h;
}

pub loop-sender-preserved : goal.loop-sender-preserved
loop-sender-preserved g c =
    let inv = c.loop-sender.invariant in
    let sender = c.in-Some.sender in
    let left = c.pop.new.self.items in record {
      done = sender ∷ inv.done;
      split = inv.split ∙ ap (λ l. l ++ inv.done) c.in-Some.ensures.items ∙ append_assoc left (sender ∷ []) inv.done;
      zipped = pairs-started _ inv.zipped c.start.ensures.started c.push_reserved.ensures.items;
      few = omega (arith, c.in-Some.ensures.cases);
      count = omega (arith, c.in-Some.ensures.cases, c.push_reserved.ensures.len);
      room = omega (arith, c.in-Some.ensures.cases, c.push_reserved.ensures.len, c.push_reserved.ensures.capacity);
      refused = λ h. c.start.ensures.refused _ (omega (arith, c.in-Some.ensures.cases, inv.count)) (inv.refused h);
    }
