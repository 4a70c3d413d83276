use Rattle.std.proofs.Common.{◌≡◌, ◌++◌, ◌∷◌, [], append-nil, append_assoc, sym, ap, ◌∙◌, arith}
use Rattle.std.proofs.lemmas.List.{nil_from_length}
use Rattle.xb_run.proofs.Pairs.{pairs-nil, pairs-cons, pairs-at, pairs-front, pairs-last, pairs-none}
use Rattle.xb_run.proofs.senders.settle_senders.Goals as goal

pub loop-sender-init : goal.loop-sender-init
loop-sender-init g c = record {
  above = [];
  mid = [];
  below = [];
  ups = sym (append-nil c.args.before.items);
  dones = sym (append-nil c.args.senders.items);
  downs = sym (append-nil c.args.after.items);
  up = c.requires.before;
  down = c.requires.after;
  settled_up = pairs-nil;
  settled_down = pairs-nil;
}

pub settle-requires : goal.settle-requires
settle-requires g c = pairs-last _ _ c.loop-sender.invariant.up c.in-Some-pop.ensures.items c.in-Some.ensures.items

pub settle-requires-in-Some : goal.settle-requires-in-Some
settle-requires-in-Some g c = pairs-last _ _ c.loop-sender.invariant.down c.in-Some.ensures.items c.in-Some-pop-2.ensures.items

pub loop-sender-preserved : goal.loop-sender-preserved
loop-sender-preserved g c =
    let inv = c.loop-sender.invariant in
    let up = c.in-Some-pop.ensures.items in
    let done = c.in-Some.ensures.items in
    let down = c.in-Some-pop-2.ensures.items in record {
      above = c.in-Some-pop.producer ∷ inv.above;
      mid = c.in-Some.sender ∷ inv.mid;
      below = c.in-Some-pop-2.consumer ∷ inv.below;
      ups = inv.ups ∙ ap (λ l. l ++ inv.above) up ∙ append_assoc c.pop-in-Some.new.self.items (c.in-Some-pop.producer ∷ []) inv.above;
      dones = inv.dones ∙ ap (λ l. l ++ inv.mid) done ∙ append_assoc c.pop.new.self.items (c.in-Some.sender ∷ []) inv.mid;
      downs = inv.downs ∙ ap (λ l. l ++ inv.below) down ∙ append_assoc c.pop-in-Some-2.new.self.items (c.in-Some-pop-2.consumer ∷ []) inv.below;
      up = pairs-front c.in-Some-pop.producer c.in-Some.sender inv.up up done;
      down = pairs-front c.in-Some.sender c.in-Some-pop-2.consumer inv.down done down;
      settled_up = pairs-cons c.settle.ensures inv.settled_up;
      settled_down = pairs-cons c.settle-in-Some.ensures inv.settled_down;
    }

pub returns-clause-before : goal.returns-clause-before
returns-clause-before g c =
    let inv = c.loop-sender.invariant in
    let none : c.loop-sender.senders.items ≡ [] = nil_from_length c.loop-sender.senders.items (omega (arith, c.loop-sender.senders.ok.0, c.in_default.ensures.cases)) in
    let ups : c.args.before.items ≡ inv.above = inv.ups ∙ ap (λ l. l ++ inv.above) (pairs-none inv.up none) in
    let dones : c.args.senders.items ≡ inv.mid = inv.dones ∙ ap (λ l. l ++ inv.mid) none in
    pairs-at (sym ups) (sym dones) inv.settled_up
