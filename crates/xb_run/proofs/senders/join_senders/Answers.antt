use Rattle.std.proofs.Common.{◌≡◌, ◌++◌, ◌∷◌, [], reverse, length, append-nil, append_assoc, sym, ap, ◌∙◌, refl, arith}
use Rattle.std.proofs.lemmas.List.{reverse-append, nil_from_length}
use Rattle.xb_run.specs.Started.{IsStarted}
use Rattle.xb_run.proofs.Joins.{joined}
use Rattle.xb_run.proofs.Pairs.{pairs-nil, pairs-snoc, pairs-at, pairs-joined}
use Rattle.xb_run.proofs.senders.join_senders.Goals as goal

pub loop-sender-init : goal.loop-sender-init
loop-sender-init g c = record {
  taken = [];
  split = refl;
  zipped = pairs-at refl (sym c.requires.none) pairs-nil;
  room = omega (arith, c.args.all.ok.0, ap length c.requires.none);
}

pub loop-sender-preserved : goal.loop-sender-preserved
loop-sender-preserved g c =
    let inv = c.loop-sender.invariant in
    let keeps = g.P.Threaded.promised in
    let sender = c.in-Some.sender in
    let left = c.pop.new.self.items in record {
      taken = inv.taken ++ sender ∷ [];
      split = inv.split ∙ ap (λ l. inv.taken ++ l) (ap reverse c.in-Some.ensures.items ∙ reverse-append left (sender ∷ [])) ∙ sym (append_assoc inv.taken (sender ∷ []) (reverse left));
      zipped = pairs-at refl (sym c.push_reserved.ensures.items) (pairs-snoc inv.zipped (λ post is. joined keeps post sender c.join.result c.join.ensures.kept c.join.ensures.stopped is));
      room = omega (arith, c.in-Some.ensures.cases, c.push_reserved.ensures.len, c.push_reserved.ensures.capacity);
    }

pub returns : goal.returns
returns g c senders begun =
    let inv = c.loop-sender.invariant in
    let keeps = g.P.Threaded.promised in
    let none : c.loop-sender.started.items ≡ [] = nil_from_length c.loop-sender.started.items (omega (arith, c.loop-sender.started.ok.0, c.in_default.ensures.cases)) in
    let all : reverse c.args.started.items ≡ inv.taken = inv.split ∙ ap (λ l. inv.taken ++ reverse l) none ∙ append-nil inv.taken in
    pairs-joined (IsStarted keeps) (λ started done. (post : _) → IsStarted keeps post started → keeps post done) keeps
    (λ post started done is keep. keep post is) (pairs-at refl all begun) inv.zipped
