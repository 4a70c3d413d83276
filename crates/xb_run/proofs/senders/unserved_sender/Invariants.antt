use Rattle.std.proofs.Common.{◌≡◌, ℕ, ◌<◌, true, get_or}
use Rattle.xb_run.proofs.senders.unserved_sender.Given as goal

abbrev pub invariant-loop-done : goal.invariant-loop-done
invariant-loop-done g l = record {
  number : l.number ≡ l.done-index;
  served : (k : ℕ) (d : _) → k < l.done-index → (get_or l.all.items k d).served ≡ true;
}
