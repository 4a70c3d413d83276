use Rattle.std.proofs.Common.{◌≡◌, ◌++◌, ℕ, List, drop}
use Rattle.xb_samples.specs.Tails.{chunks_left}
use Rattle.xb_samples.proofs.tail.Tail.take_bytes.Given as goal

abbrev pub invariant-loop-byte : goal.invariant-loop-byte
invariant-loop-byte l = record {
  taken : (text : List ℕ) → chunks_left l.self (drop l.byte-index l.bytes ++ text) ≡ chunks_left l.initial.self (l.bytes ++ text);
  known : l.self.is_known ≡ l.initial.self.is_known;
}
