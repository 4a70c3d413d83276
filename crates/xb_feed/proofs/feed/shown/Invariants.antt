use Rattle.std.proofs.Common.{◌≡◌, ◌++◌, drop, map, string_bytes}
use Rattle.xb_feed.specs.Faults.{shown_byte}
use Rattle.xb_feed.proofs.feed.shown.Given as goal

abbrev pub invariant-loop-byte : goal.invariant-loop-byte
invariant-loop-byte l =
    string_bytes l.shown ++ map shown_byte (drop l.byte-index l.beginning) ≡ map shown_byte l.beginning
