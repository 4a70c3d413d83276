use Rattle.std.proofs.Common.{◌≡◌, [], drop, map}
use Rattle.xb_feed.specs.Options.{wires_after, wires_in}
use Rattle.xb_feed.proofs.words.wires_of.Given as goal

abbrev pub invariant-loop-word : goal.invariant-loop-word
invariant-loop-word l =
    wires_after l.all (wires_in l.wires) (map (λ word. word.now) (drop l.word-index l.words))
    ≡ wires_after l.all ([], []) (map (λ word. word.now) l.words)
