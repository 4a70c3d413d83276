use Rattle.std.proofs.Common.{◌≡◌, [], ◌∷◌, ◌++◌, true, false, Some, rules}
use Rattle.xb_feed.specs.Options.{is_among, wire_of}
use Rattle.xb_feed.proofs.WordWires.{now_of, wire-added, with-wire}
use Rattle.xb_feed.proofs.words.Wires.add.Goals as goal

pub returns-then-is_among-clause-refused : goal.returns-then-is_among-clause-refused
returns-then-is_among-clause-refused c =
    let old = c.args.self.now in
    let is : wire_of c.args.all c.args.word.now ≡ Some (c.in-Ok.wire.0, c.in-Ok.wire.1.now) = search rules in
    let there : is_among c.in-Ok.wire.0.number old.lines.items ≡ true = search rules in
    with-wire c.args.all old.lines.items (now_of old.names.items) c.args.word.now c.in-Ok.wire.0
    c.in-Ok.wire.1.now true is there

pub returns-clause-added : goal.returns-clause-added
returns-clause-added c =
    let old = c.args.self.now in
    let is : wire_of c.args.all c.args.word.now ≡ Some (c.in-Ok.wire.0, c.in-Ok.wire.1.now) = search rules in
    let free : is_among c.in-Ok.wire.0.number old.lines.items ≡ false = search rules in
    let lines : c.push.new.self.items ≡ old.lines.items ++ c.in-Ok.wire.0 ∷ [] = search rules in
    let names : c.push-else-is_err.new.self.items ≡ old.names.items ++ c.in-Ok.wire.1 ∷ [] = search rules in
    wire-added c.args.all old.lines.items c.push.new.self.items old.names.items c.push-else-is_err.new.self.items
    c.args.word.now c.in-Ok.wire.0 c.in-Ok.wire.1 is free lines names
