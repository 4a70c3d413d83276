use Rattle.xb_replay.proofs.Prefixes.{tape-prefix}
use Rattle.xb_replay.proofs.Returns.{same-records, turned-event, turned-ended, turned-refused, turned-others}
use Rattle.xb_replay.proofs.Waiting.{turned-idle}
use Rattle.xb_replay.proofs.replay.Replay.turn.Goals as goal

pub returns-clause-records : goal.returns-clause-records
returns-clause-records c = same-records c.args.self.now c.make_turn.new.self c.args.post c.make_turn.result c.make_turn.ensures.turned c.make_turn.ensures.refused

pub returns-clause-event : goal.returns-clause-event
returns-clause-event c = turned-event c.args.self.now c.make_turn.new.self c.args.post c.make_turn.result c.make_turn.ensures.turned

pub returns-clause-ended : goal.returns-clause-ended
returns-clause-ended c = turned-ended c.args.self.now c.make_turn.new.self c.args.post c.make_turn.result c.make_turn.ensures.turned c.make_turn.ensures.refused

pub returns-clause-idle : goal.returns-clause-idle
returns-clause-idle c = turned-idle c.args.self.now c.make_turn.new.self c.args.post c.make_turn.result c.make_turn.ensures.turned

pub returns-clause-refused : goal.returns-clause-refused
returns-clause-refused c = turned-refused c.args.self.now c.make_turn.new.self c.args.post c.make_turn.result c.make_turn.ensures.refused

pub returns-clause-others : goal.returns-clause-others
returns-clause-others c = turned-others c.args.self.now c.make_turn.new.self c.args.post c.make_turn.result c.make_turn.ensures.turned c.make_turn.ensures.refused

pub returns-clause-prefixes : goal.returns-clause-prefixes
returns-clause-prefixes c = let law = c.make_turn.ensures.lawful in tape-prefix c.make_turn.new.self law.links law.stages law.feed
