use Rattle.xb_samples.specs.Sounds.{sound_state}
use Rattle.xb_samples.proofs.SoundLemmas.{first_turn, next_turn}
use Rattle.xb_samples.proofs.sound.Sound.turn.Goals as goal

pub returns-then-self-clause-state : goal.returns-then-self-clause-state
returns-then-self-clause-state c = next_turn (sound_state c.args.self.now) c.if-self.true

pub returns-clause-state : goal.returns-clause-state
returns-clause-state c =
    first_turn (sound_state c.args.self.now) c.in-Some.count c.if-self.false c.in-Some.ensures.1
