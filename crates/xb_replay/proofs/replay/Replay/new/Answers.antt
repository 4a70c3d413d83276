use Rattle.std.proofs.Common.{rules}
use Rattle.xb_replay.proofs.Begun.{none_ended, begun_law}
use Rattle.xb_replay.proofs.replay.Replay.new.Goals as goal

pub invariant_of-replay : goal.invariant_of-replay
invariant_of-replay c = begun_law _ _ _ _ _ _ c.in_ok-chain.ensures c.new.ensures

pub returns-clause-lawful : goal.returns-clause-lawful
returns-clause-lawful c = let begun = begun_law _ _ _ _ _ _ c.in_ok-chain.ensures c.new.ensures in search (rules, begun)

pub returns-clause-going : goal.returns-clause-going
returns-clause-going c = let made = c.in_ok-chain.ensures in none_ended _ made.blank made.laws.deal.least
