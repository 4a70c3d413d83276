use Rattle.std.proofs.Common.{refl}
use Rattle.xb_branches.specs.Dealt.{dealt_from}
use Rattle.xb_branches.specs.Merged.{piece}
use Rattle.xb_ring.proofs.laws.small_lists.Goals as goal

pub returns-clause-dealt_first : goal.returns-clause-dealt_first
unfolding dealt_from
returns-clause-dealt_first c = refl

pub returns-clause-dealt_second : goal.returns-clause-dealt_second
unfolding dealt_from
returns-clause-dealt_second c = refl

pub returns-clause-unfinished : goal.returns-clause-unfinished
unfolding piece
returns-clause-unfinished c = refl

pub returns-clause-missing : goal.returns-clause-missing
unfolding piece
returns-clause-missing c = refl
