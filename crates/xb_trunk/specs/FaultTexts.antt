-- The text of each fault.
use Rattle.std.specs.Prelude.{ℕ, List, codes}
use Rattle.xb_trunk.specs.declared.fault.TrunkFault.{TrunkFault}
use Rattle.xb_trunk.specs.declared.fault.TrunkFault.TheVariants as trunk

-- of samples that were not written
abbrev pub trunk_text : TrunkFault → List ℕ
trunk_text trunk.NoMemory = codes "out of memory"
trunk_text trunk.Write = codes "the samples could not be written"
