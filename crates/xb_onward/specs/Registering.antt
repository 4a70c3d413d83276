-- What a register tells of keys.
use Rattle.std.specs.Prelude.{Bool, if◌then◌else◌, List}
use Rattle.xb_model.specs.declared.dialled.Dialled.{Dialled}
use Rattle.xb_incoming.specs.declared.key.TimedKey.{TimedKey}
use Rattle.xb_incoming.specs.declared.key.TheConstants.{TIME_OUT_MS}
use Rattle.xb_incoming.specs.Attempts.{outcomes}
use Rattle.xb_incoming.specs.Machine.{told_by}

-- all outcomes of keys that have ended, and else those that are certain by them
abbrev pub told_of : Bool → List TimedKey → List Dialled
told_of ended keys = if ended then outcomes TIME_OUT_MS keys else told_by TIME_OUT_MS keys
