-- The numbers that documents and texts name.
use Rattle.std.specs.Prelude.{◌≡◌}
use Rattle.xb_parts.specs.declared.splitting.TheConstants.{MOST_PARTS}

-- the most parts
abbrev pub MostPartsIsRight : Type 0
MostPartsIsRight = MOST_PARTS ≡ 500
