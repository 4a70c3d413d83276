-- The streams of a program.
use Rattle.std.specs.Prelude.{ℕ, List, Option}
use Rattle.std.specs.Io.KnownBytes.{Keeps}
use Rattle.xb_text.specs.Writing.{AppendsBeginning}

-- what is left of the input, and what the output and the stream of errors have, where these are known
pub record Streams : Type 0 where
  pub input : Option (List ℕ)
  pub output : Option (List ℕ)
  pub errors : Option (List ℕ)

abbrev pub streams : Option (List ℕ) → Option (List ℕ) → Option (List ℕ) → Streams
streams input output errors = record { input = input; output = output; errors = errors }

-- nothing was read, and nothing written but a line on the stream of errors, or its beginning
pub record OnlyTells (line : List ℕ) (old new : Streams) : Type 0 where
  pub input : Keeps old.input new.input
  pub output : Keeps old.output new.output
  pub errors : AppendsBeginning old.errors new.errors line
