-- The statuses of the programs, and how long a file may be, each as it is.
use Rattle.std.specs.Prelude.{◌≡◌}
use Rattle.xb_command.specs.declared.pipe.TheConstants.{READER_GONE}
use Rattle.xb_command.specs.declared.system.TheConstants.{MOST_FILE_BYTES}
use Rattle.xb_command.specs.declared.telling.TheConstants.{DONE, FAULT, WORDS_REFUSED}

-- a definition that cites a constant means this number
pub record AreConstants : Type 0 where
  pub done : DONE ≡ 0
  pub fault : FAULT ≡ 1
  pub words_refused : WORDS_REFUSED ≡ 2
  pub reader_gone : READER_GONE ≡ 141
  pub file_bytes : MOST_FILE_BYTES ≡ 67108864
