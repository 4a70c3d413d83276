use Rattle.xb_signal.proofs.Files.{files_are_as_long, linear_files_are_wavs}
use Rattle.xb_signal.proofs.laws.files_are_as_long.Goals as goal

pub returns-clause-length : goal.returns-clause-length
returns-clause-length c = files_are_as_long

pub returns-clause-linear : goal.returns-clause-linear
returns-clause-linear c = linear_files_are_wavs
