use Rattle.xb_signal.proofs.MuLawFiles.{mu_law_files_are_read, mu_law_is_nearest}
use Rattle.xb_signal.proofs.laws.mu_law_is_nearest.Goals as goal

pub returns-clause-bytes : goal.returns-clause-bytes
returns-clause-bytes c = mu_law_is_nearest

pub returns-clause-files : goal.returns-clause-files
returns-clause-files c = mu_law_files_are_read
