use Rattle.xb_model.proofs.Stateless.{image-stateless, image_all-stateless}
use Rattle.xb_model.proofs.stage_laws.stateless_lines.Goals as goal

pub returns-clause-one_line : goal.returns-clause-one_line
returns-clause-one_line g c = λ f line whats. image-stateless f line whats

pub returns-clause-all_lines : goal.returns-clause-all_lines
returns-clause-all_lines g c = λ f items. image_all-stateless f items
