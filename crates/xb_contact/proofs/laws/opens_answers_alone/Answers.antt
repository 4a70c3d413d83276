use Rattle.xb_contact.proofs.Answering.{leaves_calls, opens_answers}
use Rattle.xb_contact.proofs.Calls.{counts_after_bursts, leaves_own_calls}
use Rattle.xb_contact.proofs.laws.opens_answers_alone.Goals as goal

pub returns-clause-answers : goal.returns-clause-answers
returns-clause-answers c = opens_answers

pub returns-clause-others : goal.returns-clause-others
returns-clause-others c = leaves_calls

pub returns-clause-night : goal.returns-clause-night
returns-clause-night c = leaves_own_calls

pub returns-clause-bursts : goal.returns-clause-bursts
returns-clause-bursts c = counts_after_bursts
