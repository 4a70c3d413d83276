use Rattle.std.proofs.Common.{subst}
use Rattle.xb_structs.specs.Filling.{IsNotAdded}
use Rattle.mfweb.proofs.exports.mfweb_add.Goals as goal

pub returns-in-Err-clause-refuses : goal.returns-in-Err-clause-refuses
returns-in-Err-clause-refuses c = λ not_done. record {
  fault = c.in-Err.fault;
  is = c.fault_status.ensures.value;
  why = subst (λ keys. IsNotAdded c.in-Err.fault c.args.table.now c.args.i keys) c.words_of.ensures c.in-Err.ensures.refused;
  kept = c.in-Err.ensures.kept;
}
