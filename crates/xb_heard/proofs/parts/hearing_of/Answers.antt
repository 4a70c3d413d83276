use Rattle.std.proofs.Common.{sym}
use Rattle.xb_heard.proofs.CutParts.{heard_placed-at, heard_placed-nowhere}
use Rattle.xb_heard.proofs.parts.hearing_of.Goals as goal

pub returns-in-Some-clause-heard : goal.returns-in-Some-clause-heard
returns-in-Some-clause-heard c = (heard_placed-at c.args.limits c.args.runs.now c.in-Some.i (sym c.in-Some.ensures.place)).0

pub returns-in-Some-clause-timeout : goal.returns-in-Some-clause-timeout
returns-in-Some-clause-timeout c = (heard_placed-at c.args.limits c.args.runs.now c.in-Some.i (sym c.in-Some.ensures.place)).1

pub returns-in-None-clause-heard : goal.returns-in-None-clause-heard
returns-in-None-clause-heard c = (heard_placed-nowhere c.args.limits c.args.runs.now (sym c.in-None.ensures.place)).0

pub returns-in-None-clause-timeout : goal.returns-in-None-clause-timeout
returns-in-None-clause-timeout c = (heard_placed-nowhere c.args.limits c.args.runs.now (sym c.in-None.ensures.place)).1
