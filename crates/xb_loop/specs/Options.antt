-- What the words of the command line ask for, as clap reads them.
use Rattle.std.specs.Prelude.{◌≡◌, ◌^◌, ◌-◌, List, codes}
use Rattle.clap.specs.Walk.{Row}
use Rattle.xb_command.specs.Answers.{Takes}
use Rattle.xb_command.specs.Given.{ReadsFlag, given_by}
use Rattle.xb_command.specs.declared.asking.Misfit.{Misfit}
use Rattle.xb_command.specs.declared.table.Call.{Call}
use Rattle.xb_feed.specs.Options.{ReadsOr, Say as SaysOf, SayNothing}
use Rattle.xb_model.specs.LawfulLimits.{standard_limits}
use Rattle.xb_loop.specs.declared.common.Common.{Common}
use Rattle.xb_loop.specs.declared.words.Asked.{Asked}

-- what clap matched says this of all lines
pub record IsCommon (rows : List Row) (common : Common) : Type 0 where
  pub release : common.release_ms ≡ standard_limits.release
  pub tick : ReadsOr (given_by rows (codes "tick")) (2 ^ 32 - 1) common.most_ms
  pub said : ReadsFlag (given_by rows (codes "bounces")) common.said
  pub lossy : ReadsFlag (given_by rows (codes "lossy")) common.lossy

-- and this of a recording, and whether its wires are listed
pub record Say (rows : List Row) (asked : Asked) : Type 0 where
  pub common : IsCommon rows asked.request.common
  pub rest : SaysOf rows asked.request.common asked.request
  pub list : ReadsFlag (given_by rows (codes "list")) asked.list

-- the words of a call are taken, and ask for this
pub record Asks (call : Call) (asked : Asked) : Type 0 where
  pub rows : List Row
  pub takes : Takes call rows
  pub says : Say rows asked

-- they are taken, and say nothing that there is
pub record AskNothing (call : Call) (misfit : Misfit) : Type 0 where
  pub rows : List Row
  pub takes : Takes call rows
  pub says : SayNothing rows
