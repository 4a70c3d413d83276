use Rattle.std.proofs.Common.{rules, ap, inl, inr, refl, sym, ◌∙◌}
use Rattle.std.specs.Prelude.{unwrap_or}
use Rattle.xb_feed.specs.declared.words.TheConstants.{THRESHOLD_PERCENT}
use Rattle.xb_feed.specs.Options.{form_asked}
use Rattle.xb_feed.proofs.words.request_of.Goals as goal

pub returns-in-Err-asked_threshold-clause-nothing : goal.returns-in-Err-asked_threshold-clause-nothing
returns-in-Err-asked_threshold-clause-nothing g c =
    let given = c.number.result in
    inr (inl (unwrap_or given THRESHOLD_PERCENT, (given, c.number.ensures, refl), c.in-Err-asked_threshold.ensures.refused))

pub returns-clause-says : goal.returns-clause-says
returns-clause-says g c = record {
  recording = c.text-2.ensures;
  table = c.text-3.ensures;
  lossy = c.flag-lossy.ensures;
  format = ap (form_asked c.flag-lossy.result) (sym c.text.ensures) ∙ c.in-Ok.ensures.asked;
  rate = search rules;
  common_is = refl;
  threshold = (c.number.result, c.number.ensures, c.in-Ok-asked_threshold.ensures.given);
  notes = c.flag.result;
  notes_are = c.flag.ensures;
  said = search rules;
  all = c.said_of_all-all.result;
  for_all = c.said_of_all-all.ensures;
  wires = search rules;
}
