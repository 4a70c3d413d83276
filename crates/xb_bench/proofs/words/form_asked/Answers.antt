use Rattle.xb_bench.proofs.words.form_asked.Goals as goal

pub returns : goal.returns
returns c = record {
  json = c.flag.result;
  objects = c.flag.ensures;
  html = c.flag-2.result;
  page = c.flag-2.ensures;
  svg = c.flag-3.result;
  picture = c.flag-3.ensures;
  is = c.form_of.ensures;
}
