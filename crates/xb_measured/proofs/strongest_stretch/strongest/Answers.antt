use Rattle.xb_measured.proofs.StrongestPlaces.{strongest-end, strongest-more}
use Rattle.xb_measured.proofs.strongest_stretch.strongest.Goals as goal

pub loop-place-preserved : goal.loop-place-preserved
loop-place-preserved c = record {
  so_far = strongest-more c.args.kept.now c.loop-place.best c.stronger_place-best.result c.loop-place.place c.args.to _
      c.loop-place-test.true c.loop-place.invariant.so_far c.stronger_place-best.ensures.value;
  fits = c.stronger_place-best.ensures.fits;
}

pub returns-clause-value : goal.returns-clause-value
returns-clause-value c =
    strongest-end c.args.kept.now c.loop-place.best c.loop-place.place c.args.to _ c.loop-place-test.false
    c.loop-place.invariant.so_far
