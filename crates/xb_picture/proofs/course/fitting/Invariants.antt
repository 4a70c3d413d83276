use Rattle.std.proofs.Common.{◌≡◌, ◌++◌, drop, take}
use Rattle.xb_picture.specs.Courses.{fitting}
use Rattle.xb_picture.proofs.course.fitting.Given as goal

abbrev pub invariant-loop-index : goal.invariant-loop-index
invariant-loop-index l = take l.index l.runs ++ fitting l.left (drop l.index l.runs) ≡ fitting l.room l.runs
