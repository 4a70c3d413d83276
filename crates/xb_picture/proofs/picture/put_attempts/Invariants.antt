use Rattle.std.proofs.Common.{◌≡◌, ◌++◌, ◌+◌, drop, map}
use Rattle.xb_heard.specs.Attempts.{attempt_in}
use Rattle.xb_picture.specs.Pictures.{attempts_words}
use Rattle.xb_picture.specs.Said.{says}
use Rattle.xb_picture.proofs.picture.put_attempts.Given as goal

abbrev pub invariant-loop-index : goal.invariant-loop-index
invariant-loop-index l =
    says l.sheet ++ attempts_words l.limits (l.before + l.index + 1) (map attempt_in (drop l.index l.attempts))
    ≡ says l.fn.sheet ++ attempts_words l.limits (l.before + 1) (map attempt_in l.attempts)
