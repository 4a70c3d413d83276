use Rattle.std.proofs.Common.{◌≡◌, ◌++◌, ◌+◌, drop, map, string_bytes}
use Rattle.xb_heard.specs.Attempts.{attempt_in}
use Rattle.xb_hear.specs.Objects.{objects_from}
use Rattle.xb_hear.proofs.objects.push_objects.Given as goal

abbrev pub invariant-loop-index : goal.invariant-loop-index
invariant-loop-index l =
    string_bytes l.out ++ objects_from l.before l.limits l.line (l.index + 1) (map attempt_in (drop l.index l.attempts))
    ≡ string_bytes l.fn.out ++ objects_from l.before l.limits l.line 1 (map attempt_in l.attempts)
