use Rattle.std.proofs.Common.{true, false}
use Rattle.xb_picture.specs.Digits.{spoiler_words}
use Rattle.xb_picture.specs.Said.{says}
use Rattle.xb_picture.proofs.Said.{last}
use Rattle.xb_picture.proofs.digit.put_remark.Goals as goal

pub returns-in_ok-put_fault-in-Spoiled : goal.returns-in_ok-put_fault-in-Spoiled
returns-in_ok-put_fault-in-Spoiled c =
    let words = spoiler_words c.args.limits c.args.pulses.now true c.in-Spoiled.spoiler in
    rw c.in-Spoiled.is (last c.put_wrong.result (says c.args.sheet.now) _ _ _ _ words
    c.in_ok-put_fault-in-Spoiled.ensures c.put_wrong.ensures (simp c.fitting.ensures))

pub returns-in_ok-put_fault-in-Ignored-Some : goal.returns-in_ok-put_fault-in-Ignored-Some
returns-in_ok-put_fault-in-Ignored-Some c =
    let words = spoiler_words c.args.limits c.args.pulses.now false c.in-Ignored-Some.spoiler in
    rw (c.in-Ignored-Some.is, rw c.in-Ignored-Some.is at c.in-Ignored-Some.field-0-is) (last c.put_wrong-in-Ignored-Some.result (says c.args.sheet.now) _ _ _ _ words
    c.in_ok-put_fault-in-Ignored-Some.ensures c.put_wrong-in-Ignored-Some.ensures (simp c.fitting-in-Ignored-Some.ensures))
