use Rattle.std.proofs.Common.{rules, ◌≡◌, ◌∙◌, ℕ, suc, ◌+◌, ◌-◌, ◌*◌, ◌/◌, ◌<◌, ◌≤◌, ◌++◌, List, [], ◌∷◌, ap, subst, arith}
use Rattle.std.specs.Io.KnownBytes.{Appends}
use Rattle.xb_text.specs.Writing.{AppendsBeginning}
use Rattle.std.proofs.lemmas.Result.{on_ok_weaker}
use Rattle.xb_contact.specs.declared.level.Level.{Level}
use Rattle.xb_contact.specs.Bounces.{Bounce, bounce_ticks}
use Rattle.xb_contact.specs.Holds.{other_level}
use Rattle.xb_dial.specs.Drawn.{bounce_at, bounces_from, bounces_of, part_at}
use Rattle.xb_dial.specs.Traces.{change_text, run_text}
use Rattle.xb_dial.proofs.Bounded.{bounces-end}
use Rattle.xb_dial.proofs.Texts.{bounce-first, run_left}
use Rattle.xb_dial.proofs.Writings.{Lacks, lacks-begun, lacks-end, lacks-less, lacks-none}
use Rattle.xb_dial.proofs.bounced_run.write_run.Goals as goal

-- the bounces that are left are the next, and those after it
next : (most state j end : ℕ) → j < end
    → bounces_from most state j (end - j) ≡ bounce_at most state j ∷ bounces_from most state (j + 1) (end - (j + 1))
next most state j end within =
    let count : end - j ≡ suc (end - (j + 1)) = omega arith in
    ap (λ n. bounces_from most state j n) count

-- what is left is the text of the next, and what is left after it
first-left : (most state j end now : ℕ) (level : Level) (ticks : ℕ) → j < end
    → run_left now level (bounces_from most state j (end - j)) ticks
    ≡ (change_text now level ++ change_text (now + (bounce_at most state j).holds) (other_level level))
    ++ run_left (now + ((bounce_at most state j).holds + (bounce_at most state j).leaves)) level
    (bounces_from most state (j + 1) (end - (j + 1))) ticks
first-left most state j end now level ticks within =
    ap (λ (bounces : List Bounce). run_left now level bounces ticks) (next most state j end within)
    ∙ bounce-first now level (bounce_at most state j) (bounces_from most state (j + 1) (end - (j + 1))) ticks

-- what it takes of the time
time-left : (most state j end now all : ℕ) → j < end
    → now + bounce_ticks (bounces_from most state j (end - j)) ≡ all
    → now + (part_at most state (2 * j + 2) + part_at most state (2 * j + 3))
    + bounce_ticks (bounces_from most state (j + 1) (end - (j + 1))) ≡ all
time-left most state j end now all within spent =
    let parts = ap (λ bounces. now + bounce_ticks bounces) (next most state j end within) in
    omega (arith, parts, spent)

-- none are left
none-left : (most state j end : ℕ) → end ≤ j → bounces_from most state j (end - j) ≡ []
none-left most state j end past =
    let count : end - j ≡ 0 = omega arith in
    ap (λ n. bounces_from most state j n) count

pub write_bounce-requires : goal.write_bounce-requires
write_bounce-requires g c =
    let most : ℕ = c.args.us / 8 in
    let j = c.loop-j.j in
    let left = time-left most c.args.state j c.count_of-j-end.result c.loop-j.now
    (c.args.tick + bounce_ticks (bounces_of c.args.us c.args.state c.args.run.ticks)) c.loop-j-test.true c.loop-j.invariant.spent in
    let end = bounces-end c.args.us c.args.state c.args.run.ticks in
    omega (arith, left, end.1, c.requires, c.part_at-holds.ensures.value)

pub returns-in_err-write_bounce-clause-beginning :
    goal.returns-in_err-write_bounce-clause-beginning
returns-in_err-write_bounce-clause-beginning g c =
    let now = c.loop-j.now in
    let level = c.args.run.level in
    let mid = g.W.Write.contents c.loop-j.out in
    let new = g.W.Write.contents c.write_bounce.new.out in
    let bounce : Bounce = bounce_at (c.args.us / 8) c.args.state c.loop-j.j in
    let begun : AppendsBeginning mid new (change_text now level ++ change_text (now + bounce.holds) (other_level level)) =
    subst (λ (holds : ℕ). AppendsBeginning mid new (change_text now level ++ change_text (now + holds) (other_level level)))
    c.part_at-holds.ensures.value c.write_bounce.ensures.beginning in
    lacks-begun (g.W.Write.contents c.args.out.now) mid new (change_text now level ++ change_text (now + bounce.holds) (other_level level))
    _ (run_text c.args.tick c.args.us c.args.state c.args.run) _ c.loop-j.invariant.lacks
    (first-left (c.args.us / 8) c.args.state c.loop-j.j c.count_of-j-end.result now level
    (c.args.run.ticks - bounce_ticks (bounces_of c.args.us c.args.state c.args.run.ticks)) c.loop-j-test.true) begun

pub overflow_add-now-in-loop-j : goal.overflow_add-now-in-loop-j
overflow_add-now-in-loop-j g c =
    let most : ℕ = c.args.us / 8 in
    let j = c.loop-j.j in
    let left = time-left most c.args.state j c.count_of-j-end.result c.loop-j.now
    (c.args.tick + bounce_ticks (bounces_of c.args.us c.args.state c.args.run.ticks)) c.loop-j-test.true c.loop-j.invariant.spent in
    let end = bounces-end c.args.us c.args.state c.args.run.ticks in
    let holds : c.from.result ≡ part_at most c.args.state (2 * j + 2) = search rules in
    let leaves : c.from-in-loop-j.result ≡ part_at most c.args.state (2 * j + 3) = search rules in
    let fits : c.loop-j.now + (c.from.result + c.from-in-loop-j.result) < 18446744073709551616 =
    omega (arith, left, end.1, c.requires, holds, leaves) in
    search (rules, fits)

pub loop-j-preserved : goal.loop-j-preserved
loop-j-preserved g c =
    let most : ℕ = c.args.us / 8 in
    let j = c.loop-j.j in
    let state = c.args.state in
    let end = c.count_of-j-end.result in
    let now = c.loop-j.now in
    let level = c.args.run.level in
    let old = g.W.Write.contents c.args.out.now in
    let mid = g.W.Write.contents c.loop-j.out in
    let new = g.W.Write.contents c.write_bounce.new.out in
    let ticks : ℕ = c.args.run.ticks - bounce_ticks (bounces_of c.args.us state c.args.run.ticks) in
    let bounce : Bounce = bounce_at most state j in
    let rest : List Bounce = bounces_from most state (j + 1) (end - (j + 1)) in
    let holds : c.from.result ≡ bounce.holds = search rules in
    let leaves : c.from-in-loop-j.result ≡ bounce.leaves = search rules in
    let time : now + (bounce.holds + bounce.leaves) ≡ now + (c.from.result + c.from-in-loop-j.result) = omega (arith, holds, leaves) in
    let whole : Appends mid new (change_text now level ++ change_text (now + bounce.holds) (other_level level)) =
    subst (λ (holds : ℕ). Appends mid new (change_text now level ++ change_text (now + holds) (other_level level)))
    c.part_at-holds.ensures.value c.in_ok-write_bounce.ensures.whole in
    let lacks = lacks-less old mid new (change_text now level ++ change_text (now + bounce.holds) (other_level level))
    (run_left (now + (bounce.holds + bounce.leaves)) level rest ticks) (run_text c.args.tick c.args.us state c.args.run)
    (run_left now level (bounces_from most state j (end - j)) ticks) c.loop-j.invariant.lacks
    (first-left most state j end now level ticks c.loop-j-test.true) whole in
    let left = time-left most state j end now
    (c.args.tick + bounce_ticks (bounces_of c.args.us state c.args.run.ticks)) c.loop-j-test.true c.loop-j.invariant.spent in
    record {
      lacks =
          subst (λ (n : ℕ). Lacks old new (run_left n level rest ticks) (run_text c.args.tick c.args.us state c.args.run))
          time lacks;
      spent = omega (arith, left, time);
    }

pub returns : goal.returns
returns g c =
    let level = c.args.run.level in
    let old = g.W.Write.contents c.args.out.now in
    let mid = g.W.Write.contents c.loop-j.out in
    let new = g.W.Write.contents c.write_change.new.out in
    let all = run_text c.args.tick c.args.us c.args.state c.args.run in
    let ticks : ℕ = c.args.run.ticks - bounce_ticks (bounces_of c.args.us c.args.state c.args.run.ticks) in
    let none = none-left (c.args.us / 8) c.args.state c.loop-j.j c.count_of-j-end.result (omega (arith, c.loop-j-test.false)) in
    let lacks : Lacks old mid (change_text c.loop-j.now level) all =
    subst (λ (bounces : List Bounce). Lacks old mid (run_left c.loop-j.now level bounces ticks) all) none
    c.loop-j.invariant.lacks in
    record {
      whole =
          on_ok_weaker c.write_change.result
          (λ more. lacks-none old mid new (change_text c.loop-j.now level) all lacks more)
          c.write_change.ensures.whole;
      beginning = lacks-end old mid new (change_text c.loop-j.now level) all lacks c.write_change.ensures.beginning;
    }
