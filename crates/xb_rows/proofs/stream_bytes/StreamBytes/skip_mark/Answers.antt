use Rattle.std.proofs.Common.{◌≡◌, ◌∙◌, sym, arith, rules, true, false, length}
use Rattle.csv.proofs.ReadFacts.{first-three, keeps-trans, no-mark, not-first, not-second, short-known, short-part, strip-keep, the-mark}
use Rattle.std.proofs.lemmas.Bool.{ne_eqb}
use Rattle.xb_rows.proofs.HeldBytes.{head-keeps}
use Rattle.xb_rows.specs.StreamBytes.{held_bytes}
use Rattle.xb_rows.proofs.stream_bytes.StreamBytes.skip_mark.Goals as goal

pub returns-then-not-branch-clause-keeps : goal.returns-then-not-branch-clause-keeps
returns-then-not-branch-clause-keeps g c =
    let e = c.in_ok-next_head.ensures in
    let none : c.in_ok-next_head.field-0 ≡ false = search rules in
    let f : c.next_head.new.self.filled ≡ 0 = e.filled.1 none ∙ c.requires.filled in
    let start = head-keeps c.args.self.now.at c.args.self.now.filled c.args.self.now.buffer (g.R.Read.remaining c.args.self.now.reader) (held_bytes g.R.Read.remaining c.next_head.new.self) c.requires.at c.requires.filled e.keeps in
    strip-keep _ _ start (short-known _ _ (e.at_end none) (short-part c.next_head.new.self.at c.next_head.new.self.filled c.next_head.new.self.buffer (rw f (omega arith))))

pub returns-then-self-ne239-clause-keeps : goal.returns-then-self-ne239-clause-keeps
returns-then-self-ne239-clause-keeps g c =
    let e = c.in_ok-next_head.ensures in
    let some : c.in_ok-next_head.field-0 ≡ true = search rules in
    let h1 = e.filled.0 some in
    let z = c.requires.filled in
    let f1 : c.next_head.new.self.filled ≡ 1 = omega arith in
    let size : length c.next_head.new.self.buffer ≡ 8192 = search rules in
    let start = head-keeps c.args.self.now.at c.args.self.now.filled c.args.self.now.buffer (g.R.Read.remaining c.args.self.now.reader) (held_bytes g.R.Read.remaining c.next_head.new.self) c.requires.at c.requires.filled e.keeps in
    strip-keep _ _ start (rw (e.same.0, f1) (not-first c.next_head.new.self.buffer _ (omega arith) (ne_eqb _ _ c.if-self-ne239.true)))

pub returns-then-self-ne187-clause-keeps : goal.returns-then-self-ne187-clause-keeps
returns-then-self-ne187-clause-keeps g c =
    let e = c.in_ok-next_head.ensures in
    let e2 = c.in_ok-next_head-2.ensures in
    let some : c.in_ok-next_head.field-0 ≡ true = search rules in
    let some2 : c.in_ok-next_head-2.field-0 ≡ true = search rules in
    let h1 = e.filled.0 some in
    let z = c.requires.filled in
    let h2 = e2.filled.0 some2 in
    let f2 : c.next_head-2.new.self.filled ≡ 2 = omega arith in
    let size : length c.next_head-2.new.self.buffer ≡ 8192 = search rules in
    let start = head-keeps c.args.self.now.at c.args.self.now.filled c.args.self.now.buffer (g.R.Read.remaining c.args.self.now.reader) (held_bytes g.R.Read.remaining c.next_head.new.self) c.requires.at c.requires.filled e.keeps in
    strip-keep _ _ (keeps-trans _ _ _ start e2.keeps)
    (rw (e2.same.0, f2) (not-second c.next_head-2.new.self.buffer _ (omega arith) (ne_eqb _ _ c.if-self-ne187.true)))

pub returns-then-not-branch-2-clause-keeps : goal.returns-then-not-branch-2-clause-keeps
returns-then-not-branch-2-clause-keeps g c =
    let e = c.in_ok-next_head.ensures in
    let e2 = c.in_ok-next_head-2.ensures in
    let some : c.in_ok-next_head.field-0 ≡ true = search rules in
    let none : c.in_ok-next_head-2.field-0 ≡ false = search rules in
    let h1 = e.filled.0 some in
    let z = c.requires.filled in
    let f1 : c.next_head.new.self.filled ≡ 1 = omega arith in
    let f : c.next_head-2.new.self.filled ≡ 1 = e2.filled.1 none ∙ f1 in
    let start = head-keeps c.args.self.now.at c.args.self.now.filled c.args.self.now.buffer (g.R.Read.remaining c.args.self.now.reader) (held_bytes g.R.Read.remaining c.next_head.new.self) c.requires.at c.requires.filled e.keeps in
    let two = keeps-trans _ _ _ start e2.keeps in
    strip-keep _ _ two (short-known _ _ (e2.at_end none) (short-part c.next_head-2.new.self.at c.next_head-2.new.self.filled c.next_head-2.new.self.buffer (rw f (omega arith))))

pub returns-then-not-branch-3-clause-keeps : goal.returns-then-not-branch-3-clause-keeps
returns-then-not-branch-3-clause-keeps g c =
    let e = c.in_ok-next_head.ensures in
    let e2 = c.in_ok-next_head-2.ensures in
    let e3 = c.in_ok-next_head-3.ensures in
    let some : c.in_ok-next_head.field-0 ≡ true = search rules in
    let some2 : c.in_ok-next_head-2.field-0 ≡ true = search rules in
    let none : c.in_ok-next_head-3.field-0 ≡ false = search rules in
    let h1 = e.filled.0 some in
    let z = c.requires.filled in
    let f1 : c.next_head.new.self.filled ≡ 1 = omega arith in
    let h2 = e2.filled.0 some2 in
    let f2 : c.next_head-2.new.self.filled ≡ 2 = omega arith in
    let f : c.next_head-3.new.self.filled ≡ 2 = e3.filled.1 none ∙ f2 in
    let start = head-keeps c.args.self.now.at c.args.self.now.filled c.args.self.now.buffer (g.R.Read.remaining c.args.self.now.reader) (held_bytes g.R.Read.remaining c.next_head.new.self) c.requires.at c.requires.filled e.keeps in
    let three = keeps-trans _ _ _ (keeps-trans _ _ _ start e2.keeps) e3.keeps in
    strip-keep _ _ three (short-known _ _ (e3.at_end none) (short-part c.next_head-3.new.self.at c.next_head-3.new.self.filled c.next_head-3.new.self.buffer (rw f (omega arith))))

pub returns-then-is_mark-clause-keeps : goal.returns-then-is_mark-clause-keeps
returns-then-is_mark-clause-keeps g c =
    let e = c.in_ok-next_head.ensures in
    let e2 = c.in_ok-next_head-2.ensures in
    let e3 = c.in_ok-next_head-3.ensures in
    let some : c.in_ok-next_head.field-0 ≡ true = search rules in
    let some2 : c.in_ok-next_head-2.field-0 ≡ true = search rules in
    let some3 : c.in_ok-next_head-3.field-0 ≡ true = search rules in
    let h1 = e.filled.0 some in
    let z = c.requires.filled in
    let h2 = e2.filled.0 some2 in
    let h3 = e3.filled.0 some3 in
    let f3 : c.next_head-3.new.self.filled ≡ 3 = omega arith in
    let size : length c.next_head-3.new.self.buffer ≡ 8192 = search rules in
    let start = head-keeps c.args.self.now.at c.args.self.now.filled c.args.self.now.buffer (g.R.Read.remaining c.args.self.now.reader) (held_bytes g.R.Read.remaining c.next_head.new.self) c.requires.at c.requires.filled e.keeps in
    let three = keeps-trans _ _ _ (keeps-trans _ _ _ start e2.keeps) e3.keeps in
    let known = rw (e3.same.0, f3, first-three c.next_head-3.new.self.buffer (omega arith)) at three in
    let test = sym c.is_mark.ensures ∙ c.if-is_mark.true in
    rw (f3, first-three c.next_head-3.new.self.buffer (omega arith)) (the-mark _ _ _ _ _ test known)

pub returns-else-is_mark-clause-keeps : goal.returns-else-is_mark-clause-keeps
returns-else-is_mark-clause-keeps g c =
    let e = c.in_ok-next_head.ensures in
    let e2 = c.in_ok-next_head-2.ensures in
    let e3 = c.in_ok-next_head-3.ensures in
    let some : c.in_ok-next_head.field-0 ≡ true = search rules in
    let some2 : c.in_ok-next_head-2.field-0 ≡ true = search rules in
    let some3 : c.in_ok-next_head-3.field-0 ≡ true = search rules in
    let h1 = e.filled.0 some in
    let z = c.requires.filled in
    let h2 = e2.filled.0 some2 in
    let h3 = e3.filled.0 some3 in
    let f3 : c.next_head-3.new.self.filled ≡ 3 = omega arith in
    let size : length c.next_head-3.new.self.buffer ≡ 8192 = search rules in
    let start = head-keeps c.args.self.now.at c.args.self.now.filled c.args.self.now.buffer (g.R.Read.remaining c.args.self.now.reader) (held_bytes g.R.Read.remaining c.next_head.new.self) c.requires.at c.requires.filled e.keeps in
    let three = keeps-trans _ _ _ (keeps-trans _ _ _ start e2.keeps) e3.keeps in
    let known = rw (e3.same.0, f3, first-three c.next_head-3.new.self.buffer (omega arith)) at three in
    let test = sym c.is_mark.ensures ∙ c.if-is_mark.false in
    rw (e3.same.0, f3, first-three c.next_head-3.new.self.buffer (omega arith)) (strip-keep _ _ known (no-mark _ _ _ _ test))
