use Rattle.std.proofs.Common.{◌≡◌, arith, ◌∙◌, ltb-true, ltb-false}
use Rattle.xb_rows.specs.StreamBytes.{bytes_left, held_bytes}
use Rattle.xb_rows.proofs.HeldBytes.{at_end-before, none-read, refilled}
use Rattle.xb_rows.proofs.stream_bytes.StreamBytes.fill.Goals as goal

pub refill-requires : goal.refill-requires
refill-requires g c = c.has_held.ensures.none c.if-has_held.false

pub returns-clause-some : goal.returns-clause-some
returns-clause-some g c = λ more.
    let count = ltb-true 0 c.in_ok-refill.field-0 more in
    let held = c.in_ok-refill.ensures.held in
    let mid = c.begin.new.self in (
      omega arith,
      omega arith,
      c.refill.ensures.begun ∙ c.in_ok-begin.ensures.begun,
      refilled mid.at mid.filled mid.buffer (bytes_left g.R.Read.remaining c.args.self.now) (g.R.Read.remaining mid.reader)
          (held_bytes g.R.Read.remaining c.refill.new.self) c.in_ok-begin.ensures.keeps
          (c.has_held.ensures.none c.if-has_held.false) c.in_ok-refill.ensures.keeps,
    )

pub returns-clause-none : goal.returns-clause-none
returns-clause-none g c = λ none.
    let count = ltb-false 0 c.in_ok-refill.field-0 none in
    let zero : c.in_ok-refill.field-0 ≡ 0 = omega arith in
    let held = c.in_ok-refill.ensures.held in
    let mid = c.begin.new.self in
    let new = c.refill.new.self in
    let kept = refilled mid.at mid.filled mid.buffer (bytes_left g.R.Read.remaining c.args.self.now) (g.R.Read.remaining mid.reader)
    (held_bytes g.R.Read.remaining new) c.in_ok-begin.ensures.keeps (c.has_held.ensures.none c.if-has_held.false)
    c.in_ok-refill.ensures.keeps in
    let end = none-read new.at new.filled c.in_ok-refill.field-0 new.buffer (g.R.Read.remaining new.reader) held.0 held.1 zero
    (c.in_ok-refill.ensures.at_end zero) in
    let begun = c.refill.ensures.begun ∙ c.in_ok-begin.ensures.begun in (
      at_end-before (bytes_left g.R.Read.remaining c.args.self.now) (held_bytes g.R.Read.remaining new) kept end,
      rw begun kept,
    )
