use Rattle.std.proofs.Common.{◌≡◌, ◌∙◌, ℕ, ◌<◌, true, false, sym, ap, arith}
use Rattle.std.proofs.lemmas.Bool.Decides.{nat_tests}
use Rattle.std.specs.Prelude.{nat_lt}
use Rattle.xb_riff.specs.Heads.{after_format, chunks_of, long_at, padded}
use Rattle.xb_riff.proofs.HeadLemmas.{data_known, data_unknown, format_is, other_is, passed_is}
use Rattle.xb_riff.proofs.head.after_chunk.Goals as goal

pub returns-in-Some-clause-says : goal.returns-in-Some-clause-says
returns-in-Some-clause-says c = λ rest.
    data_known c.args.found c.in-Some.format c.args.chunk.now rest c.long_at-size.result c.length_of.result c.requires.whole
    (sym c.starts_with.ensures.value ∙ c.if-starts_with.true) c.in-Some.is c.long_at-size.ensures c.length_of.ensures.value

pub returns-in-None-clause-says : goal.returns-in-None-clause-says
returns-in-None-clause-says c = λ rest.
    data_unknown c.args.found c.args.chunk.now rest c.requires.whole
    (sym c.starts_with.ensures.value ∙ c.if-starts_with.true) c.in-None.is

pub returns-then-not-starts_with-clause-says : goal.returns-then-not-starts_with-clause-says
returns-then-not-starts_with-clause-says c = λ rest.
    let left : c.padded.result ≡ padded (long_at c.args.chunk.now 4) = c.padded.ensures ∙ ap padded c.long_at-size.ensures in
    other_is c.args.found c.args.chunk.now rest c.requires.whole (sym c.starts_with.ensures.value ∙ c.if-starts_with.false)
    (sym c.starts_with-2.ensures.value ∙ c.if-not-starts_with.true)
    ∙ rw (← left, c.passed.ensures) (sym (passed_is c.padded.result c.args.found rest))

pub returns-then-size-lt-LEAST_FORMAT_BYTES-clause-says : goal.returns-then-size-lt-LEAST_FORMAT_BYTES-clause-says
returns-then-size-lt-LEAST_FORMAT_BYTES-clause-says c = λ rest.
    let few : long_at c.args.chunk.now 4 < 16 = omega (arith, c.long_at-size.ensures) in
    let short : nat_lt (long_at c.args.chunk.now 4) 16 ≡ true = grind (arith, nat_tests) in
    format_is c.args.found c.args.chunk.now rest true c.requires.whole
    (sym c.starts_with.ensures.value ∙ c.if-starts_with.false) (sym c.starts_with-2.ensures.value ∙ c.if-not-starts_with.false)
    short

pub returns-clause-says : goal.returns-clause-says
returns-clause-says c = λ rest.
    let long : nat_lt (long_at c.args.chunk.now 4) 16 ≡ false = grind (arith, nat_tests) in
    format_is c.args.found c.args.chunk.now rest false c.requires.whole
    (sym c.starts_with.ensures.value ∙ c.if-starts_with.false) (sym c.starts_with-2.ensures.value ∙ c.if-not-starts_with.false)
    long
    ∙ ap (λ (n : ℕ). after_format (λ f r. chunks_of f r) n rest) (ap padded (sym c.long_at-size.ensures) ∙ sym c.padded-2.ensures)
