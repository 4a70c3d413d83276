use Rattle.std.proofs.Common.{◌≡◌, ◌∙◌, None, ap, arith, rules}
use Rattle.xb_measured.specs.declared.meaning.Meaning.TheVariants as meaning
use Rattle.xb_measured.specs.Meanings.{meaning_by, meaning_of}
use Rattle.xb_measured.proofs.meaning.Meaning.of.Goals as goal

pub returns-in-Some : goal.returns-in-Some
unfolding meaning_of
returns-in-Some c = ap (meaning_by c.args.pair.low) c.in-Some.ensures.key

pub returns-in-900 : goal.returns-in-900
unfolding meaning_of
returns-in-900 c =
    let e : meaning.StPrime ≡ meaning_by c.args.pair.low None = first_of (search rules, grind arith) in
    e ∙ ap (meaning_by c.args.pair.low) c.in-None.ensures.key

pub returns-in-1300 : goal.returns-in-1300
unfolding meaning_of
returns-in-1300 c =
    let e : meaning.Kp2OrStSecond ≡ meaning_by c.args.pair.low None = first_of (search rules, grind arith) in
    e ∙ ap (meaning_by c.args.pair.low) c.in-None.ensures.key

pub returns-in_default : goal.returns-in_default
unfolding meaning_of
returns-in_default c =
    let e : meaning.StThird ≡ meaning_by c.args.pair.low None = first_of (search rules, grind arith) in
    e ∙ ap (meaning_by c.args.pair.low) c.in-None.ensures.key
