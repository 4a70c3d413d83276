use Rattle.std.proofs.Common.{◌∙◌, ◌-◌, ap, arith, take, drop}
use Rattle.std.proofs.lemmas.List.{length-take, length-drop}
use Rattle.xb_findings.specs.Places.{place_after, place_of}
use Rattle.xb_findings.proofs.Placing.{place_min, place_on, small_column, small_line}
use Rattle.xb_findings.proofs.table_places.reach.Goals as goal

pub place_after-place-requires-clause-line : goal.place_after-place-requires-clause-line
place_after-place-requires-clause-line c =
    let start = c.earlier-start.result in
    let small = ap (λ p. p.line) c.earlier-start.ensures.reached.place in
    let few = small_line c.args.text.now start.at in
    let within = length-take (c.min-end.result - start.at) (drop start.at c.args.text.now) in
    let short = length-drop start.at c.args.text.now in
    let most = c.requires.few in
    omega (arith, small, few, within, short, most, c.earlier-start.ensures.reached.within)

pub place_after-place-requires-clause-column : goal.place_after-place-requires-clause-column
place_after-place-requires-clause-column c =
    let start = c.earlier-start.result in
    let small = ap (λ p. p.column) c.earlier-start.ensures.reached.place in
    let few = small_column c.args.text.now start.at in
    let within = length-take (c.min-end.result - start.at) (drop start.at c.args.text.now) in
    let short = length-drop start.at c.args.text.now in
    let most = c.requires.few in
    omega (arith, small, few, within, short, most, c.earlier-start.ensures.reached.within)

pub returns-clause-reached : goal.returns-clause-reached
returns-clause-reached c =
    let start = c.earlier-start.result in
    record {
      place =
          c.place_after-place.ensures
          ∙ ap (λ p. place_after p (take (c.min-end.result - start.at) (drop start.at c.args.text.now))) c.earlier-start.ensures.reached.place
          ∙ place_on c.args.text.now start.at c.min-end.result c.earlier-start.ensures.earlier;
      within = omega arith;
    }

pub returns-clause-place : goal.returns-clause-place
returns-clause-place c =
    let start = c.earlier-start.result in
    c.place_after-place.ensures
    ∙ ap (λ p. place_after p (take (c.min-end.result - start.at) (drop start.at c.args.text.now))) c.earlier-start.ensures.reached.place
    ∙ place_on c.args.text.now start.at c.min-end.result c.earlier-start.ensures.earlier
    ∙ ap (λ n. place_of c.args.text.now n) c.min-end.ensures ∙ place_min c.args.text.now c.args.at
