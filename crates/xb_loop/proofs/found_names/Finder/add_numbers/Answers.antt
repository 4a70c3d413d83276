use Rattle.std.proofs.Common.{◌≡◌, ◌+◌, ◌-◌, decimal, ap, ◌∙◌, arith, rules, string_bytes}
use Rattle.xb_loop.specs.Names.{all_added, name_added, named_in}
use Rattle.xb_loop.specs.Wires.{numbers_from}
use Rattle.xb_loop.proofs.FoundNames.{numbers_next}
use Rattle.xb_loop.proofs.found_names.Finder.add_numbers.Goals as goal

pub loop-number-preserved : goal.loop-number-preserved
loop-number-preserved c =
    let number = c.loop-number.number-counter in
    let end = c.args.first + c.args.count in
    let name : string_bytes c.in_ok-format.field-0 ≡ decimal number = search rules in
    ap (λ found. all_added found (numbers_from (number + 1) (end - (number + 1))))
    (c.in_ok-add.ensures ∙ ap (name_added (named_in c.loop-number.self.found)) name)
    ∙ numbers_next (named_in c.loop-number.self.found) number end (omega (arith, c.loop-number-test.true))
    ∙ c.loop-number.invariant
