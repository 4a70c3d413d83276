use Rattle.std.proofs.Common.{◌≡◌, ◌∙◌, Some, [], ap, codes, eqb-true, inr, map, refl, sym}
use Rattle.std.specs.Prelude.{option_map}
use Rattle.std.specs.Borrow.{Bor}
use Rattle.std.proofs.lemmas.List.{nil_from_length}
use Rattle.std.proofs.lemmas.Slice.Eq.{bytes_eq-Decides}
use Rattle.clap.specs.Walk.{Text, first_of}
use Rattle.xb_route.proofs.words.request_of.Goals as goal

pub returns-then-is_empty-clause-nothing : goal.returns-then-is_empty-clause-nothing
returns-then-is_empty-clause-nothing c =
    let rows = c.args.words.now in
    let numbers = c.in-Ok.numbers in
    let named : first_of (codes "TABLE") rows ≡ Some c.in-Some.table.now =
    sym c.text.ensures ∙ ap (option_map (λ (t : Bor Text). t.now)) c.in-Some.is in
    let is : c.in-Some.table.now ≡ codes "-" = (bytes_eq-Decides _ _).0 (sym c.eq.ensures ∙ c.if-eq.true) in
    let none : numbers.items ≡ [] =
    nil_from_length numbers.items (sym numbers.ok.0 ∙ eqb-true _ _ (sym c.if-is_empty.ensures)) in
    inr (record {
      table = named ∙ ap Some is;
      numbers = sym c.in-Ok.ensures ∙ ap (map (λ (word : Bor Text). word.now)) none;
      option = refl;
      value = refl;
    })
