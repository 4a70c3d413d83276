use Rattle.std.proofs.Common.{◌≡◌, ◌++◌, ◌∷◌, [], false, refl, sym, ap, ◌∙◌, length}
use Rattle.rtrb.specs.Ring.{received}
use Rattle.xb_flow.specs.declared.flow.Flow.TheVariants.{Item, End}
use Rattle.xb_flow.specs.Flows.{has_end, counted}
use Rattle.xb_flow.proofs.Flows.{has_end-item, has_end-end, items_of-end, count_more}
use Rattle.xb_posts.specs.TapeStations.{has_ended}
use Rattle.xb_posts.proofs.TapeStations.{tape_law-lost}
use Rattle.xb_posts.proofs.tape_station.TapeStation.drop_next.Goals as goal

pub invariant_of-self : goal.invariant_of-self
invariant_of-self c =
    let i = c.self.inside in
    let ins = received i.consumer in
    let x = c.in-Ok-Item.field-0-0 in
    let going : has_end ins ≡ false = ap has_ended c.self.view_is ∙ c.requires in
    let e : received c.pop.new.self ≡ ins ++ Item x ∷ [] = (rw c.in-Ok-Item.field-0-is at c.in-Ok-Item.ensures.ok).0 in (
      tape_law-lost _ _ c.self.invariant.0 going (Item x) e refl,
      ap has_end e ∙ has_end-item ins x going ∙ sym (sym c.self.invariant.1 ∙ going),
      rw e (c.saturating_add-self-inside.ensures ∙ count_more ins (Item x) going i.taken c.self.invariant.2),
    )

pub invariant_of-self-in-Ok-End : goal.invariant_of-self-in-Ok-End
invariant_of-self-in-Ok-End c =
    let i = c.self.inside in
    let ins = received i.consumer in
    let going : has_end ins ≡ false = ap has_ended c.self.view_is ∙ c.requires in
    let e : received c.pop.new.self ≡ ins ++ End ∷ [] = (rw c.in-Ok-End.field-0-is at c.in-Ok-End.ensures.ok).0 in (
      tape_law-lost _ _ c.self.invariant.0 going End e refl,
      ap has_end e ∙ has_end-end ins going,
      rw e (c.self.invariant.2 ∙ ap (λ xs. counted (length xs)) (sym (items_of-end ins going))),
    )

pub returns-in-Ok-Item-clause-lawful : goal.returns-in-Ok-Item-clause-lawful
returns-in-Ok-Item-clause-lawful c = (invariant_of-self c).0

pub returns-in-Ok-Item-clause-ended : goal.returns-in-Ok-Item-clause-ended
returns-in-Ok-Item-clause-ended c =
    let ins = received c.self.inside.consumer in
    let going : has_end ins ≡ false = ap has_ended c.self.view_is ∙ c.requires in
    let e : received c.pop.new.self ≡ ins ++ Item c.in-Ok-Item.field-0-0 ∷ [] = (rw c.in-Ok-Item.field-0-is at c.in-Ok-Item.ensures.ok).0 in
    ap has_end e ∙ has_end-item ins c.in-Ok-Item.field-0-0 going

pub returns-in-Ok-End-clause-lawful : goal.returns-in-Ok-End-clause-lawful
returns-in-Ok-End-clause-lawful c = (invariant_of-self-in-Ok-End c).0

pub returns-in-Ok-End-clause-ended : goal.returns-in-Ok-End-clause-ended
returns-in-Ok-End-clause-ended c = (invariant_of-self-in-Ok-End c).1
