use Rattle.std.proofs.Common.{◌≡◌, ◌++◌, ◌∷◌, [], false, refl, sym, ap, ◌∙◌, length}
use Rattle.rtrb.specs.Ring.{received}
use Rattle.xb_flow.specs.declared.flow.Flow.TheVariants.{Item, End}
use Rattle.xb_flow.specs.Flows.{has_end, counted}
use Rattle.xb_flow.proofs.Flows.{has_end-item, has_end-end, items_of-end, count_more}
use Rattle.xb_posts.proofs.TapeStations.{popped, tape_law-mark, tape_law-end}
use Rattle.xb_posts.proofs.tape_station.TapeStation.turn.Goals as goal

pub invariant_of-self-in-Item : goal.invariant_of-self-in-Item
invariant_of-self-in-Item c =
    let i = c.self.inside in
    let ins = received i.consumer in
    let x = c.in-Item.mark in
    let going : has_end ins ≡ false = c.self.invariant.1 ∙ c.if-self.false in
    let j = c.pop_known.ensures.received in
    let e : received c.pop_known.new.self ≡ ins ++ Item x ∷ [] =
    j.0
    ∙ ap (λ zs. zs ++ c.pop_known.result ∷ []) c.is_empty.ensures.looked.1
    ∙ ap (λ y. ins ++ y ∷ []) (sym (popped _ _ _ _ _ c.peek_known.ensures.1 j.1) ∙ c.in-Item.is) in (
      tape_law-mark _ _ c.self.invariant.0 going x e refl c.push.ensures.line c.in_ok-push-in-Item.ensures.ok,
      ap has_end e ∙ has_end-item ins x going ∙ sym c.if-self.false,
      rw e (c.saturating_add-self-inside.ensures ∙ count_more ins (Item x) going i.taken c.self.invariant.2),
    )

pub returns-in_ok-push-in-Item-clause-lawful : goal.returns-in_ok-push-in-Item-clause-lawful
returns-in_ok-push-in-Item-clause-lawful c = (invariant_of-self-in-Item c).0

pub invariant_of-self-in-End : goal.invariant_of-self-in-End
invariant_of-self-in-End c =
    let i = c.self.inside in
    let ins = received i.consumer in
    let going : has_end ins ≡ false = c.self.invariant.1 ∙ c.if-self.false in
    let j = c.pop_known-in-End.ensures.received in
    let e : received c.pop_known-in-End.new.self ≡ ins ++ End ∷ [] =
    j.0
    ∙ ap (λ zs. zs ++ c.pop_known-in-End.result ∷ []) c.is_empty.ensures.looked.1
    ∙ ap (λ y. ins ++ y ∷ []) (sym (popped _ _ _ _ _ c.peek_known.ensures.1 j.1) ∙ c.in-End.is) in (
      tape_law-end _ _ c.self.invariant.0 going e refl refl,
      ap has_end e ∙ has_end-end ins going,
      rw e (c.self.invariant.2 ∙ ap (λ xs. counted (length xs)) (sym (items_of-end ins going))),
    )

pub returns-in-End-clause-lawful : goal.returns-in-End-clause-lawful
returns-in-End-clause-lawful c = (invariant_of-self-in-End c).0
