use Rattle.std.proofs.Common.{◌≡◌, ◌∙◌, ◌∷◌, [], ap, sym, refl, length, map, take, append-nil, arith}
use Rattle.std.specs.Option.{option_to_list}
use Rattle.xb_model.specs.Keyings.{marks_of}
use Rattle.xb_model.specs.Routing.{order_of}
use Rattle.xb_structs.specs.Giving.{marks_of_outcomes}
use Rattle.xb_structs.specs.Marks.{mark_on}
use Rattle.xb_structs.proofs.entry.give.Goals as goal

pub returns-else-len-room-clause-gives : goal.returns-else-len-room-clause-gives
returns-else-len-room-clause-gives c = λ all are.
    let order = order_of all c.in-Some.dialled in
    let one : option_to_list c.args.outcome ≡ c.in-Some.dialled ∷ [] = ap (λ o. option_to_list o) c.in-Some.is in
    let marks : c.deref.result.now ≡ marks_of order = c.deref.ensures.0 ∙ c.marks_of-marks.ensures ∙ ap marks_of (c.order_of.ensures all are) in
    let count : c.len-count.result ≡ length c.deref.result.now = c.len-count.ensures.value ∙ sym (ap length c.deref.ensures.0) in
    record {
      state = refl;
      marks = ap (λ n. take n c.put_marks.new.room) count ∙ c.put_marks.ensures.written
          ∙ ap (map (mark_on c.args.number)) (marks ∙ sym (append-nil (marks_of order)) ∙ ap (marks_of_outcomes all) (sym one));
      entries = omega (arith, c.saturating_add.ensures, ap length one);
    }

pub returns-in_default-clause-gives : goal.returns-in_default-clause-gives
returns-in_default-clause-gives c = λ all are.
    let none : option_to_list c.args.outcome ≡ [] = ap (λ o. option_to_list o) c.in_default.is in
    record {
      state = refl;
      marks = ap (λ outcomes. map (mark_on c.args.number) (marks_of_outcomes all outcomes)) (sym none);
      entries = omega (arith, ap length none);
    }
