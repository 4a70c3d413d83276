-- Branches, one after another.
use Rattle.std.proofs.Common.{◌≡◌, ℕ, ◌+◌, ◌<◌, List, [], ◌∷◌, ◌++◌, length, get_or, refl, sym, ap, ◌∙◌, subst, length-append, arith}
use Rattle.rtrb.specs.Ring.{sent, received, producer_capacity}
use Rattle.xb_model.specs.declared.mark.Mark.{Mark}
use Rattle.xb_model.specs.declared.on.On.{On}
use Rattle.xb_model.specs.declared.order.Order.{Order}
use Rattle.xb_flow.specs.Rings.{IsRing}
use Rattle.xb_run.specs.Laws.{SenderLaw}
use Rattle.xb_run.specs.Rings.{AreBranches}
use Rattle.xb_run.specs.Posts.{IsBlankStation, Input, Output, SenderPost}
use Rattle.xb_run.proofs.Pushes.{push-here, push-before, each-push}

-- no branch
pub branches-none : (ring : ℕ) → AreBranches 0 ring [] [] []
branches-none ring = record {
  outputs_len = refl;
  senders_len = refl;
  inputs_len = refl;
  dealt = λ j p s h. absurd (omega arith);
  gathered = λ j s c h. absurd (omega arith);
  dealt_room = λ j p h. absurd (omega arith);
  gathered_room = λ j s h. absurd (omega arith);
  blank_outputs = λ j p h. absurd (omega arith);
  blank_senders = λ j s h. absurd (omega arith);
  lawful_senders = λ j s h. absurd (omega arith);
  blank_inputs = λ j c h. absurd (omega arith);
}

module _ (n ring : ℕ) (ps : List (Output (On Order))) (ss : List SenderPost) (cs : List (Input (On Mark))) (b : AreBranches n ring ps ss cs)
    (p : Output (On Order)) (s : SenderPost) (c : Input (On Mark)) (dealt : IsRing p s.consumer) (gathered : IsRing s.producer c)
    (room_p : producer_capacity p ≡ ring) (room_s : producer_capacity s.producer ≡ ring)
    (blank_p : sent p ≡ []) (blank_s : IsBlankStation s) (lawful_s : SenderLaw s) (blank_c : received c ≡ []) where
  more-outputs : (q : Output (On Order)) → IsRing (get_or (ps ++ p ∷ []) (length ss) q) s.consumer
  more-outputs q =
      subst (λ m. IsRing (get_or (ps ++ p ∷ []) m q) s.consumer) (b.outputs_len ∙ sym b.senders_len) (subst (λ o. IsRing o s.consumer) (sym (push-here ps p q)) dealt)

  more-inputs : (x : Input (On Mark)) → IsRing s.producer (get_or (cs ++ c ∷ []) (length ss) x)
  more-inputs x =
      subst (λ m. IsRing s.producer (get_or (cs ++ c ∷ []) m x)) (b.inputs_len ∙ sym b.senders_len) (subst (IsRing s.producer) (sym (push-here cs c x)) gathered)

  pub branch-more : AreBranches (n + 1) ring (ps ++ p ∷ []) (ss ++ s ∷ []) (cs ++ c ∷ [])
  branch-more =
      let in_ps : (i : ℕ) → i < length ss → i < length ps = λ i h. subst (λ m. i < m) (b.senders_len ∙ sym b.outputs_len) h in
      let in_cs : (i : ℕ) → i < length ss → i < length cs = λ i h. subst (λ m. i < m) (b.senders_len ∙ sym b.inputs_len) h in
      record {
        outputs_len = length-append ps (p ∷ []) ∙ ap (λ m. m + 1) b.outputs_len;
        senders_len = length-append ss (s ∷ []) ∙ ap (λ m. m + 1) b.senders_len;
        inputs_len = length-append cs (c ∷ []) ∙ ap (λ m. m + 1) b.inputs_len;
        dealt = λ j q z h.
            each-push (λ i (v : SenderPost). (o : Output (On Order)) → IsRing (get_or (ps ++ p ∷ []) i o) v.consumer) ss s more-outputs
            (λ i v k o. subst (λ w. IsRing w (get_or ss i v).consumer) (sym (push-before ps p i o (in_ps i k))) (b.dealt i o v k)) j z h q;
        gathered = λ j z x h.
            each-push (λ i (v : SenderPost). (y : Input (On Mark)) → IsRing v.producer (get_or (cs ++ c ∷ []) i y)) ss s more-inputs
            (λ i v k y. subst (IsRing (get_or ss i v).producer) (sym (push-before cs c i y (in_cs i k))) (b.gathered i v y k)) j z h x;
        dealt_room = each-push (λ i (o : Output (On Order)). producer_capacity o ≡ ring) ps p room_p b.dealt_room;
        gathered_room = each-push (λ i (v : SenderPost). producer_capacity v.producer ≡ ring) ss s room_s b.gathered_room;
        blank_outputs = each-push (λ i (o : Output (On Order)). sent o ≡ []) ps p blank_p b.blank_outputs;
        blank_senders = each-push (λ i (v : SenderPost). IsBlankStation v) ss s blank_s b.blank_senders;
        lawful_senders = each-push (λ i (v : SenderPost). SenderLaw v) ss s lawful_s b.lawful_senders;
        blank_inputs = each-push (λ i (y : Input (On Mark)). received y ≡ []) cs c blank_c b.blank_inputs;
      }
