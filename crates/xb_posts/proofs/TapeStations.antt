-- The tapes, from one received mark to the next.
use Rattle.std.proofs.Common.{◌≡◌, ◌<◌, true, false, List, [], ◌∷◌, ◌++◌, set, sym, ap, ◌∙◌, subst}
use Rattle.std.proofs.lemmas.Bool.{false≢true}
use Rattle.rtrb.specs.Ring.{received}
use Rattle.xb_model.specs.declared.line.TheConstants.{LINES}
use Rattle.xb_model.specs.declared.on.On.{On}
use Rattle.xb_model.specs.declared.mark.Mark.{Mark}
use Rattle.xb_model.specs.Tapes.{marks_at}
use Rattle.xb_flow.specs.declared.flow.Flow.{Flow}
use Rattle.xb_flow.specs.declared.flow.Flow.TheVariants.{Item, End}
use Rattle.xb_flow.specs.Flows.{items_of, has_end, IsFlow}
use Rattle.xb_flow.proofs.Flows.{items_of-item, items_of-end, IsFlow-more}
use Rattle.xb_tape.specs.GatheredMarks.{AreTapes}
use Rattle.xb_tape.proofs.MarksInOrder.{are_tapes-more}
use Rattle.xb_posts.specs.TapeStations.{TapeOf, TapeLaw}

-- a look at the first known item, and a pop of it, give the same
pub popped : {X : Type 0} (x y : X) (rest known known' : List X) → (x ∷ []) ++ rest ≡ known → known ≡ y ∷ known' → x ≡ y
popped x y rest known known' a b = cc

module _ {A P : Type 0} (old new : TapeOf A P) (law : TapeLaw old) (going : has_end (received old.consumer) ≡ false) where
  -- an item or the End was received and dropped
  pub tape_law-lost : (x : Flow (On Mark)) → received new.consumer ≡ received old.consumer ++ x ∷ [] → new.lost ≡ true → TapeLaw new
  tape_law-lost x takes lost = record {
    formed = subst IsFlow (sym takes) (IsFlow-more (received old.consumer) x going law.formed);
    marks = λ kept. absurd (false≢true (sym kept ∙ lost));
  }

  -- a mark was put on its line's tape
  pub tape_law-mark : (mark : On Mark) → received new.consumer ≡ received old.consumer ++ Item mark ∷ [] → new.lost ≡ old.lost → mark.line < LINES
      → new.tapes ≡ set old.tapes mark.line (marks_at old.tapes mark.line ++ mark.what ∷ []) → TapeLaw new
  tape_law-mark mark takes same below put = record {
    formed = subst IsFlow (sym takes) (IsFlow-more (received old.consumer) (Item mark) going law.formed);
    marks = λ kept.
        subst (AreTapes new.tapes) (sym (ap items_of takes ∙ items_of-item (received old.consumer) mark going))
        (are_tapes-more old.tapes new.tapes (items_of (received old.consumer)) mark (law.marks (sym same ∙ kept)) below put);
  }

  -- the End was received
  pub tape_law-end : received new.consumer ≡ received old.consumer ++ End ∷ [] → new.lost ≡ old.lost → new.tapes ≡ old.tapes → TapeLaw new
  tape_law-end takes same kept_tapes = record {
    formed = subst IsFlow (sym takes) (IsFlow-more (received old.consumer) End going law.formed);
    marks = λ kept.
        subst (λ tapes. AreTapes tapes (items_of (received new.consumer))) (sym kept_tapes)
        (subst (AreTapes old.tapes) (sym (ap items_of takes ∙ items_of-end (received old.consumer) going)) (law.marks (sym same ∙ kept)));
  }
