-- What keeps the states of all lines, and what is sent with them.
use Rattle.std.proofs.Common.{◌≡◌, ℕ, ◌<◌, eqb, List, [], ◌∷◌, ◌++◌, get_or, set, length, sym, ap, ◌∙◌, eq-eqb}
use Rattle.std.specs.List.{All}
use Rattle.xb_model.specs.declared.line.TheConstants.{LINES}
use Rattle.xb_model.proofs.LineValues.{AreValues-same, AreValues-set}
use Rattle.xb_model.specs.Image.{Machine, state_after, image}
use Rattle.xb_model.specs.States.{AreStates}
use Rattle.xb_model.proofs.Images.{state_after-none, state_after-here, state_after-other, image-push}

-- what stands at the place of an item's line
pub state_held : {I O S : Type 0} (line : I → ℕ) (m : Machine I O S) (earlier : List I) (x : I) (states : List S) (k : ℕ) (before : S) → AreStates line m states earlier → k < LINES → k ≡ line x → before ≡ get_or states k before → before ≡ state_after line m earlier (line x)
state_held line m earlier x states k before are below on held = held ∙ are k before below ∙ ap (state_after line m earlier) on

module _ {I O S : Type 0} (line : I → ℕ) (m : Machine I O S) (earlier : List I) (x : I) (before : S) (is : before ≡ state_after line m earlier (line x)) where
  -- where an item's line gets its next state, the states are those after one item more
  pub states_more : (states : List S) (k : ℕ) (after : S) → AreStates line m states earlier → length states ≡ LINES → k < LINES → k ≡ line x → after ≡ m.next before x → AreStates line m (set states k after) (earlier ++ x ∷ [])
  states_more states k after are lines below on next =
      AreValues-set states _ _ k after are lines below
      (next ∙ ap (λ q. m.next q x) (is ∙ ap (state_after line m earlier) (sym on)) ∙ sym (state_after-here line m earlier x k (eq-eqb _ _ (sym on))))
      (λ l f. state_after-other line m earlier x l (ap (λ i. eqb i l) (sym on) ∙ f))

  -- with what is sent for the item at its end, an image is that of one item more
  pub image_more : (all sent all' : List O) → all ≡ image line m earlier → sent ≡ m.outs before x → all' ≡ all ++ sent → all' ≡ image line m (earlier ++ x ∷ [])
  image_more all sent all' whole sends joined =
      joined ∙ ap (λ front. front ++ sent) whole ∙ ap (λ back. image line m earlier ++ back) (sends ∙ ap (λ q. m.outs q x) is) ∙ sym (image-push line m earlier x)

-- before the first item each line has the state at first
pub states_fresh : {I O S : Type 0} (line : I → ℕ) (m : Machine I O S) (states : List S) → length states ≡ LINES → All (λ q. q ≡ m.start) states → AreStates line m states []
states_fresh line m states lines fresh =
    λ l fallback h. AreValues-same states m.start lines fresh l fallback h ∙ sym (state_after-none line m l)
