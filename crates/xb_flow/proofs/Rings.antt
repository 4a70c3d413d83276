-- Places in a list, and looks at the two ends of rings.
use Rattle.std.proofs.Common.{◌≡◌, ℕ, zero, suc, ◌<◌, List, [], ◌∷◌, length, map, get_or, refl, sym, ap, ◌∙◌, subst, ⊎_elim, arith}
use Rattle.std.specs.List.{HoldsAt}
use Rattle.std.proofs.lemmas.Bool.{cases_eq}
use Rattle.rtrb.specs.declared.producer.Producer.{Producer}
use Rattle.rtrb.specs.declared.consumer.Consumer.{Consumer}
use Rattle.rtrb.specs.Ring.{received, IsPair, SameProducer, SameConsumer}
use Rattle.xb_flow.specs.Rings.{ConsumerLookedAt}

-- what holds at a place of a list of one holds of the one
pub only_one : {X : Type 0} (P : X → Type 0) (x : X) (j : ℕ) → (j < length (x ∷ [])) × HoldsAt P (x ∷ []) j → P x
only_one P x zero h = h.1 x
only_one P x (suc j) h = absurd (omega arith)

-- lists that agree in f at each place
pub map_same : {X Y : Type 0} (f : X → Y) (xs ys : List X) → length ys ≡ length xs → ((j : ℕ) (d : X) → j < length xs → f (get_or ys j d) ≡ f (get_or xs j d)) → map f ys ≡ map f xs
map_same f [] [] e h = refl
map_same f [] (y ∷ ys) e h = absurd (omega (arith, e))
map_same f (x ∷ xs) [] e h = absurd (omega (arith, e))
map_same f (x ∷ xs) (y ∷ ys) e h =
    let n : length ys ≡ length xs = omega (arith, e) in
    ap (λ z. z ∷ map f ys) (h 0 x (omega arith)) ∙ ap (λ zs. f x ∷ zs) (map_same f xs ys n (λ j d k. h (suc j) d (omega arith)))

module _ {T A P : Type 0} where
  -- a look takes nothing
  pub received_looked : (cs : List (Consumer T A P)) (k : ℕ) (ds : List (Consumer T A P)) → ConsumerLookedAt cs k ds → map received ds ≡ map received cs
  received_looked cs k ds l =
      map_same received cs ds l.0 (λ j d h. ⊎_elim (λ e. subst (λ i. received (get_or ds i d) ≡ received (get_or cs i d)) (sym e) (l.1 d).1) (λ other. ap received (l.2 j d other)) (cases_eq j k))

  -- ends that are the same are still those of one ring
  pub pair_kept : (p q : Producer T A P) (c d : Consumer T A P) → SameProducer p q → SameConsumer c d → IsPair p c → IsPair q d
  pair_kept p q c d h k e = (k.0.0 ∙ (e.0 ∙ sym h.0.0), k.0.1 ∙ (e.1 ∙ sym h.0.1), k.0.2 ∙ (e.2 ∙ sym h.0.2), k.0.3 ∙ (e.3 ∙ sym h.0.3))

  -- one step after another
  pub producer_on : (a b c : Producer T A P) → SameProducer a b → SameProducer b c → SameProducer a c
  producer_on a b c h k = ((k.0.0 ∙ h.0.0, k.0.1 ∙ h.0.1, k.0.2 ∙ h.0.2, k.0.3 ∙ h.0.3), k.1 ∙ h.1)
