-- What keeps the law of a deal.
use Rattle.std.proofs.Common.{min, ◌^◌, ◌↔◌, ◌≡◌, ℕ, ◌+◌, ◌-◌, ◌*◌, ◌/◌, ◌%◌, ◌<◌, ◌≤◌, Bool, true, false, cond, eqb, ltb, List, [], ◌∷◌, ◌++◌, map, length, get_or, refl, sym, ap, ◌∙◌, subst, ⊎_elim, arith, append-nil, append_assoc, ne_eqb, lt-ltb, le-ltb, length-append, add-zero, rules, tests}
use Rattle.std.proofs.lemmas.Bool.{cases_lt, cond-true, cond-false}
use Rattle.std.proofs.lemmas.Bool.Decides.{nat_tests}
use Rattle.std.proofs.lemmas.List.{map-append, append_cancel_right}
use Rattle.std.proofs.lemmas.Nat.{mod-mul-add, mod_below, div-add-mod'}
use Rattle.std.specs.List.{All}
use Rattle.rtrb.specs.declared.producer.Producer.{Producer}
use Rattle.rtrb.specs.declared.consumer.Consumer.{Consumer}
use Rattle.rtrb.specs.Ring.{sent, received, SameProducer, ProducerLooked}
use Rattle.std.specs.declared.vec.Vec.{Vec}
use Rattle.std.specs.Vec.{vec_len}
use Rattle.xb_flow.specs.declared.flow.Flow.{Flow}
use Rattle.xb_flow.specs.declared.flow.Flow.TheVariants.{Item, End}
use Rattle.xb_branches.specs.declared.held.Held.{Held}
use Rattle.xb_branches.specs.declared.held.Held.TheVariants.{Nothing, One, Ends, Over}
use Rattle.xb_flow.specs.Flows.{items_of, has_end, flow_of, IsFlow, counted}
use Rattle.xb_branches.specs.Dealt.{dealt_from, dealt}
use Rattle.xb_flow.proofs.Rings.{producer_on}
use Rattle.xb_branches.specs.DealSteps.{CanSend, holding_of, place_of, next_place, released, left_of}
use Rattle.xb_branches.specs.Deals.{DealOf, DealLaw, IsDealTurn, held_for, IsPlace, SendsAt}
use Rattle.xb_flow.specs.declared.turn.Turn.{Turn}
use Rattle.xb_flow.specs.declared.turn.Turn.TheVariants.{Idle, Blocked, Moved, Ended}
use Rattle.xb_flow.proofs.Flows.{items_of-item, items_of-end, has_end-item, has_end-end, has_end-flow, flow-whole, IsFlow-item, IsFlow-end, count_more}
use Rattle.xb_branches.specs.declared.branches.TheConstants.{MOST_BRANCHES}

-- ---- items dealt in turn
cond_push : {X : Type 0} (b : Bool) (y : X) (xs ys : List X) → cond b (y ∷ (xs ++ ys)) (xs ++ ys) ≡ cond b (y ∷ xs) xs ++ ys
cond_push true y xs ys = refl
cond_push false y xs ys = refl

module _ {X : Type 0} (n j : ℕ) where
  dealt_from-push : (k : ℕ) (xs : List X) (x : X) → dealt_from n j k (xs ++ x ∷ []) ≡ dealt_from n j k xs ++ cond (eqb ((k + length xs) % n) j) (x ∷ []) []
  unfolding dealt_from
  dealt_from-push k [] x = rw (add-zero k) refl
  dealt_from-push k (y ∷ xs) x =
      let rest : dealt_from n j (k + 1) (xs ++ x ∷ []) ≡ dealt_from n j (k + 1) xs ++ cond (eqb ((k + length (y ∷ xs)) % n) j) (x ∷ []) [] =
      dealt_from-push (k + 1) xs x ∙ ap (λ i. dealt_from n j (k + 1) xs ++ cond (eqb (i % n) j) (x ∷ []) []) (omega arith) in
      ap (λ zs. cond (eqb (k % n) j) (y ∷ zs) zs) rest ∙ cond_push (eqb (k % n) j) y (dealt_from n j (k + 1) xs) _

  pub dealt-push : (xs : List X) (x : X) → dealt n j (xs ++ x ∷ []) ≡ dealt n j xs ++ cond (eqb (length xs % n) j) (x ∷ []) []
  dealt-push xs x = dealt_from-push 0 xs x ∙ ap (λ i. dealt n j xs ++ cond (eqb (i % n) j) (x ∷ []) []) (omega arith)

  pub dealt-none : dealt {X = X} n j [] ≡ []
  unfolding dealt_from
  dealt-none = refl

-- ---- places
-- the place after that of the last of count items
pub next_place-count : (n count place : ℕ) → 0 < n → 0 < count → place ≡ (count - 1) % n → next_place n place ≡ count % n
next_place-count n count place some more is =
    let q = (count - 1) / n in
    let r = (count - 1) % n in
    let below : r < n = mod_below (count - 1) n some in
    let whole : q * n + r ≡ count - 1 = div-add-mod' (count - 1) n in
    ⊎_elim
    (λ (h : place + 1 < n). cond-true (ltb (place + 1) n) (place + 1) 0 (search (rules, tests)) ∙ sym (ap (λ m. m % n) (let e : count ≡ q * n + (place + 1) = omega arith in e) ∙ mod-mul-add q n (place + 1) h))
    (λ (h : n ≤ place + 1). cond-false (ltb (place + 1) n) (place + 1) 0 (search (rules, tests)) ∙ sym (ap (λ m. m % n) (let e : count ≡ (q + 1) * n + 0 = grind arith in e) ∙ mod-mul-add (q + 1) n 0 some))
    (cases_lt (place + 1) n)

-- what is held for an output of what was taken
taken_for : {T : Type 0} (y : Flow T) (place j : ℕ) → List (Flow T)
taken_for y place j = held_for (holding_of y) (place_of y place) j

-- what an End leaves to be sent
ends_left : {T : Type 0} (n place j : ℕ) → place < n → j < n
    → cond {A = List (Flow T)} (eqb place j) (End ∷ []) [] ++ held_for (left_of Ends (eqb (next_place n place) 0)) (next_place n place) j ≡ held_for Ends place j
ends_left n place j h k =
    ⊎_elim
    (λ (more : place + 1 < n).
    let e : next_place n place ≡ place + 1 = cond-true (ltb (place + 1) n) (place + 1) 0 (lt-ltb (place + 1) n more) in
    let f : eqb (place + 1) 0 ≡ false = ne_eqb (place + 1) 0 (λ z. absurd (omega (arith, z))) in
    rw (e, f) (grind (arith, nat_tests)))
    (λ (last : n ≤ place + 1).
    let e : next_place n place ≡ 0 = cond-false (ltb (place + 1) n) (place + 1) 0 (le-ltb (place + 1) n last) in
    rw e (grind (arith, nat_tests)))
    (cases_lt (place + 1) n)

map_cond : {T : Type 0} (b : Bool) (x : T) → cond b (Item x ∷ []) [] ≡ map Item (cond b (x ∷ []) [])
map_cond true x = refl
map_cond false x = refl

below_by : {T : Type 0} (n place count : ℕ) (ended : Bool) → 0 < n → (held : Held T) → IsPlace held place n count ended → CanSend held → place < n
below_by n place count ended some Nothing at can = absurd can
below_by n place count ended some (One x) at can = subst (λ m. m < n) (sym at.2) (mod_below (count - 1) n some)
below_by n place count ended some Ends at can = at.1
below_by n place count ended some Over at can = absurd can

next_below : (n place : ℕ) → 0 < n → next_place n place < n
next_below n place some =
    ⊎_elim
    (λ h. subst (λ m. m < n) (sym (cond-true (ltb (place + 1) n) (place + 1) 0 (lt-ltb _ _ h))) h)
    (λ h. subst (λ m. m < n) (sym (cond-false (ltb (place + 1) n) (place + 1) 0 (le-ltb _ _ h))) some)
    (cases_lt (place + 1) n)

ends_at : (T : Type 0) (place n count : ℕ) (ended b : Bool) → ended ≡ true → place < n → IsPlace (left_of {T = T} Ends b) place n count ended
ends_at T place n count ended true h k = h
ends_at T place n count ended false h k = (h, k)

-- a look at every output, and then a push at one
pub looked_and_sent : {T A Q Z : Type 0} (us vs ws : Vec (Producer T A Q) Z) (place : ℕ) (y : T)
    → vec_len vs ≡ vec_len us → ((j : ℕ) (p : Producer T A Q) → j < vec_len us → ProducerLooked (get_or us.items j p) (get_or vs.items j p))
    → vec_len ws ≡ vec_len vs → ((j : ℕ) (p : Producer T A Q) → j < vec_len vs → SameProducer (get_or vs.items j p) (get_or ws.items j p))
    → ((j : ℕ) (p : Producer T A Q) → j < vec_len vs → sent (get_or ws.items j p) ≡ sent (get_or vs.items j p) ++ cond (eqb place j) (y ∷ []) [])
    → SendsAt us.items place (y ∷ []) ws.items
looked_and_sent us vs ws place y e looked f same sends = (
  sym ws.ok.0 ∙ (f ∙ (e ∙ us.ok.0)),
  λ j p h.
      let below : j < vec_len us = subst (λ n. j < n) (sym us.ok.0) h in
      let below' : j < vec_len vs = subst (λ n. j < n) (sym e) below in
      (producer_on (get_or us.items j p) (get_or vs.items j p) (get_or ws.items j p) (looked j p below).0 (same j p below'), sends j p below' ∙ ap (λ zs. zs ++ cond (eqb place j) (y ∷ []) []) (looked j p below).1),
)

module _ {T A P Q : Type 0} (c : Consumer (Flow T) A P) (ps : List (Producer (Flow T) A Q)) (held : Held T) (place : ℕ)
    (d : DealLaw (record { consumer = c; producers = ps; held = held; place = place })) where
  -- with nothing held, each output has its items
  open_at : held ≡ Nothing → (j : ℕ) (p : Producer (Flow T) A Q) → j < length ps → sent (get_or ps j p) ≡ map Item (dealt (length ps) j (items_of (received c)))
  open_at e j p h =
      let at = subst (λ z. IsPlace z place (length ps) (length (items_of (received c))) (has_end (received c))) e d.at in
      sym (append-nil _) ∙ ap (λ z. sent (get_or ps j p) ++ held_for z place j) (sym e) ∙ d.law j p h ∙ ap (flow_of (dealt (length ps) j (items_of (received c)))) at.0 ∙ append-nil _

  taken_law : held ≡ Nothing → (y : Flow T) (j : ℕ) (p : Producer (Flow T) A Q) → j < length ps
      → sent (get_or ps j p) ++ held_for (holding_of y) (place_of y place) j ≡ flow_of (dealt (length ps) j (items_of (received c ++ y ∷ []))) (has_end (received c ++ y ∷ []))
  taken_law e (Item x) j p h =
      let xs = items_of (received c) in
      let n = length ps in
      let at = subst (λ z. IsPlace z place n (length xs) (has_end (received c))) e d.at in
      rw (items_of-item (received c) x at.0, has_end-item (received c) x at.0, dealt-push n j xs x, map-append Item (dealt n j xs) (cond (eqb (length xs % n) j) (x ∷ []) []), open_at e j p h, at.1)
      (ap (λ zs. map Item (dealt n j xs) ++ zs) (map_cond (eqb (length xs % n) j) x) ∙ sym (append-nil _))
  taken_law e End j p h =
      let at = subst (λ z. IsPlace z place (length ps) (length (items_of (received c))) (has_end (received c))) e d.at in
      rw (items_of-end (received c) at.0, has_end-end (received c) at.0, open_at e j p h) (ap (λ zs. map Item (dealt (length ps) j (items_of (received c))) ++ zs) (cond-false (ltb j 0) [] (End ∷ []) (le-ltb j 0 (omega arith))))

  taken_at : held ≡ Nothing → (y : Flow T) → IsPlace (holding_of y) (place_of y place) (length ps) (length (items_of (received c ++ y ∷ []))) (has_end (received c ++ y ∷ []))
  taken_at e (Item x) =
      let xs = items_of (received c) in
      let at = subst (λ z. IsPlace z place (length ps) (length xs) (has_end (received c))) e d.at in
      let more : length (items_of (received c ++ Item x ∷ [])) ≡ length xs + 1 = ap length (items_of-item (received c) x at.0) ∙ length-append xs (x ∷ []) in
      rw (has_end-item (received c) x at.0, more) (refl, omega arith, at.1 ∙ ap (λ m. m % length ps) (let e : length xs ≡ length xs + 1 - 1 = omega arith in e))
  taken_at e End =
      let at = subst (λ z. IsPlace z place (length ps) (length (items_of (received c))) (has_end (received c))) e d.at in
      rw (has_end-end (received c) at.0) (refl, (let l = d.least in omega arith))

  taken_formed : held ≡ Nothing → (y : Flow T) → IsFlow (received c ++ y ∷ [])
  taken_formed e (Item x) = IsFlow-item (received c) x (subst (λ z. IsPlace z place (length ps) (length (items_of (received c))) (has_end (received c))) e d.at).0 d.formed
  taken_formed e End = IsFlow-end (received c) (subst (λ z. IsPlace z place (length ps) (length (items_of (received c))) (has_end (received c))) e d.at).0 d.formed

  -- the deal takes an item or the End
  pub deals_taken : held ≡ Nothing → (y : Flow T) (c' : Consumer (Flow T) A P) → received c' ≡ received c ++ y ∷ [] → DealLaw (record { consumer = c'; producers = ps; held = holding_of y; place = place_of y place })
  deals_taken e y c' more = record {
    least = d.least;
    most = d.most;
    law = λ j p h. rw more (taken_law e y j p h);
    formed = rw more (taken_formed e y);
    at = rw more (taken_at e y);
  }

  place_below : CanSend held → place < length ps
  place_below can = below_by (length ps) place _ _ d.least held d.at can

  sent_law : (h : Held T) → held ≡ h → CanSend h → (qs : List (Producer (Flow T) A Q)) → SendsAt ps place (released h ∷ []) qs → (j : ℕ) (p : Producer (Flow T) A Q) → j < length ps
      → sent (get_or qs j p) ++ held_for (left_of h (eqb (next_place (length ps) place) 0)) (next_place (length ps) place) j ≡ flow_of (dealt (length ps) j (items_of (received c))) (has_end (received c))
  sent_law Nothing e can qs s j p k = absurd can
  sent_law (One x) e can qs s j p k = append-nil _ ∙ (s.1 j p k).1 ∙ ap (λ z. sent (get_or ps j p) ++ held_for z place j) (sym e) ∙ d.law j p k
  sent_law Ends e can qs s j p k =
      ap (λ zs. zs ++ held_for (left_of Ends (eqb (next_place (length ps) place) 0)) (next_place (length ps) place) j) (s.1 j p k).1
      ∙ append_assoc (sent (get_or ps j p)) _ _
      ∙ ap (λ zs. sent (get_or ps j p) ++ zs) (ends_left (length ps) place j (place_below (subst CanSend (sym e) can)) k)
      ∙ ap (λ z. sent (get_or ps j p) ++ held_for z place j) (sym e)
      ∙ d.law j p k
  sent_law Over e can qs s j p k = absurd can

  sent_at : (h : Held T) → held ≡ h → CanSend h → IsPlace (left_of h (eqb (next_place (length ps) place) 0)) (next_place (length ps) place) (length ps) (length (items_of (received c))) (has_end (received c))
  sent_at Nothing e can = absurd can
  sent_at (One x) e can =
      let at = subst (λ z. IsPlace z place (length ps) (length (items_of (received c))) (has_end (received c))) e d.at in
      (at.0, next_place-count (length ps) (length (items_of (received c))) place d.least at.1 at.2)
  sent_at Ends e can =
      let at = subst (λ z. IsPlace z place (length ps) (length (items_of (received c))) (has_end (received c))) e d.at in
      ends_at T _ _ _ _ (eqb (next_place (length ps) place) 0) at.0 (next_below (length ps) place d.least)
  sent_at Over e can = absurd can

  -- the deal sends what it holds for the output at the place
  pub deals_sent : CanSend held → (qs : List (Producer (Flow T) A Q)) → SendsAt ps place (released held ∷ []) qs
      → DealLaw (record { consumer = c; producers = qs; held = left_of held (eqb (next_place (length ps) place) 0); place = next_place (length ps) place })
  deals_sent can qs s = record {
    least = subst (λ n. 1 ≤ n) (sym s.0) d.least;
    most = subst (λ n. n ≤ MOST_BRANCHES) (sym s.0) d.most;
    law = λ j p h. rw s.0 (sent_law held refl can qs s j p (subst (λ n. j < n) s.0 h));
    formed = d.formed;
    at = rw s.0 (sent_at held refl can);
  }

-- a deal at first
pub deals_fresh : {T A P Q : Type 0} (c : Consumer (Flow T) A P) (ps : List (Producer (Flow T) A Q)) → 1 ≤ length ps → length ps ≤ MOST_BRANCHES → received c ≡ [] → All (λ p. sent p ≡ []) ps
    → DealLaw (record { consumer = c; producers = ps; held = Nothing; place = 0 })
deals_fresh c ps least most none sent_none = record {
  least = least;
  most = most;
  law = λ j p h. rw (none, sent_none j p h, dealt-none (length ps) j) refl;
  formed = rw none refl;
  at = rw none (refl, sym (ap (λ m. m % length ps) (let e : 0 ≡ 0 * length ps + 0 = grind arith in e) ∙ mod-mul-add 0 (length ps) 0 least));
}

-- something is held, or wanted, but the End was not yet sent to all
abbrev pub IsBusy : {T : Type 0} → Held T → Type 0
IsBusy Nothing = Unit {0}
IsBusy (One x) = Unit {0}
IsBusy Ends = Unit {0}
IsBusy Over = ⊥

busy_with : {T : Type 0} (held : Held T) → CanSend held → IsBusy held
busy_with Nothing can = absurd can
busy_with (One x) can = tt
busy_with Ends can = tt
busy_with Over can = absurd can

-- where an End is still to come, none was sent
not_yet : {X : Type 0} (outs : List (Flow X)) (xs : List X) → outs ++ End ∷ [] ≡ flow_of xs true → has_end outs ≡ true → ⊥
not_yet outs xs e h =
    let before : outs ≡ map Item xs = append_cancel_right outs (map Item xs) (End ∷ []) e in
    cc (sym h ∙ (ap has_end (before ∙ sym (append-nil _)) ∙ has_end-flow xs false))

module _ {T A P Q : Type 0} (d : DealOf T A P Q) (law : DealLaw d) where
  -- each output has its End where the deal is over
  pub over_sent : d.held ≡ Over → All (λ p. has_end (sent p) ≡ true) d.producers
  over_sent e j p h =
      let n = length d.producers in
      let xs = items_of (received d.consumer) in
      let ended = subst (λ z. IsPlace z d.place n (length xs) (has_end (received d.consumer))) e law.at in
      ap has_end (sym (append-nil _) ∙ (ap (λ z. sent (get_or d.producers j p) ++ held_for z d.place j) (sym e) ∙ law.law j p h))
      ∙ (has_end-flow (dealt n j xs) (has_end (received d.consumer)) ∙ ended)

  -- and else not each
  pub busy_open : IsBusy d.held → All (λ p. has_end (sent p) ≡ true) d.producers → (p : Producer (Flow T) A Q) → ⊥
  busy_open busy all p = at d.held busy law.at law.law
    where
      n : ℕ
      n = length d.producers

      ins : List (Flow T)
      ins = received d.consumer

      -- output 0 has none before the End of the input
      early : (rest : List (Flow T)) → has_end ins ≡ false → sent (get_or d.producers 0 p) ++ rest ≡ flow_of (dealt n 0 (items_of ins)) (has_end ins) → ⊥
      early rest o e = let w = flow-whole (sent (get_or d.producers 0 p)) rest (dealt n 0 (items_of ins)) (has_end ins) e (all 0 p law.least) in cc (sym w.1 ∙ o)

      at : (h : Held T) → IsBusy h → IsPlace h d.place n (length (items_of ins)) (has_end ins)
          → ((j : ℕ) (q : Producer (Flow T) A Q) → j < n → sent (get_or d.producers j q) ++ held_for h d.place j ≡ flow_of (dealt n j (items_of ins)) (has_end ins)) → ⊥
      at Nothing b place law' = early [] place.0 (law' 0 p law.least)
      at (One x) b place law' = early (held_for (One x) d.place 0) place.0 (law' 0 p law.least)
      at Ends b place law' =
          let k = d.place in
          let held : held_for {T = T} Ends k k ≡ End ∷ [] = cond-false (ltb k k) [] (End ∷ []) (le-ltb k k (omega arith)) in
          let e = ap (λ zs. sent (get_or d.producers k p) ++ zs) (sym held) ∙ (law' k p place.1 ∙ ap (flow_of (dealt n k (items_of ins))) place.0) in
          not_yet (sent (get_or d.producers k p)) (dealt n k (items_of ins)) e (all k p place.1)
      at Over b place law' = b

-- there is an output
open_by : {T A P Q : Type 0} (d : DealOf T A P Q) → DealLaw d → All (λ p. has_end (sent p) ≡ true) d.producers → IsBusy d.held → ⊥
open_by {T} {A} {P} {Q} d law all busy = at d.producers refl
  where
    at : (ps : List (Producer (Flow T) A Q)) → d.producers ≡ ps → ⊥
    at [] e = let l = subst (λ zs. 1 ≤ length zs) e law.least in omega (arith, l)
    at (p ∷ ps) e = busy_open d law busy all p

-- a turn returns Ended exactly where each output had its End before
pub deal_ended : {T A P Q : Type 0} (old new : DealOf T A P Q) (r : Turn) → DealLaw old → IsDealTurn old r new
    → (r ≡ Ended) ↔ All (λ p. has_end (sent p) ≡ true) old.producers
deal_ended old new Idle law t = (λ e. absurd (cc e), λ all. absurd (open_by old law all (subst IsBusy (sym t.2) tt)))
deal_ended old new Blocked law t = (λ e. absurd (cc e), λ all. absurd (open_by old law all (busy_with old.held t.2)))
deal_ended old new Moved law t = (
  λ e. absurd (cc e),
  λ all.
      ⊎_elim
      (λ u. absurd (open_by old law all (subst IsBusy (sym u.3) tt)))
      (λ u. absurd (open_by old law all (busy_with old.held u.3)))
      t,
)
deal_ended old new Ended law t = (λ e. over_sent old law t.1, λ all. refl)

-- the count after one more
pub deals_counted : {T : Type 0} (held : Held T) (place n : ℕ) (ins : List (Flow T)) → held ≡ Nothing
    → IsPlace held place n (length (items_of ins)) (has_end ins) → (y : Flow T) (taken : ℕ) → taken ≡ counted (length (items_of ins))
    → min (taken + length (items_of (y ∷ []))) (2 ^ 64 - 1) ≡ counted (length (items_of (ins ++ y ∷ [])))
deals_counted held place n ins e at y taken count =
    count_more ins y (subst (λ z. IsPlace z place n (length (items_of ins)) (has_end ins)) e at).0 taken count
