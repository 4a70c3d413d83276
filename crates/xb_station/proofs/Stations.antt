-- What keeps the fields of a station in agreement.
use Rattle.std.proofs.Common.{◌≢◌, Bool, min, ◌+◌, ◌-◌, ◌^◌, ◌≡◌, ℕ, ◌<◌, ◌≤◌, true, false, List, [], ◌∷◌, ◌++◌, map, get_or, set, length, reverse, refl, sym, ap, ◌∙◌, subst, ⊎_elim, append-nil, append_assoc, vec_len, vec_capacity, arith}
use Rattle.std.specs.declared.vec.Vec.{Vec}
use Rattle.std.specs.List.{All}
use Rattle.std.proofs.lemmas.Bool.{cases_Bool}
use Rattle.std.proofs.lemmas.List.{reverse-append, reverse-reverse}
use Rattle.xb_flow.specs.declared.flow.Flow.{Flow}
use Rattle.xb_flow.specs.declared.flow.Flow.TheVariants.{Item, End}
use Rattle.xb_station.specs.declared.phase.Phase.{Phase}
use Rattle.xb_station.specs.declared.phase.Phase.TheVariants.{Open, Ending, Over}
use Rattle.xb_model.specs.declared.stage.TheConstants.{OUTPUT_ROOM}
use Rattle.xb_model.specs.declared.line.TheConstants.{LINES}
use Rattle.xb_model.specs.Image.{Machine, state_after}
use Rattle.xb_model.specs.States.{AreStates}
use Rattle.xb_flow.specs.Flows.{has_end, items_of, flow_of, counted}
use Rattle.xb_station.specs.FlowImages.{flow_image}
use Rattle.xb_station.specs.Stations.{FieldsAgree, StationLaw, end_is_pending, is_closed, is_over}
use Rattle.xb_model.proofs.Images.{image_after-none}
use Rattle.xb_flow.proofs.Flows.{items_of-item, items_of-end, has_end-item, has_end-end, IsFlow-item, IsFlow-end, count_more}
use Rattle.xb_station.proofs.FlowImages.{flow_image-item, flow_image-end}
use Rattle.xb_model.proofs.States.{states_more, states_fresh}

-- a vector with no length has no elements
nil_from_length : {X : Type 0} (xs : List X) → length xs ≡ 0 → xs ≡ []
nil_from_length [] h = refl
nil_from_length (x ∷ xs) h = absurd (omega (arith, h))

pub items_none : {X Z : Type 0} (v : Vec X Z) → vec_len v ≡ 0 → v.items ≡ []
items_none v h = nil_from_length v.items (sym v.ok.0 ∙ h)

-- a list with a last element is not empty
has_last : {X : Type 0} (ys : List X) (y : X) → ys ++ y ∷ [] ≢ []
has_last [] y h = absurd (cc)
has_last (x ∷ ys) y h = absurd (cc)

-- what stands last, from the last on
pub last_first : {X : Type 0} (xs ys : List X) (y : X) → xs ≡ ys ++ y ∷ [] → reverse xs ≡ y ∷ reverse ys
last_first xs ys y h = ap reverse h ∙ reverse-append ys (y ∷ [])

nothing_reversed : {X : Type 0} (xs : List X) → reverse xs ≡ [] → xs ≡ []
nothing_reversed xs h = sym (reverse-reverse xs) ∙ ap reverse h

not_over : (p : Phase) → is_closed p ≡ false → is_over p ≡ false
not_over Open h = refl
not_over Ending h = cc
not_over Over h = cc

over_phase : (p : Phase) → is_over p ≡ true → p ≡ Over
over_phase Open h = cc
over_phase Ending h = cc
over_phase Over h = refl

-- nothing is pending
pub none_pending : {X : Type 0} (xs : List X) (ends : Bool) → flow_of xs ends ≡ [] → (xs ≡ []) × (ends ≡ false)
none_pending [] false h = (refl, refl)
none_pending [] true h = absurd (cc)
none_pending (x ∷ xs) ends h = absurd (cc)

open_of : (p : Phase) → end_is_pending p ≡ false → is_over p ≡ false → p ≡ Open
open_of Open a b = refl
open_of Ending a b = absurd (cc)
open_of Over a b = absurd (cc)

ending_of : (p : Phase) → end_is_pending p ≡ true → p ≡ Ending
ending_of Open a = absurd (cc)
ending_of Ending a = refl
ending_of Over a = absurd (cc)

module _ {I O S Z : Type 0} (line : I → ℕ) (m : Machine I O S) (states : List S) (pending : Vec O Z) (phase : Phase) (taken : ℕ) (ins : List (Flow I)) (outs : List (Flow O))
    (k : FieldsAgree line m states pending phase taken ins outs) where
  -- with nothing held, all was sent
  all_sent : phase ≡ Open → pending.items ≡ [] → outs ≡ flow_image line m ins
  all_sent e n = sym (append-nil outs) ∙ ap (λ zs. outs ++ zs) (sym (ap (λ ys. flow_of (reverse ys) (end_is_pending phase)) n ∙ ap (λ p. flow_of {X = O} [] (end_is_pending p)) e)) ∙ k.law

  -- with nothing pending and no End sent, it is open
  pub opens : flow_of (reverse pending.items) (end_is_pending phase) ≡ [] → has_end outs ≡ false → (phase ≡ Open) × (pending.items ≡ [])
  opens h e =
      let n = none_pending _ _ h in
      (open_of phase n.1 (sym k.over ∙ e), nothing_reversed pending.items n.0)

  -- with no item pending, but the End, it is ending
  pub ends_next : pending.items ≡ [] → flow_of (reverse pending.items) (end_is_pending phase) ≢ [] → phase ≡ Ending
  ends_next n h = ⊎_elim (λ t. ending_of phase t) (λ f. absurd (h (ap (λ ys. flow_of (reverse ys) (end_is_pending phase)) n ∙ ap (λ ends. flow_of {X = O} [] ends) f))) (cases_Bool (end_is_pending phase))

  -- the station takes an item
  module _ (x : I) (e : phase ≡ Open) (n : pending.items ≡ []) (lines : length states ≡ LINES) (below : line x < LINES)
      (states' : List S) (state : (d : S) → states' ≡ set states (line x) (m.next (get_or states (line x) d) x))
      (pending' : Vec O Z) (sends : (d : S) → pending'.items ≡ reverse (m.outs (get_or states (line x) d) x)) (room : vec_capacity pending' ≡ vec_capacity pending) where
    pub item_law : outs ++ flow_of (reverse pending'.items) (end_is_pending phase) ≡ flow_image line m (ins ++ Item x ∷ [])
    item_law =
        let q = state_after line m (items_of ins) (line x) in
        let s : get_or states (line x) q ≡ q = k.lines (line x) q below in
        ap (λ p. outs ++ flow_of (reverse pending'.items) (end_is_pending p)) e
        ∙ ap (λ ys. outs ++ ys) (append-nil (map Item (reverse pending'.items)) ∙ ap (map Item) (ap reverse (sends q) ∙ reverse-reverse _ ∙ ap (λ p. m.outs p x) s))
        ∙ ap (λ zs. zs ++ map Item (m.outs q x)) (all_sent e n)
        ∙ sym (flow_image-item line m ins x (k.closed ∙ ap is_closed e))

    states_after : AreStates line m states' (items_of ins ++ x ∷ [])
    states_after =
        let q = state_after line m (items_of ins) (line x) in
        let s : get_or states (line x) q ≡ q = k.lines (line x) q below in
        subst (λ all. AreStates line m all (items_of ins ++ x ∷ [])) (sym (state q ∙ ap (λ p. set states (line x) (m.next p x)) s))
        (states_more line m (items_of ins) x q refl states (line x) (m.next q x) k.lines lines below refl refl)

    pub keeps_item : FieldsAgree line m states' pending' phase (min (taken + 1) (2 ^ 64 - 1)) (ins ++ Item x ∷ []) outs
    keeps_item = record {
      lines = subst (AreStates line m states') (sym (items_of-item ins x (k.closed ∙ ap is_closed e))) states_after;
      room = subst (λ n. OUTPUT_ROOM ≤ n) (sym room) k.room;
      law = item_law;
      closed = has_end-item ins x (k.closed ∙ ap is_closed e) ∙ sym (ap is_closed e);
      over = k.over;
      formed = IsFlow-item ins x (k.closed ∙ ap is_closed e) k.formed;
      none = λ t. absurd (cc (ap is_closed e));
      count = count_more ins (Item x) (k.closed ∙ ap is_closed e) taken k.count;
    }

  -- the station takes the End
  module _ (e : phase ≡ Open) (n : pending.items ≡ []) where
    pub end_law : outs ++ flow_of (reverse pending.items) true ≡ flow_image line m (ins ++ End ∷ [])
    end_law =
        ap (λ ys. outs ++ flow_of (reverse ys) true) n
        ∙ ap (λ zs. zs ++ End ∷ []) (all_sent e n)
        ∙ sym (flow_image-end line m ins (k.closed ∙ ap is_closed e))

    pub keeps_end : FieldsAgree line m states pending Ending taken (ins ++ End ∷ []) outs
    keeps_end = record {
      lines = subst (AreStates line m states) (sym (items_of-end ins (k.closed ∙ ap is_closed e))) k.lines;
      room = k.room;
      law = end_law;
      closed = has_end-end ins (k.closed ∙ ap is_closed e);
      over = k.over ∙ ap is_over e;
      formed = IsFlow-end ins (k.closed ∙ ap is_closed e) k.formed;
      none = λ t. n;
      count = k.count ∙ ap (λ xs. counted (length xs)) (sym (items_of-end ins (k.closed ∙ ap is_closed e)));
    }

  -- the station sends the End
  pub keeps_sent_end : (pending' : Vec O Z) → phase ≡ Ending → pending.items ≡ [] → pending'.items ≡ [] → vec_capacity pending' ≡ vec_capacity pending
      → FieldsAgree line m states pending' Over taken ins (outs ++ End ∷ [])
  keeps_sent_end pending' e n n' room = record {
    lines = k.lines;
    room = subst (λ n. OUTPUT_ROOM ≤ n) (sym room) k.room;
    law =
        ap (λ ys. (outs ++ End ∷ []) ++ flow_of (reverse ys) false) n'
        ∙ append-nil (outs ++ End ∷ [])
        ∙ ap (λ zs. outs ++ zs) (sym (ap (λ ys. flow_of (reverse ys) (end_is_pending phase)) n ∙ ap (λ p. flow_of {X = O} [] (end_is_pending p)) e))
        ∙ k.law;
    closed = k.closed ∙ ap is_closed e;
    over = has_end-end outs (k.over ∙ ap is_over e);
    formed = k.formed;
    none = λ t. n';
    count = k.count;
  }

  -- the station sends the first of what it holds
  module _ (y : O) (pending' : Vec O Z) (first : pending.items ≡ pending'.items ++ y ∷ []) (room : vec_capacity pending' ≡ vec_capacity pending) where
    open_phase : is_closed phase ≡ false
    open_phase = ⊎_elim (λ t. absurd (has_last pending'.items y (sym first ∙ k.none t))) (λ f. f) (cases_Bool (is_closed phase))

    sent_law : (outs ++ Item y ∷ []) ++ flow_of (reverse pending'.items) (end_is_pending phase) ≡ flow_image line m ins
    sent_law = append_assoc outs (Item y ∷ []) _ ∙ ap (λ ys. outs ++ flow_of ys (end_is_pending phase)) (sym (last_first pending.items pending'.items y first)) ∙ k.law

    pub keeps_sent_item : FieldsAgree line m states pending' phase taken ins (outs ++ Item y ∷ [])
    keeps_sent_item = record {
      lines = k.lines;
      room = subst (λ n. OUTPUT_ROOM ≤ n) (sym room) k.room;
      law = sent_law;
      closed = k.closed;
      over = has_end-item outs y (k.over ∙ not_over phase open_phase) ∙ sym (not_over phase open_phase);
      formed = k.formed;
      none = λ t. absurd (cc open_phase);
      count = k.count;
    }

module _ {I O S Z : Type 0} (line : I → ℕ) (m : Machine I O S) (states : List S) (pending : Vec O Z) where
  -- a station at first
  pub keeps_fresh : length states ≡ LINES → All (λ q. q ≡ m.start) states → pending.items ≡ [] → OUTPUT_ROOM ≤ vec_capacity pending → FieldsAgree line m states pending Open 0 [] []
  keeps_fresh lines fresh none room = record {
    lines = states_fresh line m states lines fresh;
    room = room;
    law = ap (λ ys. flow_of (reverse ys) false) none ∙ ap (λ ys. flow_of ys false) (sym (image_after-none line m []));
    closed = refl;
    over = refl;
    formed = refl;
    none = λ t. none;
    count = refl;
  }

module _ {I O S Z : Type 0} (line : I → ℕ) (m : Machine I O S) (states : List S) (pending : Vec O Z) (phase : Phase) (taken : ℕ) (ins : List (Flow I)) (outs : List (Flow O))
    (k : FieldsAgree line m states pending phase taken ins outs) where
  -- then the law of a station holds
  pub lawful : StationLaw line m ins outs (flow_of (reverse pending.items) (end_is_pending phase))
  lawful = record {
    image_of = k.law;
    formed = k.formed;
    whole = λ h.
        let e : phase ≡ Over = over_phase phase (sym k.over ∙ h) in
        (k.closed ∙ ap is_closed e, ap (λ ys. flow_of (reverse ys) (end_is_pending phase)) (k.none (ap is_closed e)) ∙ ap (λ p. flow_of {X = O} [] (end_is_pending p)) e);
  }
