-- What keeps the law of a gather.
use Rattle.std.proofs.Common.{zero-add, min, ◌^◌, ◌↔◌, ◌≡◌, ◌≢◌, ℕ, zero, suc, ◌+◌, ◌-◌, ◌*◌, ◌%◌, ◌<◌, ◌≤◌, Bool, true, false, cond, ltb, List, [], ◌∷◌, ◌++◌, map, length, get_or, set, Result, Ok, Err, IfOk, OnErr, refl, sym, ap, ◌∙◌, subst, ⊎_elim, arith, append-nil, eq-eqb, ne_eqb, le-ltb, ◌||◌}
use Rattle.std.proofs.lemmas.Bool.{cases_Bool}
use Rattle.std.proofs.lemmas.List.{map-append, map-set, get_or-map, length-map, get_or_default, append_cancel_right}
use Rattle.std.specs.List.{All, AllByRecursion}
use Rattle.std.proofs.lemmas.List.Elements.{recursion_from_All}
use Rattle.std.proofs.Math.Seq.{map-set_same}
use Rattle.std.proofs.lemmas.Nat.{mod_below, mod-mul-add}
use Rattle.rtrb.specs.declared.consumer.Consumer.{Consumer}
use Rattle.rtrb.specs.Ring.{received}
use Rattle.xb_flow.specs.declared.flow.Flow.{Flow}
use Rattle.xb_flow.specs.declared.flow.Flow.TheVariants.{Item, End}
use Rattle.xb_branches.specs.declared.gathered.Gathered.{Gathered}
use Rattle.xb_branches.specs.declared.gathered.Gathered.TheVariants.{Wants, One, Closing, Ends, Over}
use Rattle.std.specs.List.{list_all}
use Rattle.std.proofs.lemmas.List.Sums.{sum_by-cons, AllPass-from_list_all, list_all-from_AllPass}
use Rattle.rtrb.specs.Ring.{sent}
use Rattle.xb_flow.specs.declared.turn.Turn.{Turn}
use Rattle.xb_flow.specs.declared.turn.Turn.TheVariants.{Idle, Blocked, Moved, Ended}
use Rattle.xb_flow.specs.Flows.{items_of, has_end, flow_of, IsFlow, counted}
use Rattle.xb_branches.specs.DealSteps.{next_place}
use Rattle.xb_branches.specs.Merged.{piece_at, stop, merged, IsMerged}
use Rattle.xb_branches.specs.GatherSteps.{sent_of, left_of, GatherAgrees, Open, Closes, HasGathered, items_at, ended_in, to_send, all_ended, close_next, closed_by, gathered_of, held_after, Awaits, CanGather, items_in}
use Rattle.xb_branches.specs.Gathers.{GatherOf, GatherLawOf, HasMergedOf, IsGatherTurn}
use Rattle.xb_flow.proofs.Flows.{has_end-flow, flow-whole, count_on}
use Rattle.xb_branches.proofs.Merged.{merged_from, merged_from-last, merged_is, merged_is-last, merged_once, stop_once, merges_none}
use Rattle.xb_branches.proofs.GatherInputs.{grown, grown_length, open_item, open_end, closes_more, formed_more, count_grown, close_step, close_sends}
use Rattle.xb_branches.specs.declared.branches.TheConstants.{MOST_BRANCHES}

all_empty : {T A P : Type 0} (cs : List (Consumer T A P)) → AllByRecursion (λ c. received c ≡ []) cs → (j : ℕ) → get_or (map received cs) j [] ≡ []
all_empty [] h j = refl
all_empty (c ∷ cs) h zero = h.0
all_empty (c ∷ cs) h (suc j) = all_empty cs h.1 j

module _ {T : Type 0} (ends : T → Bool) (ins : List (List (Flow T))) (outs : List (Flow T)) (held : Gathered T) (place : ℕ) (g : GatherAgrees ends ins outs held place) where
  -- the gather takes an item of the input at the place, or its End
  module _ (y : Flow T) (within : place < length ins) where
    least_more : 1 ≤ length (grown ins place within y)
    least_more = subst (λ n. 1 ≤ n) (sym (grown_length ins place within y)) g.least

    most_more : length (grown ins place within y) ≤ MOST_BRANCHES
    most_more = subst (λ n. n ≤ MOST_BRANCHES) (sym (grown_length ins place within y)) g.most

  taken_open : held ≡ Wants → Open ends (length ins) ins place g.items
  taken_open e = subst (λ h. HasGathered ends (length ins) h ins place g.items) e g.gathered

  open_sent : held ≡ Wants → outs ≡ map Item g.items
  open_sent e = sym (append-nil outs) ∙ (ap (λ h. outs ++ to_send h) (sym e) ∙ (g.law ∙ (ap (λ h. flow_of g.items (all_ended h)) e ∙ append-nil _)))

  wants_below : held ≡ Wants → place < length ins
  wants_below e = let o = taken_open e in subst (λ p. p < length ins) (sym o.at) (mod_below o.count (length ins) g.least)

  -- while others close, the input at the place has not ended
  closing_open : (first : ℕ) → Closes ends (length ins) ins first place g.items × (place < length ins) × (place ≢ first) → ended_in ins place ≡ false
  closing_open first c = c.0.some_ended place c.1 ∙ (ap (λ b. b || ltb place place) (ne_eqb place first c.2) ∙ le-ltb place place (omega arith))

  -- the gather takes an item of the input at the place, or the first End
  pub gathers_taken : (e : held ≡ Wants) → (y : Flow T) → GatherAgrees ends (set ins place (get_or ins place [] ++ y ∷ [])) outs (gathered_of ends (length ins) place y).0 (gathered_of ends (length ins) place y).1
  gathers_taken e (Item x) =
      let w = wants_below e in
      record {
        least = least_more (Item x) w;
        most = most_more (Item x) w;
        items = g.items ++ x ∷ [];
        law = ap (λ zs. zs ++ Item x ∷ []) (open_sent e) ∙ (sym (map-append Item g.items (x ∷ [])) ∙ sym (append-nil _));
        formed = formed_more ends ins place w g.items (Item x) ((taken_open e).none_ended place w) g.formed;
        gathered = subst (λ n. Open ends n (grown ins place w (Item x)) (cond (ends x) (next_place (length ins) place) place) (g.items ++ x ∷ [])) (sym (grown_length ins place w (Item x))) (open_item ends ins place w g.items (taken_open e) x);
      }
  gathers_taken e End =
      let w = wants_below e in
      let more = grown ins place w End in
      let n = length ins in
      let closes = open_end ends ins place w g.items (taken_open e) in
      record {
        least = least_more End w;
        most = most_more End w;
        items = g.items;
        law = close_sends ends n more place 0 g.items closes outs (open_sent e);
        formed = formed_more ends ins place w g.items End ((taken_open e).none_ended place w) g.formed;
        gathered = subst (λ m. HasGathered ends m (close_next {T = T} n place 0).0 more (close_next {T = T} n place 0).1 g.items) (sym (grown_length ins place w End)) (close_step ends n more place 0 g.items closes);
      }

  -- it takes an item that is dropped, or another End
  pub gathers_closed : (first : ℕ) → held ≡ Closing first → (y : Flow T) → GatherAgrees ends (set ins place (get_or ins place [] ++ y ∷ [])) outs (closed_by (length ins) first place y).0 (closed_by (length ins) first place y).1
  gathers_closed first e (Item x) =
      let c = subst (λ h. HasGathered ends (length ins) h ins place g.items) e g.gathered in
      let more = grown ins place c.1 (Item x) in
      record {
        least = least_more (Item x) c.1;
        most = most_more (Item x) c.1;
        items = g.items;
        law = ap (λ h. outs ++ to_send h) (sym e) ∙ (g.law ∙ ap (λ h. flow_of g.items (all_ended h)) e);
        formed = formed_more ends ins place c.1 g.items (Item x) (closing_open first c) g.formed;
        gathered = subst (λ n. Closes ends n more first place g.items × (place < n) × (place ≢ first)) (sym (grown_length ins place c.1 (Item x))) (closes_more ends ins place c.1 g.items first c.0 c.2 (Item x), c.1, c.2);
      }
  gathers_closed first e End =
      let c = subst (λ h. HasGathered ends (length ins) h ins place g.items) e g.gathered in
      let n = length ins in
      let more = grown ins place c.1 End in
      let closes = closes_more ends ins place c.1 g.items first c.0 c.2 End in
      let sent_all : outs ≡ map Item g.items = sym (append-nil outs) ∙ (ap (λ h. outs ++ to_send h) (sym e) ∙ (g.law ∙ (ap (λ h. flow_of g.items (all_ended h)) e ∙ append-nil _))) in
      record {
        least = least_more End c.1;
        most = most_more End c.1;
        items = g.items;
        law = close_sends ends n more first (place + 1) g.items closes outs sent_all;
        formed = formed_more ends ins place c.1 g.items End (closing_open first c) g.formed;
        gathered = subst (λ m. HasGathered ends m (close_next {T = T} n first (place + 1)).0 more (close_next {T = T} n first (place + 1)).1 g.items) (sym (grown_length ins place c.1 End)) (close_step ends n more first (place + 1) g.items closes);
      }

  -- the count after one more
  counts : (y : Flow T) (within : place < length ins) → ended_in ins place ≡ false → (taken : ℕ) → taken ≡ counted (items_in ins)
      → min (taken + length (items_of (y ∷ []))) (2 ^ 64 - 1) ≡ counted (items_in (set ins place (get_or ins place [] ++ y ∷ [])))
  counts y within o taken e =
      rw (e, count_grown ends ins place within g.items y o) (count_on (items_in ins) (length (items_of (y ∷ []))) (2 ^ 64 - 1))

  pub counts_taken : held ≡ Wants → (y : Flow T) (taken : ℕ) → taken ≡ counted (items_in ins)
      → min (taken + length (items_of (y ∷ []))) (2 ^ 64 - 1) ≡ counted (items_in (set ins place (get_or ins place [] ++ y ∷ [])))
  counts_taken e y = counts y (wants_below e) ((taken_open e).none_ended place (wants_below e))

  pub counts_closed : (first : ℕ) → held ≡ Closing first → (y : Flow T) (taken : ℕ) → taken ≡ counted (items_in ins)
      → min (taken + length (items_of (y ∷ []))) (2 ^ 64 - 1) ≡ counted (items_in (set ins place (get_or ins place [] ++ y ∷ [])))
  counts_closed first e y =
      let c = subst (λ h. HasGathered ends (length ins) h ins place g.items) e g.gathered in
      counts y c.1 (closing_open first c)

  -- it takes what is wanted
  pub gathers_wanted : Awaits held → (y : Flow T)
      → GatherAgrees ends (set ins place (get_or ins place [] ++ y ∷ [])) outs (held_after ends (length ins) place held y).0 (held_after ends (length ins) place held y).1
  gathers_wanted awaits y = at held refl awaits
    where
      at : (h : Gathered T) → held ≡ h → Awaits h
          → GatherAgrees ends (set ins place (get_or ins place [] ++ y ∷ [])) outs (held_after ends (length ins) place h y).0 (held_after ends (length ins) place h y).1
      at Wants e a = gathers_taken e y
      at (One x) e a = absurd a
      at (Closing first) e a = gathers_closed first e y
      at Ends e a = absurd a
      at Over e a = absurd a

  pub counts_wanted : Awaits held → (y : Flow T) (taken : ℕ) → taken ≡ counted (items_in ins)
      → min (taken + length (items_of (y ∷ []))) (2 ^ 64 - 1) ≡ counted (items_in (set ins place (get_or ins place [] ++ y ∷ [])))
  counts_wanted awaits y taken = at held refl awaits
    where
      at : (h : Gathered T) → held ≡ h → Awaits h → taken ≡ counted (items_in ins)
          → min (taken + length (items_of (y ∷ []))) (2 ^ 64 - 1) ≡ counted (items_in (set ins place (get_or ins place [] ++ y ∷ [])))
      at Wants e a = counts_taken e y taken
      at (One x) e a = absurd a
      at (Closing first) e a = counts_closed first e y taken
      at Ends e a = absurd a
      at Over e a = absurd a

  -- the gather sends what it holds
  pub gathers_sent : CanGather held → GatherAgrees ends ins (outs ++ sent_of held ∷ []) (left_of held) place
  gathers_sent can = at held refl can g.law g.gathered
    where
      at : (h : Gathered T) → held ≡ h → CanGather h → outs ++ to_send h ≡ flow_of g.items (all_ended h) → HasGathered ends (length ins) h ins place g.items → GatherAgrees ends ins (outs ++ sent_of h ∷ []) (left_of h) place
      at Wants e can law gathered = absurd can
      at (One x) e can law gathered = record { least = g.least; most = g.most; items = g.items; law = append-nil _ ∙ law; gathered = gathered; formed = g.formed }
      at (Closing first) e can law gathered = absurd can
      at Ends e can law gathered = record { least = g.least; most = g.most; items = g.items; law = append-nil _ ∙ law; gathered = gathered; formed = g.formed }
      at Over e can law gathered = absurd can

  -- ---- what callers see
  -- what was sent and is to be sent is merged of what was received
  gathered_merged : IsMerged ends (length ins) (items_at ins) g.items
  unfolding merged_from
  gathered_merged = at held g.gathered
    where
      at : (h : Gathered T) → HasGathered ends (length ins) h ins place g.items → IsMerged ends (length ins) (items_at ins) g.items
      at Wants o = merged_from ends (length ins) g.least (items_at ins) o.count g.items o.merges
      at (One x) o = merged_from ends (length ins) g.least (items_at ins) o.count g.items o.merges
      at (Closing first) c = c.0.merges
      at Ends m = m.0
      at Over m = m.0

  -- the End of each input was received where nothing else is to come
  ended_all : all_ended held ≡ list_all has_end ins
  ended_all = at held g.gathered
    where
      some_open : (j : ℕ) → j < length ins → ended_in ins j ≡ false → false ≡ list_all has_end ins
      some_open j h o =
          ⊎_elim
          (λ t. absurd (cc (sym (AllPass-from_list_all has_end ins t j [] h) ∙ o)))
          (λ f. sym f)
          (cases_Bool (list_all has_end ins))

      none_open : ((j : ℕ) → j < length ins → ended_in ins j ≡ true) → true ≡ list_all has_end ins
      none_open all = sym (list_all-from_AllPass has_end ins (λ j d h. ap has_end (get_or_default ins j d [] h) ∙ all j h))

      at : (h : Gathered T) → HasGathered ends (length ins) h ins place g.items → all_ended h ≡ list_all has_end ins
      at Wants o = some_open 0 g.least (o.none_ended 0 g.least)
      at (One x) o = some_open 0 g.least (o.none_ended 0 g.least)
      at (Closing first) c = some_open place c.1 (closing_open first c)
      at Ends m = none_open m.1
      at Over m = none_open m.1

  -- before the first End nothing was received that merging leaves out
  left_out : ((j : ℕ) → j < length ins → ended_in ins j ≡ false) → (k : ℕ) → stop ends (length ins) (items_at ins) < k → piece_at ends (length ins) (items_at ins) k ≡ []
  left_out none = at held g.gathered
    where
      n : ℕ
      n = length ins

      opened : (o : Open ends n ins place g.items) → (k : ℕ) → stop ends n (items_at ins) < k → piece_at ends n (items_at ins) k ≡ []
      opened o k h =
          let same : o.count ≡ stop ends n (items_at ins) = sym (merged_from-last ends n g.least (items_at ins) o.count g.items o.merges) ∙ stop_once ends n (items_at ins) g.items (merged ends n (items_at ins)) (merged_from ends n g.least (items_at ins) o.count g.items o.merges) (merged_is ends n g.least (items_at ins)) ∙ merged_is-last ends n g.least (items_at ins) in
          o.merges.nothing k (subst (λ m. m < k) (sym same) h)

      at : (h : Gathered T) → HasGathered ends n h ins place g.items → (k : ℕ) → stop ends n (items_at ins) < k → piece_at ends n (items_at ins) k ≡ []
      at Wants o = opened o
      at (One x) o = opened o
      at (Closing first) c = λ k h. absurd (cc (sym (none first c.0.within) ∙ (c.0.some_ended first c.0.within ∙ ap (λ b. b || ltb first place) (eq-eqb first first refl))))
      at Ends m = λ k h. absurd (cc (sym (none 0 g.least) ∙ m.1 0 g.least))
      at Over m = λ k h. absurd (cc (sym (none 0 g.least) ∙ m.1 0 g.least))

  -- where an item is wanted, it is of an input that is there
  awaits_below : Awaits held → place < length ins
  awaits_below = at held refl
    where
      at : (h : Gathered T) → held ≡ h → Awaits h → place < length ins
      at Wants e a = wants_below e
      at (One x) e a = absurd a
      at (Closing first) e a = let c = subst (λ k. HasGathered ends (length ins) k ins place g.items) e g.gathered in c.1
      at Ends e a = absurd a
      at Over e a = absurd a

  pub gather_law : GatherLawOf ends ins outs held place
  gather_law = record {
    least = g.least;
    most = g.most;
    law =
        g.law
        ∙ (ap (λ xs. flow_of xs (all_ended held)) (merged_once ends (length ins) (items_at ins) g.items (merged ends (length ins) (items_at ins)) gathered_merged (merged_is ends (length ins) g.least (items_at ins)))
        ∙ ap (flow_of (merged ends (length ins) (items_at ins))) ended_all);
    formed = g.formed;
    none_left_out = left_out;
    within = awaits_below;
  }

  -- the End was sent where the gather is over
  pub over_sent : held ≡ Over → has_end outs ≡ true
  over_sent e =
      ap has_end (sym (append-nil outs) ∙ (ap (λ h. outs ++ to_send h) (sym e) ∙ (g.law ∙ ap (λ h. flow_of g.items (all_ended h)) e)))
      ∙ has_end-flow g.items true

  -- and not where an item is wanted
  pub awaits_open : Awaits held → has_end outs ≡ true → ⊥
  awaits_open a h = at held a (flow-whole outs (to_send held) g.items (all_ended held) g.law h).1
    where
      at : (h : Gathered T) → Awaits h → all_ended h ≡ true → ⊥
      at Wants a e = cc e
      at (One x) a e = a
      at (Closing first) a e = cc e
      at Ends a e = a
      at Over a e = a

  -- nor where something is held
  pub holds_open : CanGather held → has_end outs ≡ true → ⊥
  holds_open can h = at held can g.law
    where
      at : (k : Gathered T) → CanGather k → outs ++ to_send k ≡ flow_of g.items (all_ended k) → ⊥
      at Wants can law = can
      at (One x) can law = let w = flow-whole outs (Item x ∷ []) g.items false law h in cc w.1
      at (Closing first) can law = can
      at Ends can law =
          let before : outs ≡ map Item g.items = append_cancel_right outs (map Item g.items) (End ∷ []) law in
          cc (sym h ∙ (ap has_end (before ∙ sym (append-nil _)) ∙ has_end-flow g.items false))
      at Over can law = can

pub pop_ok : {T A P E : Type 0} (cs : List (Consumer T A P)) (place : ℕ) (c d : Consumer T A P) (r : Result T E) (Q R : T → Type 0) → place < length cs → c ≡ get_or cs place c
    → IfOk r (λ x. (received d ≡ received c ++ x ∷ []) × Q x × R x) → IfOk r (λ x. map received (set cs place d) ≡ set (map received cs) place (get_or (map received cs) place [] ++ x ∷ []))
pop_ok cs place c d (Ok x) Q R h is e = map-set received cs place d ∙ ap (λ zs. set (map received cs) place zs) (e.0 ∙ ap (λ zs. zs ++ x ∷ []) (ap received is ∙ sym (get_or-map received cs place c [] h)))
pop_ok cs place c d (Err f) Q R h is e = tt

pub pop_empty : {T A P E : Type 0} (cs : List (Consumer T A P)) (place : ℕ) (c d : Consumer T A P) (r : Result T E) (Q : Type 0) → place < length cs → c ≡ get_or cs place c
    → OnErr r ((received d ≡ received c) × Q) → OnErr r (map received (set cs place d) ≡ map received cs)
pop_empty cs place c d (Ok x) Q h is e = tt
pop_empty cs place c d (Err f) Q h is e = map-set_same received cs place d c (e.0 ∙ ap received is)

-- a turn returns Ended exactly where the End was sent before
pub gather_ended : {T A P Q : Type 0} (ends : T → Bool) (old new : GatherOf T A P Q) (r : Turn)
    → GatherAgrees ends (map received old.consumers) (sent old.producer) old.held old.place → IsGatherTurn old r new
    → (r ≡ Ended) ↔ (has_end (sent old.producer) ≡ true)
gather_ended ends old new Idle g t = (λ e. absurd (cc e), λ h. absurd (awaits_open ends _ _ _ _ g t.2 h))
gather_ended ends old new Blocked g t = (λ e. absurd (cc e), λ h. absurd (holds_open ends _ _ _ _ g t.2 h))
gather_ended ends old new Moved g t = (λ e. absurd (cc e), λ h. ⊎_elim (λ u. absurd (awaits_open ends _ _ _ _ g u.3 h)) (λ u. absurd (holds_open ends _ _ _ _ g u.3 h)) t)
gather_ended ends old new Ended g t = (λ e. over_sent ends _ _ _ _ g t.1, λ h. refl)

-- a gather that is over has merged all
pub gather_whole : {T : Type 0} (ends : T → Bool) (ins : List (List (Flow T))) (outs : List (Flow T)) (held : Gathered T) (place : ℕ)
    → GatherLawOf ends ins outs held place → held ≡ Over → has_end outs ≡ true → HasMergedOf ends ins outs held
gather_whole ends ins outs held place l e h =
    let all : list_all has_end ins ≡ true = (flow-whole outs (to_send held) (merged ends (length ins) (items_at ins)) (list_all has_end ins) l.law h).1 in
    record {
      inputs = λ j k. l.formed j k ∙ ap (flow_of (items_of (get_or ins j []))) (AllPass-from_list_all has_end ins all j [] k);
      output = sym (append-nil outs) ∙ (ap (λ h. outs ++ to_send h) (sym e) ∙ (l.law ∙ ap (flow_of (merged ends (length ins) (items_at ins))) all));
      nothing_held = e;
    }

-- a gather at first
pub gathers_fresh : {T A P : Type 0} (ends : T → Bool) (cs : List (Consumer (Flow T) A P)) → 1 ≤ length cs → length cs ≤ MOST_BRANCHES → All (λ c. received c ≡ []) cs → GatherAgrees ends (map received cs) [] Wants 0
gathers_fresh ends cs least most none =
    let n = length (map received cs) in
    let e : n ≡ length cs = length-map cs received in
    let some : 0 < n = subst (λ m. 0 < m) (sym e) least in
    let empty = all_empty cs (recursion_from_All (λ c. received c ≡ []) cs none) in
    record {
      least = some;
      most = subst (λ m. m ≤ MOST_BRANCHES) (sym e) most;
      items = [];
      law = refl;
      formed = λ j h. subst IsFlow (sym (empty j)) refl;
      gathered = record {
        count = 0;
        at = sym (ap (λ m. m % n) (let z : 0 ≡ 0 * n + 0 = grind arith in z) ∙ mod-mul-add 0 n 0 some);
        merges = merges_none ends n some (items_at (map received cs)) (λ j h. ap items_of (empty j));
        none_ended = λ j h. ap has_end (empty j);
      };
    }

-- nothing was counted at first
pub counts_fresh : {T A P : Type 0} (cs : List (Consumer (Flow T) A P)) → All (λ c. received c ≡ []) cs → 0 ≡ counted (items_in (map received cs))
counts_fresh {T} {A} {P} cs none = sym (ap counted (at cs (recursion_from_All (λ c. received c ≡ []) cs none)))
  where
    at : (cs : List (Consumer (Flow T) A P)) → AllByRecursion (λ c. received c ≡ []) cs → items_in (map received cs) ≡ 0
    at [] h = refl
    at (c ∷ cs) h = sum_by-cons (λ xs. length (items_of xs)) (received c) (map received cs) ∙ (ap (λ xs. length (items_of xs) + items_in (map received cs)) h.0 ∙ (zero-add (items_in (map received cs)) ∙ at cs h.1))
