-- What one more item or End of an input changes for a gather.
use Rattle.std.proofs.Common.{◌≡◌, ◌≢◌, ℕ, suc, ◌+◌, ◌-◌, ◌/◌, ◌%◌, ◌<◌, ◌≤◌, Bool, true, false, cond, eqb, ltb, List, [], ◌∷◌, ◌++◌, map, length, get_or, set, refl, sym, ap, ◌∙◌, subst, ⊎_elim, arith, eqb-true, eq-eqb, ne_eqb, lt-ltb, le-ltb, get_or-set_same, get_or-set_other, count_by, ◌||◌}
use Rattle.std.proofs.Math.ListN.{length-set}
use Rattle.std.proofs.lemmas.Bool.{cases_Bool, cases_lt, cases_eq, cond-true, cond-false, or_right, eqb-false}
use Rattle.std.proofs.lemmas.Nat.{mod_below}
use mathlib.Core.List.{IsPrefix}
use Rattle.xb_flow.specs.declared.flow.Flow.{Flow}
use Rattle.xb_flow.specs.declared.flow.Flow.TheVariants.{Item, End}
use Rattle.xb_branches.specs.declared.gathered.Gathered.{Gathered}
use Rattle.xb_branches.specs.declared.gathered.Gathered.TheVariants.{Closing, Ends}
use Rattle.std.proofs.lemmas.List.Sums.{sum_by-set}
use Rattle.xb_flow.specs.Flows.{items_of, has_end, flow_of, IsFlow}
use Rattle.xb_branches.specs.DealSteps.{next_place}
use Rattle.xb_branches.specs.Merged.{joined, piece, piece_at, merged, IsMerged}
use Rattle.xb_branches.specs.GatherSteps.{Open, Closes, HasGathered, items_at, ended_in, to_send, all_ended, close_next, items_in}
use Rattle.xb_flow.proofs.Flows.{items_of-item, items_of-end, has_end-item, has_end-end, IsFlow-more, items_more}
use Rattle.xb_branches.proofs.Deals.{next_place-count}
use Rattle.xb_branches.proofs.Merged.{joined_same, piece_at_same, count_prefix, merges_item, merges_end, merged_from}
use Rattle.xb_flow.proofs.Prefixes.{prefix_same}

-- ---- one more of an input
module _ {T : Type 0} (ins : List (List (Flow T))) (place : ℕ) (within : place < length ins) (y : Flow T) where
  abbrev pub grown : List (List (Flow T))
  grown = set ins place (get_or ins place [] ++ y ∷ [])

  grown_here : get_or grown place [] ≡ get_or ins place [] ++ y ∷ []
  grown_here = get_or-set_same ins place (get_or ins place [] ++ y ∷ []) [] within

  grown_other : (j : ℕ) → j ≢ place → get_or grown j [] ≡ get_or ins j []
  grown_other j d = get_or-set_other ins place j (get_or ins place [] ++ y ∷ []) [] d

  pub grown_length : length grown ≡ length ins
  grown_length = length-set ins place (get_or ins place [] ++ y ∷ [])

-- a merged list stays where the list that it stopped in stays, and the others grow
unfoldable pub merged_kept : {X : Type 0} (ends : X → Bool) (n : ℕ) (some : 0 < n) (lists lists' : ℕ → List X) (merged : List X) (m : IsMerged ends n lists merged)
    → ((j : ℕ) → j < n → IsPrefix (lists j) (lists' j)) → lists' (m.last % n) ≡ lists (m.last % n) → IsMerged ends n lists' merged
merged_kept ends n some lists lists' merged m front same = record {
  last = m.last;
  before = λ k h.
      let l = m.before k h in
      let c = count_prefix ends (lists (k % n)) (lists' (k % n)) (front (k % n) (mod_below k n some)) in
      omega arith;
  stops = subst (λ xs. count_by ends xs ≤ m.last / n) (sym same) m.stops;
  pieces = m.pieces
      ∙ (ap (λ zs. zs ++ piece_at ends n lists m.last) (joined_same (piece_at ends n lists) (piece_at ends n lists') m.last (λ k h. piece_at_same ends n some lists lists' front k (m.before k h)))
      ∙ ap (λ xs. joined (piece_at ends n lists') m.last ++ piece ends (m.last / n) xs) (sym same));
}

-- tests of places
module _ (place : ℕ) where
  upto : (b : Bool) → ltb place (cond b (place + 1) place) ≡ b
  upto true = lt-ltb place (place + 1) (omega arith)
  upto false = le-ltb place place (omega arith)

  beside : (b : Bool) (j : ℕ) → j ≢ place → ltb j place ≡ ltb j (cond b (place + 1) place)
  beside false j d = refl
  beside true j d =
      ⊎_elim
      (λ (h : j < place). lt-ltb j place h ∙ sym (lt-ltb j (place + 1) (omega arith)))
      (λ (h : place ≤ j). le-ltb j place h ∙ sym (le-ltb j (place + 1) (omega arith)))
      (cases_lt j place)

module _ {T : Type 0} (ends : T → Bool) (ins : List (List (Flow T))) (place : ℕ) (within : place < length ins) (merged : List T) where
  abbrev pub n : ℕ
  n = length ins

  some : 0 < n
  some = omega arith

  -- whether each input has ended, after one more of one
  ended_here : (y : Flow T) → ended_in ins place ≡ false → ended_in (grown ins place within y) place ≡ has_end (y ∷ [])
  ended_here (Item x) o = ap has_end (grown_here ins place within (Item x)) ∙ has_end-item (get_or ins place []) x o
  ended_here End o = ap has_end (grown_here ins place within End) ∙ has_end-end (get_or ins place []) o

  ended_other : (y : Flow T) (j : ℕ) → j ≢ place → ended_in (grown ins place within y) j ≡ ended_in ins j
  ended_other y j d = ap has_end (grown_other ins place within y j d)

  -- the items after one more
  items_here : (x : T) → ended_in ins place ≡ false → items_at (grown ins place within (Item x)) place ≡ items_at ins place ++ x ∷ []
  items_here x o = ap items_of (grown_here ins place within (Item x)) ∙ items_of-item (get_or ins place []) x o

  items_other : (y : Flow T) (j : ℕ) → j ≢ place → items_at (grown ins place within y) j ≡ items_at ins j
  items_other y j d = ap items_of (grown_other ins place within y j d)

  items_after_end : ended_in ins place ≡ false → (j : ℕ) → items_at (grown ins place within End) j ≡ items_at ins j
  items_after_end o j =
      ⊎_elim
      (λ e. subst (λ i. items_at (grown ins place within End) i ≡ items_at ins i) (sym e) (ap items_of (grown_here ins place within End) ∙ items_of-end (get_or ins place []) o))
      (λ d. items_other End j d)
      (cases_eq j place)

  items_front : (y : Flow T) → ended_in ins place ≡ false → (j : ℕ) → IsPrefix (items_at ins j) (items_at (grown ins place within y) j)
  items_front End o j = prefix_same (items_at ins j) (items_at (grown ins place within End) j) (sym (items_after_end o j))
  items_front (Item x) o j =
      ⊎_elim
      (λ e. subst (λ i. IsPrefix (items_at ins i) (items_at (grown ins place within (Item x)) i)) (sym e) (x ∷ [], sym (items_here x o)))
      (λ d. prefix_same (items_at ins j) (items_at (grown ins place within (Item x)) j) (sym (items_other (Item x) j d)))
      (cases_eq j place)

  -- an item of the input whose turn it is
  pub open_item : (o : Open ends n ins place merged) (x : T) → Open ends n (grown ins place within (Item x)) (cond (ends x) (next_place n place) place) (merged ++ x ∷ [])
  open_item o x =
      let more = grown ins place within (Item x) in
      let here : items_at more (o.count % n) ≡ items_at ins (o.count % n) ++ x ∷ [] = subst (λ p. items_at more p ≡ items_at ins p ++ x ∷ []) o.at (items_here x (o.none_ended place within)) in
      let others : (j : ℕ) → j < n → j ≢ o.count % n → items_at more j ≡ items_at ins j = λ j h d. items_other (Item x) j (λ e. d (e ∙ o.at)) in
      let none : (j : ℕ) → j < n → ended_in more j ≡ false = λ j h.
      ⊎_elim
      (λ same. subst (λ i. ended_in more i ≡ false) (sym same) (ended_here (Item x) (o.none_ended place within)))
      (λ other. ended_other (Item x) j other ∙ o.none_ended j h)
      (cases_eq j place) in
      ⊎_elim
      (λ t. record {
        count = suc o.count;
        at = cond-true (ends x) (next_place n place) place t ∙ next_place-count n (suc o.count) place some (omega arith) (o.at ∙ ap (λ c. c % n) (let e : o.count ≡ suc o.count - 1 = omega arith in e));
        merges = merges_end ends n some (items_at ins) (items_at more) o.count merged o.merges x here others t;
        none_ended = none;
      })
      (λ f. record {
        count = o.count;
        at = cond-false (ends x) (next_place n place) place f ∙ o.at;
        merges = merges_item ends n some (items_at ins) (items_at more) o.count merged o.merges x here others f;
        none_ended = none;
      })
      (cases_Bool (ends x))

  -- the first End
  pub open_end : (o : Open ends n ins place merged) → Closes ends n (grown ins place within End) place 0 merged
  unfolding merged_kept merged_from
  open_end o =
      let more = grown ins place within End in
      let start : IsMerged ends n (items_at ins) merged = merged_from ends n some (items_at ins) o.count merged o.merges in
      record {
        merges = merged_kept ends n some (items_at ins) (items_at more) merged start (λ j h. items_front End (o.none_ended place within) j) (items_after_end (o.none_ended place within) (start.last % n));
        stuck = sym o.at;
        within = within;
        some_ended = λ j h.
            ⊎_elim
            (λ same. subst (λ i. ended_in more i ≡ (eqb i place || ltb i 0)) (sym same) (ended_here End (o.none_ended place within) ∙ sym (ap (λ b. b || ltb place 0) (eq-eqb place place refl))))
            (λ other. ended_other End j other ∙ (o.none_ended j h ∙ sym (ap (λ b. b || ltb j 0) (ne_eqb j place other) ∙ le-ltb j 0 (omega arith))))
            (cases_eq j place);
      }

  -- each input still has at most one End, its last
  pub formed_more : (y : Flow T) → ended_in ins place ≡ false → ((j : ℕ) → j < n → IsFlow (get_or ins j [])) → (j : ℕ) → j < length (grown ins place within y) → IsFlow (get_or (grown ins place within y) j [])
  formed_more y o formed j h =
      let k : j < n = subst (λ m. j < m) (grown_length ins place within y) h in
      ⊎_elim
      (λ same. subst (λ i. IsFlow (get_or (grown ins place within y) i [])) (sym same) (subst IsFlow (sym (grown_here ins place within y)) (IsFlow-more (get_or ins place []) y o (formed place within))))
      (λ other. subst IsFlow (sym (grown_other ins place within y j other)) (formed j k))
      (cases_eq j place)

  -- the items received are one more, or as many where the End came
  pub count_grown : (y : Flow T) → ended_in ins place ≡ false → items_in (grown ins place within y) ≡ items_in ins + length (items_of (y ∷ []))
  count_grown y o =
      let more = sum_by-set (λ xs. length (items_of xs)) ins place (get_or ins place [] ++ y ∷ []) [] within in
      let one = items_more (get_or ins place []) y o in
      omega (arith, more, one)

  -- one more of another input
  pub closes_more : (first : ℕ) → Closes ends n ins first place merged → place ≢ first → (y : Flow T) → Closes ends n (grown ins place within y) first (cond (has_end (y ∷ [])) (place + 1) place) merged
  unfolding merged_kept
  closes_more first c d y =
      let more = grown ins place within y in
      let off : ended_in ins place ≡ false = c.some_ended place within ∙ (ap (λ b. b || ltb place place) (ne_eqb place first d) ∙ le-ltb place place (omega arith)) in
      record {
        merges = merged_kept ends n some (items_at ins) (items_at more) merged c.merges (λ j h. items_front y off j) (items_other y (c.merges.last % n) (λ e. d (sym e ∙ c.stuck)));
        stuck = c.stuck;
        within = c.within;
        some_ended = λ j h.
            ⊎_elim
            (λ same. subst (λ i. ended_in more i ≡ (eqb i first || ltb i (cond (has_end (y ∷ [])) (place + 1) place))) (sym same)
            (ended_here y off ∙ sym (ap (λ b. b || ltb place (cond (has_end (y ∷ [])) (place + 1) place)) (ne_eqb place first d) ∙ upto place (has_end (y ∷ [])))))
            (λ other. ended_other y j other ∙ (c.some_ended j h ∙ ap (λ b. eqb j first || b) (beside place (has_end (y ∷ [])) j other)))
            (cases_eq j place);
      }

-- which input is next, or none
module _ {T : Type 0} (ends : T → Bool) (n : ℕ) (ins : List (List (Flow T))) (first next : ℕ) (merged : List T) (c : Closes ends n ins first next merged) where
  skip : ℕ
  skip = cond (eqb next first) (next + 1) next

  skipped : (j : ℕ) → (eqb j first || ltb j next) ≡ (eqb j first || ltb j (cond (eqb next first) (next + 1) next))
  skipped j =
      ⊎_elim
      (λ (e : j ≡ first). ap (λ b. b || ltb j next) (eq-eqb j first e) ∙ sym (ap (λ b. b || ltb j (cond (eqb next first) (next + 1) next)) (eq-eqb j first e)))
      (λ (d : j ≢ first).
      ap (λ b. eqb j first || b)
      (⊎_elim
      (λ t. let same : next ≡ first = eqb-true next first t in sym (ap (λ b. ltb j (cond b (next + 1) next)) t ∙ sym (beside next true j (λ e. d (e ∙ same)))))
      (λ f. sym (ap (λ b. ltb j (cond b (next + 1) next)) f))
      (cases_Bool (eqb next first))))
      (cases_eq j first)

  skip_apart : cond (eqb next first) (next + 1) next ≢ first
  skip_apart =
      ⊎_elim
      (λ t e. let same : next ≡ first = eqb-true next first t in let f : next + 1 ≡ first = sym (cond-true (eqb next first) (next + 1) next t) ∙ e in absurd (omega arith))
      (λ f e. eqb-false next first f (sym (cond-false (eqb next first) (next + 1) next f) ∙ e))
      (cases_Bool (eqb next first))

  pub close_step : HasGathered ends n (close_next {T = T} n first next).0 ins (close_next {T = T} n first next).1 merged
  close_step =
      let at = cond (eqb next first) (next + 1) next in
      let on : Closes ends n ins first at merged = record { merges = c.merges; stuck = c.stuck; within = c.within; some_ended = λ j h. c.some_ended j h ∙ skipped j } in
      ⊎_elim
      (λ (h : at < n). subst (λ (r : Gathered T × ℕ). HasGathered ends n r.0 ins r.1 merged) (sym (cond-true (ltb at n) (Closing first, at) (Ends, at) (lt-ltb at n h))) (on, h, skip_apart))
      (λ (h : n ≤ at). subst (λ (r : Gathered T × ℕ). HasGathered ends n r.0 ins r.1 merged) (sym (cond-false (ltb at n) (Closing first, at) (Ends, at) (le-ltb at n h)))
      (c.merges, λ j k. c.some_ended j k ∙ (skipped j ∙ (ap (λ b. eqb j first || b) (lt-ltb j at (omega arith)) ∙ or_right (eqb j first) true refl))))
      (cases_lt at n)

  pub close_sends : (outs : List (Flow T)) → outs ≡ map Item merged → outs ++ to_send (close_next {T = T} n first next).0 ≡ flow_of merged (all_ended (close_next {T = T} n first next).0)
  close_sends outs e =
      let at = cond (eqb next first) (next + 1) next in
      ⊎_elim
      (λ (h : at < n). subst (λ (r : Gathered T × ℕ). outs ++ to_send r.0 ≡ flow_of merged (all_ended r.0)) (sym (cond-true (ltb at n) (Closing first, at) (Ends, at) (lt-ltb at n h))) (ap (λ zs. zs ++ []) e))
      (λ (h : n ≤ at). subst (λ (r : Gathered T × ℕ). outs ++ to_send r.0 ≡ flow_of merged (all_ended r.0)) (sym (cond-false (ltb at n) (Closing first, at) (Ends, at) (le-ltb at n h))) (ap (λ zs. zs ++ End ∷ []) e))
      (cases_lt at n)
