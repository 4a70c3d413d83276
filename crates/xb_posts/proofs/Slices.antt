-- Items in a ring, and more after them.
use Rattle.std.proofs.Common.{◌≡◌, ◌≢◌, ◌≤◌, ◌+◌, ◌-◌, ◌^◌, min, ℕ, false, List, [], ◌∷◌, ◌++◌, map, length, length-append, refl, sym, ap, ◌∙◌, append-nil, append_assoc, drop, get_or, inl, inr, arith}
use Rattle.std.proofs.lemmas.List.{map-append, length-map}
use Rattle.xb_model.specs.Rows.{LoopRow}
use Rattle.xb_flow.specs.declared.flow.Flow.{Flow}
use Rattle.xb_flow.specs.declared.flow.Flow.TheVariants.{Item, End}
use Rattle.xb_flow.specs.Flows.{items_of, has_end, IsFlow, counted}
use Rattle.xb_flow.proofs.Flows.{count_on, has_end-flow}
use Rattle.xb_posts.specs.declared.filling.TheConstants.{AHEAD}
use Rattle.xb_posts.specs.Feeds.{AreRows, IsOnePush}

module _ {X : Type 0} (ys : List (Flow X)) where
  pub items_of-append : (xs : List (Flow X)) → has_end xs ≡ false → items_of (xs ++ ys) ≡ items_of xs ++ items_of ys
  items_of-append [] h = refl
  items_of-append (Item x ∷ xs) h = ap (λ zs. x ∷ zs) (items_of-append xs h)
  items_of-append (End ∷ xs) h = cc

  pub has_end-append : (xs : List (Flow X)) → has_end xs ≡ false → has_end (xs ++ ys) ≡ has_end ys
  has_end-append [] h = refl
  has_end-append (Item x ∷ xs) h = has_end-append xs h
  has_end-append (End ∷ xs) h = cc

  pub IsFlow-append : (xs : List (Flow X)) → has_end xs ≡ false → IsFlow xs → IsFlow ys → IsFlow (xs ++ ys)
  IsFlow-append xs h f g =
      let rows : xs ≡ map Item (items_of xs) = rw h at f ∙ append-nil _ in
      rw (items_of-append xs h, has_end-append xs h, map-append Item (items_of xs) (items_of ys))
      (ap (λ zs. zs ++ ys) rows ∙ ap (λ zs. map Item (items_of xs) ++ zs) g ∙ sym (append_assoc (map Item (items_of xs)) (map Item (items_of ys)) _))

  -- the count of what was sent, after these
  pub count_append : (xs : List (Flow X)) → has_end xs ≡ false → (given : ℕ) → given ≡ counted (length (items_of xs))
      → min (given + length (items_of ys)) (2 ^ 64 - 1) ≡ counted (length (items_of (xs ++ ys)))
  count_append xs h given e =
      rw (e, items_of-append xs h, length-append (items_of xs) (items_of ys)) (count_on (length (items_of xs)) (length (items_of ys)) (2 ^ 64 - 1))

-- rows alone are a flow without an End, of as many items
pub rows_end : (held : List (Flow LoopRow)) → AreRows held → has_end held ≡ false
rows_end held h = ap has_end (h ∙ sym (append-nil _)) ∙ has_end-flow (items_of held) false

pub rows_flow : (held : List (Flow LoopRow)) → AreRows held → IsFlow held
rows_flow held h = rw (rows_end held h) (h ∙ sym (append-nil _))

pub rows_length : (held : List (Flow LoopRow)) → AreRows held → length (items_of held) ≡ length held
rows_length held h = sym (length-map (items_of held) Item) ∙ ap length (sym h)

-- of rows the first is one, and the others are
pub rows_first : (first : Flow LoopRow) (rest : List (Flow LoopRow)) → AreRows (first ∷ rest) → AreRows (first ∷ []) × AreRows rest
rows_first (Item x) rest h = let t : rest ≡ map Item (items_of rest) = cc in (refl, t)
rows_first End rest h = cc

-- and one more row
pub rows_push : (held : List (Flow LoopRow)) (row : LoopRow) → AreRows held → AreRows (held ++ Item row ∷ [])
rows_push held row h =
    ap (λ zs. zs ++ Item row ∷ []) h
    ∙ sym (map-append Item (items_of held) (row ∷ []))
    ∙ ap (map Item) (sym (items_of-append (Item row ∷ []) held (rows_end held h)))

-- the first of some rows, and the others
pub split_rows : {X : Type 0} (xs ys : List X) (x : X) → xs ≢ [] → x ≡ get_or xs 0 x → ys ≡ drop 1 xs → xs ≡ x ∷ ys
split_rows [] ys x some at rest = absurd (some refl)
split_rows (z ∷ zs) ys x some at rest = ap (λ w. w ∷ zs) (sym at) ∙ ap (λ ws. x ∷ ws) (sym rest)

-- some rows, at most as many as a feed holds, are one push
pub one_push : (held : List (Flow LoopRow)) → held ≢ [] → length held ≤ AHEAD → AreRows held → IsOnePush held
one_push [] some few rows = absurd (some refl)
one_push (x ∷ []) some few rows = inl refl
one_push (x ∷ y ∷ zs) some few rows = inr (omega arith, few, rows)
