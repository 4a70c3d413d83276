-- What a feed takes ahead, one row after another.
use Rattle.std.proofs.Common.{◌≡◌, Bool, true, false, cond, List, [], ◌∷◌, ◌++◌, map, Option, Some, None, Result, Ok, Err, refl, sym, ap, ◌∙◌, subst, ⊎_elim, inl, inr, append-nil, append_assoc}
use Rattle.std.proofs.lemmas.Bool.{false≢true}
use Rattle.std.proofs.lemmas.List.{map-append}
use Rattle.xb_model.specs.declared.fault.RowFault.{RowFault}
use Rattle.xb_model.specs.declared.fault.RowFault.TheVariants.{NoMemory}
use Rattle.xb_model.specs.Rows.{LoopRow}
use Rattle.xb_model.specs.Sources.{Rest, told, Gives}
use Rattle.xb_flow.specs.declared.flow.Flow.{Flow}
use Rattle.xb_flow.specs.declared.flow.Flow.TheVariants.{Item, End}
use Rattle.xb_flow.specs.Flows.{flow_of}
use Rattle.xb_flow.proofs.Prefixes.{prefix_within}
use Rattle.xb_closes.specs.declared.line_use.LineUse.{LineUse}
use Rattle.xb_closes.specs.Left.{kept_in, left}
use Rattle.xb_posts.specs.Fillings.{MayGive, GaveAll, Gave, held_and_left, Fills}

-- a stop that was told is all that may be given
pub may_give-told : (rest : Rest) (told_stop : Option RowFault) (rows : List LoopRow) (stop : Option RowFault) → rest ≡ told told_stop → MayGive rest rows stop
    → (rows ≡ []) × (stop ≡ told_stop)
may_give-told rest told_stop rows stop e m =
    ⊎_elim (λ all. all) (λ part. absurd (false≢true part.0)) (subst (λ r. MayGive r rows stop) e m)

-- a source that has these parts
abbrev rest_of : List LoopRow → Option RowFault → Bool → Rest
rest_of rows stop may = record { rows = rows; stop = stop; may_allocate = may }

-- what is left is the same where its parts are
rest_is : (rows rows' : List LoopRow) (stop stop' : Option RowFault) (may may' : Bool) → rows ≡ rows' → stop ≡ stop' → may ≡ may'
    → rest_of rows stop may ≡ rest_of rows' stop' may'
rest_is rows rows' stop stop' may may' e f g = rw (e, f, g) refl

-- a stop that was told after rows: what may be given from then on is nothing
may_give-stopped : (rest : Rest) (taken : List LoopRow) (told_stop : Option RowFault) (rest' : Rest) → GaveAll rest taken told_stop rest'
    → (rows : List LoopRow) (stop : Option RowFault) → MayGive rest' rows stop → MayGive rest (taken ++ rows) stop
may_give-stopped rest taken told_stop rest' g rows stop m =
    let t = may_give-told rest' told_stop rows stop g.1 m in
    subst (λ s. MayGive rest (taken ++ rows) s) (sym t.1)
    (subst (λ ys. MayGive rest ys told_stop) (sym (append-nil taken) ∙ ap (λ ys. taken ++ ys) (sym t.0)) g.0)

-- one row more was given
gave_more : (taken : List LoopRow) (row : LoopRow) (rest rest' : Rest) → Gives rest (Ok (Some row)) rest'
    → (record rest { rows = taken ++ rest.rows }) ≡ (record rest' { rows = (taken ++ row ∷ []) ++ rest'.rows })
gave_more taken row rest rest' g =
    let e : taken ++ rest.rows ≡ (taken ++ row ∷ []) ++ rest'.rows = ap (λ ys. taken ++ ys) g.0 ∙ sym (append_assoc taken (row ∷ []) rest'.rows) in
    rest_is _ _ _ _ _ _ e (sym g.1) (sym g.2)

-- a flow after more items
flow_of-append : {X : Type 0} (xs ys : List X) → flow_of (xs ++ ys) true ≡ map Item xs ++ flow_of ys true
flow_of-append xs ys = ap (λ zs. zs ++ End ∷ []) (map-append Item xs ys) ∙ append_assoc (map Item xs) (map Item ys) (End ∷ [])

-- where a fault stops the rows, what is left of them is those that are heard
left-heard : (uses : List LineUse) (rows : List LoopRow) → left uses rows (Some NoMemory) ≡ kept_in uses rows
unfolding left
left-heard uses rows = append-nil _

left-nothing : (uses : List LineUse) → left uses [] (Some NoMemory) ≡ []
unfolding left
left-nothing uses = refl

-- what a source may give after it gave rows, it may have given before, after those rows
pub may_give-before : (rest : Rest) (taken : List LoopRow) (result : Result Bool RowFault) (rest' : Rest) → Gave rest taken result rest'
    → (rows : List LoopRow) (stop : Option RowFault) → MayGive rest' rows stop → MayGive rest (taken ++ rows) stop
may_give-before rest taken (Ok false) rest' g rows stop m =
    subst (λ r. MayGive r (taken ++ rows) stop) (sym g)
    (⊎_elim
    (λ all. inl (ap (λ ys. taken ++ ys) all.0, all.1))
    (λ part. inr (part.0, prefix_within taken rows rest'.rows part.1, part.2))
    m)
may_give-before rest taken (Ok true) rest' g rows stop m = may_give-stopped rest taken None rest' g rows stop m
may_give-before rest taken (Err fault) rest' g rows stop m = may_give-stopped rest taken (Some fault) rest' g rows stop m

-- what is held and left stays the same, whatever the source gives from now on
pub fills-earlier : (rest : Rest) (held : List (Flow LoopRow)) (uses : List LineUse) (result : Result Bool RowFault) (rest' : Rest) (held' : List (Flow LoopRow)) (uses' : List LineUse)
    → Fills rest held uses result rest' held' uses' → (rows : List LoopRow) (stop : Option RowFault) → MayGive rest' rows stop
    → (all : List LoopRow) × MayGive rest all stop × (held_and_left held' uses' rows stop ≡ held_and_left held uses all stop)
fills-earlier rest held uses result rest' held' uses' f rows stop m =
    let heard : List LoopRow = kept_in uses f.taken in
    let F : List (Flow LoopRow) = flow_of (left uses' rows stop) true in (
      f.taken ++ rows,
      may_give-before rest f.taken result rest' f.gave rows stop m,
      ap (λ zs. zs ++ F) f.holds
          ∙ append_assoc held (map Item heard) F
          ∙ ap (λ zs. held ++ zs) (sym (flow_of-append heard (left uses' rows stop)) ∙ ap (λ zs. flow_of zs true) (sym (f.goes_on rows stop))),
    )

pub fills-none : (rest : Rest) (held : List (Flow LoopRow)) (uses : List LineUse) → Fills rest held uses (Ok false) rest held uses
fills-none rest held uses = record {
  taken = [];
  gave = refl;
  holds = sym (append-nil held);
  goes_on = λ rows stop. refl;
}

module _ (rest0 : Rest) (held0 : List (Flow LoopRow)) (uses0 : List LineUse) (rest : Rest) (held : List (Flow LoopRow)) (uses : List LineUse)
    (fills : Fills rest0 held0 uses0 (Ok false) rest held uses) where
  -- the source ended
  pub fills-end : (rest' : Rest) → Gives rest (Ok None) rest' → Fills rest0 held0 uses0 (Ok true) rest' held uses
  fills-end rest' g = record {
    taken = fills.taken;
    gave = (
      inl (sym (append-nil _) ∙ ap (λ ys. fills.taken ++ ys) (sym g.0) ∙ ap (λ r. r.rows) (sym fills.gave), sym g.1 ∙ ap (λ r. r.stop) (sym fills.gave)),
      g.2,
    );
    holds = fills.holds;
    goes_on = fills.goes_on;
  }

  -- a fault stopped it
  pub fills-fault : (fault : RowFault) (rest' : Rest) → Gives rest (Err fault) rest' → Fills rest0 held0 uses0 (Err fault) rest' held uses
  fills-fault fault rest' g = record {
    taken = fills.taken;
    gave = (
      ⊎_elim
          (λ stopped. inl (sym (append-nil _) ∙ ap (λ ys. fills.taken ++ ys) (sym stopped.0) ∙ ap (λ r. r.rows) (sym fills.gave), sym stopped.1 ∙ ap (λ r. r.stop) (sym fills.gave)))
          (λ ran_out. inr (ap (λ r. r.may_allocate) fills.gave ∙ ran_out.0, (rest.rows, ap (λ r. r.rows) (sym fills.gave)), ap Some ran_out.1))
          g.0,
      g.1,
    );
    holds = fills.holds;
    goes_on = fills.goes_on;
  }

  -- it gave a row, which is held where it is heard
  pub fills-row : (row : LoopRow) (rest' : Rest) (heard : Bool) (held' : List (Flow LoopRow)) (uses' : List LineUse) → Gives rest (Ok (Some row)) rest'
      → ((rows : List LoopRow) (stop : Option RowFault) → left uses (row ∷ rows) stop ≡ cond heard (row ∷ []) [] ++ left uses' rows stop)
      → held' ≡ held ++ map Item (cond heard (row ∷ []) []) → Fills rest0 held0 uses0 (Ok false) rest' held' uses'
  fills-row row rest' heard held' uses' g left_is held_is =
      let new : List LoopRow = cond heard (row ∷ []) [] in
      let before : List LoopRow = kept_in uses0 fills.taken in
      let more : (rows : List LoopRow) (stop : Option RowFault) → left uses0 ((fills.taken ++ row ∷ []) ++ rows) stop ≡ (before ++ new) ++ left uses' rows stop =
      λ rows stop.
      ap (λ ys. left uses0 ys stop) (append_assoc fills.taken (row ∷ []) rows)
      ∙ fills.goes_on (row ∷ rows) stop
      ∙ ap (λ ys. before ++ ys) (left_is rows stop)
      ∙ sym (append_assoc before new (left uses' rows stop)) in
      let heard_now : kept_in uses0 (fills.taken ++ row ∷ []) ≡ before ++ new =
      sym (left-heard uses0 (fills.taken ++ row ∷ []))
      ∙ ap (λ ys. left uses0 ys (Some NoMemory)) (sym (append-nil _))
      ∙ more [] (Some NoMemory)
      ∙ ap (λ ys. (before ++ new) ++ ys) (left-nothing uses')
      ∙ append-nil _ in
      record {
        taken = fills.taken ++ row ∷ [];
        gave = fills.gave ∙ gave_more fills.taken row rest rest' g;
        holds = held_is
            ∙ ap (λ zs. zs ++ map Item new) fills.holds
            ∙ append_assoc held0 (map Item before) (map Item new)
            ∙ ap (λ zs. held0 ++ zs) (sym (map-append Item before new))
            ∙ ap (λ ys. held0 ++ map Item ys) (sym heard_now);
        goes_on = λ rows stop. more rows stop ∙ ap (λ ys. ys ++ left uses' rows stop) (sym heard_now);
      }
