-- What is written, row by row, of rows that are read.
use Rattle.std.proofs.Common.{◌≡◌, ◌≤◌, ◌^◌, ◌+◌, ℕ, List, length, length-append, [], ◌∷◌, ◌++◌, Option, Some, None, IfSome, Result, Err, Ok, inl, inr, refl, sym, ap, ◌∙◌, subst, ⊎_elim, append_assoc, append-nil, arith}
use Rattle.std.specs.Io.KnownBytes.{Appends}
use Rattle.std.proofs.KnownBytes.{Appends-nil}
use mathlib.Core.List.{IsPrefix}
use Rattle.std.specs.List.{flat_map}
use Rattle.xb_model.specs.declared.fault.RowFault.{RowFault}
use Rattle.xb_model.specs.declared.fault.RowFault.TheVariants as row_fault
use Rattle.xb_model.specs.Rows.{LoopRow}
use Rattle.xb_model.specs.Sources.{Rest}
use Rattle.xb_routes.specs.Table.{Table}
use Rattle.xb_rows.specs.Scanning.{GivesRead}
use Rattle.xb_live.specs.declared.fault.EntriesFault.{EntriesFault}
use Rattle.xb_live.specs.declared.fault.EntriesFault.TheVariants as entries_fault
use Rattle.xb_live.specs.declared.hearings.Hearings.{Hearings}
use Rattle.xb_live.specs.declared.entry_text.EntryForm.{EntryForm}
use Rattle.xb_live.specs.Clocks.{Style}
use Rattle.xb_live.specs.declared.entry_text.EntryForm.TheVariants.{Entries, Events, Marks, Objects, MarkObjects}
use Rattle.xb_live.specs.Counting.{Counted, HasCounted}
use Rattle.xb_live.specs.Hearings.{HasHeard}
use Rattle.xb_live.specs.Texts.{entries_text, told_text}
use Rattle.xb_live.specs.Writing.{Ends, GotBeginning, GotFirst, GotUntilLate, GotUntilLateEvent, HasWritten, Hears, Writes}
use Rattle.xb_live.proofs.AllTold.{all_of_rows-none}
use Rattle.xb_live.proofs.Written.{first_of, first_of_first}
use Rattle.xb_live.specs.declared.fault.LiveFault.{LiveFault}
use Rattle.xb_live.specs.declared.fault.LiveFault.TheVariants as fault
use Rattle.xb_live.specs.Faults.{IsOfRows}
use Rattle.xb_live.specs.Runs.{EndsRows, Prints, PrintsRows, rows_taken}

-- of these rows some were taken, and what is left of them is still to come
abbrev pub IsLeft : Rest → List LoopRow → Option Rest → Type 0
IsLeft all taken None = ⊥
IsLeft all taken (Some left) = (all.rows ≡ taken ++ left.rows) × (all.stop ≡ left.stop)

-- the entries of the rows that were taken, so many, were written
abbrev pub IsSoFar :
    ℕ → Style → Counted → Hearings → Option Rest → Option Rest → Option (List ℕ) → Option (List ℕ) → Type 0
IsSoFar count style office hearings all now start out = IfSome all (λ rest.
    (taken : List LoopRow) × IsLeft rest taken now × HasWritten style office hearings taken start out
    × (length taken ≡ count))

-- rows that stop are among those that are taken
first_of_taken : (rows : List LoopRow) (stop : Option RowFault) → IsPrefix rows (rows_taken rows stop)
first_of_taken rows None = first_of rows _
first_of_taken rows (Some f) = ([], append-nil rows)

-- the first of the first of some rows
first_along : (first some all : List LoopRow) → IsPrefix first some → IsPrefix some all → IsPrefix first all
first_along first some all p q = subst (IsPrefix first) q.1 (first_of_first first some q.0 p)

text-none : (style : Style) (table : Table) → entries_text style table [] ≡ []
text-none style table = ap (flat_map (told_text style)) (all_of_rows-none table)

-- before the first row nothing is to be heard
hears-none : (form : EntryForm) (table : Table) (hearings : Hearings) → HasHeard table hearings [] → Hears form table hearings []
hears-none Entries table hearings silent = tt
hears-none Marks table hearings silent = tt
hears-none (Objects since) table hearings silent = silent
hears-none (MarkObjects since) table hearings silent = silent
hears-none (Events since) table hearings silent = silent

pub so_far-start : (style : Style) (office : Counted) (hearings : Hearings) (all : Option Rest) (out : Option (List ℕ)) → HasCounted office [] → HasHeard office.live.table hearings [] → IsSoFar 0 style office hearings all all out out
so_far-start style office hearings None out counted silent = tt
so_far-start style office hearings (Some rest) out counted silent =
    ([], (refl, refl), record { counted = counted; heard = hears-none style.form office.live.table hearings silent; text = subst (Appends out out) (sym (text-none style office.live.table)) (Appends-nil out) }, refl)

module _ (count : ℕ) (style : Style) (office : Counted) (hearings : Hearings) (start out : Option (List ℕ)) where
  -- a row more
  pub so_far-more : (after : Counted) (heard : Hearings) (row : LoopRow) (new : Option (List ℕ)) (all now left : Option Rest)
      → IsSoFar count style office hearings all now start out → GivesRead now (Ok (Some row)) left
      → ((rows : List LoopRow) → HasWritten style office hearings rows start out → HasWritten style after heard (rows ++ row ∷ []) start new)
      → IsSoFar (count + 1) style after heard all left start new
  so_far-more after heard row new None now left so gives more = tt
  so_far-more after heard row new (Some rest) None left so gives more = absurd so.1
  so_far-more after heard row new (Some rest) (Some here) None so gives more = absurd gives
  so_far-more after heard row new (Some rest) (Some here) (Some left) (taken, are, wrote, many) gives more =
      ⊎_elim
      (λ g. (
        taken ++ row ∷ [],
        (are.0 ∙ ap (λ rows. taken ++ rows) g.0 ∙ sym (append_assoc taken (row ∷ []) left.rows), are.1 ∙ sym g.1),
        more taken wrote,
        length-append taken (row ∷ []) ∙ ap (λ n. n + 1) many,
      ))
      (λ g. absurd (cc (g.1)))
      gives

  -- a row more, which was not written
  pub so_far-fault : (after : Counted) (heard : Hearings) (table : Table) (row : LoopRow) (new : Option (List ℕ)) (f : EntriesFault) (all now left : Option Rest)
      → after.live.table ≡ table → IsSoFar count style office hearings all now start out → GivesRead now (Ok (Some row)) left
      → ((rows : List LoopRow) → HasWritten style office hearings rows start out → Writes style after heard (rows ++ row ∷ []) (Err f) start new)
      → IfSome all (λ rest. Prints style table rest (Err (fault.Entries f)) start new)
  so_far-fault after heard table row new f None now left same so gives more = tt
  so_far-fault after heard table row new f (Some rest) None left same so gives more = absurd so.1
  so_far-fault after heard table row new f (Some rest) (Some here) None same so gives more = absurd gives
  so_far-fault after heard table row new f (Some rest) (Some here) (Some left) same (taken, are, wrote, many) gives more =
      ⊎_elim
      (λ g.
      let first : IsPrefix (taken ++ row ∷ []) rest.rows = (left.rows, append_assoc taken (row ∷ []) left.rows ∙ ap (λ rows. taken ++ rows) (sym g.0) ∙ sym are.0) in
      at f (first_along (taken ++ row ∷ []) rest.rows (rows_taken rest.rows rest.stop) first (first_of_taken rest.rows rest.stop)) (more taken wrote))
      (λ g. absurd (cc (g.1)))
      gives
    where
      at : (f : EntriesFault) → IsPrefix (taken ++ row ∷ []) (rows_taken rest.rows rest.stop) → Writes style after heard (taken ++ row ∷ []) (Err f) start new → Prints style table rest (Err (fault.Entries f)) start new
      at entries_fault.NoMemory p got = subst (λ t. GotFirst style t (rows_taken rest.rows rest.stop) start new) same (got.0, first_along got.0 _ _ got.1 p, got.2)
      at (entries_fault.Late line number) p (earlier, (late, q, text, completes)) =
          subst (λ t. GotUntilLate style line number t (rows_taken rest.rows rest.stop) start new) same
          (earlier, (late, first_along (earlier ++ late ∷ []) _ _ q p, text, completes))
      at (entries_fault.LateEvent line) p (earlier, (late, q, text, makes)) =
          subst (λ t. GotUntilLateEvent style line t (rows_taken rest.rows rest.stop) start new) same
          (earlier, (late, first_along (earlier ++ late ∷ []) _ _ q p, text, makes))
      at entries_fault.Write p got = inr (subst (λ t. GotBeginning style t (rows_taken rest.rows rest.stop) start new) same (got.0, first_along got.0 _ _ got.1 p, got.2))

  -- the entries of the first rows stand
  so_far-first : (rest : Rest) (table : Table) (now : Option Rest) → office.live.table ≡ table → IsSoFar count style office hearings (Some rest) now start out → GotFirst style table rest.rows start out
  so_far-first rest table None same so = absurd so.1
  so_far-first rest table (Some left) same (taken, are, wrote, many) =
      (taken, (left.rows, sym are.0), subst (λ t. Appends start out (entries_text style t taken)) same wrote.text)

  -- there are as many rows as were taken, and maybe more
  pub so_far-many : (table : Table) (all now : Option Rest) → office.live.table ≡ table → 2 ^ 63 ≤ count → IsSoFar count style office hearings all now start out → IfSome all (λ rest. Prints style table rest (Err fault.TooMany) start out)
  so_far-many table None now same most so = tt
  so_far-many table (Some rest) None same most so = absurd so.1
  so_far-many table (Some rest) (Some left) same most (taken, are, wrote, many) =
      (omega (arith, most, many, ap length are.0, length-append taken left.rows), so_far-first rest table (Some left) same (taken, are, wrote, many))

  -- the rows end
  pub so_far-end : (table : Table) (new : Option (List ℕ)) (result : Result (Unit {0}) EntriesFault) (all now left : Option Rest)
      → IsSoFar count style office hearings all now start out → GivesRead now (Ok None) left
      → ((rows : List LoopRow) → HasWritten style office hearings rows start out → Ends style table rows result start new)
      → IfSome all (λ rest. (rest.stop ≡ None) × Ends style table rest.rows result start new)
  so_far-end table new result None now left so gives ends = tt
  so_far-end table new result (Some rest) None left so gives ends = absurd so.1
  so_far-end table new result (Some rest) (Some here) None so gives ends = absurd gives
  so_far-end table new result (Some rest) (Some here) (Some left) (taken, are, wrote, many) gives ends =
      ⊎_elim
      (λ g.
      let whole : taken ≡ rest.rows = sym (are.0 ∙ ap (λ rows. taken ++ rows) g.0 ∙ append-nil taken) in
      (are.1 ∙ g.1, subst (λ rows. Ends style table rows result start new) whole (ends taken wrote)))
      (λ g. absurd (cc (g.1)))
      gives

  -- a fault stops the rows
  pub so_far-stop : (table : Table) (f : RowFault) (e : LiveFault) (all now left : Option Rest) → office.live.table ≡ table
      → IsSoFar count style office hearings all now start out → GivesRead now (Err f) left → IsOfRows f e
      → IfSome all (λ rest. Prints style table rest (Err e) start out)
  so_far-stop table f e None now left same so gives of = tt
  so_far-stop table f e (Some rest) None left same so gives of = absurd so.1
  so_far-stop table f e (Some rest) (Some here) None same so gives of = absurd gives
  so_far-stop table f e (Some rest) (Some here) (Some left) same (taken, are, wrote, many) gives of =
      ⊎_elim
      (λ m. rw (m.1) (so_far-first rest table (Some here) same (taken, are, wrote, many)))
      (λ other. ⊎_elim
      (λ r. rw (r.1) (so_far-first rest table (Some here) same (taken, are, wrote, many)))
      (λ o. rw (o.2) (stopped o.0 o.1 gives)) other)
      of
    where
      stopped : (f ≡ row_fault.NoMemory → ⊥) → (f ≡ row_fault.Read → ⊥) → GivesRead (Some here) (Err f) (Some left)
          → (rest.stop ≡ Some f) × Appends start out (entries_text style table rest.rows)
      stopped memory read g =
          ⊎_elim
          (λ h. ⊎_elim
          (λ s.
          let whole : taken ≡ rest.rows = sym (are.0 ∙ ap (λ rows. taken ++ rows) s.0 ∙ append-nil taken) in
          (are.1 ∙ s.1, subst (λ t. Appends start out (entries_text style t rest.rows)) same (subst (λ rows. Appends start out (entries_text style office.live.table rows)) whole wrote.text)))
          (λ m. absurd (memory m.1)) h.0)
          (λ failed. absurd (read (cc (failed.1))))
          g

-- what the end gives is what is printed
pub ends-printed : (style : Style) (table : Table) (start new : Option (List ℕ)) (f : EntriesFault) (all : Option Rest)
    → IfSome all (λ rest. (rest.stop ≡ None) × Ends style table rest.rows (Err f) start new) → IfSome all (λ rest. Prints style table rest (Err (fault.Entries f)) start new)
ends-printed style table start new f None h = tt
ends-printed style table start new entries_fault.NoMemory (Some rest) h =
    subst (λ stop. GotFirst style table (rows_taken rest.rows stop) start new) (sym h.0) h.1
ends-printed style table start new (entries_fault.Late line number) (Some rest) h =
    subst (λ stop. GotUntilLate style line number table (rows_taken rest.rows stop) start new) (sym h.0) h.1
ends-printed style table start new (entries_fault.LateEvent line) (Some rest) h =
    subst (λ stop. GotUntilLateEvent style line table (rows_taken rest.rows stop) start new) (sym h.0) h.1
ends-printed style table start new entries_fault.Write (Some rest) h =
    ⊎_elim
    (λ beginning. inl (h.0, beginning))
    (λ got. inr (subst (λ stop. GotBeginning style table (rows_taken rest.rows stop) start new) (sym h.0) got))
    h.1

-- what is printed of rows that are known is all that is said of them
pub known : (style : Style) (table : Table) (all : Option Rest) (result : Result (Unit {0}) LiveFault) (start out : Option (List ℕ))
    → EndsRows result → IfSome all (λ rest. Prints style table rest result start out) → PrintsRows style table all result start out
known style table None result start out ends h = ends
known style table (Some rest) result start out ends h = h

-- the faults of rows are such as end rows
pub rows-end : (f : RowFault) (e : LiveFault) → IsOfRows f e → EndsRows (Err e)
rows-end f e of = ⊎_elim (λ m. rw (m.1) tt) (λ other. ⊎_elim (λ r. rw (r.1) tt) (λ o. rw (o.2) tt) other) of
