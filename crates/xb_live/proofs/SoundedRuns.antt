-- What is written of the sound of a line's trunk, of rows that are read.
use Rattle.std.proofs.Common.{◌≡◌, ◌≤◌, ◌^◌, ◌+◌, ℕ, List, length, length-append, [], ◌∷◌, ◌++◌, Option, Some, None, IfSome, Result, Err, Ok, refl, sym, ap, ◌∙◌, subst, ⊎_elim, append_assoc, append-nil, arith}
use Rattle.std.specs.Io.KnownBytes.{Appends}
use Rattle.std.proofs.lemmas.List.Concat.{flat_map-append}
use Rattle.xb_model.specs.declared.fault.RowFault.{RowFault}
use Rattle.xb_model.specs.declared.fault.RowFault.TheVariants as row_fault
use Rattle.xb_model.specs.Rows.{LoopRow}
use Rattle.xb_model.specs.Sources.{Rest}
use Rattle.xb_routes.specs.Table.{Table}
use Rattle.xb_rows.specs.Scanning.{GivesRead}
use Rattle.std.proofs.KnownBytes.{Appends-trans}
use Rattle.xb_sound.specs.declared.cadence.Cadence.{Cadence}
use Rattle.xb_sound.specs.Wavs.{pcm_of, sample_bytes}
use Rattle.xb_text.specs.Writing.{AppendsBeginning}
use Rattle.xb_text.proofs.Beginnings.{AppendsBeginning-first, AppendsBeginning-second}
use Rattle.xb_trunk.specs.declared.fault.TrunkFault.{TrunkFault}
use Rattle.xb_trunk.specs.Sounded.{Waits, sounded, waiting_after, whole_sound}
use Rattle.xb_trunk.proofs.Times.{whole-append}
use Rattle.xb_live.specs.Counting.{Counted, HasCounted}
use Rattle.xb_live.specs.declared.fault.LiveFault.{LiveFault}
use Rattle.xb_live.specs.declared.fault.LiveFault.TheVariants as fault
use Rattle.xb_live.specs.Faults.{IsOfRows}
use Rattle.xb_live.specs.Starting.{Asked, Started, given_up_asked, started_of, steps_asked, up_at_end}
use Rattle.xb_live.specs.Sounding.{HasSounded, Sounds, sound_of_rows, whole_of_rows}
use Rattle.xb_live.specs.SoundedDecks.{EndsSound, SoundsBeginning, SoundsFirst, SoundsRest, SoundsRows}
use Rattle.xb_live.proofs.Runs.{IsLeft}
use Rattle.xb_live.proofs.SoundedRows.{later_asked, sounded-none, steps-later-asked, up-ended}

-- the rows that were taken, so many, have sounded
abbrev pub HasSoFar :
    ℕ → Asked → Cadence → Counted → Started → Waits → Option Rest → Option Rest → Option (List ℕ) → Option (List ℕ) → Type 0
HasSoFar count asked cadence office started trunk all now start out = IfSome all (λ rest.
    (taken : List LoopRow) × IsLeft rest taken now × HasSounded asked cadence office started trunk taken start out
    × (length taken ≡ count))

pub sound-start : (asked : Asked) (office : Counted) (started : Started) (trunk : Waits) (all : Option Rest) (out : Option (List ℕ)) → HasCounted office [] → started ≡ started_of asked.start → trunk.waiting ≡ [] → HasSoFar 0 asked trunk.cadence office started trunk all all out out
sound-start asked office started trunk None out counted fresh silent = tt
sound-start asked office started trunk (Some rest) out counted fresh silent =
    ([], (refl, refl), sounded-none asked office started trunk out counted fresh silent, refl)

-- what rows write is the beginning of what is heard of them and of later ones
whole-parts : (asked : Asked) (cadence : Cadence) (table : Table) (taken later : List LoopRow)
    → sound_of_rows asked cadence table taken ++ pcm_of (whole_sound cadence (waiting_after cadence [] (steps_asked table asked taken)) (later_asked table asked taken later))
    ≡ whole_of_rows asked cadence table (taken ++ later)
whole-parts asked cadence table taken later =
    let steps = steps_asked table asked taken in
    let more = later_asked table asked taken later in
    sym (flat_map-append sample_bytes (sounded cadence [] steps) (whole_sound cadence (waiting_after cadence [] steps) more))
    ∙ ap pcm_of (sym (whole-append cadence [] steps more))
    ∙ ap (λ all. pcm_of (whole_sound cadence [] all)) (sym (steps-later-asked table asked taken later))

begun : (asked : Asked) (cadence : Cadence) (table : Table) (taken later rows : List LoopRow) (old new : Option (List ℕ)) → rows ≡ taken ++ later
    → AppendsBeginning old new (sound_of_rows asked cadence table taken) → SoundsBeginning asked cadence table rows old new
begun asked cadence table taken later rows old new are written =
    subst (AppendsBeginning old new) (whole-parts asked cadence table taken later ∙ ap (whole_of_rows asked cadence table) (sym are))
    (AppendsBeginning-first old new (sound_of_rows asked cadence table taken) _ written)

module _ (count : ℕ) (asked : Asked) (cadence : Cadence) (office : Counted) (started : Started) (trunk : Waits) (start out : Option (List ℕ)) where
  -- a row more
  pub sound-more : (after : Counted) (waited : Started) (next : Waits) (row : LoopRow) (new : Option (List ℕ)) (all now left : Option Rest)
      → HasSoFar count asked cadence office started trunk all now start out → GivesRead now (Ok (Some row)) left
      → ((rows : List LoopRow) → HasSounded asked cadence office started trunk rows start out → HasSounded asked cadence after waited next (rows ++ row ∷ []) start new)
      → HasSoFar (count + 1) asked cadence after waited next all left start new
  sound-more after waited next row new None now left so gives more = tt
  sound-more after waited next row new (Some rest) None left so gives more = absurd so.1
  sound-more after waited next row new (Some rest) (Some here) None so gives more = absurd gives
  sound-more after waited next row new (Some rest) (Some here) (Some left) (taken, are, sounds, many) gives more =
      ⊎_elim
      (λ g. (
        taken ++ row ∷ [],
        (are.0 ∙ ap (λ rows. taken ++ rows) g.0 ∙ sym (append_assoc taken (row ∷ []) left.rows), are.1 ∙ sym g.1),
        more taken sounds,
        length-append taken (row ∷ []) ∙ ap (λ n. n + 1) many,
      ))
      (λ g. absurd (cc (g.1)))
      gives

  -- a row more, whose samples were not written whole
  pub sound-fault : (after : Counted) (waited : Started) (next : Waits) (table : Table) (row : LoopRow) (new : Option (List ℕ)) (f : TrunkFault) (all now left : Option Rest)
      → after.live.table ≡ table → HasSoFar count asked cadence office started trunk all now start out → GivesRead now (Ok (Some row)) left
      → ((rows : List LoopRow) → HasSounded asked cadence office started trunk rows start out → Sounds asked cadence after waited next (rows ++ row ∷ []) (Err f) start new)
      → IfSome all (λ rest. SoundsRest asked cadence table rest (Err (fault.Sound f)) start new)
  sound-fault after waited next table row new f None now left same so gives more = tt
  sound-fault after waited next table row new f (Some rest) None left same so gives more = absurd so.1
  sound-fault after waited next table row new f (Some rest) (Some here) None same so gives more = absurd gives
  sound-fault after waited next table row new f (Some rest) (Some here) (Some left) same (taken, are, sounds, many) gives more =
      ⊎_elim
      (λ g. begun asked cadence table (taken ++ row ∷ []) left.rows rest.rows start new
      (are.0 ∙ ap (λ rows. taken ++ rows) g.0 ∙ sym (append_assoc taken (row ∷ []) left.rows))
      (subst (λ t. AppendsBeginning start new (sound_of_rows asked cadence t (taken ++ row ∷ []))) same (more taken sounds)))
      (λ g. absurd (cc (g.1)))
      gives

  -- the samples of the first rows stand
  sound-first : (rest : Rest) (table : Table) (now : Option Rest) → office.live.table ≡ table → HasSoFar count asked cadence office started trunk (Some rest) now start out → SoundsFirst asked cadence table rest.rows start out
  sound-first rest table None same so = absurd so.1
  sound-first rest table (Some left) same (taken, are, sounds, many) =
      (taken, (left.rows, sym are.0), subst (λ t. Appends start out (sound_of_rows asked cadence t taken)) same sounds.written)

  -- there are as many rows as were taken, and maybe more
  pub sound-many : (table : Table) (all now : Option Rest) → office.live.table ≡ table → 2 ^ 63 ≤ count → HasSoFar count asked cadence office started trunk all now start out → IfSome all (λ rest. SoundsRest asked cadence table rest (Err fault.TooMany) start out)
  sound-many table None now same most so = tt
  sound-many table (Some rest) None same most so = absurd so.1
  sound-many table (Some rest) (Some left) same most (taken, are, sounds, many) =
      (omega (arith, most, many, ap length are.0, length-append taken left.rows), sound-first rest table (Some left) same (taken, are, sounds, many))

  -- the bytes of the whole, where no later rows come
  whole-here : (table : Table) (rows : List LoopRow) → office.live.table ≡ table → HasSounded asked cadence office started trunk rows start out
      → sound_of_rows asked cadence office.live.table rows ++ pcm_of trunk.waiting ≡ whole_of_rows asked cadence table rows
  whole-here table rows same sounds =
      ap (λ xs. sound_of_rows asked cadence office.live.table rows ++ pcm_of xs) sounds.waits
      ∙ sym (flat_map-append sample_bytes (sounded cadence [] (steps_asked office.live.table asked rows)) (waiting_after cadence [] (steps_asked office.live.table asked rows)))
      ∙ ap (λ t. whole_of_rows asked cadence t rows) same

  -- the rows end
  pub sound-end : (table : Table) (new : Option (List ℕ)) (all now left : Option Rest) → office.live.table ≡ table
      → HasSoFar count asked cadence office started trunk all now start out → GivesRead now (Ok None) left
      → Appends out new (pcm_of trunk.waiting)
      → IfSome all (λ rest. SoundsRest asked cadence table rest (Ok (up_at_end started)) start new)
  sound-end table new None now left same so gives writes = tt
  sound-end table new (Some rest) None left same so gives writes = absurd so.1
  sound-end table new (Some rest) (Some here) None same so gives writes = absurd gives
  sound-end table new (Some rest) (Some here) (Some left) same (taken, are, sounds, many) gives writes =
      ⊎_elim
      (λ g.
      let whole : taken ≡ rest.rows = sym (are.0 ∙ ap (λ rows. taken ++ rows) g.0 ∙ append-nil taken) in (
        are.1 ∙ g.1,
        up-ended asked cadence office started trunk taken start out sounds
            ∙ ap (λ t. given_up_asked t asked taken) same ∙ ap (given_up_asked table asked) whole,
        subst (λ rows. Appends start new (whole_of_rows asked cadence table rows)) whole
            (subst (Appends start new) (whole-here table taken same sounds)
            (Appends-trans start out new (sound_of_rows asked cadence office.live.table taken) (pcm_of trunk.waiting) sounds.written writes)),
      ))
      (λ g. absurd (cc (g.1)))
      gives

  -- the rows end, and what waits is not written whole
  pub sound-end-fault : (table : Table) (new : Option (List ℕ)) (f : TrunkFault) (all now left : Option Rest) → office.live.table ≡ table
      → HasSoFar count asked cadence office started trunk all now start out → GivesRead now (Ok None) left
      → AppendsBeginning out new (pcm_of trunk.waiting)
      → IfSome all (λ rest. SoundsRest asked cadence table rest (Err (fault.Sound f)) start new)
  sound-end-fault table new f None now left same so gives writes = tt
  sound-end-fault table new f (Some rest) None left same so gives writes = absurd so.1
  sound-end-fault table new f (Some rest) (Some here) None same so gives writes = absurd gives
  sound-end-fault table new f (Some rest) (Some here) (Some left) same (taken, are, sounds, many) gives writes =
      ⊎_elim
      (λ g.
      let whole : taken ≡ rest.rows = sym (are.0 ∙ ap (λ rows. taken ++ rows) g.0 ∙ append-nil taken) in
      subst (λ rows. SoundsBeginning asked cadence table rows start new) whole
      (subst (AppendsBeginning start new) (whole-here table taken same sounds)
      (AppendsBeginning-second start out new (sound_of_rows asked cadence office.live.table taken) (pcm_of trunk.waiting) sounds.written writes)))
      (λ g. absurd (cc (g.1)))
      gives

  -- a fault stops the rows
  pub sound-stop : (table : Table) (f : RowFault) (e : LiveFault) (all now left : Option Rest) → office.live.table ≡ table
      → HasSoFar count asked cadence office started trunk all now start out → GivesRead now (Err f) left → IsOfRows f e
      → IfSome all (λ rest. SoundsRest asked cadence table rest (Err e) start out)
  sound-stop table f e None now left same so gives of = tt
  sound-stop table f e (Some rest) None left same so gives of = absurd so.1
  sound-stop table f e (Some rest) (Some here) None same so gives of = absurd gives
  sound-stop table f e (Some rest) (Some here) (Some left) same (taken, are, sounds, many) gives of =
      ⊎_elim
      (λ m. rw (m.1) (sound-first rest table (Some here) same (taken, are, sounds, many)))
      (λ other. ⊎_elim
      (λ r. rw (r.1) (sound-first rest table (Some here) same (taken, are, sounds, many)))
      (λ o. rw (o.2) (stopped o.0 o.1 gives)) other)
      of
    where
      stopped : (f ≡ row_fault.NoMemory → ⊥) → (f ≡ row_fault.Read → ⊥) → GivesRead (Some here) (Err f) (Some left)
          → (rest.stop ≡ Some f) × Appends start out (sound_of_rows asked cadence table rest.rows)
      stopped memory read g =
          ⊎_elim
          (λ h. ⊎_elim
          (λ s.
          let whole : taken ≡ rest.rows = sym (are.0 ∙ ap (λ rows. taken ++ rows) s.0 ∙ append-nil taken) in
          (are.1 ∙ s.1, subst (λ t. Appends start out (sound_of_rows asked cadence t rest.rows)) same (subst (λ rows. Appends start out (sound_of_rows asked cadence office.live.table rows)) whole sounds.written)))
          (λ m. absurd (memory m.1)) h.0)
          (λ failed. absurd (read (cc (failed.1))))
          g

-- what is written of rows that are known is all that is said of them
pub sound-known : (asked : Asked) (cadence : Cadence) (table : Table) (all : Option Rest) (result : Result ℕ LiveFault) (start out : Option (List ℕ))
    → EndsSound result → IfSome all (λ rest. SoundsRest asked cadence table rest result start out) → SoundsRows asked cadence table all result start out
sound-known asked cadence table None result start out ends h = ends
sound-known asked cadence table (Some rest) result start out ends h = h

-- a fault that stops the rows
pub sound-rows-end : (f : RowFault) (e : LiveFault) → IsOfRows f e → EndsSound (Err e)
sound-rows-end f e of = ⊎_elim (λ m. rw (m.1) tt) (λ other. ⊎_elim (λ r. rw (r.1) tt) (λ o. rw (o.2) tt) other) of
