-- When the last attempt of a line began, one row after another.
use Rattle.std.proofs.Common.{◌≡◌, ◌⊎◌, ◌<◌, ◌+◌, ℕ, zero, suc, nat_lt, eqb, cond, List, [], ◌∷◌, ◌++◌, map, fold, length, true, false, inl, inr, refl, sym, ap, ◌∙◌, subst, ⊎_elim, append_assoc, append-nil, add-zero, arith}
use Rattle.std.specs.List.{filter}
use Rattle.std.proofs.lemmas.Bool.{cases_Bool}
use Rattle.std.proofs.lemmas.Bool.Decides.{nat_tests}
use Rattle.std.proofs.lemmas.List.{map-append}
use Rattle.std.proofs.lemmas.List.Elements.{filter-append}
use Rattle.xb_model.specs.declared.limits.Limits.{Limits}
use Rattle.xb_model.specs.declared.plan.Plan.{Plan}
use Rattle.xb_model.specs.declared.signal.Signal.{Signal}
use Rattle.xb_model.specs.declared.signal.Signal.TheVariants.{Seize, Digit, TimeOut, Release, Close}
use Rattle.xb_model.specs.LawfulLimits.{IsLawful}
use Rattle.xb_model.specs.Lines.{row_line}
use Rattle.xb_model.specs.Records.{attempts_of, record_up_to_close, rows_of}
use Rattle.xb_model.specs.Rows.{LoopRow}
use Rattle.xb_model.proofs.Images.{state_after-here, state_after-none, state_after-other}
use Rattle.xb_model.proofs.Lines.{of_line-append, of_line-here, of_line-other}
use Rattle.xb_pulse.specs.declared.state.Phase.{Phase as PulsePhase}
use Rattle.xb_pulse.specs.declared.state.Phase.TheVariants as pulse
use Rattle.xb_pulse.specs.Machine.{phase_after, signals_by}
use Rattle.xb_register.specs.Laws.{seizures}
use Rattle.xb_live.specs.declared.line_hearing.Hearing.{Hearing}
use Rattle.xb_live.specs.Hearings.{after_signal, after_signals, hearing_machine, in_phase}
use Rattle.xb_live.specs.Times.{attempts_on, before_last, began_on, beginnings, has_more, last_or, ms_on}
use Rattle.xb_live.proofs.HeardRows.{at-is, heard_after, pulse-is, said, seizures-append, seizures-own}

-- rows and one more have one beginning more
beginnings-more : (rows : List LoopRow) (row : LoopRow) → beginnings (rows ++ row ∷ []) ≡ beginnings rows ++ (rows ++ row ∷ []) ∷ []
beginnings-more [] row = refl
beginnings-more (first ∷ rows) row =
    ap (λ fronts. [] ∷ map (λ front. first ∷ front) fronts) (beginnings-more rows row)
    ∙ ap (λ fronts. [] ∷ fronts) (map-append (λ front. first ∷ front) (beginnings rows) ((rows ++ row ∷ []) ∷ []))

-- the longest beginning are all of them
beginnings-last : (rows : List LoopRow) → (shorter : List (List LoopRow)) × (beginnings rows ≡ shorter ++ rows ∷ [])
beginnings-last [] = ([], refl)
beginnings-last (first ∷ rows) =
    let it = beginnings-last rows in (
      [] ∷ map (λ front. first ∷ front) it.0,
      ap (λ fronts. [] ∷ map (λ front. first ∷ front) fronts) it.1
          ∙ ap (λ fronts. [] ∷ fronts) (map-append (λ front. first ∷ front) it.0 (rows ∷ [])),
    )

last_or-last : {A : Type 0} (before : A) (xs : List A) (x : A) → last_or before (xs ++ x ∷ []) ≡ x
last_or-last before [] x = refl
last_or-last before (y ∷ ys) x = last_or-last y ys x

zero_or : (n : ℕ) → (n ≡ 0) ⊎ (n ≡ 0 → ⊥)
zero_or zero = inl refl
zero_or (suc n) = inr (λ e. omega (arith, e))

grows : (before after n : ℕ) → (n ≡ 0 → ⊥) → after ≡ before + n → before < after
grows before after zero some e = absurd (some refl)
grows before after (suc n) some e = omega (arith, e)

module _ (plan : Plan) where
  -- signals that seize nothing begin no attempt
  began-none : (heard : Hearing) (signals : List Signal) → seizures signals ≡ 0 → (after_signals plan heard signals).began ≡ heard.began
  began-none heard [] none = refl
  began-none heard (Seize ∷ signals) none = absurd (omega (arith, none))
  began-none heard (Digit count bad ∷ signals) none = began-none (after_signal plan heard (Digit count bad)) signals none
  began-none heard (TimeOut ∷ signals) none = began-none (after_signal plan heard TimeOut) signals none
  began-none heard (Release ∷ signals) none = began-none (after_signal plan heard Release) signals none
  began-none heard (Close ∷ signals) none = began-none (after_signal plan heard Close) signals none

  -- and others begin one now
  began-some : (heard : Hearing) (signals : List Signal) → (seizures signals ≡ 0 → ⊥) → (after_signals plan heard signals).began ≡ heard.at
  began-some heard [] some = absurd (some refl)
  began-some heard (Seize ∷ signals) some =
      let next : Hearing = after_signal plan heard Seize in
      let again = began-some next signals in
      ⊎_elim (λ none. began-none next signals none) again (zero_or (seizures signals))
  began-some heard (Digit count bad ∷ signals) some = began-some (after_signal plan heard (Digit count bad)) signals some
  began-some heard (TimeOut ∷ signals) some = began-some (after_signal plan heard TimeOut) signals some
  began-some heard (Release ∷ signals) some = began-some (after_signal plan heard Release) signals some
  began-some heard (Close ∷ signals) some = began-some (after_signal plan heard Close) signals some

module _ (limits : Limits) (plan : Plan) (lawful : IsLawful limits) (l : ℕ) where
  abbrev count : List LoopRow → ℕ
  count rows = length (attempts_on limits l rows)

  -- rows are not more than themselves
  same : (n : ℕ) → nat_lt n n ≡ false
  same n = grind (arith, nat_tests)

  fewer : (m n : ℕ) → m < n → nat_lt m n ≡ true
  fewer m n below = grind (arith, nat_tests, below)

  alone : (all : List LoopRow) → filter (has_more limits l all) (all ∷ []) ≡ []
  alone all = ap (λ b. cond b (all ∷ []) []) (same (count all))

  -- with a row more the last attempt is the same, where there are no more
  before_last-same : (rows : List LoopRow) (row : LoopRow) → count (rows ++ row ∷ []) ≡ count rows → before_last limits l (rows ++ row ∷ []) ≡ before_last limits l rows
  before_last-same rows row e =
      let all : List LoopRow = rows ++ row ∷ [] in
      ap (λ fronts. last_or [] (filter (has_more limits l all) fronts)) (beginnings-more rows row)
      ∙ ap (last_or []) (filter-append (has_more limits l all) (beginnings rows) (all ∷ []) ∙ ap (λ fronts. filter (has_more limits l all) (beginnings rows) ++ fronts) (alone all) ∙ append-nil _)
      ∙ ap (λ n. last_or [] (filter (λ front. nat_lt (count front) n) (beginnings rows))) e

  -- and where there are more it begins with the row
  before_last-more : (rows : List LoopRow) (row : LoopRow) → count rows < count (rows ++ row ∷ []) → before_last limits l (rows ++ row ∷ []) ≡ rows
  before_last-more rows row more =
      let all : List LoopRow = rows ++ row ∷ [] in
      let it = beginnings-last rows in
      let this : filter (has_more limits l all) (rows ∷ []) ≡ rows ∷ [] = ap (λ b. cond b (rows ∷ []) []) (fewer (count rows) (count all) more) in
      ap (λ fronts. last_or [] (filter (has_more limits l all) fronts)) (beginnings-more rows row)
      ∙ ap (last_or []) (filter-append (has_more limits l all) (beginnings rows) (all ∷ []) ∙ ap (λ fronts. filter (has_more limits l all) (beginnings rows) ++ fronts) (alone all) ∙ append-nil _)
      ∙ ap (λ fronts. last_or [] (filter (has_more limits l all) fronts)) it.1
      ∙ ap (last_or []) (filter-append (has_more limits l all) it.0 (rows ∷ []) ∙ ap (λ fronts. filter (has_more limits l all) it.0 ++ fronts) this)
      ∙ last_or-last [] (filter (has_more limits l all) it.0) rows

  abbrev heard : List LoopRow → Hearing
  heard rows = heard_after limits plan l rows

  -- the signals of a row
  abbrev signals : List LoopRow → LoopRow → List Signal
  signals rows row = signals_by limits (heard rows).pulse row

  said-append : (phase : PulsePhase) (xs ys : List LoopRow) → said limits plan phase (xs ++ ys) ≡ said limits plan phase xs ++ said limits plan (fold (phase_after limits) phase xs) ys
  said-append phase [] ys = refl
  said-append phase (x ∷ xs) ys =
      ap (λ later. signals_by limits phase x ++ later) (said-append (phase_after limits phase x) xs ys)
      ∙ sym (append_assoc (signals_by limits phase x) (said limits plan (phase_after limits phase x) xs) (said limits plan (fold (phase_after limits) (phase_after limits phase x) xs) ys))

  module _ (rows : List LoopRow) (row : LoopRow) where
    own-here : eqb row.line l ≡ true → rows_of l (rows ++ row ∷ []) ≡ rows_of l rows ++ row ∷ []
    own-here here =
        of_line-append row_line l rows (row ∷ []) ∙ ap (λ more. rows_of l rows ++ more) (of_line-here row_line l row [] here)

    own-other : eqb row.line l ≡ false → rows_of l (rows ++ row ∷ []) ≡ rows_of l rows
    own-other other =
        of_line-append row_line l rows (row ∷ []) ∙ ap (λ more. rows_of l rows ++ more) (of_line-other row_line l row [] other) ∙ append-nil _

    -- a row of the line adds as many attempts as it seizes
    count-here : eqb row.line l ≡ true → count (rows ++ row ∷ []) ≡ count rows + seizures (signals rows row)
    count-here here =
        sym (seizures-own limits plan lawful l (rows ++ row ∷ []))
        ∙ ap (λ own. seizures (said limits plan pulse.OnHook own)) (own-here here)
        ∙ ap seizures (said-append pulse.OnHook (rows_of l rows) (row ∷ []))
        ∙ ap (λ phase. seizures (said limits plan pulse.OnHook (rows_of l rows) ++ said limits plan phase (row ∷ []))) (sym (pulse-is limits plan l rows))
        ∙ ap (λ own. seizures (said limits plan pulse.OnHook (rows_of l rows) ++ own)) (append-nil (signals rows row))
        ∙ seizures-append (said limits plan pulse.OnHook (rows_of l rows)) (signals rows row)
        ∙ ap (λ n. n + seizures (signals rows row)) (seizures-own limits plan lawful l rows)

    abbrev after : Hearing
    after = after_signals plan (in_phase limits row (heard rows)) (signals rows row)

    began-more : (heard rows).began ≡ began_on limits l rows → (heard (rows ++ row ∷ [])).began ≡ began_on limits l (rows ++ row ∷ [])
    began-more so_far =
        ⊎_elim
        (λ here.
        let counted = count-here here in
        ap (λ (h : Hearing). h.began) (state_after-here row_line (hearing_machine limits plan) rows row l here)
        ∙ ⊎_elim
        (λ none.
        began-none plan (in_phase limits row (heard rows)) (signals rows row) none
        ∙ so_far
        ∙ sym (ap (ms_on l) (before_last-same rows row (counted ∙ ap (λ n. count rows + n) none ∙ add-zero (count rows)))))
        (λ some.
        began-some plan (in_phase limits row (heard rows)) (signals rows row) some
        ∙ at-is limits plan l rows
        ∙ sym (ap (ms_on l) (before_last-more rows row (grows (count rows) (count (rows ++ row ∷ [])) (seizures (signals rows row)) some counted))))
        (zero_or (seizures (signals rows row))))
        (λ other.
        ap (λ (h : Hearing). h.began) (state_after-other row_line (hearing_machine limits plan) rows row l other)
        ∙ so_far
        ∙ sym (ap (ms_on l) (before_last-same rows row (ap (λ own. length (attempts_of limits (record_up_to_close own))) (own-other other)))))
        (cases_Bool (eqb row.line l))

  abbrev IsBegun : List LoopRow → Type 0
  IsBegun rows = (heard rows).began ≡ began_on limits l rows

  begun-none : IsBegun []
  begun-none =
      ap (λ (h : Hearing). h.began) (state_after-none row_line (hearing_machine limits plan) l)
      ∙ sym (ap (λ fronts. ms_on l (last_or [] fronts)) (alone []))

  begun-after : (earlier rows : List LoopRow) → IsBegun earlier → IsBegun (earlier ++ rows)
  begun-after earlier [] so_far = subst IsBegun (sym (append-nil earlier)) so_far
  begun-after earlier (row ∷ rows) so_far =
      subst IsBegun (append_assoc earlier (row ∷ []) rows) (begun-after (earlier ++ row ∷ []) rows (began-more earlier row so_far))

  -- what is heard of the line is when its last attempt began
  pub began-is : (rows : List LoopRow) → (heard rows).began ≡ began_on limits l rows
  began-is rows = begun-after [] rows begun-none
