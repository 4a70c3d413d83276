-- The times of the entries of a line ascend.
use Rattle.std.proofs.Common.{◌≡◌, ◌≤◌, ◌+◌, ◌-◌, ◌^◌, ℕ, min, cond, Bool, true, false, List, [], ◌∷◌, ◌++◌, map, sum_by, refl, sym, ap, ◌∙◌, subst, append_assoc, append-nil, arith}
use Rattle.std.specs.List.{All, AllByRecursion, AllPairs, filter}
use Rattle.std.proofs.lemmas.Bool.Decides.{nat_tests}
use Rattle.std.proofs.lemmas.List.Elements.{All-from_recursion}
use Rattle.std.proofs.lemmas.List.Sums.{sum_by-append}
use Rattle.xb_model.specs.declared.limits.Limits.{Limits}
use Rattle.xb_model.specs.Lines.{row_line}
use Rattle.xb_model.specs.Records.{rows_of}
use Rattle.xb_model.specs.Rows.{LoopRow}
use Rattle.xb_model.proofs.Lines.{of_line-append}
use Rattle.xb_routes.specs.Table.{Table}
use Rattle.xb_live.specs.Ascending.{ComesNoLater, TimesAscend}
use Rattle.xb_live.specs.Entries.{Numbered, entries_of_rows, numbered_after}
use Rattle.xb_live.specs.Times.{beginnings, began_on, has_more, last_or, ms_on}
use Rattle.xb_live.specs.TimedEntries.{TimedEntry, completed_by, told_after, told_by}
use Rattle.xb_live.proofs.Sheets.{AllPairs-append}
use Rattle.xb_live.proofs.ToldRows.{told_after-cons, told_after-none}
use Rattle.xb_serial.proofs.OneLine.{both_all}

-- more rows last no less
grows : (l : ℕ) (rows more : List LoopRow) → ms_on l rows ≤ ms_on l (rows ++ more)
grows l rows more =
    let ms : List LoopRow → ℕ = sum_by (λ (row : LoopRow). row.ms) in
    let joined : ms (rows_of l (rows ++ more)) ≡ ms (rows_of l rows) + ms (rows_of l more)
    = ap ms (of_line-append row_line l rows more) ∙ sum_by-append (λ (row : LoopRow). row.ms) (rows_of l rows) (rows_of l more) in
    subst (λ sum. ms_on l rows ≤ min sum (2 ^ 64 - 1)) (sym joined) (least (ms (rows_of l rows)) (ms (rows_of l more)))
  where
    least : (a b : ℕ) → min a (2 ^ 64 - 1) ≤ min (a + b) (2 ^ 64 - 1)
    least a b = grind (arith, nat_tests)

-- so a beginning of rows lasts no longer than they do
beginnings-shorter : (l : ℕ) (before rows : List LoopRow) → AllByRecursion (λ front. ms_on l (before ++ front) ≤ ms_on l (before ++ rows)) (beginnings rows)
beginnings-shorter l before [] = (subst (λ rows. ms_on l rows ≤ ms_on l (before ++ [])) refl (omega arith), tt)
beginnings-shorter l before (row ∷ rows) = (
  subst (λ front. ms_on l front ≤ ms_on l (before ++ row ∷ rows)) (sym (append-nil before)) (grows l before (row ∷ rows)),
  along (beginnings rows) (beginnings-shorter l (before ++ row ∷ []) rows),
)
  where
    along : (fronts : List (List LoopRow)) → AllByRecursion (λ front. ms_on l ((before ++ row ∷ []) ++ front) ≤ ms_on l ((before ++ row ∷ []) ++ rows)) fronts
        → AllByRecursion (λ front. ms_on l (before ++ front) ≤ ms_on l (before ++ row ∷ rows)) (map (λ front. row ∷ front) fronts)
    along [] h = tt
    along (front ∷ fronts) h = (
      subst (λ all. ms_on l (before ++ row ∷ front) ≤ ms_on l all) (append_assoc before (row ∷ []) rows)
          (subst (λ some. ms_on l some ≤ ms_on l ((before ++ row ∷ []) ++ rows)) (append_assoc before (row ∷ []) front) h.0),
      along fronts h.1,
    )

-- what holds of a first item and of all others holds of the last
last-holds : {A : Type 0} (P : A → Type 0) (before : A) (xs : List A) → P before → AllByRecursion P xs → P (last_or before xs)
last-holds P before [] first all = first
last-holds P before (x ∷ xs) first all = last-holds P x xs all.0 all.1

kept-hold : {A : Type 0} (P : A → Type 0) (test : A → Bool) (xs : List A) → AllByRecursion P xs → AllByRecursion P (filter test xs)
kept-hold P test [] all = tt
kept-hold P test (x ∷ xs) all = at (test x) (kept-hold P test xs all.1)
  where
    at : (b : Bool) → AllByRecursion P (filter test xs) → AllByRecursion P (cond b (x ∷ filter test xs) (filter test xs))
    at true later = (all.0, later)
    at false later = later

began-first : (limits : Limits) (l : ℕ) (rows : List LoopRow) → began_on limits l rows ≤ ms_on l rows
began-first limits l rows =
    last-holds (λ front. ms_on l front ≤ ms_on l rows) [] (filter (has_more limits l rows) (beginnings rows)) (grows l [] rows)
    (kept-hold (λ front. ms_on l front ≤ ms_on l rows) (has_more limits l rows) (beginnings rows) (beginnings-shorter l [] rows))

module _ (table : Table) where
  -- what one row completes begins before it
  here-begins : (rows : List LoopRow) (entries : List Numbered) → AllByRecursion (λ (told : TimedEntry). told.began ≤ told.at) (map (told_by table rows) entries)
  here-begins rows [] = tt
  here-begins rows (entry ∷ entries) = (began-first table.limits entry.line rows, here-begins rows entries)

  begins-after : (earlier rows : List LoopRow) → AllByRecursion (λ (told : TimedEntry). told.began ≤ told.at) (told_after table earlier rows)
  begins-after earlier [] = subst (AllByRecursion (λ (told : TimedEntry). told.began ≤ told.at)) (sym (told_after-none table earlier)) tt
  begins-after earlier (row ∷ rows) =
      subst (AllByRecursion (λ (told : TimedEntry). told.began ≤ told.at)) (sym (told_after-cons table earlier row rows))
      (both_all (λ (told : TimedEntry). told.began ≤ told.at) _ (told_after table (earlier ++ row ∷ []) rows)
      (here-begins (earlier ++ row ∷ []) (numbered_after (entries_of_rows table earlier) (completed_by table earlier row)))
      (begins-after (earlier ++ row ∷ []) rows))

  -- what comes after earlier rows is completed no earlier than they end
  abbrev IsAfter : List LoopRow → TimedEntry → Type 0
  IsAfter earlier told = ms_on told.line earlier ≤ told.at

  here-after : (earlier : List LoopRow) (row : LoopRow) (entries : List Numbered) → AllByRecursion (IsAfter earlier) (map (told_by table (earlier ++ row ∷ [])) entries)
  here-after earlier row [] = tt
  here-after earlier row (entry ∷ entries) = (grows entry.line earlier (row ∷ []), here-after earlier row entries)

  sooner : (earlier more : List LoopRow) (tolds : List TimedEntry) → AllByRecursion (IsAfter (earlier ++ more)) tolds → AllByRecursion (IsAfter earlier) tolds
  sooner earlier more [] h = tt
  sooner earlier more (told ∷ tolds) h =
      let longer = grows told.line earlier more in
      (le-trans (ms_on told.line earlier) (ms_on told.line (earlier ++ more)) told.at longer h.0, sooner earlier more tolds h.1)
    where
      le-trans : (a b c : ℕ) → a ≤ b → b ≤ c → a ≤ c
      le-trans a b c p q = omega (arith, p, q)

  after-all : (earlier rows : List LoopRow) → AllByRecursion (IsAfter earlier) (told_after table earlier rows)
  after-all earlier [] = subst (AllByRecursion (IsAfter earlier)) (sym (told_after-none table earlier)) tt
  after-all earlier (row ∷ rows) =
      subst (AllByRecursion (IsAfter earlier)) (sym (told_after-cons table earlier row rows))
      (both_all (IsAfter earlier) _ (told_after table (earlier ++ row ∷ []) rows)
      (here-after earlier row (numbered_after (entries_of_rows table earlier) (completed_by table earlier row)))
      (sooner earlier (row ∷ []) (told_after table (earlier ++ row ∷ []) rows) (after-all (earlier ++ row ∷ []) rows)))

  -- an entry of these rows comes no later than any that is completed after them
  before-later : (rows : List LoopRow) (entry : Numbered) (later : List TimedEntry) → AllByRecursion (IsAfter rows) later → AllByRecursion (ComesNoLater (told_by table rows entry)) later
  before-later rows entry [] h = tt
  before-later rows entry (told ∷ later) h = (
    λ same. subst (λ l. ms_on l rows ≤ told.at) (sym same) h.0,
    before-later rows entry later h.1,
  )

  before-all : (rows : List LoopRow) (entries : List Numbered) (later : List TimedEntry) → AllByRecursion (IsAfter rows) later
      → AllByRecursion (λ told. All (ComesNoLater told) later) (map (told_by table rows) entries)
  before-all rows [] later h = tt
  before-all rows (entry ∷ entries) later h = (
    All-from_recursion (ComesNoLater (told_by table rows entry)) later (before-later rows entry later h),
    before-all rows entries later h,
  )

  -- nor than those that the same row completes
  own-after : (rows : List LoopRow) (entries : List Numbered) → AllByRecursion (IsAfter rows) (map (told_by table rows) entries)
  own-after rows [] = tt
  own-after rows (entry ∷ entries) = (omega arith, own-after rows entries)

  here-ascends : (rows : List LoopRow) (entries : List Numbered) → AllPairs ComesNoLater (map (told_by table rows) entries)
  here-ascends rows [] = λ i j d lt within. absurd (omega (arith, within))
  here-ascends rows (entry ∷ entries) =
      AllPairs-append ComesNoLater (told_by table rows entry ∷ []) (map (told_by table rows) entries)
      (λ i j d lt within. absurd (omega (arith, lt, within)))
      (here-ascends rows entries)
      (before-all rows (entry ∷ []) (map (told_by table rows) entries) (own-after rows entries))

  ascends-after : (earlier rows : List LoopRow) → AllPairs ComesNoLater (told_after table earlier rows)
  ascends-after earlier [] = subst (AllPairs ComesNoLater) (sym (told_after-none table earlier)) (λ i j d lt within. absurd (omega (arith, within)))
  ascends-after earlier (row ∷ rows) =
      let first : List LoopRow = earlier ++ row ∷ [] in
      let entries : List Numbered = numbered_after (entries_of_rows table earlier) (completed_by table earlier row) in
      subst (AllPairs ComesNoLater) (sym (told_after-cons table earlier row rows))
      (AllPairs-append ComesNoLater (map (told_by table first) entries) (told_after table first rows)
      (here-ascends first entries) (ascends-after first rows) (before-all first entries (told_after table first rows) (after-all first rows)))

pub times_ascend : (table : Table) (rows : List LoopRow) → TimesAscend table rows
times_ascend table rows = record { begins = begins-after table [] rows; ascends = ascends-after table [] rows }
