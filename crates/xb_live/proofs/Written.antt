-- What is written, one row after another.
use Rattle.std.proofs.Common.{◌≡◌, ℕ, zero, suc, ◌+◌, ◌-◌, ◌≤◌, ◌<◌, true, false, None, IsSome, ◌↔◌, Err, inr, add-zero, arith, List, [], ◌∷◌, ◌++◌, map, Option, refl, sym, ap, ◌∙◌, subst, append_assoc, append-nil}
use Rattle.std.specs.Io.KnownBytes.{Appends}
use Rattle.std.proofs.KnownBytes.{Appends-trans}
use Rattle.std.specs.List.{flat_map}
use mathlib.Core.List.{IsPrefix}
use Rattle.std.proofs.lemmas.List.{map-append}
use Rattle.xb_model.specs.declared.line.TheConstants.{LINES}
use Rattle.xb_model.specs.declared.mark.Mark.{Mark}
use Rattle.xb_model.specs.Lines.{lines_below}
use Rattle.xb_model.specs.Rows.{LoopRow, close_row}
use Rattle.xb_model.proofs.LinesBelow.{lines_below-none, lines_below-more}
use Rattle.xb_routes.specs.Table.{Table}
use Rattle.xb_text.specs.Writing.{AppendsBeginning}
use Rattle.xb_text.proofs.Beginnings.{AppendsBeginning-second}
use Rattle.xb_live.specs.declared.fault.EntriesFault.{EntriesFault}
use Rattle.xb_live.specs.declared.fault.EntriesFault.TheVariants.{Late, LateEvent, NoMemory, Write}
use Rattle.xb_live.specs.declared.hearings.Hearings.{Hearings}
use Rattle.xb_live.specs.Clocks.{IsLate, Style}
use Rattle.xb_live.specs.Entries.{Entry, Numbered, count_keyed, count_refused, entries_of_rows, numbered_after}
use Rattle.xb_live.specs.Counting.{Counted, HasCounted, numbered_by}
use Rattle.xb_live.specs.Events.{events_by}
use Rattle.xb_live.specs.Texts.{entries_text, event_text, text_of, totals_of, whole_text, with_closes}
use Rattle.xb_live.specs.TimedEntries.{TimedEntry, told_by, told_of_rows}
use Rattle.xb_live.specs.Writing.{CompletesLate, Ends, GotBeginning, GotFirst, GotUntilLate, GotUntilLateEvent, HasWritten, Hears, MakesLate, Writes}
use Rattle.xb_live.proofs.AllTold.{text-more}
use Rattle.xb_live.proofs.RowTexts.{IsOfTold}
use Rattle.xb_live.proofs.ToldRows.{told-here, told-more}

-- some rows are the first of themselves and more
pub first_of : (rows more : List LoopRow) → IsPrefix rows (rows ++ more)
first_of rows more = (more, refl)

-- the first of the first rows
pub first_of_first : (first rows more : List LoopRow) → IsPrefix first rows → IsPrefix first (rows ++ more)
first_of_first first rows more p = (p.0 ++ more, sym (append_assoc first p.0 more) ∙ ap (λ xs. xs ++ more) p.1)

-- one row more of an office, whose table is the same
module _ (style : Style) (office after : Counted) (hearings heard : Hearings) (row : LoopRow) (more : List Entry) (table : after.live.table ≡ office.live.table)
    (rows : List LoopRow) (start out : Option (List ℕ)) (before : HasWritten style office hearings rows start out)
    (counted : HasCounted after (rows ++ row ∷ [])) (hears : Hears style.form office.live.table heard (rows ++ row ∷ []))
    (completed : entries_of_rows office.live.table (rows ++ row ∷ []) ≡ entries_of_rows office.live.table rows ++ more)
    (numbered : List Numbered) (is : numbered_after (entries_of_rows office.live.table rows) more ≡ numbered) where
  heard-now : Hears style.form after.live.table heard (rows ++ row ∷ [])
  heard-now = subst (λ t. Hears style.form t heard (rows ++ row ∷ [])) (sym table) hears

  -- what is told of it
  abbrev pub told : List ℕ
  told =
      flat_map (event_text style.form style.clock) (events_by office.live.table rows row)
      ++ flat_map (text_of style) (map (told_by office.live.table (rows ++ row ∷ [])) numbered)

  grown : entries_text style after.live.table (rows ++ row ∷ []) ≡ entries_text style office.live.table rows ++ told
  grown =
      ap (λ t. entries_text style t (rows ++ row ∷ [])) table
      ∙ text-more style office.live.table rows row
      ∙ ap (λ tolds. entries_text style office.live.table rows ++ (flat_map (event_text style.form style.clock) (events_by office.live.table rows row) ++ flat_map (text_of style) tolds))
      (told-here office.live.table rows row more numbered completed is)

  -- its text was written
  pub written-row : (new : Option (List ℕ)) → Appends out new told → HasWritten style after heard (rows ++ row ∷ []) start new
  written-row new wrote = record {
    counted = counted;
    heard = heard-now;
    text = subst (Appends start new) (sym grown) (Appends-trans start out new (entries_text style office.live.table rows) told before.text wrote);
  }

  -- or the beginning of its text
  pub written-beginning : (new : Option (List ℕ)) → AppendsBeginning out new told → GotBeginning style after.live.table (rows ++ row ∷ []) start new
  written-beginning new wrote = (
    rows ++ row ∷ [],
    ([], append-nil _),
    subst (AppendsBeginning start new) (sym grown) (AppendsBeginning-second start out new (entries_text style office.live.table rows) told before.text wrote),
  )

  -- or nothing, since a time of it is past the last instant
  written-late : (entry : TimedEntry) (l n : ℕ) → map (told_by office.live.table (rows ++ row ∷ [])) numbered ≡ entry ∷ [] → entry.line ≡ l → entry.number ≡ n → IsLate style.form entry
      → GotUntilLate style l n after.live.table (rows ++ row ∷ []) start out
  written-late entry l n one on number late = (
    rows,
    (
      row,
      ([], append-nil _),
      subst (λ t. Appends start out (entries_text style t rows)) (sym table) before.text,
      subst (λ t. CompletesLate style.form l n t rows row) (sym table)
          (entry, told-more office.live.table rows row more numbered completed is ∙ ap (λ tolds. told_of_rows office.live.table rows ++ tolds) one, on, number, late),
    ),
  )

  written-late-event : (l : ℕ) → MakesLate style.form l office.live.table rows row → GotUntilLateEvent style l after.live.table (rows ++ row ∷ []) start out
  written-late-event l late = (
    rows,
    (
      row,
      ([], append-nil _),
      subst (λ t. Appends start out (entries_text style t rows)) (sym table) before.text,
      subst (λ t. MakesLate style.form l t rows row) (sym table) late,
    ),
  )

  -- it is not written for these reasons alone
  pub written-fault : (marks : List Mark) (number : Option ℕ) → numbered ≡ numbered_by row.line marks number
      → (f : EntriesFault) → IsOfTold office.live.table rows row marks style.form number f → Writes style after heard (rows ++ row ∷ []) (Err f) start out
  written-fault marks number by NoMemory of = (rows, first_of rows (row ∷ []), subst (λ t. Appends start out (entries_text style t rows)) (sym table) before.text)
  written-fault marks number by (Late l n) (entry, one, on, same, late) =
      written-late entry l n (ap (map (told_by office.live.table (rows ++ row ∷ []))) by ∙ one) on same late
  written-fault marks number by (LateEvent l) of = written-late-event l of
  written-fault marks number by Write of = absurd of

-- the lines below a number are the first of those below a greater one
first_below : (n k : ℕ) → IsPrefix (lines_below n) (lines_below (n + k))
first_below n zero = ([], append-nil _ ∙ ap lines_below (sym (add-zero n)))
first_below n (suc k) =
    let p = first_below n k in (
      p.0 ++ (n + k) ∷ [],
      sym (append_assoc (lines_below n) p.0 ((n + k) ∷ []))
          ∙ ap (λ ls. ls ++ (n + k) ∷ []) p.1
          ∙ sym (lines_below-more (n + k))
          ∙ ap lines_below (omega arith),
    )

-- rows, and a close of each line below a number
abbrev pub with_closes_below : ℕ → List LoopRow → List LoopRow
with_closes_below n rows = rows ++ map close_row (lines_below n)

pub closes-none : (rows : List LoopRow) → with_closes_below 0 rows ≡ rows
closes-none rows = ap (λ ls. rows ++ map close_row ls) lines_below-none ∙ append-nil rows

pub closes-more : (n : ℕ) (rows : List LoopRow) → with_closes_below n rows ++ close_row n ∷ [] ≡ with_closes_below (n + 1) rows
closes-more n rows =
    append_assoc rows (map close_row (lines_below n)) (close_row n ∷ [])
    ∙ ap (λ cs. rows ++ cs) (sym (map-append close_row (lines_below n) (n ∷ [])) ∙ ap (map close_row) (sym (lines_below-more n)))

pub first_closes : (n : ℕ) (rows : List LoopRow) → n ≤ LINES → IsPrefix (with_closes_below n rows) (with_closes rows)
first_closes n rows h =
    let p = first_below n (LINES - n) in
    let all : n + (LINES - n) ≡ LINES = omega (arith, h) in (
      map close_row p.0,
      append_assoc rows (map close_row (lines_below n)) (map close_row p.0)
          ∙ ap (λ cs. rows ++ cs) (sym (map-append close_row (lines_below n) p.0) ∙ ap (map close_row) (p.1 ∙ ap lines_below all)),
    )

-- the first of the first of some rows
first_along : (first some all : List LoopRow) → IsPrefix first some → IsPrefix some all → IsPrefix first all
first_along first some all p q = subst (IsPrefix first) q.1 (first_of_first first some q.0 p)

-- a fault at the first of some rows
pub faults-more : (style : Style) (office : Counted) (hearings : Hearings) (some all : List LoopRow) (fault : EntriesFault) (start out : Option (List ℕ))
    → IsPrefix some all → Writes style office hearings some (Err fault) start out → Writes style office hearings all (Err fault) start out
faults-more style office hearings some all NoMemory start out q (first, p, text) = (first, first_along first some all p q, text)
faults-more style office hearings some all (Late line number) start out q (earlier, (row, p, text, late)) =
    (earlier, (row, first_along (earlier ++ row ∷ []) some all p q, text, late))
faults-more style office hearings some all (LateEvent line) start out q (earlier, (row, p, text, late)) =
    (earlier, (row, first_along (earlier ++ row ∷ []) some all p q, text, late))
faults-more style office hearings some all Write start out q (first, p, text) = (first, first_along first some all p q, text)

-- a fault at the closes ends the rows
pub faults-end : (style : Style) (office : Counted) (hearings : Hearings) (table : Table) (rows : List LoopRow) (fault : EntriesFault) (start out : Option (List ℕ))
    → office.live.table ≡ table → Writes style office hearings (with_closes rows) (Err fault) start out → Ends style table rows (Err fault) start out
faults-end style office hearings table rows NoMemory start out e got = subst (λ t. GotFirst style t (with_closes rows) start out) e got
faults-end style office hearings table rows (Late line number) start out e got =
    subst (λ t. GotUntilLate style line number t (with_closes rows) start out) e got
faults-end style office hearings table rows (LateEvent line) start out e got =
    subst (λ t. GotUntilLateEvent style line t (with_closes rows) start out) e got
faults-end style office hearings table rows Write start out e got = inr (subst (λ t. GotBeginning style t (with_closes rows) start out) e got)

-- after the closes, the totals
module _ (style : Style) (office : Counted) (hearings : Hearings) (table : Table) (rows : List LoopRow) (start out : Option (List ℕ))
    (same : office.live.table ≡ table) (written : HasWritten style office hearings (with_closes rows) start out) where
  -- are not told where memory ran out
  pub totals-missing : GotFirst style table (with_closes rows) start out
  totals-missing = (with_closes rows, ([], append-nil _), subst (λ t. Appends start out (entries_text style t (with_closes rows))) same written.text)

  totals : totals_of style.form office.keyed office.refused ≡ totals_of style.form (count_keyed (entries_of_rows table (with_closes rows))) (count_refused (entries_of_rows table (with_closes rows)))
  totals =
      ap (λ k. totals_of style.form k office.refused) (written.counted.keyed ∙ ap (λ t. count_keyed (entries_of_rows t (with_closes rows))) same)
      ∙ ap (totals_of style.form (count_keyed (entries_of_rows table (with_closes rows)))) (written.counted.refused ∙ ap (λ t. count_refused (entries_of_rows t (with_closes rows))) same)

  text : Appends start out (entries_text style table (with_closes rows))
  text = subst (λ t. Appends start out (entries_text style t (with_closes rows))) same written.text

  -- are told whole
  pub totals-whole : (new : Option (List ℕ)) → Appends out new (totals_of style.form office.keyed office.refused) → Appends start new (whole_text style table rows)
  totals-whole new more = Appends-trans start out new _ _ text (subst (Appends out new) totals more)

  -- or their beginning is
  pub totals-begun : (new : Option (List ℕ)) → AppendsBeginning out new (totals_of style.form office.keyed office.refused) → AppendsBeginning start new (whole_text style table rows)
  totals-begun new more = AppendsBeginning-second start out new _ _ text (subst (AppendsBeginning out new) totals more)

-- a number of a line is one
pub none_below : (line : Option ℕ) (n : ℕ) → (IsSome line ↔ (n < LINES)) → n < LINES → line ≡ None → ⊥
none_below line n is below none = let h : false ≡ true = subst IsSome none (is.1 below) in cc
