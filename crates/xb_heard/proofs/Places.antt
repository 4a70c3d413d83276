-- Each run stands where it says.
use Rattle.std.proofs.Common.{◌≡◌, ◌==◌, ℕ, ◌+◌, List, [], ◌∷◌, ◌++◌, Bool, true, false, ◌||◌, cond, refl, sym, ap, ◌∙◌, length, arith, append_assoc, append-nil, eqb-true, add-zero, zero-add}
use Rattle.std.specs.List.{AllByRecursion}
use Rattle.std.proofs.lemmas.List.{length_push}
use Rattle.xb_model.specs.Rows.{LoopRow}
use Rattle.xb_model.specs.Lines.{row_line}
use Rattle.xb_model.specs.Records.{Run, run_of, same_contact, is_close, closes, rows_of, record_up_to_close, record_of}
use Rattle.xb_model.proofs.Lines.{of_line-append, of_line-here, of_line-other}
use Rattle.xb_heard.specs.declared.run.PlacedRun.{PlacedRun}
use Rattle.xb_heard.specs.PlacedRuns.{placed, placed_from, join_placed, joined_placed, placed_runs}
use Rattle.xb_heard.specs.Places.{ms_of, IsPlaced, ArePlaced}

-- rows after others that do not close add to the record
record-append : (A B : List LoopRow) → closes A ≡ false → record_up_to_close (A ++ B) ≡ record_up_to_close A ++ record_up_to_close B
record-append [] B clear = refl
record-append (row ∷ A) B clear = by (is_close row.contact) (row.ms == 0) clear (record-append A B)
  where
    by : (closed none : Bool) → (closed || closes A) ≡ false
        → (closes A ≡ false → record_up_to_close (A ++ B) ≡ record_up_to_close A ++ record_up_to_close B)
        → cond closed [] (cond none (record_up_to_close (A ++ B)) (run_of row.contact row.ms ∷ record_up_to_close (A ++ B)))
        ≡ cond closed [] (cond none (record_up_to_close A) (run_of row.contact row.ms ∷ record_up_to_close A)) ++ record_up_to_close B
    by true none e rest = cc
    by false true e rest = rest e
    by false false e rest = ap (λ R. run_of row.contact row.ms ∷ R) (rest e)

ms-append : (A B : List Run) → ms_of (A ++ B) ≡ ms_of A + ms_of B
ms-append [] B = sym (zero-add (ms_of B))
ms-append (run ∷ A) B =
    let rest : ms_of (A ++ B) ≡ ms_of A + ms_of B = ms-append A B in
    let sum : run.ms + (ms_of A + ms_of B) ≡ run.ms + ms_of A + ms_of B = omega arith in
    ap (λ n. run.ms + n) rest ∙ sum

closes-append : (A B : List LoopRow) → closes (A ++ B) ≡ (closes A || closes B)
closes-append [] B = refl
closes-append (row ∷ A) B = by (is_close row.contact) (closes-append A B)
  where
    by : (b : Bool) → closes (A ++ B) ≡ (closes A || closes B) → (b || closes (A ++ B)) ≡ ((b || closes A) || closes B)
    by true rest = refl
    by false rest = rest

-- what is known of rows before others: none closes the line, they are n - 1, and they last t ms
record AreBefore (l n t : ℕ) (earlier : List LoopRow) : Type 0 where
  not_closed : closes (rows_of l earlier) ≡ false
  count : length earlier + 1 ≡ n
  lasted : ms_of (record_of l earlier) ≡ t

-- how long a row that does not close lasts
row_lasts : (row : LoopRow) → is_close row.contact ≡ false → ms_of (record_up_to_close (row ∷ [])) ≡ row.ms
row_lasts row clear = rw clear (by (row.ms == 0) refl)
  where
    by : (none : Bool) → (row.ms == 0) ≡ none → ms_of (cond none [] (run_of row.contact row.ms ∷ [])) ≡ row.ms
    by true e = sym (eqb-true row.ms 0 e)
    by false e = add-zero row.ms

module _ (l n t : ℕ) (earlier : List LoopRow) (row : LoopRow) where
  -- a row of another line more
  more_other : AreBefore l n t earlier → (row.line == l) ≡ false → AreBefore l (n + 1) t (earlier ++ row ∷ [])
  more_other b off =
      let same : rows_of l (earlier ++ row ∷ []) ≡ rows_of l earlier =
      of_line-append row_line l earlier (row ∷ [])
      ∙ ap (λ rows. rows_of l earlier ++ rows) (of_line-other row_line l row [] off)
      ∙ append-nil (rows_of l earlier) in
      record {
        not_closed = ap closes same ∙ b.not_closed;
        count = ap (λ k. k + 1) (length_push earlier row ∙ b.count);
        lasted = ap (λ rows. ms_of (record_up_to_close rows)) same ∙ b.lasted;
      }

  -- a row of the line more, which does not close it
  more_here : AreBefore l n t earlier → (row.line == l) ≡ true → is_close row.contact ≡ false
      → AreBefore l (n + 1) (t + row.ms) (earlier ++ row ∷ [])
  more_here b on clear =
      let more : rows_of l (earlier ++ row ∷ []) ≡ rows_of l earlier ++ row ∷ [] =
      of_line-append row_line l earlier (row ∷ [])
      ∙ ap (λ rows. rows_of l earlier ++ rows) (of_line-here row_line l row [] on) in
      record {
        not_closed = ap closes more ∙ closes-append (rows_of l earlier) (row ∷ []) ∙ rw (b.not_closed, clear) refl;
        count = ap (λ k. k + 1) (length_push earlier row ∙ b.count);
        lasted = ap (λ rows. ms_of (record_up_to_close rows)) more
            ∙ ap ms_of (record-append (rows_of l earlier) (row ∷ []) b.not_closed)
            ∙ ms-append (record_of l earlier) (record_up_to_close (row ∷ []))
            ∙ ap (λ k. k + ms_of (record_up_to_close (row ∷ []))) b.lasted
            ∙ ap (λ k. t + k) (row_lasts row clear);
      }

-- the rows from one on, placed
module _ (l n t : ℕ) (earlier : List LoopRow) (row : LoopRow) (rows all : List LoopRow) where
  here_by : (closed none : Bool) → is_close row.contact ≡ closed → (row.ms == 0) ≡ none → (row.line == l) ≡ true
      → all ≡ earlier ++ row ∷ rows → AreBefore l n t earlier
      → ((t' : ℕ) → AreBefore l (n + 1) t' (earlier ++ row ∷ [])
      → AllByRecursion (IsPlaced l all) (placed_from l (n + 1) t' rows))
      → AllByRecursion (IsPlaced l all) (cond closed [] (cond none (placed_from l (n + 1) t rows)
      (placed row.contact row.ms t n ∷ placed_from l (n + 1) (t + row.ms) rows)))
  here_by true none c e on is b rest = tt
  here_by false true c e on is b rest =
      let more = more_here l n t earlier row b on c in
      let zero_ms : row.ms ≡ 0 = eqb-true row.ms 0 e in
      rest t (record { not_closed = more.not_closed; count = more.count; lasted = more.lasted ∙ omega arith })
  here_by false false c e on is b rest = (
    record {
      before = earlier;
      row = row;
      after = rows;
      stands = is;
      number = b.count;
      line = eqb-true row.line l on;
      contact = refl;
      lasts = e;
      not_closed = b.not_closed;
      start = b.lasted;
    },
    rest (t + row.ms) (more_here l n t earlier row b on c),
  )

  at_line : (on : Bool) → (row.line == l) ≡ on → all ≡ earlier ++ row ∷ rows → AreBefore l n t earlier
      → ((t' : ℕ) → AreBefore l (n + 1) t' (earlier ++ row ∷ [])
      → AllByRecursion (IsPlaced l all) (placed_from l (n + 1) t' rows))
      → AllByRecursion (IsPlaced l all) (cond on (cond (is_close row.contact) [] (cond (row.ms == 0) (placed_from l (n + 1) t rows)
      (placed row.contact row.ms t n ∷ placed_from l (n + 1) (t + row.ms) rows))) (placed_from l (n + 1) t rows))
  at_line true on is b rest = here_by (is_close row.contact) (row.ms == 0) refl refl on is b rest
  at_line false on is b rest = rest t (more_other l n t earlier row b on)

placed_from-are : (l n t : ℕ) (earlier rows all : List LoopRow) → all ≡ earlier ++ rows → AreBefore l n t earlier
    → AllByRecursion (IsPlaced l all) (placed_from l n t rows)
placed_from-are l n t earlier [] all is b = tt
placed_from-are l n t earlier (row ∷ rows) all is b =
    at_line l n t earlier row rows all (row.line == l) refl is b
    (λ later more. placed_from-are l (n + 1) later (earlier ++ row ∷ []) rows all
    (is ∙ sym (append_assoc earlier (row ∷ []) rows)) more)

-- a longer run stands where it stood
longer : (l ms : ℕ) (rows : List LoopRow) (r : PlacedRun) → IsPlaced l rows r
    → IsPlaced l rows (placed r.contact ms r.start r.first_record)
longer l ms rows r is = record {
  before = is.before;
  row = is.row;
  after = is.after;
  stands = is.stands;
  number = is.number;
  line = is.line;
  contact = is.contact;
  lasts = is.lasts;
  not_closed = is.not_closed;
  start = is.start;
}

join-are : (l : ℕ) (rows : List LoopRow) (r : PlacedRun) (R : List PlacedRun) → IsPlaced l rows r
    → ArePlaced l rows R → ArePlaced l rows (join_placed r R)
join-are l rows r [] is are = (is, tt)
join-are l rows r (q ∷ R) is are = by (same_contact r.contact q.contact)
  where
    by : (b : Bool) → ArePlaced l rows (cond b (placed r.contact (r.ms + q.ms) r.start r.first_record ∷ R) (r ∷ q ∷ R))
    by true = (longer l (r.ms + q.ms) rows r is, are.1)
    by false = (is, are)

joined-are : (l : ℕ) (rows : List LoopRow) (R : List PlacedRun) → ArePlaced l rows R → ArePlaced l rows (joined_placed R)
joined-are l rows [] are = tt
joined-are l rows (r ∷ R) are = join-are l rows r (joined_placed R) are.0 (joined-are l rows R are.1)

-- each run of a line stands where it says
pub are_placed : (l : ℕ) (rows : List LoopRow) → ArePlaced l rows (placed_runs l rows)
are_placed l rows = joined-are l rows (placed_from l 1 0 rows)
    (placed_from-are l 1 0 [] rows rows refl (record { not_closed = refl; count = refl; lasted = refl }))
