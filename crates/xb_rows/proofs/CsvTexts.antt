-- The text of rows is the text that a `csv` writer writes.
use Rattle.std.proofs.Common.{◌≡◌, ℕ, ◌+◌, ◌%◌, ◌<◌, ◌≤◌, ◌^◌, ◌||◌, false, List, [], ◌∷◌, ◌++◌, map, refl, sym, ap, ap₂, ◌∙◌, arith, append_assoc, append-nil, ne_eqb}
use Rattle.std.specs.Prelude.{codes, decimal}
use Rattle.std.specs.List.{flat_map}
use Rattle.std.proofs.lemmas.Fmt.{decimal_by_steps}
use Rattle.std.proofs.lemmas.List.Folds.{list_any-append}
use Rattle.std.proofs.lemmas.List.Elements.{All-head, All-tail}
use Rattle.csv.specs.Writing.{default_writer, fields_text, is_blank, needs_byte, needs_quotes, row_text}
use Rattle.xb_model.specs.declared.row.Contact.{Contact}
use Rattle.xb_model.specs.declared.row.Contact.TheVariants.{Make, Brk, Close}
use Rattle.xb_model.specs.Rows.{LoopRow}
use Rattle.xb_model.proofs.RowTimes.{at_most_a_day}
use Rattle.xb_rows.specs.WrittenRows.{AreRows, IsLawfulRow, WrittenRowsAreCsv, contact_text, csv_text, fields_of_row, record_text}

-- a digit calls for no quotes
pub plain_digit : (b : ℕ) → 48 ≤ b → needs_byte default_writer b ≡ false
plain_digit b high =
    rw (
      ne_eqb b 44 (λ e. omega arith),
      ne_eqb b 34 (λ e. omega arith),
      ne_eqb b 13 (λ e. omega arith),
      ne_eqb b 10 (λ e. omega arith),
    ) refl

-- nor do two texts of which neither does
plain-append : (xs ys : List ℕ) → needs_quotes default_writer xs ≡ false
    → needs_quotes default_writer ys ≡ false
    → needs_quotes default_writer (xs ++ ys) ≡ false
plain-append xs ys hx hy = list_any-append (needs_byte default_writer) xs ys ∙ ap₂ (λ a b. a || b) hx hy

-- a number calls for none
plain_number : (n : ℕ) → n < 2 ^ 64 → needs_quotes default_writer (decimal n) ≡ false
plain_number n small =
    decimal_by_steps (λ k text. needs_quotes default_writer text ≡ false)
    (λ k below. rw (plain_digit (48 + k) (omega arith)) refl)
    (λ k text above plain. plain-append text ((48 + k % 10) ∷ []) plain
    (rw (plain_digit (48 + k % 10) (omega arith)) refl))
    n small

plain_contact : (contact : Contact) → needs_quotes default_writer (contact_text contact) ≡ false
plain_contact Make = refl
plain_contact Brk = refl
plain_contact Close = refl

-- the record of a row
record_text-csv : (row : LoopRow) → IsLawfulRow row → row_text default_writer (fields_of_row row) ≡ record_text row
unfolding fields_text is_blank
record_text-csv row lawful =
    let line = plain_number row.line (omega (arith, lawful.0)) in
    let contact = plain_contact row.contact in
    let ms = plain_number row.ms (omega (arith, at_most_a_day row.contact row.ms lawful.1)) in
    rw (line, contact, ms) (append_assoc-all (decimal row.line) (contact_text row.contact) (decimal row.ms))
  where
    append_assoc-all : (a b c : List ℕ)
        → (a ++ (44 ∷ (b ++ (44 ∷ (c ++ []))))) ++ (10 ∷ [])
        ≡ a ++ (44 ∷ []) ++ b ++ (44 ∷ []) ++ c ++ (10 ∷ [])
    append_assoc-all a b c = simp (append_assoc, append-nil) refl

records-csv : (rows : List LoopRow) → AreRows rows
    → csv_text (map fields_of_row rows) ≡ flat_map record_text rows
records-csv [] are = refl
records-csv (row ∷ rows) are =
    ap₂ (λ xs ys. xs ++ ys) (record_text-csv row (All-head IsLawfulRow row rows are))
    (records-csv rows (All-tail IsLawfulRow row rows are))

-- the whole text
pub written_rows_are_csv : WrittenRowsAreCsv
unfolding fields_text is_blank
written_rows_are_csv rows are = ap (λ text. codes "line,state,ms\n" ++ text) (sym (records-csv rows are))
