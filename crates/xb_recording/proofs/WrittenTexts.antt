-- Recordings that are written are read back.
use Rattle.std.proofs.Common.{◌≡◌, ℕ, ◌+◌, ◌^◌, ◌<◌, ◌≤◌, List, [], ◌∷◌, ◌++◌, Bool, true, false, cond, length, drop, refl, ap, sym, ◌∙◌, arith, append_assoc, append-nil, codes, ne_eqb, not}
use Rattle.std.specs.Prelude.{None, nat_lt, ◌==◌}
use Rattle.std.specs.List.{AllByRecursion, list_all}
use Rattle.std.proofs.lemmas.Bool.{and_from, and_parts}
use Rattle.std.proofs.lemmas.Bool.Decides.{nat_tests}
use Rattle.std.proofs.lemmas.List.Folds.{list_all-append}
use Rattle.xb_contact.specs.declared.level.Level.{Level}
use Rattle.xb_contact.specs.declared.level.Level.TheVariants.{Open, Closed}
use Rattle.xb_contact.specs.Changes.{AreInOrder, AreNames, Change, IsName}
use Rattle.xb_contact.proofs.StepLemmas.{last_is_quiet}
use Rattle.xb_contact.proofs.Written.{all_weaker, digits_are, never_after_end}
use Rattle.xb_csv.specs.declared.columns.TableForm.TheVariants as forms
use Rattle.xb_csv.specs.Cells.{trimmed}
use Rattle.xb_csv.specs.Gpiomons.{gpiomon_ends, gpiomon_line_says, gpiomon_says, gpiomon_with}
use Rattle.xb_csv.specs.Tables.{begun_table, table_ends, table_line_says, table_says}
use Rattle.xb_csv.specs.Written.{AreRows, TableRow, edge_lines, levels_text, row_lines, seconds_text, way_text}
use Rattle.xb_csv.proofs.WrittenEdges.{own_name, written_edges_are_read}
use Rattle.xb_csv.proofs.WrittenRows.{written_rows_are_read}
use Rattle.xb_csv.proofs.WrittenSeconds.{seconds_pass, seconds_start}
use Rattle.xb_vcd.specs.VcdTexts.{begun_vcd, vcd_ends, vcd_line_says, vcd_says}
use Rattle.xb_vcd.specs.WrittenVcd.{change_lines, level_text, time_line, var_lines, vcd_lines, wire_code}
use Rattle.xb_vcd.proofs.WrittenVcd.{written_is_read as vcd_is_read}
use Rattle.xb_recording.specs.declared.wanted.Wanted.{Wanted}
use Rattle.xb_recording.specs.Says.{lines_in, names_in, plain_lines, text_lines, without_mark}
use Rattle.xb_recording.specs.Written.{WrittenIsRead, text_of}

abbrev IsLine : List ℕ → Type 0
IsLine line = list_all (λ b. not (b == 10)) line ≡ true

not-end : (test : Bool) → not test ≡ true → test ≡ false
not-end true e = cc
not-end false e = refl

-- the lines of a text that is made of lines
line-in :
    (before line rest : List ℕ) → IsLine line
    → lines_in before (line ++ 10 ∷ rest) ≡ (before ++ line) ∷ lines_in [] rest
line-in before [] rest all = ap (λ l. l ∷ lines_in [] rest) (sym (append-nil before))
line-in before (byte ∷ line) rest all =
    let parts = and_parts (not (byte == 10)) (list_all (λ b. not (b == 10)) line) all in
    ap (λ t. cond t (before ∷ lines_in [] (line ++ 10 ∷ rest)) (lines_in (before ++ byte ∷ []) (line ++ 10 ∷ rest)))
    (not-end (byte == 10) parts.0)
    ∙ line-in (before ++ byte ∷ []) line rest parts.1
    ∙ ap (λ l. l ∷ lines_in [] rest) (append_assoc before (byte ∷ []) line)

lines-back : (lines : List (List ℕ)) → AllByRecursion IsLine lines → lines_in [] (text_of lines) ≡ lines ++ [] ∷ []
lines-back [] all = refl
lines-back (line ∷ rest) all =
    line-in [] line (text_of rest) all.0 ∙ ap (λ later. line ∷ later) (lines-back rest all.1)

text-back :
    (line : List ℕ) (rest : List (List ℕ)) → AllByRecursion IsLine (line ∷ rest) → without_mark line ≡ line
    → text_lines (text_of (line ∷ rest)) ≡ (line ∷ rest) ++ [] ∷ []
text-back line rest all plain =
    ap (plain_lines true) (lines-back (line ∷ rest) all) ∙ ap (λ first. first ∷ (rest ++ [] ∷ [])) plain

-- what is written ends no line
high-byte : (byte : ℕ) → nat_lt 32 byte ≡ true → not (byte == 10) ≡ true
high-byte byte high = grind (arith, nat_tests)

name-line : (name : List ℕ) → IsName name → IsLine name
name-line name is = all_weaker (nat_lt 32) (λ b. not (b == 10)) high-byte name is.1

digit-line : (digit : ℕ) → digit < 10 → not (48 + digit == 10) ≡ true
digit-line digit low = ap not (ne_eqb (48 + digit) 10 (λ e. absurd (omega arith)))

code-line : (wire : ℕ) → not (33 + wire == 10) ≡ true
code-line wire = ap not (ne_eqb (33 + wire) 10 (λ e. absurd (omega arith)))

var-lines-are : (wire : ℕ) (names : List (List ℕ)) → AllByRecursion IsName names → AllByRecursion IsLine (var_lines wire names)
var-lines-are wire [] all = tt
var-lines-are wire (name ∷ names) all = (
  and_from _ _ (code-line wire)
      (list_all-append (λ b. not (b == 10)) name (codes " $end") ∙ and_from _ _ (name-line name all.0) refl),
  var-lines-are (wire + 1) names all.1,
)

level-line : (wire : ℕ) (level : Level) → IsLine (level_text level ++ wire_code wire)
level-line wire Open = and_from _ _ (code-line wire) refl
level-line wire Closed = and_from _ _ (code-line wire) refl

change-lines-are :
    (wires tick : ℕ) (changes : List Change) (end : ℕ) → AreInOrder wires tick changes end → end < 2 ^ 64
    → AllByRecursion IsLine (change_lines changes ++ time_line end ∷ [])
change-lines-are wires tick [] end order small = (digits_are (λ b. not (b == 10)) digit-line end small, tt)
change-lines-are wires tick (change ∷ rest) end order small =
    let within : change.tick ≤ end = never_after_end wires change.tick rest end order.2 in (
      digits_are (λ b. not (b == 10)) digit-line change.tick (omega arith),
      (level-line change.wire change.level, change-lines-are wires change.tick rest end order.2 small),
    )

all-append :
    (lines more : List (List ℕ)) → AllByRecursion IsLine lines → AllByRecursion IsLine more
    → AllByRecursion IsLine (lines ++ more)
all-append [] more all later = later
all-append (line ∷ lines) more all later = (all.0, all-append lines more all.1 later)

pub vcd_back :
    (names : List (List ℕ)) (changes : List Change) (end : ℕ) → AreNames names → AreInOrder (length names) 0 changes end
    → end < 2 ^ 64 → text_lines (text_of (vcd_lines names changes end)) ≡ vcd_lines names changes end ++ [] ∷ []
vcd_back names changes end lawful order small =
    let later : List (List ℕ) = change_lines changes ++ time_line end ∷ [] in
    text-back (codes "$timescale 1 us $end") (var_lines 0 names ++ (codes "$enddefinitions $end" ∷ later)) (
      refl,
      all-append (var_lines 0 names) (codes "$enddefinitions $end" ∷ later) (var-lines-are 0 names lawful.words)
          (refl, change-lines-are (length names) 0 changes end order small),
    ) refl

-- a text that begins with a time has no mark
no-mark : (tick : ℕ) (rest : List ℕ) → tick < 2 ^ 64 → without_mark (seconds_text tick ++ rest) ≡ seconds_text tick ++ rest
no-mark tick rest small = ap (λ t. cond t (drop 3 (seconds_text tick ++ rest)) (seconds_text tick ++ rest)) (seconds_start 239 (187 ∷ 191 ∷ []) tick rest small refl)

seconds-line : (tick : ℕ) (rest : List ℕ) → tick < 2 ^ 64 → IsLine rest → IsLine (seconds_text tick ++ rest)
seconds-line tick rest small all =
    list_all-append (λ b. not (b == 10)) (seconds_text tick) rest
    ∙ and_from _ _ (seconds_pass (λ b. not (b == 10)) digit-line refl tick small) all

way-line : (level : Level) (rest : List ℕ) → IsLine rest → IsLine (way_text level ++ rest)
way-line Open rest all = all
way-line Closed rest all = all

edge-lines-are :
    (names : List (List ℕ)) (tick : ℕ) (edges : List Change) (end : ℕ) → AreNames names → AreInOrder (length names) tick edges end
    → end < 2 ^ 63 → AllByRecursion IsLine (edge_lines names edges)
edge-lines-are names tick [] end lawful order early = tt
edge-lines-are names tick (edge ∷ rest) end lawful order early =
    let within : edge.tick ≤ end = never_after_end (length names) edge.tick rest end order.2 in (
      seconds-line edge.tick _ (omega arith)
          (way-line edge.level _ (name-line _ (own_name names edge.wire edge.level lawful order.0).0)),
      edge-lines-are names edge.tick rest end lawful order.2 early,
    )

pub edges_back :
    (names : List (List ℕ)) (edges : List Change) (end : ℕ) → AreNames names → AreInOrder (length names) (2 ^ 62) edges end
    → end < 2 ^ 63 → text_lines (text_of (edge_lines names edges)) ≡ edge_lines names edges ++ [] ∷ []
edges_back names [] end lawful order early = refl
edges_back names (edge ∷ rest) end lawful order early =
    let within : edge.tick ≤ end = never_after_end (length names) edge.tick rest end order.2 in
    text-back _ (edge_lines names rest) (edge-lines-are names (2 ^ 62) (edge ∷ rest) end lawful order early) (no-mark edge.tick _ (omega arith))

levels-line : (levels : List Level) → IsLine (levels_text levels)
levels-line [] = refl
levels-line (Open ∷ levels) = levels-line levels
levels-line (Closed ∷ levels) = levels-line levels

row-lines-are : (wires tick : ℕ) (rows : List TableRow) → AreRows wires tick rows → AllByRecursion IsLine (row_lines rows)
row-lines-are wires tick [] all = tt
row-lines-are wires tick (row ∷ rows) all =
    (seconds-line row.tick _ (omega (arith, all.2)) (levels-line row.levels), row-lines-are wires row.tick rows all.3)

rows-back :
    (wires tick : ℕ) (row : TableRow) (rows : List TableRow) → AreRows wires tick (row ∷ rows)
    → text_lines (text_of (row_lines (row ∷ rows))) ≡ row_lines (row ∷ rows) ++ [] ∷ []
rows-back wires tick row rows all =
    text-back _ (row_lines rows) (row-lines-are wires tick (row ∷ rows) all) (no-mark row.tick _ (omega (arith, all.2)))

-- the empty line at the end says nothing
pub written_is_read : (wanted : Wanted) → WrittenIsRead wanted
unfolding trimmed
written_is_read wanted = record {
  vcd = λ changes end lawful few order small.
      ap (vcd_says (begun_vcd (names_in wanted))) (vcd_back (names_in wanted) changes end lawful order small)
      ∙ last_is_quiet vcd_line_says vcd_ends [] (λ state. refl) (begun_vcd (names_in wanted)) (vcd_lines (names_in wanted) changes end)
      ∙ vcd_is_read (names_in wanted) changes end lawful few order small;
  gpiomon = λ edges end lawful turns order early.
      ap (gpiomon_says (gpiomon_with wanted.lossy (names_in wanted) None)) (edges_back (names_in wanted) edges end lawful order early)
      ∙ last_is_quiet gpiomon_line_says gpiomon_ends [] (λ state. refl) (gpiomon_with wanted.lossy (names_in wanted) None) (edge_lines (names_in wanted) edges)
      ∙ written_edges_are_read wanted.lossy (names_in wanted) edges end lawful turns order early;
  rows = λ wires row rows own few all.
      ap (table_says (begun_table forms.Edges (names_in wanted) wanted.rate)) (rows-back wires (2 ^ 62) row rows all)
      ∙ last_is_quiet table_line_says table_ends [] (λ state. refl) (begun_table forms.Edges (names_in wanted) wanted.rate) (row_lines (row ∷ rows))
      ∙ ap (λ names. table_says (begun_table forms.Edges names wanted.rate) (row_lines (row ∷ rows))) own
      ∙ written_rows_are_read wires wanted.rate row rows few all;
}
