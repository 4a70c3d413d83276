-- The forms of recordings that are written are told.
use Rattle.std.proofs.Common.{◌≡◌, ℕ, zero, suc, ◌-◌, ◌^◌, ◌<◌, ◌≤◌, List, [], ◌∷◌, ◌++◌, Bool, true, false, cond, Option, Some, None, length, length-append, take, drop, map, refl, ap, subst, get_or, ◌+◌, ◌∙◌, arith, append_assoc, codes, ne_eqb, ◌&&◌, ◌||◌}
use Rattle.std.specs.Prelude.{Ok, is_some, nat_eq, nat_le, slice_get, ◌==◌}
use Rattle.std.specs.Char.{is_ascii_whitespace}
use Rattle.std.specs.List.{list_all, onto_first, prefix_len, slice_split, starts_with, suffix_len}
use Rattle.std.specs.Option.{ok_or}
use Rattle.std.proofs.lemmas.Bool.{and_parts}
use Rattle.std.proofs.lemmas.Bool.Decides.{nat_tests}
use Rattle.xb_contact.specs.declared.event.Event.{Event}
use Rattle.xb_contact.specs.declared.event.Refusal.TheVariants as refusals
use Rattle.xb_contact.specs.Changes.{AreInOrder, AreNames, Change}
use Rattle.xb_contact.specs.Steps.{Said, result_and_then, then_later}
use Rattle.xb_contact.proofs.Written.{never_after_end}
use Rattle.xb_csv.specs.Cells.{cells_of, trimmed, trimmed_end}
use Rattle.xb_csv.specs.Gpiomons.{EdgeSaid, GpiomonState, edge_line_says, edge_of, edge_says, gpiomon_ends, gpiomon_says, gpiomon_with}
use Rattle.xb_csv.specs.Seconds.{nanoseconds_of}
use Rattle.xb_csv.specs.Tables.{is_seconds}
use Rattle.xb_csv.specs.Written.{edge_events, edge_lines, seconds_text, way_text}
use Rattle.xb_csv.proofs.WrittenEdges.{begins_more, ends_append, name_begins, name_ends, own_name, seconds_name, trimmed_same, written_edges_are_read}
use Rattle.xb_csv.proofs.WrittenSeconds.{seconds_pass, seconds_start}
use Rattle.xb_recording.specs.declared.format.Format.{Format}
use Rattle.xb_recording.specs.declared.format.Format.TheVariants as formats
use Rattle.xb_recording.specs.Beginnings.{form_told, format_by, is_archive, is_label, is_of_saleae, is_remark_of_program, is_row, told_by_lines}
use Rattle.xb_recording.specs.Says.{text_lines}
use Rattle.xb_recording.specs.Written.{text_of}
use Rattle.xb_recording.specs.WrittenForms.{WrittenFormsAreTold}
use Rattle.xb_recording.proofs.WrittenTexts.{edges_back, vcd_back}

-- a cell that begins with a digit or a point is no label
no-label : (count byte : ℕ) (rest : List ℕ) → nat_le byte 57 ≡ true → is_seconds (take count (byte ∷ rest)) ≡ false
no-label zero byte rest low = refl
no-label (suc count) byte rest low =
    let other : nat_eq byte 84 ≡ false = grind (arith, nat_tests) in
    rw other refl

abbrev is-low : ℕ → Bool
is-low byte = nat_le 46 byte && nat_le byte 57

first-cell :
    (byte : ℕ) (rest : List ℕ) (later : List (List ℕ)) → is-low byte ≡ true
    → is_label (slice_get (map trimmed (onto_first byte later)) 0) ≡ false
unfolding trimmed
first-cell byte rest [] low =
    let parts = and_parts (nat_le 46 byte) (nat_le byte 57) low in
    let plain : is_ascii_whitespace byte ≡ false = grind (arith, nat_tests) in
    ap (λ t. is_seconds (trimmed_end (drop (cond t 1 0) (byte ∷ [])))) plain
    ∙ no-label (length (byte ∷ []) - suffix_len is_ascii_whitespace (byte ∷ [])) byte [] parts.1
first-cell byte rest (cell ∷ later) low =
    let parts = and_parts (nat_le 46 byte) (nat_le byte 57) low in
    let plain : is_ascii_whitespace byte ≡ false = grind (arith, nat_tests) in
    ap (λ t. is_seconds (trimmed_end (drop (cond t (1 + prefix_len is_ascii_whitespace cell) 0) (byte ∷ cell)))) plain
    ∙ no-label (length (byte ∷ cell) - suffix_len is_ascii_whitespace (byte ∷ cell)) byte cell parts.1

not-saleae :
    (text rest : List ℕ) → 0 < length text → list_all is-low text ≡ true → is_of_saleae (text ++ rest) ≡ false
unfolding cells_of
not-saleae [] rest some low = absurd (omega arith)
not-saleae (byte ∷ text) rest some low =
    let parts = and_parts (is-low byte) (list_all is-low text) low in
    let comma : (byte == 44) ≡ false = at byte parts.0 in
    let later : List (List ℕ) = slice_split (λ b. b == 44) (text ++ rest) in
    let no_remark : is_remark_of_program (byte ∷ (text ++ rest)) ≡ false = remarks byte (text ++ rest) parts.0 in
    ap (λ t. t || is_label (slice_get (cells_of (byte ∷ (text ++ rest))) 0)) no_remark
    ∙ ap (λ t. is_label (slice_get (map trimmed (cond t ([] ∷ later) (onto_first byte later))) 0)) comma
    ∙ first-cell byte rest later parts.0
  where
    at : (b : ℕ) → is-low b ≡ true → (b == 44) ≡ false
    at b h = grind (arith, nat_tests)

    remarks : (b : ℕ) (more : List ℕ) → is-low b ≡ true → is_remark_of_program (b ∷ more) ≡ false
    remarks b more h =
        let semicolon : nat_eq 59 b ≡ false = grind (arith, nat_tests) in
        let number_sign : nat_eq 35 b ≡ false = grind (arith, nat_tests) in
        rw semicolon (rw number_sign refl)

-- a line that is read as an edge is one
was-edge :
    (state : GpiomonState) (events : List Event) (found : Option EdgeSaid)
    → result_and_then (λ said. then_later said.0 (gpiomon_ends said.1))
    (result_and_then (λ edge. result_and_then (λ time. edge_says state edge time) (ok_or (nanoseconds_of edge.time) refusals.Time)) (ok_or found refusals.Edge))
    ≡ Ok events
    → is_some found ≡ true
was-edge state events None e = cc
was-edge state events (Some edge) e = refl

is-edge :
    (names : List (List ℕ)) (line : List ℕ) (events : List Event) → trimmed line ≡ line → 0 < length line
    → gpiomon_says (gpiomon_with false names None) (line ∷ []) ≡ Ok events → is_some (edge_of line) ≡ true
is-edge names line events same some e =
    let state : GpiomonState = gpiomon_with false names None in
    let G : Said GpiomonState → Type 0 = λ said. result_and_then (λ s. then_later s.0 (gpiomon_ends s.1)) said ≡ Ok events in
    was-edge state events (edge_of line)
    (subst G (ap (λ t. cond (length t == 0) (Ok ([], state)) (edge_line_says state t)) same
    ∙ ap (λ t. cond t (Ok ([], state)) (edge_line_says state line)) (ne_eqb (length line) 0 (λ z. absurd (omega (arith, some))))) e)

-- the first line tells the form
told-first :
    (line : List ℕ) (rest : List (List ℕ)) → trimmed line ≡ line → 0 < length line → starts_with nat_eq line (codes "META ") ≡ false
    → told_by_lines (line ∷ rest) ≡ format_by line
told-first line rest same some plain =
    ap (λ t. cond ((length t == 0) || starts_with nat_eq line (codes "META ")) (told_by_lines rest) (format_by t)) same
    ∙ ap (λ t. cond (t || starts_with nat_eq line (codes "META ")) (told_by_lines rest) (format_by line))
    (ne_eqb (length line) 0 (λ z. absurd (omega (arith, some))))
    ∙ ap (λ t. cond t (told_by_lines rest) (format_by line)) plain

-- what format_by asks of a line that is no VCD, and no CSV of Saleae
abbrev not-saleae-but : List ℕ → Option Format
not-saleae-but line =
    cond (starts_with nat_eq line (codes ";")) (Some formats.Sigrok)
    (cond (is_some (edge_of line)) (Some formats.Gpiomon) (cond (is_row line) (Some formats.Edges) None))

abbrev not-vcd : List ℕ → Option Format
not-vcd line = cond (is_of_saleae line) (Some formats.Saleae) (not-saleae-but line)

edge-told :
    (names : List (List ℕ)) (edge : Change) (edges : List Change) (end : ℕ) → AreNames names
    → AreInOrder (length names) (2 ^ 62) (edge ∷ edges) end → end < 2 ^ 63
    → form_told (text_of (edge_lines names (edge ∷ edges))) ≡ Some formats.Gpiomon
edge-told names edge edges end lawful order early =
    let within : edge.tick ≤ end = never_after_end (length names) edge.tick edges end order.2 in
    let small : edge.tick < 2 ^ 64 = omega arith in
    let time : List ℕ = seconds_text edge.tick in
    let own = own_name names edge.wire edge.level lawful order.0 in
    let name : List ℕ = get_or names edge.wire [] in
    let later : List ℕ = codes " " ++ (way_text edge.level ++ (codes " gpiochip0 " ++ name)) in
    let line : List ℕ = time ++ later in
    let is = seconds_name edge.tick small in
    let some : 0 < length line = omega (arith, length-append time later, is.0) in
    let same : trimmed line ≡ line =
    trimmed_same line (begins_more time later is.0 (name_begins time is))
    (ends_append time later (ends_append (codes " ") _ (ends_append (way_text edge.level) _ (ends_append (codes " gpiochip0 ") name (name_ends name own.0))))) in
    let rest : List ℕ = text_of (edge_lines names edges) in
    let others : List (List ℕ) = edge_lines names edges ++ [] ∷ [] in
    let one : AreInOrder (length names) (2 ^ 62) (edge ∷ []) end = (order.0, order.1, within) in
    let found : is_some (edge_of line) ≡ true =
    is-edge names line (edge_events (edge ∷ [])) same some (written_edges_are_read false names (edge ∷ []) end lawful refl one early) in
    let low : list_all is-low time ≡ true =
    seconds_pass is-low (λ digit few. grind (arith, nat_tests)) refl edge.tick small in
    ap (λ t. cond t (Some formats.Wav) (cond (is_archive (line ++ 10 ∷ rest)) None (told_by_lines (text_lines (line ++ 10 ∷ rest)))))
    (ap (λ t. starts_with nat_eq t (codes "RIFF")) (append_assoc time later (10 ∷ rest)) ∙ seconds_start 82 (codes "IFF") edge.tick (later ++ 10 ∷ rest) small refl)
    ∙ ap (λ t. cond t None (told_by_lines (text_lines (line ++ 10 ∷ rest))))
    (ap is_archive (append_assoc time later (10 ∷ rest)) ∙ seconds_start 80 (75 ∷ 3 ∷ 4 ∷ []) edge.tick (later ++ 10 ∷ rest) small refl)
    ∙ ap told_by_lines (edges_back names (edge ∷ edges) end lawful order early)
    ∙ told-first line others same some (seconds_start 77 (codes "ETA ") edge.tick later small refl)
    ∙ ap (λ t. cond t (Some formats.Vcd) (not-vcd line)) (seconds_start 36 [] edge.tick later small refl)
    ∙ ap (λ t. cond t (Some formats.Saleae) (not-saleae-but line)) (not-saleae time later is.0 low)
    ∙ ap (λ t. cond t (Some formats.Sigrok) (cond (is_some (edge_of line)) (Some formats.Gpiomon) (cond (is_row line) (Some formats.Edges) None)))
    (seconds_start 59 [] edge.tick later small refl)
    ∙ ap (λ t. cond t (Some formats.Gpiomon) (cond (is_row line) (Some formats.Edges) None)) found

pub written_forms_are_told : (names : List (List ℕ)) → WrittenFormsAreTold names
unfolding trimmed
written_forms_are_told names = record {
  vcd = λ changes end lawful order small. ap told_by_lines (vcd_back names changes end lawful order small);
  gpiomon = λ edge edges end lawful order early. edge-told names edge edges end lawful order early;
}
