-- The table of a deck is lines that are not the cut.
use Rattle.std.proofs.Common.{◌≡◌, ◌∙◌, ℕ, List, [], ◌∷◌, ◌++◌, Option, Some, None, Bool, true, false, cond, refl, sym, ap}
use Rattle.std.specs.Prelude.{codes, if◌then◌else◌, option_map}
use Rattle.std.specs.List.{All, AllByRecursion, join_with_byte, onto_first, slice_split}
use Rattle.std.proofs.lemmas.List.Elements.{All-cons, All-nil}
use Rattle.xb_deck.specs.Deck.{Parts, ends_line, is_cut, line_feed, parts_of_lines, with_earlier}
use Rattle.xb_deck.specs.MadeDecks.{AreTableLines, IsCutInto, with_ends}

-- a table as its lines
pub record HasLines (table : List ℕ) : Type 0 where
  pub lines : List (List ℕ)
  pub are_lines : AreTableLines lines
  pub is : table ≡ with_ends lines

-- no byte of a line ends it
abbrev HasNoEnd : List ℕ → Type 0
HasNoEnd line = All (λ byte. ends_line byte ≡ false) line

no_end-first : (byte : ℕ) → ends_line byte ≡ false → (pieces : List (List ℕ)) → AllByRecursion HasNoEnd pieces
    → AllByRecursion HasNoEnd (onto_first byte pieces)
no_end-first byte is [] all = (All-cons (λ b. ends_line b ≡ false) byte [] is (All-nil (λ b. ends_line b ≡ false)), tt)
no_end-first byte is (piece ∷ pieces) all = (All-cons (λ b. ends_line b ≡ false) byte piece is all.0, all.1)

no_end-pieces : (bytes : List ℕ) → AllByRecursion HasNoEnd (slice_split ends_line bytes)
no_end-pieces [] = (All-nil (λ b. ends_line b ≡ false), tt)
no_end-pieces (byte ∷ bytes) = at (ends_line byte) refl (no_end-pieces bytes)
  where
    at : (b : Bool) → ends_line byte ≡ b → AllByRecursion HasNoEnd (slice_split ends_line bytes)
        → AllByRecursion HasNoEnd (cond b ([] ∷ slice_split ends_line bytes) (onto_first byte (slice_split ends_line bytes)))
    at true is all = (All-nil (λ b. ends_line b ≡ false), all)
    at false is all = no_end-first byte is (slice_split ends_line bytes) all

-- the lines before the cut
lines-cut : (pieces : List (List ℕ)) → AllByRecursion HasNoEnd pieces → (parts : Parts)
    → parts_of_lines pieces ≡ Some parts → HasLines parts.table
lines-cut [] no_end parts e = cc e
lines-cut (line ∷ pieces) no_end parts e =
    by (is_cut line) (parts_of_lines pieces) refl no_end.0 (λ p is. lines-cut pieces no_end.1 p is) e
  where
    by : (cut : Bool) (o : Option Parts) → is_cut line ≡ cut → HasNoEnd line
        → ((p : Parts) → o ≡ Some p → HasLines p.table)
        → (if cut then Some (record { table = []; rows = join_with_byte line_feed pieces })
        else option_map (λ parts. with_earlier (line ++ codes "\n") parts) o) ≡ Some parts
        → HasLines parts.table
    by true o is whole later e =
        let first : Parts = record { table = []; rows = join_with_byte line_feed pieces } in
        let same : first ≡ parts = cc in
        record { lines = []; are_lines = tt; is = ap (λ (p : Parts). p.table) (sym same) }
    by false None is whole later e = cc e
    by false (Some p) is whole later e =
        let more = later p refl in
        let same : with_earlier (line ++ codes "\n") p ≡ parts = cc in
        record {
          lines = line ∷ more.lines;
          are_lines = (is, whole, more.are_lines);
          is = ap (λ (q : Parts). q.table) (sym same) ∙ ap (λ (t : List ℕ). line ++ codes "\n" ++ t) more.is;
        }

-- the table of a deck has such lines
pub tables_have_lines : (deck table rows : List ℕ) → IsCutInto deck table rows → HasLines table
tables_have_lines deck table rows e =
    lines-cut (slice_split ends_line deck) (no_end-pieces deck) (record { table = table; rows = rows }) e
