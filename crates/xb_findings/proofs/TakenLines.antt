-- How text lines are taken, one after the other.
use Rattle.std.proofs.Common.{◌≡◌, ℕ, ◌+◌, ◌≤◌, Bool, true, false, List, [], ◌∷◌, ◌++◌, length, Option, None, refl, sym, ap, ◌∙◌, append_assoc, append-nil}
use Rattle.std.specs.Prelude.{◌||◌}
use Rattle.std.proofs.lemmas.Bool.{cond-true, cond-false, le-ltb}
use Rattle.xb_deck.specs.declared.deck.TheConstants.{MOST_DECK_BYTES}
use Rattle.xb_deck.specs.Deck.{deck_parts}
use Rattle.xb_findings.specs.declared.finding.What.{What}
use Rattle.xb_findings.specs.declared.kept_lines.LineKind.TheVariants as kind
use Rattle.xb_keys.specs.declared.key.Key.{Key}
use Rattle.xb_findings.specs.declared.row_lines.RowsPart.{RowsPart}
use Rattle.xb_findings.specs.declared.row_lines.RowsPart.TheVariants as part
use Rattle.xb_findings.specs.declared.records.Record.{Record}
use Rattle.xb_findings.specs.DeckFaults.{faults_of_deck, faults_of_lines, faults_of_records, faults_of_rows, is_empty, what_of_header, what_of_record_line}
use Rattle.xb_findings.specs.Kept.{Kept, first_at, firsts_of_records, kept_at, kept_of_lines, none_seen, seen_after, seen_of}
use Rattle.xb_findings.specs.Places.{faults_of_table}
use Rattle.xb_findings.specs.Records.{closed_after, closed_of, found_at, no_closes}
use Rattle.xb_findings.specs.Separators.{is_other, record_in, separator_of, separator_of_header}
use Rattle.xb_findings.specs.Steps.{Lines, TakesLine, faults_after, kept_after}
use Rattle.xb_findings.specs.Findings.{with_meant}
use Rattle.xb_findings.specs.Tallies.{Tallied, with_all}
use Rattle.xb_findings.proofs.Tellings.{with_all-append}

-- an empty line before the header
pub passes_empty : (n : ℕ) (text : List ℕ) (lines : Lines) → is_empty text ≡ true
    → TakesLine part.Header n text lines lines part.Header
unfolding faults_of_lines kept_of_lines
passes_empty n text lines empty later = (
  ap (λ more. with_all lines.tally more) (cond-true _ _ _ empty),
  ap (λ more. lines.kept ++ more) (cond-true _ _ _ empty),
)

-- the header
pub takes_header : (n : ℕ) (text : List ℕ) (wrong : Option (What × Option Key)) (closes : List (Option ℕ)) (seen : List Bool)
    (told : Bool) (before after : Lines) → is_empty text ≡ false → wrong ≡ with_meant (what_of_header text) None
    → closed_of closes ≡ no_closes → seen_of seen ≡ none_seen → told ≡ is_other (separator_of_header text)
    → after.tally ≡ with_all before.tally (found_at n text wrong)
    → after.kept ≡ before.kept ++ kept_at n text kind.Header ∷ []
    → TakesLine part.Header n text before after (part.Records closes seen told)
unfolding faults_of_lines kept_of_lines
takes_header n text wrong closes seen told before after empty is none new other put put' later = (
  rw (put, is, none, other) (ap (λ more. with_all before.tally more) (cond-false _ _ _ empty)
      ∙ with_all-append before.tally (found_at n text (with_meant (what_of_header text) None))
      (faults_of_records no_closes (is_other (separator_of_header text)) (n + 1) later)),
  rw (put', new) (ap (λ more. before.kept ++ more) (cond-false _ _ _ empty)
      ∙ sym (append_assoc before.kept (kept_at n text kind.Header ∷ []) (firsts_of_records none_seen (n + 1) later))),
)

-- a record
pub takes_record : (closes closes' : List (Option ℕ)) (seen seen' : List Bool) (told told' : Bool) (n : ℕ) (text : List ℕ)
    (said : Record) (wrong : Option (What × Option Key)) (before after : Lines) → said ≡ record_in text
    → wrong ≡ with_meant (what_of_record_line (closed_of closes) told text) None
    → closed_of closes' ≡ closed_after (closed_of closes) n said → seen_of seen' ≡ seen_after (seen_of seen) said
    → told' ≡ (told || is_other (separator_of text)) → after.tally ≡ with_all before.tally (found_at n text wrong)
    → after.kept ≡ before.kept ++ first_at (seen_of seen) n text said
    → TakesLine (part.Records closes seen told) n text before after (part.Records closes' seen' told')
unfolding faults_of_records firsts_of_records
takes_record closes closes' seen seen' told told' n text said wrong before after is what moved more other put put' later = (
  rw (put, what, moved, other, is) (with_all-append before.tally
      (found_at n text (with_meant (what_of_record_line (closed_of closes) told text) None))
      (faults_of_records (closed_after (closed_of closes) n (record_in text)) (told || is_other (separator_of text)) (n + 1) later)),
  rw (put', more, is) (sym (append_assoc before.kept (first_at (seen_of seen) n text (record_in text))
      (firsts_of_records (seen_after (seen_of seen) (record_in text)) (n + 1) later))),
)

-- what is wrong in a deck that is not too long
pub faults_are : (deck : List ℕ) → length deck ≤ MOST_DECK_BYTES
    → faults_of_deck deck ≡ faults_of_table deck ++ faults_of_rows deck (deck_parts deck)
faults_are deck short = cond-false _ _ _ (le-ltb MOST_DECK_BYTES (length deck) short)

-- no text line is left
pub none_left : (p : RowsPart) (n : ℕ) (tally : Tallied) → with_all tally (faults_after p n []) ≡ tally
unfolding faults_of_lines faults_of_records
none_left part.Header n tally = refl
none_left (part.Records closes seen told) n tally = refl

pub none_kept : (p : RowsPart) (n : ℕ) (kept : List Kept) → kept ++ kept_after p n [] ≡ kept
unfolding kept_of_lines firsts_of_records
none_kept part.Header n kept = append-nil kept
none_kept (part.Records closes seen told) n kept = append-nil kept
