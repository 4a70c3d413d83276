-- What reading a record, field by field, gives of the records that were left.
use Rattle.std.proofs.Common.{◌≡◌, ◌≢◌, ◌≤◌, ◌+◌, ℕ, List, [], ◌∷◌, ◌++◌, length, Option, Some, None, true, false, Ok, refl, ap, ◌∙◌, arith, length-append}
use Rattle.std.specs.Prelude.{map, option_map}
use Rattle.csv.specs.Machine.{Read, next_record}
use Rattle.csv.specs.Reading.{default_config, records_from}
use Rattle.xb_rows.specs.declared.kept.TheConstants.{MOST_FIELD_BYTES}
use Rattle.xb_rows.specs.declared.fields.FieldEnd.{FieldEnd}
use Rattle.xb_rows.specs.declared.fields.FieldEnd.TheVariants as end
use Rattle.xb_rows.specs.declared.machine.State.{State}
use Rattle.xb_rows.specs.ByteSteps.{csv_state}
use Rattle.xb_rows.specs.Kept.{AreWhole, StandFor, three_if}
use Rattle.xb_rows.specs.RowTexts.{Fields, ThreeFields}
use Rattle.xb_rows.specs.Scanning.{records_of_bytes}
use Rattle.xb_rows.specs.StreamRecords.{TakesJudged}
use Rattle.xb_rows.specs.Streams.{shown}
use Rattle.xb_rows.specs.TakenFields.{is_last, IsInside, TakesField, WhereKnown}
use Rattle.xb_rows.proofs.InsideRecords.{inside-record}
use Rattle.xb_rows.proofs.JudgedRecords.{first-stands, more-stand, one-stands, second-stands, third-stands, three-stand, two-stand}
use Rattle.xb_rows.proofs.RecordCounts.{records-more, records-none}

-- two calls, one after the other
pub both-known : (old mid new : Option (List ℕ)) (P Q R : List ℕ → List ℕ → Type 0) → WhereKnown old mid P
    → WhereKnown mid new Q → ((text part rest : List ℕ) → P text part → Q part rest → R text rest) → WhereKnown old new R
both-known None mid new P Q R first second join = tt
both-known (Some text) None new P Q R first second join = absurd first
both-known (Some text) (Some part) None P Q R first second join = absurd second
both-known (Some text) (Some part) (Some rest) P Q R first second join = join text part rest first second

pub once-known : (old new : Option (List ℕ)) (P R : List ℕ → List ℕ → Type 0) → WhereKnown old new P
    → ((text rest : List ℕ) → P text rest → R text rest) → WhereKnown old new R
once-known None new P R first join = tt
once-known (Some text) None P R first join = absurd first
once-known (Some text) (Some rest) P R first join = join text rest first

-- the next record of a text is judged by what is kept, and where this is whole it was read to its end
abbrev pub IsJudged : State → State → Option ThreeFields → List ℕ → List ℕ → Type 0
IsJudged s s2 kept text rest =
    (q : Read) × (next_record default_config (csv_state s) [] [] text ≡ Some q) × StandFor kept (shown q.0)
    × (AreWhole kept → (q.1 ≡ csv_state s2) × (q.2 ≡ rest))

-- the records of a stream that is in this state before these bytes
abbrev streamed : State → Option (List ℕ) → Option (List Fields)
streamed s bytes = option_map (map shown) (records_of_bytes (csv_state s) bytes)

-- so the records that were left began with it
pub takes-judged : (s s2 : State) (kept : Option ThreeFields) (old new : Option (List ℕ))
    → WhereKnown old new (IsJudged s s2 kept)
    → TakesJudged (streamed s old) (streamed s2 new) kept (Ok true)
unfolding records_of_bytes
takes-judged s s2 kept None new judged = tt
takes-judged s s2 kept (Some text) None judged = absurd judged
takes-judged s s2 kept (Some text) (Some rest) (q, is, stand, whole) = (
  shown q.0,
  map shown (records_from default_config (length q.2 + 1) q.1 q.2),
  ap (map shown) (records-more default_config (csv_state s) text q is),
  stand,
  λ all. let (state, left) = whole all in
      rw (state, left) refl,
)

-- no record was left
pub takes-no_record : (s s2 : State) (field : List ℕ) (kept : Option ThreeFields) (old new : Option (List ℕ))
    (later : Option (List Fields)) → WhereKnown old new (λ text rest. TakesField s s2 field end.Nowhere text rest)
    → TakesJudged (streamed s old) later kept (Ok false)
unfolding records_of_bytes
takes-no_record s s2 field kept None new later taken = tt
takes-no_record s s2 field kept (Some text) None later taken = absurd taken
takes-no_record s s2 field kept (Some text) (Some rest) later taken =
    ap (map shown) (records-none default_config (csv_state s) text taken)

-- ---- the first field

-- is the only one
pub judged-one : (s s2 : State) (a text rest : List ℕ) → TakesField s s2 a end.Record text rest
    → IsJudged s s2 None text rest
judged-one s s2 a text rest (short, last) = (_, last [], one-stands a short, λ whole. absurd whole)

-- is long
pub judged-first : (s s2 : State) (a text rest : List ℕ) → TakesField s s2 a end.Long text rest
    → IsJudged s s2 (Some (a, [], [])) text rest
judged-first s s2 a text rest (none, inside, part, long, reads) =
    let (q, is, begins) = inside-record (csv_state s2) inside [] part rest in
    let (more, others, e) = begins in
    rw none (q, reads [] ∙ is, rw e (first-stands (part ++ more) others (omega (arith, length-append part more))), λ whole. absurd whole)

-- ---- the second field, after the first

-- is the last one
pub judged-two : (s s2 s3 : State) (a b text part rest : List ℕ) → TakesField s s2 a end.Comma text part
    → TakesField s2 s3 b end.Record part rest → IsJudged s s3 None text rest
judged-two s s2 s3 a b text part rest (sa, inside, first) (sb, last) =
    (_, first [] ∙ last (a ∷ []), two-stand a b sa sb, λ whole. absurd whole)

-- is long
pub judged-second : (s s2 s3 : State) (a b text part rest : List ℕ) → TakesField s s2 a end.Comma text part
    → TakesField s2 s3 b end.Long part rest → IsJudged s s3 (Some (a, b, [])) text rest
judged-second s s2 s3 a b text part rest (sa, inside, first) (none, in_second, bytes, long, reads) =
    let (q, is, begins) = inside-record (csv_state s3) in_second (a ∷ []) bytes rest in
    let (more, others, e) = begins in
    rw none (
      q,
      first [] ∙ reads (a ∷ []) ∙ is,
      rw e (second-stands a (bytes ++ more) others sa (omega (arith, length-append bytes more))),
      λ whole. absurd whole,
    )

-- is there
never-ends : (s s2 s3 : State) (a b text part rest : List ℕ) → TakesField s s2 a end.Comma text part
    → TakesField s2 s3 b end.Nowhere part rest → ⊥
never-ends s s2 s3 a b text part rest (sa, inside, first) none =
    let (q, is, begins) = inside-record (csv_state s2) inside [] [] part in
    cc (is, none)

-- ends the record where it is neither long nor before another
pub judged-end : (s s2 s3 : State) (a b text part rest : List ℕ) (at : FieldEnd) → at ≢ end.Comma → at ≢ end.Long
    → TakesField s s2 a end.Comma text part → TakesField s2 s3 b at part rest → IsJudged s s3 None text rest
judged-end s s2 s3 a b text part rest end.Comma comma long first second = absurd (comma refl)
judged-end s s2 s3 a b text part rest end.Long comma long first second = absurd (long refl)
judged-end s s2 s3 a b text part rest end.Record comma long first second =
    judged-two s s2 s3 a b text part rest first second
judged-end s s2 s3 a b text part rest end.Nowhere comma long first second =
    absurd (never-ends s s2 s3 a b text part rest first second)

-- two fields were read
abbrev pub TakesTwo : State → State → List ℕ → List ℕ → List ℕ → List ℕ → Type 0
TakesTwo s s3 a b text rest = (length a ≤ MOST_FIELD_BYTES) × (length b ≤ MOST_FIELD_BYTES)
    × IsInside (csv_state s3)
    × (next_record default_config (csv_state s) [] [] text
    ≡ next_record default_config (csv_state s3) (a ∷ b ∷ []) [] rest)

pub takes-two : (s s2 s3 : State) (a b text part rest : List ℕ) → TakesField s s2 a end.Comma text part
    → TakesField s2 s3 b end.Comma part rest → TakesTwo s s3 a b text rest
takes-two s s2 s3 a b text part rest (sa, inside, first) (sb, in_third, second) =
    (sa, sb, in_third, first [] ∙ second (a ∷ []))

-- ---- the third field, after these

-- is the last one
pub judged-three : (s s3 s4 : State) (a b c text part rest : List ℕ) → TakesTwo s s3 a b text part
    → TakesField s3 s4 c end.Record part rest → IsJudged s s4 (Some (a, b, c)) text rest
judged-three s s3 s4 a b c text part rest (sa, sb, inside, two) (sc, last) =
    (_, two ∙ last (a ∷ b ∷ []), three-stand a b c, λ whole. (refl, refl))

-- is not the last one
pub judged-more : (s s3 s4 : State) (a b c text part rest : List ℕ) → TakesTwo s s3 a b text part
    → TakesField s3 s4 c end.Comma part rest → IsJudged s s4 None text rest
judged-more s s3 s4 a b c text part rest (sa, sb, inside, two) (sc, in_fourth, third) =
    let (q, is, begins) = inside-record (csv_state s4) in_fourth (a ∷ b ∷ c ∷ []) [] rest in
    let (more, others, e) = begins in
    (q, two ∙ third (a ∷ b ∷ []) ∙ is, rw e (more-stand a b c ([] ++ more) others sa sb sc), λ whole. absurd whole)

-- is long
pub judged-third : (s s3 s4 : State) (a b c text part rest : List ℕ) → TakesTwo s s3 a b text part
    → TakesField s3 s4 c end.Long part rest → IsJudged s s4 (Some (a, b, c)) text rest
judged-third s s3 s4 a b c text part rest (sa, sb, inside, two) (none, in_third, bytes, long, reads) =
    let (q, is, begins) = inside-record (csv_state s4) in_third (a ∷ b ∷ []) bytes rest in
    let (more, others, e) = begins in
    rw none (
      q,
      two ∙ reads (a ∷ b ∷ []) ∙ is,
      rw e (third-stands a b (bytes ++ more) others sa sb (omega (arith, length-append bytes more))),
      λ whole. absurd whole,
    )

-- is there
third-is : (s s3 s4 : State) (a b c text part rest : List ℕ) → TakesTwo s s3 a b text part
    → TakesField s3 s4 c end.Nowhere part rest → ⊥
third-is s s3 s4 a b c text part rest (sa, sb, inside, two) none =
    let (q, is, begins) = inside-record (csv_state s3) inside [] [] part in
    cc (is, none)

-- ends somehow
pub judged-last : (s s3 s4 : State) (a b c text part rest : List ℕ) (at : FieldEnd) → TakesTwo s s3 a b text part
    → TakesField s3 s4 c at part rest → IsJudged s s4 (three_if (is_last at) (a, b, c)) text rest
judged-last s s3 s4 a b c text part rest end.Comma two third = judged-more s s3 s4 a b c text part rest two third
judged-last s s3 s4 a b c text part rest end.Record two third = judged-three s s3 s4 a b c text part rest two third
judged-last s s3 s4 a b c text part rest end.Long two third = judged-third s s3 s4 a b c text part rest two third
judged-last s s3 s4 a b c text part rest end.Nowhere two third =
    absurd (third-is s s3 s4 a b c text part rest two third)
