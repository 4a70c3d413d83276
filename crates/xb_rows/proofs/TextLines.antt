-- What a record says that is read without memory, byte by byte.
use Rattle.std.proofs.Common.{◌≡◌, ◌<◌, ◌++◌, ℕ, List, [], ◌∷◌, length, take, Option, Some, None, Result, Ok, Err, Bool, true, false, refl, sym, ap, ◌∙◌, arith}
use Rattle.std.specs.Prelude.{codes, nat_le, if◌then◌else◌, option_and_then}
use Rattle.std.proofs.lemmas.Bool.{leb-false, leb-true}
use Rattle.std.proofs.lemmas.List.{length-take-le, take_all}
use Rattle.csv.specs.Machine.{Read, ends_at_end, next_record}
use Rattle.csv.specs.Reading.{default_config, records}
use Rattle.csv.specs.declared.parser.State.{State as CsvState}
use Rattle.csv.specs.declared.parser.State.TheVariants as csv_st
use Rattle.xb_model.specs.Fields.{field_number, line_of}
use Rattle.xb_model.specs.Rows.{LoopRow, may_last, row_of}
use Rattle.xb_model.specs.Sources.{Rest}
use Rattle.xb_model.specs.declared.fault.RowFault.{RowFault}
use Rattle.xb_model.specs.declared.fault.RowFault.TheVariants as fault
use Rattle.xb_model.specs.declared.row.Contact.{Contact}
use Rattle.xb_rows.specs.declared.machine.Action.TheVariants as act
use Rattle.xb_rows.specs.declared.machine.State.{State}
use Rattle.xb_rows.specs.declared.record.TheConstants.{MS_DIGITS}
use Rattle.xb_rows.specs.declared.scan.TheConstants.{MOST_RECORDS}
use Rattle.xb_rows.specs.declared.text_line.FieldsSaid.{FieldsSaid}
use Rattle.xb_rows.specs.declared.text_line.FieldsSaid.TheVariants as said
use Rattle.xb_rows.specs.declared.text_line.TheConstants.{KEPT_BYTES}
use Rattle.xb_rows.specs.ByteSteps.{IsStep, csv_state}
use Rattle.xb_rows.specs.RowTexts.{Fields, contact_of, or_fault, rest_from, rest_of_text, row_of_fields, three_fields}
use Rattle.xb_rows.specs.TextLines.{BeginsAs, LinesAreRecords, fields_said, fields_with, row_of_line, row_of_read, row_said, some_row}
use Rattle.xb_rows.proofs.PlainRecords.{plain_header}
use Rattle.xb_rows.proofs.PlainSteps.{header-rest}
use Rattle.xb_rows.proofs.RecordCounts.{records-more, records-none}
use Rattle.xb_rows.proofs.RestOfRecords.{rest_from-more, rest_from-none}
use Rattle.xb_rows.proofs.TakenBytes.{one-byte}

-- a text of the header and another begins as the other by itself
pub lines_are_records : LinesAreRecords
lines_are_records text = by (next_record default_config csv_st.StartRecord [] [] text) refl
  where
    whole : List ℕ
    whole = codes "line,state,ms\n" ++ text

    left : List Fields
    left = records default_config text

    is : rest_from MOST_RECORDS 1 left ≡ rest_of_text whole
    is = header-rest whole text (plain_header whole text refl)

    first : (fields : Fields) (later : List Fields) (r : Result LoopRow RowFault)
        → left ≡ fields ∷ later → r ≡ row_of_fields 1 (three_fields fields)
        → BeginsAs (some_row r) (rest_of_text whole)
    first fields later (Ok row) e ok =
        let all = sym is ∙ rest_from-more MOST_RECORDS 1 left fields later (Ok row) e (omega arith) ok in
        (_, ap (λ (r : Rest). r.rows) all)
    first fields later (Err f) e err =
        sym is ∙ rest_from-more MOST_RECORDS 1 left fields later (Err f) e (omega arith) err

    by : (read : Option Read) → next_record default_config csv_st.StartRecord [] [] text ≡ read
        → BeginsAs (row_of_read 1 read) (rest_of_text whole)
    by None e = sym is ∙ rest_from-none MOST_RECORDS 1 left (records-none default_config csv_st.StartRecord text e)
    by (Some read) e =
        first read.0 _ _ (records-more default_config csv_st.StartRecord text read e) refl

-- no number is longer than what is kept of a field
pub field_number-kept : (most : ℕ) (field : List ℕ) → most < KEPT_BYTES
    → field_number most (take KEPT_BYTES field) ≡ field_number most field
field_number-kept most field short = by (nat_le (length field) KEPT_BYTES) refl
  where
    none : (f : List ℕ) → most < length f → (a b : Bool) → nat_le 1 (length f) ≡ a → nat_le (length f) most ≡ b
        → field_number most f ≡ None
    none f long false b one few = rw one refl
    none f long true false one few = rw (one, few) refl
    none f long true true one few = absurd (omega (arith, leb-true (length f) most few))

    by : (b : Bool) → nat_le (length field) KEPT_BYTES ≡ b
        → field_number most (take KEPT_BYTES field) ≡ field_number most field
    by true e = ap (field_number most) (take_all KEPT_BYTES field (leb-true (length field) KEPT_BYTES e))
    by false e =
        let long = leb-false (length field) KEPT_BYTES e in
        let kept = length-take-le KEPT_BYTES field (omega arith) in
        none (take KEPT_BYTES field) (omega arith) _ _ refl refl ∙ sym (none field (omega arith) _ _ refl refl)

pub contact_of-kept : (field : List ℕ) → contact_of (take KEPT_BYTES field) ≡ contact_of field
contact_of-kept [] = refl
contact_of-kept (a ∷ []) = refl
contact_of-kept (a ∷ b ∷ rest) = refl

-- what is kept of a field says the same
pub with-kept : (s : FieldsSaid) (field : List ℕ) → fields_with s (take KEPT_BYTES field) ≡ fields_with s field
with-kept said.Nothing field = ap said.Line (field_number-kept 4 field (omega arith))
with-kept (said.Line line) field = ap (λ contact. said.State line contact) (contact_of-kept field)
with-kept (said.State line contact) field = ap (λ ms. said.Ms line contact ms) (field_number-kept 8 field (omega arith))
with-kept (said.Ms line contact ms) field = refl
with-kept said.TooMany field = refl

-- one field more
pub said-more : (fields : Fields) (field : List ℕ)
    → fields_with (fields_said fields) field ≡ fields_said (fields ++ field ∷ [])
said-more [] field = refl
said-more (a ∷ []) field = refl
said-more (a ∷ b ∷ []) field = refl
said-more (a ∷ b ∷ c ∷ []) field = refl
said-more (a ∷ b ∷ c ∷ d ∷ rest) field = refl

-- a row of its three fields, or its first fault
same-row : (n : ℕ) (line : Option ℕ) (contact : Option Contact) (ms : Option ℕ)
    → row_said n (said.Ms line contact ms)
    ≡ or_fault (fault.Line n) line (λ l. or_fault (fault.Contact n) contact (λ c.
    or_fault (fault.Ms n) (option_and_then (λ m. if may_last c m then Some m else None) ms) (λ m. Ok (row_of l c m))))
same-row n None contact ms = refl
same-row n (Some l) None ms = refl
same-row n (Some l) (Some c) None = refl
same-row n (Some l) (Some c) (Some m) = at (may_last c m)
  where
    at : (b : Bool) → (if b then Ok (row_of l c m) else Err (fault.Ms n))
        ≡ or_fault (fault.Ms n) (if b then Some m else None) (λ x. Ok (row_of l c x))
    at true = refl
    at false = refl

-- the row of what fields say is theirs
pub row-said : (n : ℕ) (fields : Fields) → row_said n (fields_said fields) ≡ row_of_fields n (three_fields fields)
row-said n [] = refl
row-said n (a ∷ []) = refl
row-said n (a ∷ b ∷ []) = refl
row-said n (a ∷ b ∷ c ∷ []) = same-row n (line_of a) (contact_of b) (field_number MS_DIGITS c)
row-said n (a ∷ b ∷ c ∷ d ∷ rest) = refl

-- a text is read up to what is left of it: these fields, and then this field, of which the beginning is kept
pub record IsReadTo (text : List ℕ) (state : State) (read : FieldsSaid) (kept left : List ℕ) : Type 0 where
  pub fields : Fields
  pub field : List ℕ
  pub reads : next_record default_config csv_st.StartRecord [] [] text
      ≡ next_record default_config (csv_state state) fields field left
  pub says : read ≡ fields_said fields
  pub keeps : kept ≡ take KEPT_BYTES field

module _ (text : List ℕ) (s n : State) (c : ℕ) (said said' : FieldsSaid) (kept kept' left rest : List ℕ)
    (is : left ≡ c ∷ rest) (read : IsReadTo text s said kept left) where
  abbrev here : Option Read
  here = next_record default_config (csv_state s) read.fields read.field (c ∷ rest)

  up_to : next_record default_config csv_st.StartRecord [] [] text ≡ here
  up_to = read.reads ∙ ap (λ bytes. next_record default_config (csv_state s) read.fields read.field bytes) is

  -- what is said with the field that is kept is said with the field
  pub with-field : fields_with said kept ≡ fields_said (read.fields ++ read.field ∷ [])
  with-field =
      ap (λ x. fields_with x kept) read.says ∙ ap (fields_with (fields_said read.fields)) read.keeps
      ∙ with-kept (fields_said read.fields) read.field ∙ said-more read.fields read.field

  -- a byte that says nothing
  pub reads-skip : IsStep (n, act.Skip) s c → IsReadTo text n said kept rest
  reads-skip step = record {
    fields = read.fields;
    field = read.field;
    reads = up_to ∙ one-byte s n act.Skip c read.fields read.field rest step;
    says = read.says;
    keeps = read.keeps;
  }

  -- a byte of a field
  pub reads-copy : IsStep (n, act.Copy) s c
      → ((whole : List ℕ) → kept ≡ take KEPT_BYTES whole → kept' ≡ take KEPT_BYTES (whole ++ c ∷ []))
      → IsReadTo text n said kept' rest
  reads-copy step more = record {
    fields = read.fields;
    field = read.field ++ c ∷ [];
    reads = up_to ∙ one-byte s n act.Copy c read.fields read.field rest step;
    says = read.says;
    keeps = more read.field read.keeps;
  }

  -- the comma after a field
  pub reads-field : IsStep (n, act.EndField) s c → said' ≡ fields_with said kept → kept' ≡ []
      → IsReadTo text n said' kept' rest
  reads-field step more none = record {
    fields = read.fields ++ read.field ∷ [];
    field = [];
    reads = up_to ∙ one-byte s n act.EndField c read.fields read.field rest step;
    says = more ∙ with-field;
    keeps = none;
  }

-- the row of a text of which this is the first record
row-of-read : (n : ℕ) (text : List ℕ) (fields : Fields) (state : CsvState) (rest : List ℕ)
    → next_record default_config csv_st.StartRecord [] [] text ≡ Some (fields, state, rest)
    → some_row (row_said n (fields_said fields)) ≡ row_of_line n text
row-of-read n text fields state rest read =
    ap some_row (row-said n fields) ∙ sym (ap (row_of_read n) read)

-- the end of the record
pub takes-record : (number : ℕ) (text : List ℕ) (s n : State) (c : ℕ) (said : FieldsSaid) (kept left rest : List ℕ)
    → left ≡ c ∷ rest → IsReadTo text s said kept left → IsStep (n, act.EndRecord) s c
    → some_row (row_said number (fields_with said kept)) ≡ row_of_line number text
takes-record number text s n c said kept left rest is read step =
    ap (λ x. some_row (row_said number x)) (with-field text s n c said said kept kept left rest is read)
    ∙ row-of-read number text (read.fields ++ read.field ∷ []) (csv_state n) rest
    (up_to text s n c said said kept kept left rest is read ∙ one-byte s n act.EndRecord c read.fields read.field rest step)

-- the end of the text ends the record
pub takes-last : (number : ℕ) (text : List ℕ) (s : State) (said : FieldsSaid) (kept left : List ℕ)
    → left ≡ [] → IsReadTo text s said kept left → ends_at_end (csv_state s) ≡ true
    → some_row (row_said number (fields_with said kept)) ≡ row_of_line number text
unfolding next_record
takes-last number text s said kept left none read ends =
    ap (λ x. some_row (row_said number x))
    (ap (λ x. fields_with x kept) read.says ∙ ap (fields_with (fields_said read.fields)) read.keeps
    ∙ with-kept (fields_said read.fields) read.field ∙ said-more read.fields read.field)
    ∙ row-of-read number text (read.fields ++ read.field ∷ []) csv_st.StartRecord []
    (read.reads ∙ rw (none, ends) refl)

-- or there is none
pub takes-none : (number : ℕ) (text : List ℕ) (s : State) (said : FieldsSaid) (kept left : List ℕ)
    → left ≡ [] → IsReadTo text s said kept left → ends_at_end (csv_state s) ≡ false
    → Ok None ≡ row_of_line number text
unfolding next_record
takes-none number text s said kept left none read ends =
    let no : next_record default_config csv_st.StartRecord [] [] text ≡ None = read.reads ∙ rw (none, ends) refl in
    sym (ap (row_of_read number) no)
