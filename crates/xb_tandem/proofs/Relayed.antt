-- The keys of a text, line by line, and what is written of them.
use Rattle.std.proofs.Common.{◌≡◌, ◌∙◌, ℕ, suc, ◌+◌, ◌^◌, ◌<◌, List, [], ◌∷◌, ◌++◌, length, true, false, Option, Some, None, Result, Ok, Err, inl, inr, ap, refl, sym, subst, arith, append_assoc, append-nil, length-append}
use Rattle.std.specs.Io.KnownBytes.{Appends}
use Rattle.std.specs.Option.{option_to_list}
use Rattle.std.proofs.lemmas.List.{map-append}
use Rattle.xb_incoming.specs.declared.key.TimedKey.{TimedKey}
use Rattle.xb_incoming.specs.Attempts.{outcomes}
use Rattle.xb_incoming.specs.Machine.{phase_after, told_by}
use Rattle.xb_incoming.proofs.Taken.{all-told, told_from}
use Rattle.xb_outgoing.specs.Tables.{Outgoing, outgoing_order}
use Rattle.xb_text.specs.Writing.{AppendsBeginning}
use Rattle.xb_text.proofs.Beginnings.{AppendsBeginning-first, AppendsBeginning-second}
use Rattle.xb_tandem.specs.declared.fault.ReadingFault.{ReadingFault}
use Rattle.xb_tandem.specs.declared.fault.ReadingFault.TheVariants as reading
use Rattle.xb_tandem.specs.declared.fault.WritingFault.{WritingFault}
use Rattle.xb_tandem.specs.declared.fault.WritingFault.TheVariants as writing
use Rattle.xb_tandem.specs.declared.fault.LineFault.{LineFault}
use Rattle.xb_tandem.specs.declared.fault.LineFault.TheVariants as line_fault
use Rattle.xb_tandem.specs.declared.fault.TandemFault.{TandemFault}
use Rattle.xb_tandem.specs.declared.fault.TandemFault.TheVariants as fault
use Rattle.xb_tandem.specs.declared.lines.TheConstants.{MOST_LINE_BYTES}
use Rattle.xb_tandem.specs.declared.office.Office.{Office}
use Rattle.xb_tandem.specs.declared.request.Form.{Form}
use Rattle.xb_tandem.specs.Entries.{orders_of, orders_of_keys, page_of_keys, told_of_keys, told_orders}
use Rattle.xb_tandem.specs.Faults.{of_reading, of_writing}
use Rattle.xb_tandem.specs.KeyLines.{Said, key_of_line}
use Rattle.xb_tandem.specs.Relaying.{BeganLine, BeganPage, IsFresh, IsOfKeys, TakesLine, WritesPage}
use Rattle.xb_tandem.specs.TextLines.{Keys, ReadsLine, key_and_rest, key_read, keys_from, keys_of_text, keys_read, text_lines, with_keys}
use Rattle.xb_tandem.specs.Written.{Ends, HasWritten}
use Rattle.xb_tandem.proofs.KeyLines.{line-long}
use Rattle.xb_tandem.proofs.Written.{none-written}
use Rattle.xb_tandem.proofs.ToldFirst.{begins-first}

with-none : (keys : Keys) → with_keys [] keys ≡ keys
with-none (Ok keys) = refl
with-none (Err wrong) = refl

with-two : (first second : List TimedKey) (keys : Keys) → with_keys first (with_keys second keys) ≡ with_keys (first ++ second) keys
with-two first second (Ok keys) = ap Ok (sym (append_assoc first second keys))
with-two first second (Err wrong) = refl

with-said : (n : ℕ) (keys : List TimedKey) (key : Option TimedKey) (rest : Keys)
    → with_keys keys (key_and_rest n (Ok key) rest) ≡ with_keys (keys ++ option_to_list key) rest
with-said n keys None rest = ap (λ ks. with_keys ks rest) (sym (append-nil keys))
with-said n keys (Some key) rest = with-two keys (key ∷ []) rest

read-said : (keys : List TimedKey) (key : Option TimedKey) (rest : List TimedKey)
    → keys ++ key_read (Ok key) rest ≡ (keys ++ option_to_list key) ++ rest
read-said keys None rest = ap (λ ks. ks ++ rest) (sym (append-nil keys))
read-said keys (Some key) rest = sym (append_assoc keys (key ∷ []) rest)

from-line : (n : ℕ) (line : List ℕ) (lines : List (List ℕ)) (said : Said) → key_of_line line ≡ said
    → keys_from n (line ∷ lines) ≡ key_and_rest n said (keys_from (n + 1) lines)
unfolding keys_from
from-line n line lines said is = ap (λ s. key_and_rest n s (keys_from (n + 1) lines)) is

read-line : (line : List ℕ) (lines : List (List ℕ)) (said : Said) → key_of_line line ≡ said
    → keys_read (line ∷ lines) ≡ key_read said (keys_read lines)
unfolding keys_read
read-line line lines said is = ap (λ s. key_read s (keys_read lines)) is

from-none : (n : ℕ) → keys_from n [] ≡ Ok []
unfolding keys_from
from-none n = refl

read-none : keys_read [] ≡ []
unfolding keys_read
read-none = refl

-- a line that is too long is wrong, however it goes on
long-wrong : (line more : List ℕ) → MOST_LINE_BYTES < length line → key_of_line (line ++ more) ≡ Err line_fault.TooLong
long-wrong line more long = line-long (line ++ more) (omega (arith, long, length-append line more))

-- the beginning of what is told of keys is that of their page
module _ (form : Form) (line limit : ℕ) (table : Outgoing) (keys : List TimedKey) (old new : Option (List ℕ)) where
  pub told-page : AppendsBeginning old new (told_of_keys form line limit table keys)
      → AppendsBeginning old new (page_of_keys form line limit table keys)
  told-page begun =
      let ended = told_from limit (phase_after limit keys) [] in
      let all : outcomes limit keys ≡ told_by limit keys ++ ended
      = ap (λ (ks : List TimedKey). outcomes limit ks) (sym (append-nil keys)) ∙ all-told limit keys [] in
      let told = orders_of table (told_by limit keys) in
      let orders : orders_of_keys limit table keys ≡ told ++ orders_of table ended
      = ap (orders_of table) all ∙ map-append (outgoing_order table) (told_by limit keys) ended in
      AppendsBeginning-first old new (told_orders form line table.pulsed (orders_of_keys limit table keys)) _
      (subst (λ os. AppendsBeginning old new (told_orders form line table.pulsed os)) (sym orders)
      (begins-first form line table.pulsed told (orders_of table ended) old new begun))

-- what comes of a text that may be known, as `Relays` says it of an office
abbrev pub Comes : ℕ → Office → Option (List ℕ) → Result ℕ TandemFault → Option (List ℕ) → Option (List ℕ) → Type 0
Comes limit office None result old new = Unit {0}
Comes limit office (Some text) result old new = WritesPage office.form office.line limit office.table text result old new

nothing-begun : (limit : ℕ) (office : Office) (text : List ℕ) (start out : Option (List ℕ))
    → AppendsBeginning start out (told_orders office.form office.line office.table.pulsed [])
    → BeganPage office.form office.line limit office.table text start out
nothing-begun limit office text start out begun = record {
  first = [];
  later = keys_read (text_lines text);
  are = refl;
  begun = told-page office.form office.line limit office.table [] start out begun;
}

-- nothing could be begun
pub begun-none : (limit : ℕ) (office : Office) (f : WritingFault) (text start out : Option (List ℕ))
    → AppendsBeginning start out (told_orders office.form office.line office.table.pulsed [])
    → Comes limit office text (Err (of_writing f)) start out
begun-none limit office f None start out begun = tt
begun-none limit office writing.Write (Some text) start out begun = nothing-begun limit office text start out begun
begun-none limit office writing.NoMemory (Some text) start out begun = nothing-begun limit office text start out begun

-- so far these keys of a text were taken, and the next line has this number: the lines are counted
pub record SoFar (n limit : ℕ) (office : Office) (text rest : List ℕ) (start out : Option (List ℕ)) : Type 0 where
  pub keys : List TimedKey
  pub says : keys_of_text text ≡ with_keys keys (keys_from n (text_lines rest))
  pub reads : keys_read (text_lines text) ≡ keys ++ keys_read (text_lines rest)
  pub lines : length (text_lines text) + 1 ≡ n + length (text_lines rest)
  pub written : HasWritten limit office keys start out

abbrev pub IsSoFar : ℕ → ℕ → Office → Option (List ℕ) → Option (List ℕ) → Option (List ℕ) → Option (List ℕ) → Type 0
IsSoFar n limit office None rest start out = Unit {0}
IsSoFar n limit office (Some text) None start out = ⊥
IsSoFar n limit office (Some text) (Some rest) start out = SoFar n limit office text rest start out

pub fresh-written : (office : Office) (start out : Option (List ℕ)) → IsFresh office
    → Appends start out (told_orders office.form office.line office.table.pulsed [])
    → HasWritten office.register.timeout_ms office [] start out
fresh-written office start out fresh wrote = record {
  taken = fresh.taken;
  told = record {
    number = omega (arith, fresh.keyed, fresh.refused);
    keyed = fresh.keyed;
    refused = fresh.refused;
    dialled = fresh.dialled;
    text = wrote;
  };
}

pub so_far-start : (limit : ℕ) (office : Office) (text start out : Option (List ℕ)) → HasWritten limit office [] start out
    → IsSoFar 1 limit office text text start out
so_far-start limit office None start out written = tt
so_far-start limit office (Some text) start out written =
    record { keys = []; says = sym (with-none _); reads = refl; lines = omega arith; written = written }

-- a line was taken
pub so_far-line : (n limit : ℕ) (before after : Office) (line : List ℕ) (text rest left start mid out : Option (List ℕ))
    → IsSoFar n limit before text rest start mid → ReadsLine rest left line (Ok true)
    → ((keys : List TimedKey) → HasWritten limit before keys start mid → TakesLine limit after keys n line (Ok tt) start out)
    → IsSoFar (n + 1) limit after text left start out
so_far-line n limit before after line None rest left start mid out so is takes = tt
so_far-line n limit before after line (Some text) None left start mid out so is takes = absurd so
so_far-line n limit before after line (Some text) (Some rest) None start mid out so is takes = absurd is
so_far-line n limit before after line (Some text) (Some rest) (Some left) start mid out so (inl is) takes =
    let took = takes so.keys so.written in
    let longer : length (text_lines rest) ≡ suc (length (text_lines left)) = ap length is in
    record {
      keys = so.keys ++ option_to_list took.0;
      says = so.says
          ∙ ap (λ lines. with_keys so.keys (keys_from n lines)) is
          ∙ ap (with_keys so.keys) (from-line n line (text_lines left) (Ok took.0) took.1)
          ∙ with-said n so.keys took.0 (keys_from (n + 1) (text_lines left));
      reads = so.reads
          ∙ ap (λ lines. so.keys ++ keys_read lines) is
          ∙ ap (λ ks. so.keys ++ ks) (read-line line (text_lines left) (Ok took.0) took.1)
          ∙ read-said so.keys took.0 (keys_read (text_lines left));
      lines = omega (arith, so.lines, longer);
      written = took.2;
    }
so_far-line n limit before after line (Some text) (Some rest) (Some left) start mid out so (inr long) takes =
    let took = takes so.keys so.written in
    absurd (apart took.0 (sym (line-long line long.0) ∙ took.1))
  where
    apart : (key : Option TimedKey) → Err line_fault.TooLong ≡ Ok key → ⊥
    apart key e = cc

-- what is read of a line, and then of others
record IsReadOf (said : Said) (rest : List TimedKey) : Type 0 where
  later : List TimedKey
  are : key_read said rest ≡ key_read said [] ++ later

read-of : (said : Said) (rest : List TimedKey) → IsReadOf said rest
read-of (Err f) rest = record { later = []; are = refl }
read-of (Ok None) rest = record { later = rest; are = refl }
read-of (Ok (Some key)) rest = record { later = rest; are = refl }

none-of : (first more : List TimedKey) → [] ≡ first ++ more → first ≡ []
none-of [] more is = refl
none-of (key ∷ first) more is = absurd (cc)

-- a line was begun
began : (n limit : ℕ) (before after : Office) (line text rest : List ℕ) (left start mid out : Option (List ℕ))
    → SoFar n limit before text rest start mid → ReadsLine (Some rest) left line (Ok true)
    → ((keys : List TimedKey) → HasWritten limit before keys start mid → BeganLine limit after keys line start out)
    → BeganPage after.form after.line limit after.table text start out
began n limit before after line text rest None start mid out so is begins = absurd is
began n limit before after line text rest (Some left) start mid out so (inl is) begins =
    let begun = begins so.keys so.written in
    let of = read-of (key_of_line line) (keys_read (text_lines left)) in record {
      first = so.keys ++ begun.first;
      later = begun.more ++ of.later;
      are = so.reads
          ∙ ap (λ lines. so.keys ++ keys_read lines) is
          ∙ ap (λ ks. so.keys ++ ks)
          (read-line line (text_lines left) (key_of_line line) refl ∙ of.are ∙ ap (λ ks. ks ++ of.later) begun.are
          ∙ append_assoc begun.first begun.more of.later)
          ∙ sym (append_assoc so.keys begun.first (begun.more ++ of.later));
      begun = told-page after.form after.line limit after.table (so.keys ++ begun.first) start out begun.begun;
    }
began n limit before after line text rest (Some left) start mid out so (inr long) begins =
    let begun = begins so.keys so.written in
    let none : begun.first ≡ []
    = none-of begun.first begun.more (ap (λ said. key_read said []) (sym (line-long line long.0)) ∙ begun.are) in
    record {
      first = so.keys;
      later = [];
      are = so.reads
          ∙ ap (λ lines. so.keys ++ keys_read lines) long.1.1.1
          ∙ ap (λ ks. so.keys ++ ks)
          (read-line (line ++ long.1.0) long.1.1.0 (Err line_fault.TooLong) (long-wrong line long.1.0 long.0));
      begun = told-page after.form after.line limit after.table so.keys start out
          (subst (λ ks. AppendsBeginning start out (told_of_keys after.form after.line limit after.table ks))
          (ap (λ ks. so.keys ++ ks) none ∙ append-nil so.keys) begun.begun);
    }

-- the fault of what a line says
abbrev fault_in : Said → LineFault
fault_in (Err f) = f
fault_in (Ok key) = line_fault.NoMemory

-- a line is wrong
wrong : (n limit m : ℕ) (f : LineFault) (before after : Office) (line text rest : List ℕ) (left start mid out : Option (List ℕ))
    → SoFar n limit before text rest start mid → ReadsLine (Some rest) left line (Ok true)
    → ((keys : List TimedKey) → HasWritten limit before keys start mid
    → TakesLine limit after keys n line (Err (fault.TextLine m f)) start out)
    → WritesPage after.form after.line limit after.table text (Err (fault.TextLine m f)) start out
wrong n limit m f before after line text rest None start mid out so is takes = absurd is
wrong n limit m f before after line text rest (Some left) start mid out so (inl is) takes =
    let took = takes so.keys so.written in
    let reads : keys_read (text_lines text) ≡ so.keys
    = so.reads ∙ ap (λ lines. so.keys ++ keys_read lines) is
    ∙ ap (λ ks. so.keys ++ ks) (read-line line (text_lines left) (Err f) took.1) ∙ append-nil so.keys in (
      so.says ∙ ap (λ lines. with_keys so.keys (keys_from n lines)) is
          ∙ ap (with_keys so.keys) (from-line n line (text_lines left) (Err f) took.1)
          ∙ ap (λ k. Err (k, f)) (sym took.0),
      subst (λ ks. Appends start out (told_of_keys after.form after.line limit after.table ks)) (sym reads)
          took.2.told.text,
    )
wrong n limit m f before after line text rest (Some left) start mid out so (inr long) takes =
    let took = takes so.keys so.written in
    let same : line_fault.TooLong ≡ f = ap fault_in (sym (line-long line long.0) ∙ took.1) in
    let is = long-wrong line long.1.0 long.0 in
    let reads : keys_read (text_lines text) ≡ so.keys
    = so.reads ∙ ap (λ lines. so.keys ++ keys_read lines) long.1.1.1
    ∙ ap (λ ks. so.keys ++ ks) (read-line (line ++ long.1.0) long.1.1.0 (Err line_fault.TooLong) is) ∙ append-nil so.keys in (
      so.says ∙ ap (λ lines. with_keys so.keys (keys_from n lines)) long.1.1.1
          ∙ ap (with_keys so.keys) (from-line n (line ++ long.1.0) long.1.1.0 (Err line_fault.TooLong) is)
          ∙ ap (λ k. Err (k, line_fault.TooLong)) (sym took.0) ∙ ap (λ g. Err (m, g)) same,
      subst (λ ks. Appends start out (told_of_keys after.form after.line limit after.table ks)) (sym reads)
          took.2.told.text,
    )

-- the fault of a line
pub so_far-fault : (n limit : ℕ) (f : TandemFault) (before after : Office) (line : List ℕ)
    (text rest left start mid out : Option (List ℕ))
    → IsSoFar n limit before text rest start mid → ReadsLine rest left line (Ok true)
    → ((keys : List TimedKey) → HasWritten limit before keys start mid → TakesLine limit after keys n line (Err f) start out)
    → Comes limit after text (Err f) start out
so_far-fault n limit f before after line None rest left start mid out so is takes = tt
so_far-fault n limit f before after line (Some text) None left start mid out so is takes = absurd so
so_far-fault n limit (fault.TextLine m f) before after line (Some text) (Some rest) left start mid out so is takes =
    wrong n limit m f before after line text rest left start mid out so is takes
so_far-fault n limit (fault.File e) before after line (Some text) (Some rest) left start mid out so is takes =
    takes so.keys so.written
so_far-fault n limit (fault.Table f) before after line (Some text) (Some rest) left start mid out so is takes =
    takes so.keys so.written
so_far-fault n limit (fault.Read unread) before after line (Some text) (Some rest) left start mid out so is takes =
    absurd (takes so.keys so.written)
so_far-fault n limit fault.TooMany before after line (Some text) (Some rest) left start mid out so is takes =
    absurd (takes so.keys so.written)
so_far-fault n limit fault.NoMemory before after line (Some text) (Some rest) left start mid out so is takes =
    began n limit before after line text rest left start mid out so is takes
so_far-fault n limit fault.Write before after line (Some text) (Some rest) left start mid out so is takes =
    began n limit before after line text rest left start mid out so is takes

-- the keys so far, and nothing more was written
all-first : (old new : Option (List ℕ)) (bytes : List ℕ) → Appends old new bytes → AppendsBeginning old new bytes
all-first old new bytes wrote =
    subst (AppendsBeginning old new) (append-nil bytes)
    (AppendsBeginning-second old new new bytes [] wrote (none-written new []))

stopped : (n limit : ℕ) (office : Office) (text rest : List ℕ) (start out : Option (List ℕ))
    → SoFar n limit office text rest start out → BeganPage office.form office.line limit office.table text start out
stopped n limit office text rest start out so = record {
  first = so.keys;
  later = keys_read (text_lines rest);
  are = so.reads;
  begun = told-page office.form office.line limit office.table so.keys start out
      (all-first start out _ so.written.told.text);
}

pub so_far-read : (n limit : ℕ) (f : ReadingFault) (office : Office) (text rest start out : Option (List ℕ))
    → IsSoFar n limit office text rest start out → Comes limit office text (Err (of_reading f)) start out
so_far-read n limit f office None rest start out so = tt
so_far-read n limit f office (Some text) None start out so = absurd so
so_far-read n limit (reading.Read unread) office (Some text) (Some rest) start out so = stopped n limit office text rest start out so
so_far-read n limit reading.NoMemory office (Some text) (Some rest) start out so = stopped n limit office text rest start out so

pub so_far-many : (n limit : ℕ) (office : Office) (text rest start out : Option (List ℕ))
    → 2 ^ 63 < n → IsSoFar n limit office text rest start out → Comes limit office text (Err fault.TooMany) start out
so_far-many n limit office None rest start out many so = tt
so_far-many n limit office (Some text) None start out many so = absurd so
so_far-many n limit office (Some text) (Some rest) start out many so =
    (omega (arith, many, so.lines), stopped n limit office text rest start out so)

-- the text has ended
ended-begun : (n limit : ℕ) (office : Office) (line text rest : List ℕ) (left start mid out : Option (List ℕ))
    → SoFar n limit office text rest start mid → ReadsLine (Some rest) left line (Ok false)
    → ((keys : List TimedKey) → HasWritten limit office keys start mid
    → AppendsBeginning start out (page_of_keys office.form office.line limit office.table keys))
    → BeganPage office.form office.line limit office.table text start out
ended-begun n limit office line text rest left start mid out so is ends = record {
  first = so.keys;
  later = [];
  are = so.reads ∙ ap (λ lines. so.keys ++ keys_read lines) is ∙ ap (λ ks. so.keys ++ ks) read-none;
  begun = ends so.keys so.written;
}

pub so_far-end : (n limit : ℕ) (office : Office) (line : List ℕ) (text rest left start mid out : Option (List ℕ))
    → IsSoFar n limit office text rest start mid → ReadsLine rest left line (Ok false)
    → (n_left : ℕ) → ((keys : List TimedKey) → HasWritten limit office keys start mid → Ends limit office keys (Ok n_left) start out)
    → Comes limit office text (Ok n_left) start out
so_far-end n limit office line None rest left start mid out so is n_left ends = tt
so_far-end n limit office line (Some text) None left start mid out so is n_left ends = absurd so
so_far-end n limit office line (Some text) (Some rest) left start mid out so is n_left ends = (
  so.keys,
  so.says ∙ ap (λ lines. with_keys so.keys (keys_from n lines)) is ∙ ap (with_keys so.keys) (from-none n)
      ∙ ap Ok (append-nil so.keys),
  (ends so.keys so.written).0,
  (ends so.keys so.written).1,
)

pub so_far-end-fault : (n limit : ℕ) (f : WritingFault) (office : Office) (line : List ℕ)
    (text rest left start mid out : Option (List ℕ))
    → IsSoFar n limit office text rest start mid → ReadsLine rest left line (Ok false)
    → ((keys : List TimedKey) → HasWritten limit office keys start mid → Ends limit office keys (Err f) start out)
    → Comes limit office text (Err (of_writing f)) start out
so_far-end-fault n limit f office line None rest left start mid out so is ends = tt
so_far-end-fault n limit f office line (Some text) None left start mid out so is ends = absurd so
so_far-end-fault n limit writing.Write office line (Some text) (Some rest) left start mid out so is ends =
    ended-begun n limit office line text rest left start mid out so is ends
so_far-end-fault n limit writing.NoMemory office line (Some text) (Some rest) left start mid out so is ends =
    ended-begun n limit office line text rest left start mid out so is ends

-- the same by an office with other counts
pub comes-same : (limit : ℕ) (old new : Office) (text : Option (List ℕ)) (result : Result ℕ TandemFault)
    (start out : Option (List ℕ)) → new.form ≡ old.form → new.line ≡ old.line → new.table ≡ old.table
    → Comes limit new text result start out → Comes limit old text result start out
comes-same limit old new None result start out form line table comes = tt
comes-same limit old new (Some text) result start out form line table comes =
    subst (λ t. WritesPage old.form old.line limit t text result start out) table
    (subst (λ l. WritesPage old.form l limit new.table text result start out) line
    (subst (λ f. WritesPage f new.line limit new.table text result start out) form comes))

-- a fault of reading or of writing is none of the table
pub reading-kind : (f : ReadingFault) → IsOfKeys (of_reading f)
reading-kind (reading.Read unread) = tt
reading-kind reading.NoMemory = tt

pub writing-kind : (f : WritingFault) → IsOfKeys (of_writing f)
writing-kind writing.Write = tt
writing-kind writing.NoMemory = tt
