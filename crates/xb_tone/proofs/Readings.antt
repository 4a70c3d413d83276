-- What a text line tells, by what JSON is read of it, and the steps of reading a text.
use Rattle.std.proofs.Common.{◌≡◌, ◌∙◌, ℕ, ◌+◌, ◌≤◌, Bool, Bor, true, false, List, [], ◌∷◌, length, Option, Some, None, Ok, Err, ap, sym, inr, refl, arith, eqb, ne_eqb, suc, cond, ◌<◌}
use Rattle.std.specs.Prelude.{IfErr, IfOk, if◌then◌else◌, option_copied}
use Rattle.std.specs.Str.{IsUtf8, is_utf8}
use Rattle.std.proofs.lemmas.Bool.{cond-true, cond-false}
use Rattle.std.proofs.lemmas.Str.{IsUtf8-from_is_utf8, is_utf8-from_IsUtf8}
use Rattle.serde_json.specs.Data.{Data}
use Rattle.serde_json.specs.Read.{read}
use Rattle.xb_tone.specs.declared.objects_fault.LineFault.TheVariants as fault
use Rattle.std.specs.List.{onto_first}
use Rattle.std.proofs.lemmas.List.Splits.{length-slice_split}
use Rattle.std.proofs.lemmas.List.Sums.{count_by-le-length}
use Rattle.xb_text.specs.Pieces.{pieces, pieces_left}
use Rattle.xb_tone.specs.declared.entry.PlacedEntry.{PlacedEntry}
use Rattle.xb_tone.specs.declared.objects_fault.TextFault.{TextFault}
use Rattle.xb_tone.specs.declared.objects_fault.TextFault.TheVariants as text_fault
use Rattle.xb_tone.specs.Texts.{Entries, IsFaultOf, IsFaultOfText, Step, ends, entries_from, entries_of_text, go_on, step}
use Rattle.xb_tone.specs.Objects.{IsFaultOfLine, Said, told_in, told_of_data, told_of_line}

pub line-said : (n : ℕ) (line : List ℕ) (value : Data) → IsUtf8 line → read line ≡ Some value
    → told_of_line n line ≡ told_in n value
line-said n line value utf8 is = ap (told_of_data n) (cond-true _ _ _ (is_utf8-from_IsUtf8 line utf8) ∙ is)

pub line-refused : (n : ℕ) (line : List ℕ) → (IsUtf8 line → read line ≡ None) → told_of_line n line ≡ Err fault.NoObject
line-refused n line none = ap (told_of_data n) (at (is_utf8 line) refl)
  where
    at : (utf8 : Bool) → is_utf8 line ≡ utf8 → (if utf8 then read line else None) ≡ None
    at true e = none (IsUtf8-from_is_utf8 line e)
    at false e = refl

-- what is returned of a line is what it says
pub said-ok : (n : ℕ) (line : List ℕ) (r : Said) → told_of_line n line ≡ r → IfOk r (λ entry. told_of_line n line ≡ Ok entry)
said-ok n line (Ok entry) is = is
said-ok n line (Err f) is = tt

pub said-err : (n : ℕ) (line : List ℕ) (r : Said) → told_of_line n line ≡ r → IfErr r (IsFaultOfLine n line)
said-err n line (Ok entry) is = tt
said-err n line (Err f) is = inr is

-- a text line comes next, and these after it
pub record HasLine (all : Entries) (n : ℕ) (old : List PlacedEntry) (line : List ℕ) (lines : List (List ℕ)) : Type 0 where
  pub is : all ≡ entries_from n old (line ∷ lines)
  pub more : ends (line ∷ lines) ≡ false

-- the steps of the loop over the text lines
line-step : (all : Entries) (n : ℕ) (line : List ℕ) (lines : List (List ℕ)) (old : List PlacedEntry) (r : Step)
    → HasLine all n old line lines → step n old line lines ≡ r
    → all ≡ go_on r (λ entries. entries_from (n + 1) entries lines)
unfolding entries_from
line-step all n line lines old r has steps =
    has.is ∙ cond-false _ _ _ has.more ∙ ap (λ (r : Step). go_on r (λ entries. entries_from (n + 1) entries lines)) steps

pub line-more : (all : Entries) (n : ℕ) (line : List ℕ) (lines : List (List ℕ)) (old new : List PlacedEntry)
    → HasLine all n old line lines → step n old line lines ≡ Ok (false, new) → all ≡ entries_from (n + 1) new lines
line-more all n line lines old new has steps = line-step all n line lines old (Ok (false, new)) has steps

pub line-last : (all : Entries) (n : ℕ) (line : List ℕ) (lines : List (List ℕ)) (old new : List PlacedEntry)
    → HasLine all n old line lines → step n old line lines ≡ Ok (true, new) → all ≡ Ok new
line-last all n line lines old new has steps = line-step all n line lines old (Ok (true, new)) has steps

pub line-fault : (text : List ℕ) (n : ℕ) (line : List ℕ) (lines : List (List ℕ)) (old : List PlacedEntry) (f : TextFault)
    → HasLine (entries_of_text text) n old line lines → IsFaultOf (step n old line lines) f → IsFaultOfText text f
line-fault text n line lines old text_fault.NoMemory has wrong = tt
line-fault text n line lines old (text_fault.TextLine m f) has wrong =
    line-step (entries_of_text text) n line lines old (Err (m, f)) has wrong

pub lines-end : (all : Entries) (n : ℕ) (lines : List (List ℕ)) (old : List PlacedEntry)
    → all ≡ entries_from n old lines → ends lines ≡ true → all ≡ Err (n, fault.NoTotals)
unfolding entries_from
lines-end all n [] old is end = is
lines-end all n (line ∷ lines) old is end = is ∙ cond-true _ _ _ end

-- there are no more text lines than bytes, and one
pub few-lines : (text : List ℕ) → length (pieces 10 text) ≤ length text + 1
few-lines text =
    let some = length-slice_split (λ b. eqb b 10) text in
    let few = count_by-le-length (λ b. eqb b 10) text in
    omega (arith, some, few)

some-piece : (text : List ℕ) → 0 < length (pieces 10 text)
some-piece text = omega (arith, length-slice_split (λ b. eqb b 10) text)

not_empty : (x : ℕ) (xs : List ℕ) → false ≡ eqb (length (x ∷ xs)) 0
not_empty x xs = sym (ne_eqb (suc (length xs)) 0 (λ e. absurd (omega arith)))

-- only an empty text is one empty line
pub ends-pieces : (text : List ℕ) → ends (pieces 10 text) ≡ eqb (length text) 0
ends-pieces [] = refl
ends-pieces (x ∷ xs) = by (eqb x 10) (pieces 10 xs) (some-piece xs)
  where
    by : (b : Bool) (parts : List (List ℕ)) → 0 < length parts
        → ends (cond b ([] ∷ parts) (onto_first x parts)) ≡ eqb (length (x ∷ xs)) 0
    by b [] some = absurd (omega arith)
    by true (part ∷ parts) some = not_empty x xs
    by false (part ∷ parts) some = not_empty x xs

-- the line that comes next is the first piece of what is left, where that is not empty
pub has-line : (all : Entries) (n : ℕ) (old : List PlacedEntry) (left : Option (Bor (List ℕ))) (text : Bor (List ℕ))
    (line : List ℕ) (lines : List (List ℕ)) → all ≡ entries_from n old (pieces_left 10 (option_copied left)) → left ≡ Some text
    → pieces 10 text.now ≡ line ∷ lines → false ≡ eqb (length text.now) 0 → HasLine all n old line lines
has-line all n old left text line lines is some first goes_on = record {
  is = is ∙ ap (λ (o : Option (Bor (List ℕ))). entries_from n old (pieces_left 10 (option_copied o))) some
      ∙ ap (λ (ls : List (List ℕ)). entries_from n old ls) first;
  more = ap ends (sym first) ∙ ends-pieces text.now ∙ sym goes_on;
}
