-- What is written of keys that are told one by one.
use Rattle.std.proofs.Common.{◌≡◌, ◌∙◌, ℕ, List, [], ◌∷◌, ◌++◌, Option, Some, Result, Ok, Err, ap, append-nil, refl, subst, sym}
use Rattle.std.specs.Prelude.{IfErr, OnOk}
use Rattle.std.specs.Io.KnownBytes.{Appends}
use Rattle.jiff_core.specs.declared.timestamp.Timestamp.{Timestamp}
use Rattle.std.proofs.KnownBytes.{Appends-nil}
use Rattle.xb_svg.specs.Drawings.{Looks}
use Rattle.xb_text.specs.Writing.{AppendsBeginning}
use Rattle.xb_text.proofs.Beginnings.{AppendsBeginning-first}
use Rattle.xb_measured.specs.declared.heard.Heard.{Heard}
use Rattle.xb_measured.specs.Receivers.{listed}
use Rattle.xb_measured.specs.Figures.{figures_of}
use Rattle.xb_measured.specs.Lines.{text_line, text_lines}
use Rattle.xb_rx.specs.declared.listing.Listing.{Listing}
use Rattle.xb_rx.specs.declared.page.PageFault.{PageFault}
use Rattle.xb_rx.specs.declared.timed.ReportFault.{ReportFault}
use Rattle.xb_rx.specs.Faults.{IsLateFault, reported_page}
use Rattle.xb_rx.specs.Pages.{Ends, Writes}
use Rattle.xb_rx.specs.Reports.{listing_rest}
use Rattle.xb_rx.specs.Styled.{WritesBy}
use Rattle.xb_rx.proofs.WrittenText.{none-written}

module _ (last : Option Heard) (key : Heard) (line : List ℕ) (a b : Option (List ℕ)) where
  module _ (is : line ≡ text_line (figures_of last key)) where
    -- the line of a key was written
    pub wrote-key : Appends a b line
        → Writes {F = PageFault} (λ later. text_lines last (key ∷ later)) (text_lines (Some key)) (Ok tt) a b
    unfolding text_lines
    wrote-key wrote = (line, wrote, λ later. ap (λ t. t ++ text_lines (Some key) later) (sym is))

    -- or its beginning
    pub began-key : (after : List Heard → List ℕ) (f : PageFault) → AppendsBeginning a b line
        → Writes (λ later. text_lines last (key ∷ later)) after (Err f) a b
    unfolding text_lines
    began-key after f wrote = λ later. AppendsBeginning-first a b _ _ (subst (AppendsBeginning a b) is wrote)

-- nothing was, where there was no memory for it
pub no-key : {F : Type 0} (before after : List Heard → List ℕ) (r : Result (Unit {0}) F) (f : F) (a : Option (List ℕ))
    → r ≡ Err f → Writes before after r a a
no-key {F = F} before after r f a is =
    subst (λ (s : Result (Unit {0}) F). Writes before after s a a) (sym is) (λ later. none-written a (before later))

-- the same of texts with pictures, and where no key comes
pub no-key-by : {F : Type 0} (before : List Heard → (ℕ → Looks) → List ℕ) (keys : List Heard)
    (after : List Heard → (ℕ → Looks) → List ℕ) (r : Result (Unit {0}) F) (f : F) (a : Option (List ℕ))
    → r ≡ Err f → WritesBy before keys after r a a
no-key-by {F = F} before keys after r f a is =
    subst (λ (s : Result (Unit {0}) F). WritesBy before keys after s a a) (sym is)
    (record { by = λ styles. styles; begun = λ later styles. none-written a (before (keys ++ later) styles) })

pub no-part : (F : Type 0) (text : List Heard → (ℕ → Looks) → List ℕ) (a : Option (List ℕ))
    → WritesBy {F = F} text [] text (Ok tt) a a
no-part F text a = record { by = λ styles. styles; bytes = []; wrote = Appends-nil a; rest = λ later styles. refl }

-- a text without pictures has any looks
pub any-looks : {F : Type 0} (before : List Heard → List ℕ) (keys : List Heard) (after : List Heard → List ℕ)
    (r : Result (Unit {0}) F) (a b : Option (List ℕ)) → Writes (λ later. before (keys ++ later)) after r a b
    → WritesBy (λ later styles. before later) keys (λ later styles. after later) r a b
any-looks before keys after (Ok u) a b (bytes, wrote, is) =
    record { by = λ styles. styles; bytes = bytes; wrote = wrote; rest = λ later styles. is later }
any-looks before keys after (Err f) a b begun =
    record { by = λ styles. styles; begun = λ later styles. begun later }

-- a fault of a page is one of what is written
module _ (r : Result (Unit {0}) PageFault) (s : Result (Unit {0}) ReportFault) (same : s ≡ reported_page r) where
  pub page-writes : (before after : List Heard → List ℕ) (a b : Option (List ℕ)) → Writes before after r a b
      → Writes before after s a b
  page-writes before after a b wrote =
      subst (λ (t : Result (Unit {0}) ReportFault). Writes before after t a b) (sym same) (by r wrote)
    where
      by : (r : Result (Unit {0}) PageFault) → Writes before after r a b → Writes before after (reported_page r) a b
      by (Ok u) wrote = wrote
      by (Err f) wrote = wrote

  pub page-writes-by : (before : List Heard → (ℕ → Looks) → List ℕ) (keys : List Heard)
      (after : List Heard → (ℕ → Looks) → List ℕ) (a b : Option (List ℕ)) → WritesBy before keys after r a b
      → WritesBy before keys after s a b
  page-writes-by before keys after a b wrote =
      subst (λ (t : Result (Unit {0}) ReportFault). WritesBy before keys after t a b) (sym same) (by r wrote)
    where
      by : (r : Result (Unit {0}) PageFault) → WritesBy before keys after r a b → WritesBy before keys after (reported_page r) a b
      by (Ok u) wrote = wrote
      by (Err f) wrote = wrote

  pub page-ends : (text : List ℕ) (a b : Option (List ℕ)) → Ends text r a b → Ends text s a b
  page-ends text a b wrote = subst (λ (t : Result (Unit {0}) ReportFault). Ends text t a b) (sym same) (by r wrote)
    where
      by : (r : Result (Unit {0}) PageFault) → Ends text r a b → Ends text (reported_page r) a b
      by (Ok u) wrote = wrote
      by (Err f) wrote = wrote

  pub page-ok : (P : Type 0) → OnOk r P → OnOk s P
  page-ok P holds = subst (λ (t : Result (Unit {0}) ReportFault). OnOk t P) (sym same) (by r holds)
    where
      by : (r : Result (Unit {0}) PageFault) → OnOk r P → OnOk (reported_page r) P
      by (Ok u) holds = holds
      by (Err f) holds = tt

  pub page-late : (since : Option Timestamp) → IfErr s (IsLateFault since)
  page-late since = subst (λ (t : Result (Unit {0}) ReportFault). IfErr t (IsLateFault since)) (sym same) (by r)
    where
      by : (r : Result (Unit {0}) PageFault) → IfErr (reported_page r) (IsLateFault since)
      by (Ok u) = tt
      by (Err f) = tt

-- nor is anything told of such keys
pub nothing-told : {F : Type 0} (r : Result (Unit {0}) F) (a : Option (List ℕ)) → Writes (λ later. []) (λ later. []) r a a
nothing-told (Ok u) a = ([], Appends-nil a, λ later. refl)
nothing-told (Err f) a = λ later. none-written a []

pub nothing-ended : {F : Type 0} (r : Result (Unit {0}) F) (a : Option (List ℕ)) → Ends [] r a a
nothing-ended (Ok u) a = Appends-nil a
nothing-ended (Err f) a = none-written a []

no-lines : (last : Option Heard) → text_lines last [] ≡ []
unfolding text_lines
no-lines last = refl

-- after the last key nothing is left
pub listing-ended : (listing new : Listing) (key : Option Heard) (r : Result (Unit {0}) PageFault) (a b : Option (List ℕ))
    → Writes (λ later. listing_rest listing (listed key ++ later)) (listing_rest new) r a b
    → Ends (listing_rest listing (listed key)) r a b
listing-ended listing new key (Ok u) a b (bytes, wrote, is) =
    subst (Appends a b)
    (sym (ap (listing_rest listing) (sym (append-nil (listed key))) ∙ is []
    ∙ ap (λ t. bytes ++ t) (no-lines new.last) ∙ append-nil bytes)) wrote
listing-ended listing new key (Err f) a b begun =
    subst (λ (ks : List Heard). AppendsBeginning a b (listing_rest listing ks)) (append-nil (listed key)) (begun [])
