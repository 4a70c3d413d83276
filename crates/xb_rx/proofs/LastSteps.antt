-- What is written of the last keys.
use Rattle.std.proofs.Common.{◌≡◌, ◌∙◌, ℕ, List, [], ◌++◌, Option, Result, Ok, Err, ap, append-nil, subst, sym}
use Rattle.std.specs.Io.KnownBytes.{Appends}
use Rattle.std.proofs.KnownBytes.{Appends-trans}
use Rattle.xb_text.specs.Writing.{AppendsBeginning}
use Rattle.xb_text.proofs.Beginnings.{AppendsBeginning-second}
use Rattle.xb_measured.specs.declared.heard.Heard.{Heard}
use Rattle.xb_rx.specs.declared.page.PageFault.{PageFault}
use Rattle.xb_rx.specs.Pages.{Ends, Writes}
use Rattle.xb_rx.specs.Shown.{Shown, parts_rest}
use Rattle.xb_rx.specs.Styled.{Begins, EndsBy, Leaves}
use Rattle.xb_rx.proofs.PartSteps.{plain-styles}
use Rattle.xb_rx.proofs.WrittenText.{none-written}

-- the last key was not written
pub end-fault : {S : Type 0} (text : S → List Heard → List ℕ) (page : S) (keys : List Heard) (f : PageFault)
    (r : Result (Unit {0}) PageFault) (old new : Option (List ℕ)) → r ≡ Err f
    → ((later : List Heard) → AppendsBeginning old new (text page (keys ++ later))) → Ends (text page keys) r old new
end-fault text page keys f r old new same begun =
    subst (λ (s : Result (Unit {0}) PageFault). Ends (text page keys) s old new) (sym same)
    (subst (λ (ks : List Heard). AppendsBeginning old new (text page ks)) (append-nil keys) (begun []))

-- it was, and then the end of the page
pub end-after : {S : Type 0} (text : S → List Heard → List ℕ) (page new : S) (keys : List Heard)
    (r : Result (Unit {0}) PageFault) (old mid out : Option (List ℕ))
    → Writes {F = PageFault} (λ later. text page (keys ++ later)) (text new) (Ok tt) old mid
    → Ends (text new []) r mid out → Ends (text page keys) r old out
end-after text page new keys (Ok u) old mid out (bytes, wrote, is) rest =
    subst (Appends old out) (sym (is []) ∙ ap (text page) (append-nil keys))
    (Appends-trans old mid out bytes (text new []) wrote rest)
end-after text page new keys (Err f) old mid out (bytes, wrote, is) rest =
    subst (AppendsBeginning old out) (sym (is []) ∙ ap (text page) (append-nil keys))
    (AppendsBeginning-second old mid out bytes (text new []) wrote rest)

-- the same of what is shown
pub parts-fault : (old : Shown) (keys : List Heard) (f : PageFault) (r : Result (Unit {0}) PageFault) (a b : Option (List ℕ))
    → r ≡ Err f → Begins (parts_rest old) keys a b → EndsBy (parts_rest old keys) r a b
parts-fault old keys f r a b same begins = (
  begins.by plain-styles,
  subst (λ (s : Result (Unit {0}) PageFault). Ends (parts_rest old keys (begins.by plain-styles)) s a b) (sym same)
      (subst (λ (ks : List Heard). AppendsBeginning a b (parts_rest old ks (begins.by plain-styles))) (append-nil keys)
      (begins.begun [] plain-styles)),
)

pub parts-after : (old new : Shown) (keys : List Heard) (r : Result (Unit {0}) PageFault) (a m b : Option (List ℕ))
    → Leaves (parts_rest old) keys (parts_rest new) a m → EndsBy (parts_rest new []) r m b → EndsBy (parts_rest old keys) r a b
parts-after old new keys r a m b leaves (styles, ends) = (leaves.by styles, by r ends)
  where
    all : leaves.bytes ++ parts_rest new [] styles ≡ parts_rest old keys (leaves.by styles)
    all = sym (leaves.rest [] styles) ∙ ap (λ (ks : List Heard). parts_rest old ks (leaves.by styles)) (append-nil keys)

    by : (r : Result (Unit {0}) PageFault) → Ends (parts_rest new [] styles) r m b
        → Ends (parts_rest old keys (leaves.by styles)) r a b
    by (Ok u) rest = subst (Appends a b) all (Appends-trans a m b leaves.bytes (parts_rest new [] styles) leaves.wrote rest)
    by (Err f) rest =
        subst (AppendsBeginning a b) all
        (AppendsBeginning-second a m b leaves.bytes (parts_rest new [] styles) leaves.wrote rest)

pub none-ended : {F : Type 0} (old : Shown) (keys : List Heard) (r : Result (Unit {0}) F) (f : F) (a : Option (List ℕ))
    → r ≡ Err f → EndsBy (parts_rest old keys) r a a
none-ended {F = F} old keys r f a is = (
  plain-styles,
  subst (λ (s : Result (Unit {0}) F). Ends (parts_rest old keys plain-styles) s a a) (sym is)
      (none-written a (parts_rest old keys plain-styles)),
)
