-- What a key makes of what is shown.
use Rattle.std.proofs.Common.{◌≡◌, ◌∙◌, ◌<◌, ℕ, ◌+◌, ◌-◌, ◌^◌, Bool, true, false, List, [], ◌∷◌, ◌++◌, Option, Some, Result, Ok, Err, ap, arith, append_assoc, append-nil, drop, get_or, length, min, refl, subst, sym, take}
use Rattle.std.proofs.lemmas.List.{drop_more}
use Rattle.std.proofs.lemmas.Result.{on_ok_weaker}
use Rattle.std.specs.Prelude.{OnOk, if◌then◌else◌}
use Rattle.std.specs.Io.KnownBytes.{Appends}
use Rattle.xb_text.specs.Writing.{AppendsBeginning}
use Rattle.xb_text.proofs.Beginnings.{AppendsBeginning-first}
use Rattle.xb_measured.specs.declared.heard.Heard.{Heard}
use Rattle.xb_shown.specs.declared.heading.Title.TheVariants as title
use Rattle.xb_shown.specs.Pictures.{Drawn, Part, nothing_drawn, others_words, part_of, parts_words, picture_rest, picture_words}
use Rattle.xb_shown.specs.Sections.{first_with, page_rest, section_text, unbegun_text}
use Rattle.xb_shown.proofs.Parts.{section-first}
use Rattle.xb_svg.specs.Drawings.{Looks, PutsBy, drawing_text}
use Rattle.xb_measured.specs.Keyings.{Part as KeyPart, is_kp, parts_of}
use Rattle.xb_rx.specs.declared.begun.Step.TheVariants as steps
use Rattle.xb_rx.specs.declared.page.PageFault.{PageFault}
use Rattle.xb_rx.specs.Begun.{IsBegun, broken, kept_after, step_of}
use Rattle.xb_rx.specs.declared.parts.Sheet.{Sheet}
use Rattle.xb_rx.specs.declared.parts.Sheet.TheVariants as sheet
use Rattle.xb_rx.specs.Shown.{Shown, Shows, ShowsAll, ShowsKey, last_of, loose_parts, parts_rest, sheet_rest, shown_after}
use Rattle.xb_rx.specs.Styled.{WritesBy}
use Rattle.xb_rx.proofs.KeyingSteps.{all_loose}
use Rattle.xb_rx.proofs.WrittenText.{broken-begun, broken-parts, complete-parts, end-all-loose, kept-begun}

-- before the first part a picture is the picture of them
pub fresh-picture : (parts : List Part) → picture_rest nothing_drawn parts ≡ picture_words parts
fresh-picture parts =
    let count : min (0 + length parts) (2 ^ 64 - 1) ≡ min (length parts) (2 ^ 64 - 1) = omega arith in
    ap (λ (n : ℕ). parts_words (take 40 parts) ++ others_words (n - 40)) count

-- looks where no picture comes
pub plain-styles : ℕ → Looks
plain-styles n = record { width = 0; height = 0; slots = [] }

-- a part is shown on a page, or in a picture
pub page-shows : {F : Type 0} (r : Result (Unit {0}) F) (begun new : Bool) (part : Part) (o n : List ℕ)
    → OnOk r (PutsBy (λ looks. unbegun_text begun ++ section_text looks part) o n) → OnOk r (new ≡ true)
    → OnOk r (Shows (sheet.Page begun) (part ∷ []) (sheet.Page new) [] o n)
page-shows (Ok u) begun new part o n next is = record {
  by = first_with next.looks;
  rest = λ later styles. ap (λ (b : Bool). n ++ page_rest b later styles) is
      ∙ section-first o n begun part later next.looks styles next.put;
}
page-shows (Err f) begun new part o n next is = tt

pub picture-shows : {F : Type 0} (r : Result (Unit {0}) F) (old new : Drawn) (part : Part) (o : List ℕ)
    → ((later : List Part) → OnOk r (picture_rest new later ≡ picture_rest old (part ∷ later)))
    → OnOk r (Shows (sheet.Picture old) (part ∷ []) (sheet.Picture new) [] o o)
picture-shows (Ok u) old new part o same = record {
  by = λ styles. styles;
  rest = λ later styles. ap (λ (words : List (List ℕ)). o ++ drawing_text (styles 0) words) (same later);
}
picture-shows (Err f) old new part o same = tt

-- no part yet, and one more
pub shows-none : (on : Sheet) (parts : List Part) (o : List ℕ) → Shows on parts on parts o o
shows-none on parts o = record { by = λ styles. styles; rest = λ later styles. refl }

pub shows-more : (old mid new : Sheet) (parts before left : List Part) (part : Part) (o m n : List ℕ)
    → Shows old parts mid before o m → Shows mid (part ∷ []) new [] m n → before ≡ part ∷ left
    → Shows old parts new left o n
shows-more old mid new parts before left part o m n first second is = record {
  by = λ styles. first.by (second.by styles);
  rest = λ later styles. second.rest (left ++ later) styles
      ∙ ap (λ (ps : List Part). m ++ sheet_rest mid (ps ++ later) (second.by styles)) (sym is)
      ∙ first.rest later (second.by styles);
}

-- the last of keys with one more
pub last-more : (before : Option Heard) (keys : List Heard) (key : Heard) → last_of before (keys ++ key ∷ []) ≡ Some key
last-more before [] key = refl
last-more before (k ∷ keys) key = last-more (Some k) keys key

-- keys that stand in none are shown one by one
loose-shown : (n : ℕ) (before : Option Heard) (keys : List Heard) (parts : List KeyPart)
    → shown_after n before (all_loose keys ++ parts)
    ≡ loose_parts before keys ++ shown_after n (last_of before keys) parts
loose-shown n before [] parts = refl
loose-shown n before (key ∷ keys) parts =
    ap (λ ps. part_of title.Loose before (key ∷ []) ∷ ps) (loose-shown n (Some key) keys parts)

-- one of them more
module _ (n : ℕ) (before : Option Heard) (keys : List Heard) (key : Heard) (below : n < length keys)
    (is : get_or keys n key ≡ key) where
  these : drop n keys ≡ key ∷ drop (n + 1) keys
  these = drop_more keys n key below ∙ ap (λ (k : Heard). k ∷ drop (n + 1) keys) is

  pub one-loose : loose_parts before (drop n keys)
      ≡ part_of title.Loose before (key ∷ []) ∷ loose_parts (Some key) (drop (n + 1) keys)
  one-loose = ap (loose_parts before) these

  pub one-last : last_of (Some key) (drop (n + 1) keys) ≡ last_of before (drop n keys)
  one-last = sym (ap (last_of before) these)

-- the keying that a key completes is shown
pub completed-shows : (old mid : Shown) (new : Sheet) (key : Heard) (all : List Heard) (o n : List ℕ)
    → mid ≡ record old { begun = old.begun ++ key ∷ [] } → all ≡ mid.begun
    → Shows mid.sheet (part_of (title.Entry (mid.count + 1)) mid.last all ∷ []) new [] o n
    → Shows old.sheet (part_of (title.Entry (old.count + 1)) old.last (old.begun ++ key ∷ []) ∷ []) new [] o n
completed-shows old mid new key all o n is same shows =
    subst (λ (s : Shown). Shows s.sheet (part_of (title.Entry (s.count + 1)) s.last s.begun ∷ []) new [] o n) is
    (subst (λ (ks : List Heard). Shows mid.sheet (part_of (title.Entry (mid.count + 1)) mid.last ks ∷ []) new [] o n)
    same shows)

-- a keying that is broken off is shown, and then its key is kept, or with its key
module _ {F : Type 0} (r : Result (Unit {0}) F) (old mid new : Shown) (key : Heard) (o n : List ℕ) where
  pub loosened-shows : is_kp key ≡ true → Shows old.sheet (loose_parts old.last old.begun) mid.sheet [] o n
      → OnOk r (new ≡ record mid { begun = mid.begun ++ key ∷ [] })
      → OnOk r (Shows old.sheet (loose_parts old.last (broken old.begun key)) new.sheet [] o n)
  loosened-shows kp shows kept =
      let loose : broken old.begun key ≡ old.begun =
      ap (λ (b : Bool). old.begun ++ (if b then [] else key ∷ [])) kp ∙ append-nil old.begun in
      on_ok_weaker r (λ (is : new ≡ record mid { begun = mid.begun ++ key ∷ [] }).
      subst (λ (s : Shown). Shows old.sheet (loose_parts old.last (broken old.begun key)) s.sheet [] o n) (sym is)
      (subst (λ (ks : List Heard). Shows old.sheet (loose_parts old.last ks) mid.sheet [] o n) (sym loose) shows)) kept

  pub kept-shows : is_kp key ≡ false → mid ≡ record old { begun = old.begun ++ key ∷ [] }
      → OnOk r (Shows mid.sheet (loose_parts mid.last mid.begun) new.sheet [] o n)
      → OnOk r (Shows old.sheet (loose_parts old.last (broken old.begun key)) new.sheet [] o n)
  kept-shows kp is loose =
      let all : broken old.begun key ≡ old.begun ++ key ∷ [] =
      ap (λ (b : Bool). old.begun ++ (if b then [] else key ∷ [])) kp in
      on_ok_weaker r (λ (shows : Shows mid.sheet (loose_parts mid.last mid.begun) new.sheet [] o n).
      subst (λ (ks : List Heard). Shows old.sheet (loose_parts old.last ks) new.sheet [] o n) (sym all)
      (subst (λ (s : Shown). Shows s.sheet (loose_parts s.last s.begun) new.sheet [] o n) is shows)) loose

-- what is left where no key comes any more
pub end-shown : (so_far : Shown) (new : Sheet) (o t n : List ℕ) → IsBegun so_far.begun → o ≡ []
    → Shows so_far.sheet (loose_parts so_far.last so_far.begun) new [] o t → ShowsAll new t n
    → (styles : ℕ → Looks) × (n ≡ parts_rest so_far [] styles)
end-shown so_far new o t n is none loose all =
    let styles = loose.by all.styles in
    let left : shown_after (so_far.count + 1) so_far.last (parts_of (so_far.begun ++ []))
    ≡ loose_parts so_far.last so_far.begun ++ [] =
    ap (shown_after (so_far.count + 1) so_far.last) (end-all-loose so_far.begun is ∙ sym (append-nil (all_loose so_far.begun)))
    ∙ loose-shown (so_far.count + 1) so_far.last so_far.begun [] in (
      styles,
      all.put ∙ loose.rest [] all.styles
          ∙ ap (λ (b : List ℕ). b ++ sheet_rest so_far.sheet (loose_parts so_far.last so_far.begun ++ []) styles) none
          ∙ ap (λ (ps : List Part). sheet_rest so_far.sheet ps styles) (sym left),
    )

module _ (old new : Shown) (key : Heard) (begun : IsBegun old.begun) (o n : List ℕ) where
  -- the key is kept, and nothing is put after the text
  kept-shown : new ≡ record old { begun = old.begun ++ key ∷ [] } → ShowsKey old key new o o
  kept-shown is = record {
    by = λ styles. styles;
    rest = λ later styles.
        ap (λ (s : Shown). o ++ parts_rest s later styles) is
        ∙ ap (λ ks. o ++ sheet_rest old.sheet (shown_after (old.count + 1) old.last (parts_of ks)) styles)
        (append_assoc old.begun (key ∷ []) later);
  }

  -- what is to be shown with it was shown
  parts-shown : (parts : List Part) (last : Option Heard) (kept : List Heard) (count : ℕ)
      → ((later : List Heard) → shown_after (old.count + 1) old.last (parts_of (old.begun ++ key ∷ later))
      ≡ parts ++ shown_after (count + 1) last (parts_of (kept ++ later)))
      → new.last ≡ last → new.begun ≡ kept → new.count ≡ count
      → Shows old.sheet parts new.sheet [] o n → ShowsKey old key new o n
  parts-shown parts last kept count is last_is kept_is count_is shows = record {
    by = shows.by;
    rest = λ later styles.
        ap (λ (c : ℕ). n ++ sheet_rest new.sheet (shown_after (c + 1) new.last (parts_of (new.begun ++ later))) styles) count_is
        ∙ ap (λ l. n ++ sheet_rest new.sheet (shown_after (count + 1) l (parts_of (new.begun ++ later))) styles) last_is
        ∙ ap (λ (ks : List Heard). n ++ sheet_rest new.sheet (shown_after (count + 1) last (parts_of (ks ++ later))) styles) kept_is
        ∙ shows.rest (shown_after (count + 1) last (parts_of (kept ++ later))) styles
        ∙ ap (λ ps. o ++ sheet_rest old.sheet ps (shows.by styles)) (sym (is later));
  }

  -- it completes the keying
  complete-shown : step_of old.begun key ≡ steps.Completes → (later : List Heard)
      → shown_after (old.count + 1) old.last (parts_of (old.begun ++ key ∷ later))
      ≡ (part_of (title.Entry (old.count + 1)) old.last (old.begun ++ key ∷ []) ∷ [])
      ++ shown_after (old.count + 1 + 1) (Some key) (parts_of later)
  complete-shown step later =
      ap (shown_after (old.count + 1) old.last) (complete-parts old.begun key later begun step)
      ∙ ap (λ l. part_of (title.Entry (old.count + 1)) old.last (old.begun ++ key ∷ [])
      ∷ shown_after (old.count + 1 + 1) l (parts_of later)) (last-more old.last old.begun key)

  -- it breaks the keying off
  broken-shown : step_of old.begun key ≡ steps.BreaksOff → (later : List Heard)
      → shown_after (old.count + 1) old.last (parts_of (old.begun ++ key ∷ later))
      ≡ loose_parts old.last (broken old.begun key)
      ++ shown_after (old.count + 1) (last_of old.last (broken old.begun key)) (parts_of (kept_after key ++ later))
  broken-shown step later =
      ap (shown_after (old.count + 1) old.last) (broken-parts old.begun key later begun step)
      ∙ loose-shown (old.count + 1) old.last (broken old.begun key) (parts_of (kept_after key ++ later))

-- the same of what a call returned
module _ {F : Type 0} (r : Result (Unit {0}) F) (old new : Shown) (key : Heard) (begun : IsBegun old.begun) (o n : List ℕ) where
  pub keeps-shown : OnOk r (new ≡ record old { begun = old.begun ++ key ∷ [] }) → OnOk r (ShowsKey old key new o o)
  keeps-shown kept = on_ok_weaker r (λ (is : new ≡ record old { begun = old.begun ++ key ∷ [] }). kept-shown old new key begun o n is) kept

  pub keeps-begun-on : step_of old.begun key ≡ steps.Keeps → OnOk r (new ≡ record old { begun = old.begun ++ key ∷ [] })
      → OnOk r (IsBegun new.begun)
  keeps-begun-on step kept =
      on_ok_weaker r (λ (is : new ≡ record old { begun = old.begun ++ key ∷ [] }).
      subst IsBegun (sym (ap (λ (s : Shown). s.begun) is)) (kept-begun old.begun key begun step)) kept

  pub completes-shown : step_of old.begun key ≡ steps.Completes
      → OnOk r (Shows old.sheet (part_of (title.Entry (old.count + 1)) old.last (old.begun ++ key ∷ []) ∷ []) new.sheet [] o n)
      → OnOk r (new.last ≡ Some key) → OnOk r (new.begun ≡ []) → OnOk r (new.count ≡ old.count + 1)
      → OnOk r (ShowsKey old key new o n)
  completes-shown step text last none one = by r text last none one
    where
      by : (r : Result (Unit {0}) F)
          → OnOk r (Shows old.sheet (part_of (title.Entry (old.count + 1)) old.last (old.begun ++ key ∷ []) ∷ []) new.sheet [] o n)
          → OnOk r (new.last ≡ Some key) → OnOk r (new.begun ≡ []) → OnOk r (new.count ≡ old.count + 1)
          → OnOk r (ShowsKey old key new o n)
      by (Ok u) text last none one =
          parts-shown old new key begun o n (part_of (title.Entry (old.count + 1)) old.last (old.begun ++ key ∷ []) ∷ [])
          (Some key) [] (old.count + 1) (complete-shown old new key begun o n step) last none one text
      by (Err f) text last none one = tt

  pub completes-begun-on : OnOk r (new.begun ≡ []) → OnOk r (IsBegun new.begun)
  completes-begun-on after = on_ok_weaker r (λ (is : new.begun ≡ []). subst IsBegun (sym is) tt) after

  pub breaks-shown : step_of old.begun key ≡ steps.BreaksOff
      → OnOk r (Shows old.sheet (loose_parts old.last (broken old.begun key)) new.sheet [] o n)
      → OnOk r (new.last ≡ last_of old.last (broken old.begun key)) → OnOk r (new.begun ≡ kept_after key)
      → new.count ≡ old.count → OnOk r (ShowsKey old key new o n)
  breaks-shown step text last after same = by r text last after
    where
      by : (r : Result (Unit {0}) F)
          → OnOk r (Shows old.sheet (loose_parts old.last (broken old.begun key)) new.sheet [] o n)
          → OnOk r (new.last ≡ last_of old.last (broken old.begun key)) → OnOk r (new.begun ≡ kept_after key)
          → OnOk r (ShowsKey old key new o n)
      by (Ok u) text last after =
          parts-shown old new key begun o n (loose_parts old.last (broken old.begun key))
          (last_of old.last (broken old.begun key)) (kept_after key) old.count (broken-shown old new key begun o n step)
          last after same text
      by (Err f) text last after = tt

  pub breaks-begun-on : OnOk r (new.begun ≡ kept_after key) → OnOk r (IsBegun new.begun)
  breaks-begun-on after = on_ok_weaker r (λ (is : new.begun ≡ kept_after key). subst IsBegun (sym is) (broken-begun key)) after

-- what a key makes plain was written
module _ (old new : Shown) (key : Heard) (before text bytes : List ℕ) (a b : Option (List ℕ)) (none : before ≡ [])
    (shows : ShowsKey old key new before text) (same : bytes ≡ text) where
  text-first : (later : List Heard) (styles : ℕ → Looks)
      → parts_rest old (key ∷ later) (shows.by styles) ≡ bytes ++ parts_rest new later styles
  text-first later styles =
      sym (shows.rest later styles ∙ ap (λ (t : List ℕ). t ++ parts_rest old (key ∷ later) (shows.by styles)) none)
      ∙ ap (λ (t : List ℕ). t ++ parts_rest new later styles) (sym same)

  pub wrote-parts : Appends a b bytes → WritesBy {F = PageFault} (parts_rest old) (key ∷ []) (parts_rest new) (Ok tt) a b
  wrote-parts wrote = record { by = shows.by; bytes = bytes; wrote = wrote; rest = text-first }

  pub began-parts : (after : List Heard → (ℕ → Looks) → List ℕ) (f : PageFault) → AppendsBeginning a b bytes
      → WritesBy (parts_rest old) (key ∷ []) after (Err f) a b
  began-parts after f wrote = record {
    by = shows.by;
    begun = λ later styles.
        subst (AppendsBeginning a b) (sym (text-first later styles)) (AppendsBeginning-first a b _ _ wrote);
  }
