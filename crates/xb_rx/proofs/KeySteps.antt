-- What a key makes of a page, whatever comes of the writing.
use Rattle.std.proofs.Common.{◌≡◌, ℕ, ◌+◌, ◌≤◌, List, [], ◌∷◌, ◌++◌, Option, Result, Ok, Err, ap, arith, subst, sym}
use Rattle.std.specs.Prelude.{IfErr, OnErr, OnOk}
use Rattle.std.specs.Io.KnownBytes.{Appends}
use Rattle.xb_text.specs.Writing.{AppendsBeginning}
use Rattle.xb_measured.specs.declared.heard.Heard.{Heard}
use Rattle.xb_rx.specs.declared.page.PageFault.{PageFault}
use Rattle.xb_rx.specs.declared.begun.Step.TheVariants as steps
use Rattle.xb_measured.specs.Keyings.{is_keying}
use Rattle.xb_rx.specs.Placed.{placed_of}
use Rattle.xb_rx.specs.Begun.{IsBegun, broken, kept_after, step_of}
use Rattle.xb_rx.specs.Pages.{Paged, Writes, WritesOf, loose_lines, page_rest, page_told, text_rest, told_parts}
use Rattle.xb_rx.proofs.WrittenText.{broken-begun, broken-fault, broken-page, broken-told, complete-fault, complete-page, complete-told, complete-told-fault, kept-begun, kept-page, kept-told, none-written}

module _ (page new : Paged) (key : Heard) (r : Result (Unit {0}) PageFault) where
  -- the key is kept
  module _ (after : OnOk r (new ≡ record page { begun = page.begun ++ key ∷ [] })) (a : Option (List ℕ)) where
    pub keeps-page : Writes (λ later. page_rest page (key ∷ later)) (page_rest new) r a a
    keeps-page = by r after
      where
        by : (r : Result (Unit {0}) PageFault) → OnOk r (new ≡ record page { begun = page.begun ++ key ∷ [] })
            → Writes (λ later. page_rest page (key ∷ later)) (page_rest new) r a a
        by (Ok u) is = kept-page page new key a a is
        by (Err f) is = λ later. none-written a (page_rest page (key ∷ later))

    pub keeps-told : Writes (λ later. page_told page (key ∷ later)) (page_told new) r a a
    keeps-told = by r after
      where
        by : (r : Result (Unit {0}) PageFault) → OnOk r (new ≡ record page { begun = page.begun ++ key ∷ [] })
            → Writes (λ later. page_told page (key ∷ later)) (page_told new) r a a
        by (Ok u) is = kept-told page new key a a is
        by (Err f) is = λ later. none-written a (page_told page (key ∷ later))

  pub keeps-count : OnOk r (new ≡ record page { begun = page.begun ++ key ∷ [] }) → OnErr r (new ≡ page)
      → new.count ≤ page.count + 1
  keeps-count after same = by r after same
    where
      by : (r : Result (Unit {0}) PageFault) → OnOk r (new ≡ record page { begun = page.begun ++ key ∷ [] })
          → OnErr r (new ≡ page) → new.count ≤ page.count + 1
      by (Ok u) is same = let e : new.count ≡ page.count = ap (λ (p : Paged). p.count) is in omega (arith, e)
      by (Err f) is same = let e : new.count ≡ page.count = ap (λ (p : Paged). p.count) same in omega (arith, e)

  pub keeps-begun : IsBegun page.begun → step_of page.begun key ≡ steps.Keeps
      → OnOk r (new ≡ record page { begun = page.begun ++ key ∷ [] }) → OnOk r (IsBegun new.begun)
  keeps-begun begun step after = by r after
    where
      by : (r : Result (Unit {0}) PageFault) → OnOk r (new ≡ record page { begun = page.begun ++ key ∷ [] })
          → OnOk r (IsBegun new.begun)
      by (Ok u) is = subst IsBegun (sym (ap (λ (p : Paged). p.begun) is)) (kept-begun page.begun key begun step)
      by (Err f) is = tt

  -- the keying is complete
  module _ (begun : IsBegun page.begun) (step : step_of page.begun key ≡ steps.Completes)
      (after : OnOk r (new.begun ≡ [])) where
    pub completes-page : (a b : Option (List ℕ))
        → WritesOf (λ later. text_rest page (placed_of page.begun ∷ later)) (text_rest new) r a b
        → Writes (λ later. page_rest page (key ∷ later)) (page_rest new) r a b
    completes-page a b wrote = by r after wrote
      where
        by : (r : Result (Unit {0}) PageFault) → OnOk r (new.begun ≡ [])
            → WritesOf (λ later. text_rest page (placed_of page.begun ∷ later)) (text_rest new) r a b
            → Writes (λ later. page_rest page (key ∷ later)) (page_rest new) r a b
        by (Ok u) is wrote = complete-page page new key begun a b step is wrote
        by (Err f) is wrote = complete-fault page new key begun a b step f wrote

    pub completes-told : (a b : Option (List ℕ))
        → WritesOf (λ parts. told_parts (page.count + 1) (is_keying (page.begun ++ key ∷ []) ∷ parts))
        (told_parts (new.count + 1)) r a b
        → Writes (λ later. page_told page (key ∷ later)) (page_told new) r a b
    completes-told a b wrote = by r after wrote
      where
        by : (r : Result (Unit {0}) PageFault) → OnOk r (new.begun ≡ [])
            → WritesOf (λ parts. told_parts (page.count + 1) (is_keying (page.begun ++ key ∷ []) ∷ parts))
            (told_parts (new.count + 1)) r a b
            → Writes (λ later. page_told page (key ∷ later)) (page_told new) r a b
        by (Ok u) is wrote = complete-told page new key begun a b step is wrote
        by (Err f) is wrote = complete-told-fault page new key begun a b step f wrote

  pub completes-begun : OnOk r (new.begun ≡ []) → OnOk r (IsBegun new.begun)
  completes-begun after = by r after
    where
      by : (r : Result (Unit {0}) PageFault) → OnOk r (new.begun ≡ []) → OnOk r (IsBegun new.begun)
      by (Ok u) is = subst IsBegun (sym is) tt
      by (Err f) is = tt

  -- the keying is broken off
  module _ (begun : IsBegun page.begun) (step : step_of page.begun key ≡ steps.BreaksOff)
      (after : OnOk r (new ≡ record page { begun = kept_after key })) where
    pub breaks-page : (a : Option (List ℕ)) → Writes (λ later. page_rest page (key ∷ later)) (page_rest new) r a a
    breaks-page a = by r after
      where
        by : (r : Result (Unit {0}) PageFault) → OnOk r (new ≡ record page { begun = kept_after key })
            → Writes (λ later. page_rest page (key ∷ later)) (page_rest new) r a a
        by (Ok u) is = broken-page page new key begun a a step is
        by (Err f) is = λ later. none-written a (page_rest page (key ∷ later))

    pub breaks-told : (a b : Option (List ℕ)) → OnOk r (Appends a b (loose_lines (broken page.begun key)))
        → IfErr r (λ f. AppendsBeginning a b (loose_lines (broken page.begun key)))
        → Writes (λ later. page_told page (key ∷ later)) (page_told new) r a b
    breaks-told a b whole beginning = by r after whole beginning
      where
        by : (r : Result (Unit {0}) PageFault) → OnOk r (new ≡ record page { begun = kept_after key })
            → OnOk r (Appends a b (loose_lines (broken page.begun key)))
            → IfErr r (λ f. AppendsBeginning a b (loose_lines (broken page.begun key)))
            → Writes (λ later. page_told page (key ∷ later)) (page_told new) r a b
        by (Ok u) is whole beginning = broken-told page new key begun a b step is whole
        by (Err f) is whole beginning = broken-fault page new key begun a b step f beginning

  pub breaks-begun : OnOk r (new ≡ record page { begun = kept_after key }) → OnOk r (IsBegun new.begun)
  breaks-begun after = by r after
    where
      by : (r : Result (Unit {0}) PageFault) → OnOk r (new ≡ record page { begun = kept_after key })
          → OnOk r (IsBegun new.begun)
      by (Ok u) is = subst IsBegun (sym (ap (λ (p : Paged). p.begun) is)) (broken-begun key)
      by (Err f) is = tt
