-- A part more of a picture, and of a page.
use Rattle.std.proofs.Common.{◌≡◌, ◌∙◌, ◌++◌, ◌+◌, ◌<◌, ◌^◌, ◌-◌, ℕ, suc, Bool, true, List, [], ◌∷◌, length, take, min, ap, ap₂, sym, append_assoc, arith}
use Rattle.std.proofs.lemmas.List.{append-nil, take_all}
use Rattle.xb_svg.specs.Drawings.{Looks}
use Rattle.xb_shown.specs.Keyings.{part_words}
use Rattle.xb_shown.specs.Pictures.{Drawn, Part, came_with, others_words, parts_words, picture_rest}
use Rattle.xb_shown.specs.Sections.{end_text, first_with, page_rest, section_text, sections_text, unbegun_text}

module _ (old new : Drawn) (part : Part) (later : List Part) where
  -- one that is drawn stands below the others
  pub one-drawn : old.came < 40 → new.words ≡ old.words ++ part_words part.title part.before part.keys
      → new.came ≡ old.came + 1 → picture_rest new later ≡ picture_rest old (part ∷ later)
  one-drawn room words more =
      let left : 40 - old.came ≡ suc (40 - new.came) = omega (arith, room, more) in
      let count : min (new.came + length later) (2 ^ 64 - 1) - 40 ≡ min (old.came + suc (length later)) (2 ^ 64 - 1) - 40
      = omega (arith, more) in
      let this : List (List ℕ) = part_words part.title part.before part.keys in
      let rest : List (List ℕ) = parts_words (take (40 - new.came) later) in
      ap (λ (w : List (List ℕ)). (w ++ rest) ++ others_words (came_with new later - 40)) words
      ∙ ap₂ (λ (w : List (List ℕ)) (n : ℕ). w ++ others_words n) (append_assoc old.words this rest) count
      ∙ ap (λ (n : ℕ). (old.words ++ parts_words (take n (part ∷ later))) ++ others_words (came_with old (part ∷ later) - 40))
      (sym left)

take-none : (n : ℕ) → take {A = Part} n [] ≡ []
take-none n = take_all n [] (omega arith)

-- where none comes any more
pub none-later : (drawn : Drawn) (others : ℕ) → drawn.came < 2 ^ 64 → others ≡ drawn.came - 40
    → drawn.words ++ others_words others ≡ picture_rest drawn []
none-later drawn others fits count =
    let left : others ≡ min (drawn.came + 0) (2 ^ 64 - 1) - 40 = omega (arith, fits, count) in
    ap₂ (λ (w : List (List ℕ)) (n : ℕ). w ++ others_words n) (sym (append-nil drawn.words)) left
    ∙ ap (λ (ps : List Part). (drawn.words ++ parts_words ps) ++ others_words (came_with drawn [] - 40))
    (sym (take-none (40 - drawn.came)))

-- a section more of a page, and before the first one its beginning
pub section-first : (o n : List ℕ) (begun : Bool) (part : Part) (later : List Part) (looks : Looks) (styles : ℕ → Looks)
    → n ≡ o ++ (unbegun_text begun ++ section_text looks part)
    → n ++ page_rest true later styles ≡ o ++ page_rest begun (part ∷ later) (first_with looks styles)
section-first o n begun part later looks styles put =
    let u = unbegun_text begun in
    let s = section_text looks part in
    let rest : List ℕ = sections_text styles later ++ end_text in
    ap (λ (t : List ℕ). t ++ rest) put
    ∙ append_assoc o (u ++ s) rest
    ∙ ap (λ (t : List ℕ). o ++ t) (append_assoc u s rest)
    ∙ ap (λ (t : List ℕ). o ++ (u ++ t)) (sym (append_assoc s (sections_text styles later) end_text))
