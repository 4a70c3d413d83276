-- What is wrong with raw samples, as far as they have come.
use Rattle.std.proofs.Common.{◌≡◌, ℕ, ◌+◌, ◌<◌, ◌≤◌, List, [], ◌∷◌, ◌++◌, drop, length, ap, sym, ◌∙◌, arith, inl, inr, get_or}
use Rattle.std.proofs.lemmas.List.{drop_all, drop_more}
use Rattle.xb_contact.specs.declared.event.Refusal.{Refusal}
use Rattle.xb_samples.specs.Samples.{BitsState, RefusesBits, bits_fault}

-- the byte at a place and those after it
at-place : (bytes : List ℕ) (i : ℕ) → i < length bytes → drop i bytes ≡ get_or bytes i 0 ∷ drop (i + 1) bytes
at-place bytes i inside = drop_more bytes i 0 inside

-- one more byte
pub faults_more :
    (first old new : BitsState) (bytes : List ℕ) (i : ℕ) → i < length bytes
    → ((text : List ℕ) → bits_fault new text ≡ bits_fault old (get_or bytes i 0 ∷ text))
    → ((text : List ℕ) → bits_fault old (drop i bytes ++ text) ≡ bits_fault first (bytes ++ text))
    → (text : List ℕ) → bits_fault new (drop (i + 1) bytes ++ text) ≡ bits_fault first (bytes ++ text)
faults_more first old new bytes i inside one so_far text =
    one (drop (i + 1) bytes ++ text)
    ∙ ap (λ rest. bits_fault old (rest ++ text)) (sym (at-place bytes i inside)) ∙ so_far text

-- all bytes
pub faults_whole :
    (first now : BitsState) (bytes : List ℕ) (i : ℕ) → length bytes ≤ i
    → ((text : List ℕ) → bits_fault now (drop i bytes ++ text) ≡ bits_fault first (bytes ++ text))
    → (text : List ℕ) → bits_fault now text ≡ bits_fault first (bytes ++ text)
faults_whole first now bytes i past so_far text =
    ap (λ rest. bits_fault now (rest ++ text)) (sym (drop_all i bytes past)) ∙ so_far text

-- what refuses a byte refuses the bytes among which it stands
pub bits_refuse_later :
    (first now : BitsState) (bytes : List ℕ) (i : ℕ) (refusal : Refusal) → now.count ≤ first.count + i → i < length bytes
    → ((text : List ℕ) → bits_fault now (drop i bytes ++ text) ≡ bits_fault first (bytes ++ text))
    → RefusesBits now (get_or bytes i 0 ∷ []) refusal → RefusesBits first bytes refusal
bits_refuse_later first now bytes i refusal most inside so_far refused = λ other.
    elim (refused other) [
      | inl late ↦ inl (late.0, omega (arith, late.1, most, inside))
      | inr wrong ↦ inr (λ text. sym (so_far text)
          ∙ ap (λ rest. bits_fault now (rest ++ text)) (at-place bytes i inside) ∙ wrong (drop (i + 1) bytes ++ text))
    ]
