-- There are no differences just where the keys are the same.
use Rattle.std.proofs.Common.{◌≡◌, ◌≢◌, ◌∙◌, ℕ, zero, suc, ◌+◌, ◌<◌, Bool, true, cond, List, [], ◌∷◌, ◌++◌, length, get_or, take, drop, Option, Some, None, ap, ap₂, refl, append-nil, arith}
use Rattle.std.specs.Prelude.{bytes_eq, nat_lt, not}
use Rattle.std.specs.List.{position_or_len}
use Rattle.std.proofs.lemmas.Bool.{cond-true, lt-ltb}
use Rattle.std.proofs.lemmas.List.Quantifiers.{position-Some}
use Rattle.std.proofs.lemmas.Slice.Eq.{bytes_eq-Decides}
use Rattle.xb_rx.specs.Entries.{KeyedEntry}
use Rattle.xb_rx.specs.Differences.{SameKeysDoNotDiffer, difference_at, differences, extra_line, keys_in, missed_line, missed_lines, place_of}

never : {x : ℕ} {xs : List ℕ} → x ∷ xs ≡ [] → ⊥
never e = cc

-- the first entry has the keys
abbrev pub has_keys : List ℕ → KeyedEntry → Bool
has_keys keys entry = bytes_eq entry.keys keys

at-once : (k : KeyedEntry) (ks : List KeyedEntry) (keys : List ℕ) → k.keys ≡ keys → place_of (k ∷ ks) keys ≡ Some 0
at-once k ks keys same =
    let later : ℕ = position_or_len (has_keys keys) ks in
    ap (λ (b : Bool). cond (nat_lt (cond (not b) (1 + later) 0) (length (k ∷ ks))) (Some (cond (not b) (1 + later) 0)) None)
    ((bytes_eq-Decides k.keys keys).1 same)
    ∙ cond-true _ _ _ (lt-ltb 0 (length (k ∷ ks)) (omega arith))

head-of : {x y : List ℕ} {xs ys : List (List ℕ)} → x ∷ xs ≡ y ∷ ys → x ≡ y
head-of e = cc

tail-of : {x y : List ℕ} {xs ys : List (List ℕ)} → x ∷ xs ≡ y ∷ ys → xs ≡ ys
tail-of e = cc

-- what is told is not empty
missed-not-empty : (k : KeyedEntry) (ks : List KeyedEntry) (later : List ℕ) → missed_lines (k ∷ ks) ++ later ≢ []
unfolding missed_line
missed-not-empty k ks later e = never e

extra-not-empty : (h : KeyedEntry) (later : List ℕ) → extra_line h ++ later ≢ []
unfolding extra_line
extra-not-empty h later e = never e

same-keys : (keyed heard : List KeyedEntry) → keys_in keyed ≡ keys_in heard → differences keyed heard ≡ []
unfolding differences
same-keys [] [] e = refl
same-keys (k ∷ ks) [] e = absurd (cc)
same-keys [] (h ∷ hs) e = absurd (cc)
same-keys (k ∷ ks) (h ∷ hs) e =
    ap (λ (o : Option ℕ). difference_at (k ∷ ks) h o (λ left. differences left hs)) (at-once k ks h.keys (head-of e))
    ∙ same-keys ks hs (tail-of e)

module _ (h : KeyedEntry) (hs : List KeyedEntry)
    (later : (left : List KeyedEntry) → differences left hs ≡ [] → keys_in left ≡ keys_in hs) where
  -- what is passed over is told of
  at-first : (keyed : List KeyedEntry) (place : ℕ) → place < length keyed → bytes_eq (get_or keyed place h).keys h.keys ≡ true
      → missed_lines (take place keyed) ++ differences (drop (suc place) keyed) hs ≡ [] → keys_in keyed ≡ keys_in (h ∷ hs)
  at-first [] place below is e = absurd (omega (arith, below))
  at-first (k ∷ ks) zero below is e =
      ap₂ (λ (a : List ℕ) (b : List (List ℕ)). a ∷ b) ((bytes_eq-Decides k.keys h.keys).0 is) (later ks e)
  at-first (k ∷ ks) (suc n) below is e = absurd (missed-not-empty k (take n ks) _ e)

  by-place : (keyed : List KeyedEntry) (o : Option ℕ) → place_of keyed h.keys ≡ o
      → difference_at keyed h o (λ left. differences left hs) ≡ [] → keys_in keyed ≡ keys_in (h ∷ hs)
  by-place keyed None is e = absurd (extra-not-empty h _ e)
  by-place keyed (Some place) is e =
      let found = position-Some (has_keys h.keys) keyed place h is in
      at-first keyed place found.0 found.1 e

no-differences : (keyed heard : List KeyedEntry) → differences keyed heard ≡ [] → keys_in keyed ≡ keys_in heard
unfolding differences
no-differences [] [] e = refl
no-differences (k ∷ ks) [] e = absurd (missed-not-empty k ks [] (append-nil (missed_lines (k ∷ ks)) ∙ e))
no-differences keyed (h ∷ hs) e =
    by-place h hs (λ left none. no-differences left hs none) keyed (place_of keyed h.keys) refl e

pub same_keys_do_not_differ : SameKeysDoNotDiffer
same_keys_do_not_differ = λ keyed heard. record { same = same-keys keyed heard; none = no-differences keyed heard }
