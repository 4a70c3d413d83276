-- Two lists, place by place.
use Rattle.std.proofs.Common.{◌≡◌, ℕ, zero, suc, ◌<◌, List, [], ◌∷◌, ◌++◌, reverse, length, get_or, refl, sym, ap, ◌∙◌, subst, arith}
use Rattle.std.specs.List.{AllZip, All}
use Rattle.std.proofs.lemmas.List.{reverse-append, nil_from_length}
use Rattle.xb_run.specs.Pairs.{Pairs}

snoc : {A B : Type 0} (R : A → B → Type 0) (x : A) (y : B) (xs : List A) (ys : List B) → AllZip R xs ys → R x y → AllZip R (xs ++ x ∷ []) (ys ++ y ∷ [])
snoc R x y [] [] h r = (r, tt)
snoc R x y [] (b ∷ bs) h r = absurd h
snoc R x y (a ∷ rest) [] h r = absurd h
snoc R x y (a ∷ rest) (b ∷ bs) h r = (h.0, snoc R x y rest bs h.1 r)

module _ {A B : Type 0} {R : A → B → Type 0} where
  pub pairs-nil : Pairs R [] []
  pairs-nil = record { all = tt }

  pub pairs-cons : {x : A} {y : B} {xs : List A} {ys : List B} → R x y → Pairs R xs ys → Pairs R (x ∷ xs) (y ∷ ys)
  pairs-cons h t = record { all = (h, t.all) }

  pub pairs-at : {xs xs' : List A} {ys ys' : List B} → xs ≡ xs' → ys ≡ ys' → Pairs R xs ys → Pairs R xs' ys'
  pairs-at {xs} {xs'} {ys} {ys'} e f h =
      let P : List A → Type 0 = λ l. Pairs R l ys in
      let Q : List B → Type 0 = λ l. Pairs R xs' l in
      subst Q f (subst P e h)

  pub pairs-snoc : {x : A} {y : B} {xs : List A} {ys : List B} → Pairs R xs ys → R x y → Pairs R (xs ++ x ∷ []) (ys ++ y ∷ [])
  pairs-snoc {x} {y} {xs} {ys} h r = record { all = snoc R x y xs ys h.all r }

  -- a pop from the end of xs and a push onto the end of ys
  pub pairs-started : {x : A} {y : B} {done : List A} (ys : List B) {ys' : List B} → Pairs R done (reverse ys) → R x y → ys' ≡ ys ++ y ∷ [] → Pairs R (x ∷ done) (reverse ys')
  pairs-started {y = y} ys h r e = pairs-at refl (sym (ap reverse e ∙ reverse-append ys (y ∷ []))) (pairs-cons r h)

module _ {A B C : Type 0} (Q : A → B → Type 0) (R : B → C → Type 0) (S : A → C → Type 0) where
  joined : ((x : A) (y : B) (z : C) → Q x y → R y z → S x z) → (xs : List A) (ys : List B) (zs : List C) → AllZip Q xs ys → AllZip R ys zs → AllZip S xs zs
  joined f [] [] [] q r = tt
  joined f [] [] (z ∷ zs) q r = absurd r
  joined f [] (y ∷ ys) zs q r = absurd q
  joined f (x ∷ xs) [] zs q r = absurd q
  joined f (x ∷ xs) (y ∷ ys) [] q r = absurd r
  joined f (x ∷ xs) (y ∷ ys) (z ∷ zs) q r = (f x y z q.0 r.0, joined f xs ys zs q.1 r.1)

  pub pairs-joined : ((x : A) (y : B) (z : C) → Q x y → R y z → S x z) → {xs : List A} {ys : List B} {zs : List C} → Pairs Q xs ys → Pairs R ys zs → Pairs S xs zs
  pairs-joined f {xs} {ys} {zs} q r = record { all = joined f xs ys zs q.all r.all }

long : {A B : Type 0} (R : A → B → Type 0) (xs : List A) (ys : List B) → AllZip R xs ys → length xs ≡ length ys
long R [] [] h = refl
long R [] (y ∷ ys) h = absurd h
long R (x ∷ xs) [] h = absurd h
long R (x ∷ xs) (y ∷ ys) h = ap suc (long R xs ys h.1)

unsnoc : {A B : Type 0} (R : A → B → Type 0) (x : A) (y : B) (xs : List A) (ys : List B) → AllZip R (xs ++ x ∷ []) (ys ++ y ∷ []) → AllZip R xs ys × R x y
unsnoc R x y [] [] h = (tt, h.0)
unsnoc R x y [] (b ∷ []) h = absurd h.1
unsnoc R x y [] (b ∷ b' ∷ bs) h = absurd h.1
unsnoc R x y (a ∷ []) [] h = absurd h.1
unsnoc R x y (a ∷ a' ∷ rest) [] h = absurd h.1
unsnoc R x y (a ∷ rest) (b ∷ bs) h = let t = unsnoc R x y rest bs h.1 in ((h.0, t.0), t.1)

module _ {A B : Type 0} {R : A → B → Type 0} where
  pub pairs-long : {xs : List A} {ys : List B} → Pairs R xs ys → length xs ≡ length ys
  pairs-long {xs} {ys} h = long R xs ys h.all

  pub pairs-front : (x : A) (y : B) {xs xs' : List A} {ys ys' : List B} → Pairs R xs ys → xs ≡ xs' ++ x ∷ [] → ys ≡ ys' ++ y ∷ [] → Pairs R xs' ys'
  pairs-front x y {xs} {xs'} {ys} {ys'} h e f = record { all = (unsnoc R x y xs' ys' (pairs-at e f h).all).0 }

  pub pairs-last : {x : A} {y : B} {xs : List A} (xs' : List A) {ys : List B} (ys' : List B) → Pairs R xs ys → xs ≡ xs' ++ x ∷ [] → ys ≡ ys' ++ y ∷ [] → R x y
  pairs-last {x} {y} {xs} xs' {ys} ys' h e f = (unsnoc R x y xs' ys' (pairs-at e f h).all).1

  pub pairs-none : {xs : List A} {ys : List B} → Pairs R xs ys → ys ≡ [] → xs ≡ []
  pairs-none {xs} {ys} h e = nil_from_length xs (long R xs ys h.all ∙ ap length e)

-- what holds at each place of two lists that are as long
places : {X : Type 0} (R : X → X → Type 0) (xs ys : List X) → length ys ≡ length xs
    → ((j : ℕ) (d : X) → j < length xs → R (get_or xs j d) (get_or ys j d)) → AllZip R xs ys
places R [] [] e h = tt
places R [] (y ∷ ys) e h = absurd (omega (arith, e))
places R (x ∷ xs) [] e h = absurd (omega (arith, e))
places R (x ∷ xs) (y ∷ ys) e h =
    (h 0 x (omega arith), places R xs ys (omega (arith, e)) (λ j d lt. h (suc j) d (omega (arith, lt))))

pub pairs-places : {X : Type 0} (R : X → X → Type 0) (xs ys : List X) → length ys ≡ length xs
    → ((j : ℕ) (d : X) → j < length xs → R (get_or xs j d) (get_or ys j d)) → Pairs R xs ys
pairs-places R xs ys e h = record { all = places R xs ys e h }

-- and of two lists of other kinds
each : {A B : Type 0} (R : A → B → Type 0) (xs : List A) (ys : List B) → length xs ≡ length ys
    → ((j : ℕ) (x : A) (y : B) → j < length xs → R (get_or xs j x) (get_or ys j y)) → AllZip R xs ys
each R [] [] e h = tt
each R [] (y ∷ ys) e h = absurd (omega (arith, e))
each R (x ∷ xs) [] e h = absurd (omega (arith, e))
each R (x ∷ xs) (y ∷ ys) e h =
    (h 0 x y (omega arith), each R xs ys (omega (arith, e)) (λ j a b lt. h (suc j) a b (omega (arith, lt))))

pub pairs-each : {A B : Type 0} (R : A → B → Type 0) (xs : List A) (ys : List B) → length xs ≡ length ys
    → ((j : ℕ) (x : A) (y : B) → j < length xs → R (get_or xs j x) (get_or ys j y)) → Pairs R xs ys
pairs-each R xs ys e h = record { all = each R xs ys e h }

flipped : {A B : Type 0} (R : A → B → Type 0) (xs : List A) (ys : List B) → AllZip R xs ys → AllZip (λ y x. R x y) ys xs
flipped R [] [] h = tt
flipped R [] (y ∷ ys) h = absurd h
flipped R (x ∷ xs) [] h = absurd h
flipped R (x ∷ xs) (y ∷ ys) h = (h.0, flipped R xs ys h.1)

pub pairs-flip : {A B : Type 0} (R : A → B → Type 0) {xs : List A} {ys : List B} → Pairs R xs ys → Pairs (λ y x. R x y) ys xs
pairs-flip R {xs} {ys} h = record { all = flipped R xs ys h.all }

all_right : {A B : Type 0} (R : A → B → Type 0) (P : B → Type 0) → ((x : A) (y : B) → R x y → P y) → (xs : List A) (ys : List B) → AllZip R xs ys → All P ys
all_right R P f [] [] h k d lt = absurd (omega (arith, lt))
all_right R P f [] (y ∷ ys) h k d lt = absurd h
all_right R P f (x ∷ xs) [] h k d lt = absurd h
all_right R P f (x ∷ xs) (y ∷ ys) h zero d lt = f x y h.0
all_right R P f (x ∷ xs) (y ∷ ys) h (suc k) d lt = all_right R P f xs ys h.1 k d (omega (arith, lt))

-- what R says of the second alone
pub pairs-right : {A B : Type 0} (R : A → B → Type 0) (P : B → Type 0) → ((x : A) (y : B) → R x y → P y) → {xs : List A} {ys : List B} → Pairs R xs ys → All P ys
pairs-right R P f {xs} {ys} h = all_right R P f xs ys h.all

-- what stands at a place of the two
pub at_pair : {A B : Type 0} (R : A → B → Type 0) (xs : List A) (ys : List B) (j : ℕ) → AllZip R xs ys → j < length xs
    → (x : A) × (y : B) × ((d : A) → get_or xs j d ≡ x) × ((d : B) → get_or ys j d ≡ y) × R x y
at_pair R [] [] j h lt = absurd (omega (arith, lt))
at_pair R [] (y ∷ ys) j h lt = absurd h
at_pair R (x ∷ xs) [] j h lt = absurd h
at_pair R (x ∷ xs) (y ∷ ys) zero h lt = (x, y, (λ d. refl), (λ d. refl), h.0)
at_pair R (x ∷ xs) (y ∷ ys) (suc j) h lt = at_pair R xs ys j h.1 (omega (arith, lt))
