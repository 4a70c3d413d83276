-- What is heard of numbers that are keyed.
use Rattle.std.proofs.Common.{◌≡◌, ◌∙◌, ℕ, List, [], ◌∷◌, ◌++◌, map, ap, ap₂, refl}
use Rattle.std.specs.List.{AllByRecursion, flat_map}
use Rattle.xb_model.specs.declared.key.Key.TheVariants.{Digit, Kp, St}
use Rattle.xb_model.specs.declared.mark.Mark.{Mark}
use Rattle.xb_model.specs.declared.mark.Mark.TheVariants.{Trunk, Tone, Refused}
use Rattle.xb_model.specs.declared.order.Order.{Order}
use Rattle.xb_model.specs.declared.order.Order.TheVariants as orders
use Rattle.xb_model.specs.Keyings.{marks_of, tone}
use Rattle.xb_model.specs.MfPairs.{mf_pair}
use Rattle.xb_model.specs.Routing.{CodedRoute, routed}
use Rattle.xb_calls.specs.Heard.{entry_of}
use Rattle.xb_sound.specs.HeardKeys.{AreKeyed, keys_of}
use Rattle.xb_together.specs.FarEnd.{HaveDigits, keys_of_order}

-- the marks of numbers, one entry after the other
abbrev pub marks_of_numbers : List CodedRoute → List (List ℕ) → List Mark
marks_of_numbers routes numbers = flat_map (λ entry. entry) (map (entry_of routes) numbers)

-- each tone is that of its key
abbrev HasPair : Mark → Type 0
HasPair (Trunk t) = Unit {0}
HasPair (Tone key pair) = pair ≡ mf_pair key
HasPair (Refused reason heard) = Unit {0}

pairs-both : (xs ys : List Mark) → AllByRecursion HasPair xs → AllByRecursion HasPair ys
    → AllByRecursion HasPair (xs ++ ys)
pairs-both [] ys a b = b
pairs-both (x ∷ xs) ys (one, a) b = (one, pairs-both xs ys a b)

pairs-digits : (digits : List ℕ) → AllByRecursion HasPair (map (λ d. tone (Digit d)) digits ++ tone St ∷ [])
pairs-digits [] = (refl, tt)
pairs-digits (d ∷ digits) = (refl, pairs-digits digits)

pairs-order : (order : Order) → AllByRecursion HasPair (marks_of order)
pairs-order (orders.Key trunk digits) = (tt, (refl, pairs-digits digits))
pairs-order (orders.Refused reason heard) = (tt, tt)

pairs-numbers : (routes : List CodedRoute) (numbers : List (List ℕ))
    → AllByRecursion HasPair (marks_of_numbers routes numbers)
pairs-numbers routes [] = tt
pairs-numbers routes (number ∷ numbers) =
    pairs-both (entry_of routes number) (marks_of_numbers routes numbers) (pairs-order (routed routes number))
    (pairs-numbers routes numbers)

-- keys that have digits and their pairs are keys
keyed : (marks : List Mark) → AllByRecursion HasPair marks → HaveDigits marks → AreKeyed marks
keyed [] pairs digits = tt
keyed (Trunk t ∷ marks) (p, pairs) (d, digits) = (tt, keyed marks pairs digits)
keyed (Tone key pair ∷ marks) (p, pairs) (d, digits) = ((d, p), keyed marks pairs digits)
keyed (Refused reason heard ∷ marks) (p, pairs) (d, digits) = (tt, keyed marks pairs digits)

pub numbers-keyed : (routes : List CodedRoute) (numbers : List (List ℕ))
    → HaveDigits (marks_of_numbers routes numbers) → AreKeyed (marks_of_numbers routes numbers)
numbers-keyed routes numbers digits =
    keyed (marks_of_numbers routes numbers) (pairs-numbers routes numbers) digits

keys-both : (xs ys : List Mark) → keys_of (xs ++ ys) ≡ keys_of xs ++ keys_of ys
keys-both [] ys = refl
keys-both (Trunk t ∷ xs) ys = keys-both xs ys
keys-both (Tone key pair ∷ xs) ys = ap (λ keys. key ∷ keys) (keys-both xs ys)
keys-both (Refused reason heard ∷ xs) ys = keys-both xs ys

keys-digits : (digits : List ℕ) → keys_of (map (λ d. tone (Digit d)) digits ++ tone St ∷ [])
    ≡ map (λ d. Digit d) digits ++ St ∷ []
keys-digits [] = refl
keys-digits (d ∷ digits) = ap (λ keys. Digit d ∷ keys) (keys-digits digits)

keys-order : (order : Order) → keys_of (marks_of order) ≡ keys_of_order order
keys-order (orders.Key trunk digits) = ap (λ keys. Kp ∷ keys) (keys-digits digits)
keys-order (orders.Refused reason heard) = refl

-- the keys of numbers are those of their orders
pub keys-numbers : (routes : List CodedRoute) (numbers : List (List ℕ))
    → keys_of (marks_of_numbers routes numbers)
    ≡ flat_map (λ number. keys_of_order (routed routes number)) numbers
keys-numbers routes [] = refl
keys-numbers routes (number ∷ numbers) =
    keys-both (entry_of routes number) (marks_of_numbers routes numbers)
    ∙ ap₂ (λ one more. one ++ more) (keys-order (routed routes number)) (keys-numbers routes numbers)
