-- Texts that are put after others.
use Rattle.std.proofs.Common.{◌≡◌, ◌++◌, ◌∙◌, ℕ, List, Result, Ok, Err, OnOk, is_ok, if◌then◌else◌, ap, sym, append_assoc}
use Rattle.std.proofs.lemmas.Result.{on_ok_weaker}

-- one text after another
pub both : (o o1 o2 a b : List ℕ) → o1 ≡ o ++ a → o2 ≡ o1 ++ b → o2 ≡ o ++ (a ++ b)
both o o1 o2 a b first second = second ∙ ap (λ t. t ++ b) first ∙ append_assoc o a b

-- a text that is put, of those that were to come
pub both-rest : (o o1 a b : List ℕ) {whole : List ℕ} → o1 ≡ o ++ a → whole ≡ a ++ b → o1 ++ b ≡ o ++ whole
both-rest o o1 a b put is = ap (λ t. t ++ b) put ∙ append_assoc o a b ∙ ap (λ t. o ++ t) (sym is)

-- the last text, where the others are put
pub last : {T E : Type 0} (r : Result T E) (o o1 n a b whole : List ℕ) → o1 ≡ o ++ a → OnOk r (n ≡ o1 ++ b)
    → a ++ b ≡ whole → OnOk r (n ≡ o ++ whole)
last r o o1 n a b whole first end is =
    on_ok_weaker r (λ (e : n ≡ o1 ++ b). both o o1 n a b first e ∙ ap (λ t. o ++ t) is) end

-- a text that is put, in the words of its definition
pub as_defined : {T E : Type 0} (r : Result T E) (o n b whole : List ℕ) → OnOk r (n ≡ o ++ b) → b ≡ whole → OnOk r (n ≡ o ++ whole)
as_defined r o n b whole put is = on_ok_weaker r (λ (e : n ≡ o ++ b). e ∙ ap (λ t. o ++ t) is) put

-- a text that is put by std
pub str : {T E : Type 0} (r : Result T E) (o n s : List ℕ) → n ≡ (if is_ok r then o ++ s else o) → OnOk r (n ≡ o ++ s)
str (Ok x) o n s e = e
str (Err f) o n s e = tt
