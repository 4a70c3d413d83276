-- Texts that are said after others, and runs that fit.
use Rattle.std.proofs.Common.{◌≡◌, ◌++◌, ◌<◌, ◌∙◌, [], ℕ, List, Result, OnOk, ap, arith, drop, get_or, length, nat_lt, refl, sym, true, append_assoc}
use Rattle.std.proofs.lemmas.Bool.Decides.{nat_tests}
use Rattle.std.proofs.lemmas.List.{drop_more}
use Rattle.std.proofs.lemmas.Result.{on_ok_weaker}
use Rattle.xb_heard.specs.declared.run.PlacedRun.{PlacedRun}
use Rattle.xb_picture.specs.Courses.{drawn, fitting}

-- one text after another
pub both : {A : Type 0} (o o1 o2 a b : List A) → o1 ≡ o ++ a → o2 ≡ o1 ++ b → o2 ≡ o ++ (a ++ b)
both o o1 o2 a b first second = second ∙ ap (λ t. t ++ b) first ∙ append_assoc o a b

-- texts that are said, of those that were to come
pub both-rest : {A : Type 0} (o o1 a b : List A) {whole : List A} → o1 ≡ o ++ a → whole ≡ a ++ b → o1 ++ b ≡ o ++ whole
both-rest o o1 a b put is = ap (λ t. t ++ b) put ∙ append_assoc o a b ∙ ap (λ t. o ++ t) (sym is)

-- the last text, where the others are said
pub last : {T E A : Type 0} (r : Result T E) (o o1 n a b whole : List A) → o1 ≡ o ++ a → OnOk r (n ≡ o1 ++ b)
    → a ++ b ≡ whole → OnOk r (n ≡ o ++ whole)
last r o o1 n a b whole first end is =
    on_ok_weaker r (λ (e : n ≡ o1 ++ b). both o o1 n a b first e ∙ ap (λ t. o ++ t) is) end

-- where the next run does not fit, none does
pub none-fits : (room i w : ℕ) (runs : List PlacedRun) (d : PlacedRun) → i < length runs → w ≡ drawn (get_or runs i d)
    → room < w → fitting room (drop i runs) ≡ []
none-fits room i w runs d within is over =
    let lt : nat_lt room (drawn (get_or runs i d)) ≡ true = rw (← is) (grind (arith, nat_tests)) in
    ap (fitting room) (drop_more runs i d within) ∙ rw lt refl
