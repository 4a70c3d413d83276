-- Texts that are put after others.
use Rattle.std.proofs.Common.{◌≡◌, ◌++◌, ◌-◌, ◌/◌, ◌%◌, ◌∙◌, ℕ, List, Result, Ok, Err, OnOk, is_ok, if◌then◌else◌, replicate, length, decimal, ap, sym, arith, codes, append_assoc}
use Rattle.std.proofs.lemmas.List.{append-nil}
use Rattle.std.proofs.lemmas.Result.{on_ok_weaker}
use Rattle.std.specs.Fmt.{char_count, format_spec, padded_integral, styled_decimal}
use Rattle.xb_model.specs.Page.{four_digits}
use Rattle.xb_heard.specs.declared.run.PlacedRun.{PlacedRun}
use Rattle.xb_report.specs.Cells.{place_text, three_digits}

-- one text after another
pub both : (o o1 o2 a b : List ℕ) → o1 ≡ o ++ a → o2 ≡ o1 ++ b → o2 ≡ o ++ (a ++ b)
both o o1 o2 a b first second = second ∙ ap (λ t. t ++ b) first ∙ append_assoc o a b

-- a text that is put, of those that were to come
pub both-rest : (o o1 a b : List ℕ) {whole : List ℕ} → o1 ≡ o ++ a → whole ≡ a ++ b → o1 ++ b ≡ o ++ whole
both-rest o o1 a b put is = ap (λ t. t ++ b) put ∙ append_assoc o a b ∙ ap (λ t. o ++ t) (sym is)

-- the last text, where the others are put
pub last : {T E : Type 0} (r : Result T E) (o o1 n a b whole : List ℕ) → o1 ≡ o ++ a → OnOk r (n ≡ o1 ++ b)
    → a ++ b ≡ whole → OnOk r (n ≡ o ++ whole)
last r o o1 n a b whole first end is =
    on_ok_weaker r (λ (e : n ≡ o1 ++ b). both o o1 n a b first e ∙ ap (λ t. o ++ t) is) end

-- a text that is put, in the words of its definition
pub as_defined : {T E : Type 0} (r : Result T E) (o n b whole : List ℕ) → OnOk r (n ≡ o ++ b) → b ≡ whole → OnOk r (n ≡ o ++ whole)
as_defined r o n b whole put is = on_ok_weaker r (λ (e : n ≡ o ++ b). e ∙ ap (λ t. o ++ t) is) put

-- a text that is put by std
pub str : {T E : Type 0} (r : Result T E) (o n s : List ℕ) → n ≡ (if is_ok r then o ++ s else o) → OnOk r (n ≡ o ++ s)
str (Ok x) o n s e = e
str (Err f) o n s e = tt

-- a number between two words, and then a place
pub sentence : (w n m p e : List ℕ) → w ++ (n ++ m) ++ p ++ e ≡ w ++ n ++ m ++ p ++ e
sentence w n m p e = ap (λ t. t ++ p ++ e) (sym (append_assoc w n m))

-- what the holes `{n:03}` and `{n:04}` write
pub three : (n : ℕ) → styled_decimal (format_spec 32 0 4 3 18446744073709551615) n ≡ three_digits n
unfolding padded_integral char_count
three n =
    let e : 3 - length (decimal n) - 0 - 0 ≡ 3 - length (decimal n) = omega arith in
    rw append-nil (ap (λ (k : ℕ). replicate k 48 ++ decimal n) e)

pub four : (n : ℕ) → styled_decimal (format_spec 32 0 4 4 18446744073709551615) n ≡ four_digits n
unfolding padded_integral char_count
four n =
    let e : 4 - length (decimal n) - 0 - 0 ≡ 4 - length (decimal n) = omega arith in
    rw append-nil (ap (λ (k : ℕ). replicate k 48 ++ decimal n) e)

-- where a run begins
pub place : (run : PlacedRun)
    → decimal (run.start / 1000) ++ (codes "." ++ (styled_decimal (format_spec 32 0 4 3 18446744073709551615) (run.start % 1000)
    ++ (codes " s, record " ++ decimal run.first_record)))
    ≡ place_text run
place run = rw (three (run.start % 1000)) (simp append_assoc)
