-- The text of what is told of the bounces.
use Rattle.std.proofs.Common.{Result, Ok, Err, cond, eq-eqb, ◌≡◌, ℕ, ◌+◌, ◌*◌, ◌/◌, ◌%◌, ◌^◌, ◌<◌, List, [], ◌∷◌, ◌++◌, decimal, ap, ◌∙◌, sym, append_assoc, codes, arith}
use Rattle.std.specs.Prelude.{OnOk, is_ok, if◌then◌else◌}
use Rattle.std.proofs.lemmas.Bool.{ne_eqb}
use Rattle.std.proofs.lemmas.Fmt.{decimal_digit, decimal_step_wide}
use Rattle.std.proofs.lemmas.Nat.{div-add-mod', div-mul-add, mod_below}
use Rattle.xb_contact.specs.declared.scale.Scale.{Scale}
use Rattle.xb_feed.specs.declared.tally.Bounces.{Bounces}
use Rattle.xb_loop.specs.BounceLines.{bounce_line, micros_of}

-- a number of thousands, and its three last digits
pub thousands_written :
    (thousands units : ℕ) → 0 < thousands → thousands < 2 ^ 128 → units < 1000
    → decimal (thousands * 1000 + units)
    ≡ decimal thousands ++ (decimal (units / 100) ++ (decimal (units / 10 % 10) ++ decimal (units % 10)))
thousands_written thousands units some fits few =
    let n : ℕ = thousands * 1000 + units in
    let tens : n / 10 ≡ thousands * 100 + units / 10 = omega arith in
    let hundreds : (thousands * 100 + units / 10) / 10 ≡ thousands * 10 + units / 100 = omega arith in
    let all : (thousands * 10 + units / 100) / 10 ≡ thousands = omega arith in
    let last : n % 10 ≡ units % 10 = omega arith in
    let middle : (thousands * 100 + units / 10) % 10 ≡ units / 10 % 10 = omega arith in
    let first : (thousands * 10 + units / 100) % 10 ≡ units / 100 = omega arith in
    let one : decimal n ≡ decimal (thousands * 100 + units / 10) ++ decimal (units % 10) =
    decimal_step_wide n (omega arith) (omega arith)
    ∙ ap (λ m. decimal m ++ ((48 + n % 10) ∷ [])) tens
    ∙ ap (λ d. decimal (thousands * 100 + units / 10) ++ ((48 + d) ∷ [])) last
    ∙ ap (λ d. decimal (thousands * 100 + units / 10) ++ d) (sym (decimal_digit (units % 10) (omega arith))) in
    let two : decimal (thousands * 100 + units / 10)
    ≡ decimal (thousands * 10 + units / 100) ++ decimal (units / 10 % 10) =
    decimal_step_wide (thousands * 100 + units / 10) (omega arith) (omega arith)
    ∙ ap (λ m. decimal m ++ ((48 + (thousands * 100 + units / 10) % 10) ∷ [])) hundreds
    ∙ ap (λ d. decimal (thousands * 10 + units / 100) ++ ((48 + d) ∷ [])) middle
    ∙ ap (λ d. decimal (thousands * 10 + units / 100) ++ d) (sym (decimal_digit (units / 10 % 10) (omega arith))) in
    let three : decimal (thousands * 10 + units / 100) ≡ decimal thousands ++ decimal (units / 100) =
    decimal_step_wide (thousands * 10 + units / 100) (omega arith) (omega arith)
    ∙ ap (λ m. decimal m ++ ((48 + (thousands * 10 + units / 100) % 10) ∷ [])) all
    ∙ ap (λ d. decimal thousands ++ ((48 + d) ∷ [])) first
    ∙ ap (λ d. decimal thousands ++ d) (sym (decimal_digit (units / 100) (omega arith))) in
    one
    ∙ ap (λ t. t ++ decimal (units % 10)) (two ∙ ap (λ t. t ++ decimal (units / 10 % 10)) three)
    ∙ append_assoc (decimal thousands ++ decimal (units / 100)) (decimal (units / 10 % 10)) (decimal (units % 10))
    ∙ append_assoc (decimal thousands) (decimal (units / 100)) (decimal (units / 10 % 10) ++ decimal (units % 10))

-- thousandths of a quotient are its whole ones and those of the rest
pub thousandths :
    (all per : ℕ) → 0 < per → all / per * 1000 + all % per * 1000 / per ≡ all * 1000 / per
thousandths all per some =
    let rest : ℕ = all % per * 1000 in
    let parts : all * 1000 ≡ (all / per * 1000 + rest / per) * per + rest % per =
    omega (arith, div-add-mod' all per, div-add-mod' rest per) in
    sym (ap (λ n. n / per) parts ∙ div-mul-add (all / per * 1000 + rest / per) per (rest % per) (mod_below rest per some))

bounce-pieces :
    (out number count micros : List ℕ)
    → ((out ++ (codes "line " ++ (number ++ (codes ": " ++ (count ++ codes " bounces, the longest "))))) ++ micros) ++ codes " us\n"
    ≡ out ++ (codes "line " ++ number ++ codes ": " ++ count ++ codes " bounces, the longest " ++ micros ++ codes " us\n")
bounce-pieces out number count micros = simp append_assoc

-- the line that was written
pub bounces_written :
    (out first second new : List ℕ) (scale : Scale) (line number : ℕ) (bounces : Bounces) → number ≡ line
    → first ≡ out ++ (codes "line " ++ (decimal number ++ (codes ": " ++ (decimal bounces.count ++ codes " bounces, the longest "))))
    → second ≡ first ++ decimal (micros_of scale bounces.longest) → new ≡ second ++ codes " us\n"
    → new ≡ out ++ bounce_line scale line bounces
bounces_written out first second new scale line number bounces e one two three =
    three
    ∙ ap (λ text. text ++ codes " us\n") (two ∙ ap (λ text. text ++ decimal (micros_of scale bounces.longest)) one)
    ∙ bounce-pieces out (decimal number) (decimal bounces.count) (decimal (micros_of scale bounces.longest))
    ∙ ap (λ n. out ++ (codes "line " ++ decimal n ++ codes ": " ++ decimal bounces.count ++ codes " bounces, the longest " ++ decimal (micros_of scale bounces.longest) ++ codes " us\n")) e

-- a text that was added
pub pushed :
    {T E : Type 0} (r : Result T E) (old new text more : List ℕ)
    → new ≡ (if is_ok r then old ++ text else old) → text ≡ more → OnOk r (new ≡ old ++ more)
pushed {T} {E} (Ok u) old new text more e same = e ∙ ap (λ t. old ++ t) same
pushed {T} {E} (Err f) old new text more e same = tt

-- a time in us
pub micros_none : (scale : Scale) (ticks : ℕ) → scale.ticks ≡ 0 → 48 ∷ [] ≡ decimal (micros_of scale ticks)
micros_none scale ticks none =
    sym (ap (λ b. decimal (cond b 0 (ticks * scale.ms * 1000 / scale.ticks))) (eq-eqb scale.ticks 0 none)
    ∙ decimal_digit 0 (omega arith))

micros_some :
    (scale : Scale) (ticks : ℕ) → (scale.ticks ≡ 0 → ⊥) → micros_of scale ticks ≡ ticks * scale.ms * 1000 / scale.ticks
micros_some scale ticks some =
    ap (λ b. cond b 0 (ticks * scale.ms * 1000 / scale.ticks)) (ne_eqb scale.ticks 0 some)

pub micros_written :
    (scale : Scale) (ticks per count ms : ℕ) → (scale.ticks ≡ 0 → ⊥) → per ≡ scale.ticks → count ≡ ticks → ms ≡ scale.ms
    → count * ms / per * 1000 + count * ms % per * 1000 / per ≡ micros_of scale ticks
micros_written scale ticks per count ms some e f g =
    thousandths (count * ms) per (omega (arith, some, e))
    ∙ ap (λ n. n * ms * 1000 / per) f ∙ ap (λ n. ticks * n * 1000 / per) g
    ∙ ap (λ n. ticks * scale.ms * 1000 / n) e ∙ sym (micros_some scale ticks some)
