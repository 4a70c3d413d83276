-- A text of calls, line by line; and where a plan is given, each number is complete by it.
use Rattle.std.proofs.Common.{◌≡◌, ◌⊎◌, inl, inr, ℕ, ◌+◌, ◌≤◌, Bool, true, false, List, [], ◌∷◌, ◌++◌, length, Option, Some, None, Result, Ok, Err, refl, sym, ap, ◌∙◌, arith, append_assoc, append-nil, subst, IfSome}
use Rattle.std.specs.Prelude.{nat_lt, ◌==◌, unwrap_or}
use Rattle.std.specs.Result.{result_ok}
use Rattle.std.proofs.lemmas.Bool.{cond-true, cond-false}
use Rattle.std.proofs.lemmas.List.Sums.{count_by-le-length}
use Rattle.std.proofs.lemmas.List.Splits.{length-slice_split}
use Rattle.xb_model.specs.declared.plan.Plan.{Plan}
use Rattle.xb_model.specs.Numbers.{has_length, is_complete}
use Rattle.xb_model.specs.Plans.{plan_len}
use Rattle.xb_text.specs.Pieces.{pieces}
use Rattle.xb_model.specs.Fields.{line_of}
use Rattle.xb_calls.specs.declared.fault.CallFault.{CallFault}
use Rattle.xb_calls.specs.declared.fault.CallFault.TheVariants as fault
use Rattle.xb_calls.specs.declared.wrong_byte.WrongByte.{WrongByte}
use Rattle.xb_calls.specs.Calls.{DialledCall, call_of}
use Rattle.xb_calls.specs.CallTexts.{call_and_rest, call_of_digits, call_of_line, call_unless, calls_from, calls_of_text, digits_of, is_wrong, length_fault, number_fault, or_fault, two_fields, unless_wrong}
use Rattle.xb_calls.specs.Heard.{AreComplete}
use Rattle.xb_calls.specs.Lists.{is_passed_over, line_feed, text_lines}
use Rattle.xb_calls.specs.ToldFields.{told}
use Rattle.xb_calls.specs.TextLines.{StopsBy, TakesLine, after}
use Rattle.xb_calls.specs.WrongBytes.{first_wrong}

none_is : {A : Type 0} {x : A} → None ≡ Some x → ⊥
none_is e = cc

ok_is : {A E : Type 0} {x y : A} → ◌≡◌ {A = Result A E} (Ok x) (Ok y) → x ≡ y
ok_is {A} {E} {x} {y} e = ap (λ r. unwrap_or (result_ok r) x) e

err_is : {A E : Type 0} {x : A} {f : E} → ◌≡◌ {A = Result A E} (Err f) (Ok x) → ⊥
err_is e = cc

-- a line that is passed over
pub passes_over : (whole : Option Plan) (n : ℕ) (line : List ℕ) (calls : List DialledCall)
    → is_passed_over line ≡ true
    → TakesLine whole n line calls calls
unfolding calls_from
passes_over whole n line calls passed later = ap (after calls) (cond-true _ _ _ passed)

after-more : (calls : List DialledCall) (call : DialledCall) (rest : Result (List DialledCall) CallFault)
    → after calls (call_and_rest (Ok call) rest) ≡ after (calls ++ call ∷ []) rest
after-more calls call (Ok later) = ap Ok (sym (append_assoc calls (call ∷ []) later))
after-more calls call (Err f) = refl

-- a line with a call
pub takes_call : (whole : Option Plan) (n : ℕ) (line : List ℕ) (calls : List DialledCall) (call : DialledCall)
    → is_passed_over line ≡ false → call_of_line whole n line ≡ Ok call
    → TakesLine whole n line calls (calls ++ call ∷ [])
unfolding calls_from
takes_call whole n line calls call read is later =
    ap (after calls) (cond-false _ _ _ read
    ∙ ap (λ first. call_and_rest first (calls_from whole (n + 1) later)) is)
    ∙ after-more calls call (calls_from whole (n + 1) later)

-- a line with a fault
pub stops_by : (whole : Option Plan) (n : ℕ) (line : List ℕ) (f : CallFault) → is_passed_over line ≡ false
    → (f ≡ fault.NoMemory) ⊎ (call_of_line whole n line ≡ Err f) → StopsBy whole n line f
unfolding calls_from
stops_by whole n line f read (inl memory) = inl memory
stops_by whole n line f read (inr is) =
    inr (λ later. cond-false _ _ _ read
    ∙ ap (λ first. call_and_rest first (calls_from whole (n + 1) later)) is)

-- no text line is left
pub calls_from-none : (whole : Option Plan) (n : ℕ) (calls : List DialledCall)
    → after calls (calls_from whole n []) ≡ Ok calls
unfolding calls_from
calls_from-none whole n calls = ap Ok (append-nil calls)

-- there are no more lines than bytes, and one
pub few-lines : (text : List ℕ) → length (pieces line_feed text) ≤ length text + 1
few-lines text =
    let some = length-slice_split (λ byte. byte == line_feed) text in
    let few = count_by-le-length (λ byte. byte == line_feed) text in
    omega (arith, some, few)

-- a number of the right length is complete
complete-length : (n : ℕ) (len : Option ℕ) (count : ℕ) → length_fault n len count ≡ None
    → has_length len count ≡ true
complete-length n None count h = absurd (none_is (sym h))
complete-length n (Some len) count h = at (len == count) refl
  where
    at : (same : Bool) → (len == count) ≡ same → (len == count) ≡ true
    at true e = e
    at false e = absurd (other (nat_lt count len) refl)
      where
        other : (less : Bool) → nat_lt count len ≡ less → ⊥
        other true l = none_is (sym (rw (e, l) at h))
        other false l = none_is (sym (rw (e, l) at h))

-- so a call whose number has no fault is complete
complete-unless : (plan : Plan) (f : Option CallFault) (call read : DialledCall)
    → call_unless f call ≡ Ok read
    → (f ≡ None → is_complete plan call.digits ≡ true) → is_complete plan read.digits ≡ true
complete-unless plan None call read is complete = subst (λ c. is_complete plan c.digits ≡ true) (ok_is is)
    (complete refl)
complete-unless plan (Some f) call read is complete = absurd (err_is is)

complete-digits : (plan : Plan) (n line : ℕ) (digits : List ℕ) (read : DialledCall)
    → call_of_digits (Some plan) n line digits ≡ Ok read → is_complete plan read.digits ≡ true
complete-digits plan n line [] read is = absurd (err_is is)
complete-digits plan n line (digit ∷ digits) read is =
    complete-unless plan (number_fault (Some plan) n (digit ∷ digits)) (call_of line (digit ∷ digits)) read is
    (complete-length n (plan_len plan (digit ∷ digits)) (length (digit ∷ digits)))

complete-wrong : (plan : Plan) (n line : ℕ) (wrong : Option WrongByte) (digits : List ℕ) (read : DialledCall)
    → unless_wrong n wrong (call_of_digits (Some plan) n line digits) ≡ Ok read
    → is_complete plan read.digits ≡ true
complete-wrong plan n line (Some wrong) digits read is = absurd (err_is is)
complete-wrong plan n line None digits read is = complete-digits plan n line digits read is

complete-fields : (plan : Plan) (n : ℕ) (field : List ℕ) (line : Option ℕ) (wrong : Option WrongByte) (digits : List ℕ)
    (read : DialledCall)
    → or_fault (fault.Line n (told field)) line (λ l. unless_wrong n wrong (call_of_digits (Some plan) n l digits))
    ≡ Ok read
    → is_complete plan read.digits ≡ true
complete-fields plan n field None wrong digits read is = absurd (err_is is)
complete-fields plan n field (Some line) wrong digits read is = complete-wrong plan n line wrong digits read is

complete-call : (plan : Plan) (n : ℕ) (line : List ℕ) (read : DialledCall)
    → call_of_line (Some plan) n line ≡ Ok read
    → is_complete plan read.digits ≡ true
complete-call plan n line read is =
    complete-fields plan n (two_fields line).0 (line_of (two_fields line).0) (first_wrong is_wrong line)
    (digits_of (two_fields line).1) read is

complete-rest : (plan : Plan) (first : Result DialledCall CallFault)
    (rest : Result (List DialledCall) CallFault)
    (calls : List DialledCall) → call_and_rest first rest ≡ Ok calls
    → ((call : DialledCall) → first ≡ Ok call → is_complete plan call.digits ≡ true)
    → ((later : List DialledCall) → rest ≡ Ok later → AreComplete plan later) → AreComplete plan calls
complete-rest plan (Err f) rest calls is here more = absurd (err_is is)
complete-rest plan (Ok call) (Err f) calls is here more = absurd (err_is is)
complete-rest plan (Ok call) (Ok later) calls is here more =
    subst (AreComplete plan) (ok_is is) (here call refl, more later refl)

complete-lines : (plan : Plan) (n : ℕ) (lines : List (List ℕ)) (calls : List DialledCall)
    → calls_from (Some plan) n lines ≡ Ok calls → AreComplete plan calls
unfolding calls_from
complete-lines plan n [] calls is = subst (AreComplete plan) (ok_is is) tt
complete-lines plan n (line ∷ lines) calls is =
    at (complete-lines plan (n + 1) lines) (is_passed_over line) refl
  where
    at : ((later : List DialledCall) → calls_from (Some plan) (n + 1) lines ≡ Ok later
        → AreComplete plan later)
        → (passed : Bool) → is_passed_over line ≡ passed → AreComplete plan calls
    at more true e = more calls (sym (cond-true _ _ _ e) ∙ is)
    at more false e =
        complete-rest plan (call_of_line (Some plan) n line) (calls_from (Some plan) (n + 1) lines) calls
        (sym (cond-false _ _ _ e) ∙ is) (λ call. complete-call plan n line call) more

-- where a plan is given, each number of a text is complete by it
pub numbers_are_complete : (whole : Option Plan) (text : List ℕ) (calls : List DialledCall)
    → calls_of_text whole text ≡ Ok calls
    → IfSome whole (λ plan. AreComplete plan calls)
numbers_are_complete None text calls is = tt
numbers_are_complete (Some plan) text calls is = complete-lines plan 1 (text_lines text) calls is

-- at first no call was read
pub after-none : (calls : Result (List DialledCall) CallFault) → after [] calls ≡ calls
after-none (Ok calls) = refl
after-none (Err f) = refl
