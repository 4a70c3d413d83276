-- What comes of the keys of keyings.
use Rattle.std.proofs.Common.{◌≡◌, ◌∙◌, ℕ, false, List, [], ◌∷◌, ◌++◌, drop, get_or, map, ap, ap₂, refl, append_assoc}
use Rattle.std.proofs.lemmas.Bool.{cond-true, cond-false}
use Rattle.xb_model.specs.declared.dialled.Dialled.{Dialled}
use Rattle.xb_incoming.specs.declared.key.Symbol.{Symbol}
use Rattle.xb_incoming.specs.declared.key.Symbol.TheVariants.{Digit, Kp, St}
use Rattle.xb_incoming.specs.declared.key.TimedKey.{TimedKey}
use Rattle.xb_incoming.specs.Attempts.{deaf_from, digits_at, digits_from, ending_at, ending_from, is_kp, number_of, outcomes_after, taken_at, taken_from, times_out}
use Rattle.xb_incoming.specs.Joined.{InTime, KeyedIsRegistered, keyed_symbols, symbols_of}

head-is : (p q : Symbol) (ps qs : List Symbol) → p ∷ ps ≡ q ∷ qs → p ≡ q
head-is p q ps qs e = ap (λ xs. get_or xs 0 p) e

tail-is : (p q : Symbol) (ps qs : List Symbol) → p ∷ ps ≡ q ∷ qs → ps ≡ qs
tail-is p q ps qs e = ap (drop 1) e

abbrev digit-symbols : List ℕ → List Symbol
digit-symbols digits = map (λ d. Digit d) digits

-- keys after a KP that are digits and an ST, and what comes after them
record AreKeyed (limit : ℕ) (digits : List ℕ) (symbols : List Symbol) (last : ℕ) (keys : List TimedKey) : Type 0 where
  last_later : ℕ
  later : List TimedKey
  are : digits_from limit last keys ≡ digits
  ends : (ds : List ℕ) → ending_from limit last keys ds ≡ number_of ds
  goes_on : outcomes_after limit (taken_from limit last keys) keys ≡ outcomes_after limit 0 later
  rest : symbols_of later ≡ symbols
  in_time : InTime limit last_later later

are-keyed : (limit : ℕ) (digits : List ℕ) (symbols : List Symbol) (last : ℕ) (keys : List TimedKey)
    → symbols_of keys ≡ digit-symbols digits ++ St ∷ symbols → InTime limit last keys
    → AreKeyed limit digits symbols last keys
are-keyed limit [] symbols last [] e intime = absurd (cc)
are-keyed limit [] symbols last (st ∷ later) e intime =
    let is : st.what ≡ St = head-is st.what St (symbols_of later) symbols e in
    let early : times_out limit last st.begin_ms ≡ false = intime.0 (ap is_kp is) in record {
      last_later = st.end_ms;
      later = later;
      are = cond-false _ _ _ early ∙ ap (λ w. digits_at w (digits_from limit st.end_ms later)) is;
      ends = λ ds. ap (λ (f : List ℕ → Dialled). f ds)
          (cond-false _ _ _ early ∙ ap (λ w. ending_at w (ending_from limit st.end_ms later)) is);
      goes_on = ap (λ n. outcomes_after limit n (st ∷ later))
          (cond-false _ _ _ early
          ∙ ap (λ w. taken_at w (taken_from limit st.end_ms later) (deaf_from st.end_ms later)) is);
      rest = tail-is st.what St (symbols_of later) symbols e;
      in_time = intime.1;
    }
are-keyed limit (d ∷ digits) symbols last [] e intime = absurd (cc)
are-keyed limit (d ∷ digits) symbols last (key ∷ keys) e intime =
    let after = digit-symbols digits ++ St ∷ symbols in
    let is : key.what ≡ Digit d = head-is key.what (Digit d) (symbols_of keys) after e in
    let early : times_out limit last key.begin_ms ≡ false = intime.0 (ap is_kp is) in
    let more = are-keyed limit digits symbols key.end_ms keys
    (tail-is key.what (Digit d) (symbols_of keys) after e) intime.1 in
    record {
      last_later = more.last_later;
      later = more.later;
      are = cond-false _ _ _ early ∙ ap (λ w. digits_at w (digits_from limit key.end_ms keys)) is
          ∙ ap (λ ds. d ∷ ds) more.are;
      ends = λ ds. ap (λ (f : List ℕ → Dialled). f ds)
          (cond-false _ _ _ early ∙ ap (λ w. ending_at w (ending_from limit key.end_ms keys)) is) ∙ more.ends ds;
      goes_on = ap (λ n. outcomes_after limit n (key ∷ keys))
          (cond-false _ _ _ early
          ∙ ap (λ w. taken_at w (taken_from limit key.end_ms keys) (deaf_from key.end_ms keys)) is)
          ∙ more.goes_on;
      rest = more.rest;
      in_time = more.in_time;
    }

registered : (limit : ℕ) (numbers : List (List ℕ)) (last : ℕ) (keys : List TimedKey)
    → symbols_of keys ≡ keyed_symbols numbers → InTime limit last keys
    → outcomes_after limit 0 keys ≡ map number_of numbers
registered limit [] last [] e intime = refl
registered limit [] last (key ∷ keys) e intime = absurd (cc)
registered limit (digits ∷ numbers) last [] e intime = absurd (cc)
registered limit (digits ∷ numbers) last (kp ∷ keys) e intime =
    let symbols = keyed_symbols numbers in
    let is : kp.what ≡ Kp = head-is kp.what Kp (symbols_of keys) ((digit-symbols digits ++ St ∷ []) ++ symbols) e in
    let after : symbols_of keys ≡ digit-symbols digits ++ St ∷ symbols =
    tail-is kp.what Kp (symbols_of keys) ((digit-symbols digits ++ St ∷ []) ++ symbols) e
    ∙ append_assoc (digit-symbols digits) (St ∷ []) symbols in
    let are = are-keyed limit digits symbols kp.end_ms keys after intime.1 in
    cond-true _ _ _ (ap is_kp is)
    ∙ ap₂ (λ o os. o ∷ os)
    (are.ends (digits_from limit kp.end_ms keys) ∙ ap number_of are.are)
    (are.goes_on ∙ registered limit numbers are.last_later are.later are.rest are.in_time)

pub keyed_is_registered : KeyedIsRegistered
keyed_is_registered limit numbers keys e intime = registered limit numbers 0 keys e intime
