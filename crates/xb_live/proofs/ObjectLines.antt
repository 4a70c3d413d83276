-- The page's line of an entry is made of its object.
use Rattle.std.proofs.Common.{◌≡◌, ◌<◌, ◌-◌, ℕ, zero, suc, List, [], ◌∷◌, ◌++◌, map, length, codes, decimal, slice_get, Option, Some, None, Ok, refl, sym, ap, ◌∙◌, append-nil, arith}
use Rattle.std.specs.List.{AllByRecursion, flat_map}
use Rattle.std.specs.Prelude.{option_and_then}
use Rattle.std.proofs.lemmas.Fmt.{decimal_digit}
use Rattle.serde_json.specs.Data.{Data, string}
use Rattle.serde_json.specs.View.{items_of}
use Rattle.xb_json.specs.Keys.{keys_of}
use Rattle.xb_model.specs.declared.digit.TheConstants.{DIGITS}
use Rattle.xb_model.specs.declared.key.Key.TheVariants.{Digit, Kp, St}
use Rattle.xb_model.specs.declared.mark.Mark.{Mark}
use Rattle.xb_model.specs.declared.mark.Mark.TheVariants as mark
use Rattle.xb_model.specs.declared.order.Order.{Order}
use Rattle.xb_model.specs.declared.order.Order.TheVariants as orders
use Rattle.xb_model.specs.Keyings.{keying, marks_of, tone}
use Rattle.xb_model.specs.MfPairs.{mf_pair}
use Rattle.xb_model.specs.Page.{entry_head, entry_text, entry_text_by, four_digits, keyed_text, last_refusal, mark_text, marks_text, pair_text, refusal_of}
use Rattle.xb_model.specs.Rows.{LoopRow}
use Rattle.xb_routes.specs.Table.{Table}
use Rattle.xb_routes.specs.Text.{table_of_text}
use Rattle.xb_routes.proofs.TableRoutes.{table-routes}
use Rattle.xb_clock.specs.Objects.{with_time}
use Rattle.xb_live.specs.Objects.{digits_in, object_by, order_in, timed_object}
use Rattle.xb_live.specs.PageOfObjects.{ObjectsAreLines, key_named, page_line_of, texts_of, tone_text}
use Rattle.xb_live.specs.TimedEntries.{TimedEntry, told_of_rows}
use Rattle.xb_live.proofs.SentDigits.{AreDigits, AreKeyed, Sends, told-keyed}

-- the last of several marks is that of those after the first
last_more : (m k : Mark) (ms : List Mark) → last_refusal (m ∷ k ∷ ms) ≡ last_refusal (k ∷ ms)
last_more m k ms =
    let e : suc (suc (length ms)) - 1 ≡ suc (suc (length ms) - 1) = omega arith in
    ap (λ (i : ℕ). option_and_then refusal_of (slice_get (m ∷ k ∷ ms) i)) e

-- a keying ends with no refusal
last-digits : (digits : List ℕ) → last_refusal (tone Kp ∷ (map (λ d. tone (Digit d)) digits ++ tone St ∷ [])) ≡ None
last-digits digits = after (tone Kp) digits
  where
    after : (m : Mark) (ds : List ℕ) → last_refusal (m ∷ (map (λ d. tone (Digit d)) ds ++ tone St ∷ [])) ≡ None
    after m [] = refl
    after m (d ∷ ds) = last_more m (tone (Digit d)) (map (λ d. tone (Digit d)) ds ++ tone St ∷ []) ∙ after (tone (Digit d)) ds

last-keying : (trunk : ℕ) (digits : List ℕ) → last_refusal (keying trunk digits) ≡ None
last-keying trunk digits =
    last_more (mark.Trunk trunk) (tone Kp) (map (λ d. tone (Digit d)) digits ++ tone St ∷ []) ∙ last-digits digits

-- the digits of a keying
digits-keyed : (digits : List ℕ) → digits_in (map (λ d. tone (Digit d)) digits ++ tone St ∷ []) ≡ digits
digits-keyed [] = refl
digits-keyed (d ∷ digits) = ap (λ ds. d ∷ ds) (digits-keyed digits)

-- the order of an order's marks
pub order-in : (order : Order) → order_in (marks_of order) ≡ order
order-in (orders.Refused reason heard) = refl
order-in (orders.Key trunk digits) = rw (last-keying trunk digits) (ap (orders.Key trunk) (digits-keyed digits))

-- the name of a digit's key
named : (digit : ℕ) → digit < DIGITS → key_named (decimal digit) ≡ Digit digit
named zero below = ap key_named (decimal_digit 0 below)
named (suc zero) below = ap key_named (decimal_digit 1 below)
named (suc (suc zero)) below = ap key_named (decimal_digit 2 below)
named (suc (suc (suc zero))) below = ap key_named (decimal_digit 3 below)
named (suc (suc (suc (suc zero)))) below = ap key_named (decimal_digit 4 below)
named (suc (suc (suc (suc (suc zero))))) below = ap key_named (decimal_digit 5 below)
named (suc (suc (suc (suc (suc (suc zero)))))) below = ap key_named (decimal_digit 6 below)
named (suc (suc (suc (suc (suc (suc (suc zero))))))) below = ap key_named (decimal_digit 7 below)
named (suc (suc (suc (suc (suc (suc (suc (suc zero)))))))) below = ap key_named (decimal_digit 8 below)
named (suc (suc (suc (suc (suc (suc (suc (suc (suc zero))))))))) below = ap key_named (decimal_digit 9 below)
named (suc (suc (suc (suc (suc (suc (suc (suc (suc (suc n)))))))))) below = absurd (omega (arith, below))

marks_text-cons : (m : Mark) (ms : List Mark) → marks_text (m ∷ ms) ≡ mark_text m ++ marks_text ms
unfolding marks_text
marks_text-cons m ms = refl

marks_text-none : marks_text [] ≡ []
unfolding marks_text
marks_text-none = refl

-- the keys with their tones
tones : (digits : List ℕ) → AreDigits digits
    → flat_map tone_text (texts_of (items_of (map (λ digit. string (decimal digit)) digits ++ string (codes "ST") ∷ []))) ≡ marks_text (map (λ d. tone (Digit d)) digits ++ tone St ∷ [])
tones [] are =
    append-nil (mark_text (tone St))
    ∙ sym (marks_text-cons (tone St) [] ∙ ap (λ text. mark_text (tone St) ++ text) marks_text-none ∙ append-nil (mark_text (tone St)))
tones (d ∷ digits) are =
    ap (λ key. (codes " " ++ decimal d ++ codes ":" ++ pair_text (mf_pair key)) ++ flat_map tone_text (texts_of (items_of (map (λ digit. string (decimal digit)) digits ++ string (codes "ST") ∷ [])))) (named d are.0)
    ∙ ap (λ text. mark_text (tone (Digit d)) ++ text) (tones digits are.1)
    ∙ sym (marks_text-cons (tone (Digit d)) (map (λ d. tone (Digit d)) digits ++ tone St ∷ []))

keyed : (line number trunk : ℕ) (sent : List ℕ) → AreDigits sent
    → entry_head line number ++ codes " KEYED" ++ (codes " " ++ four_digits trunk ++ flat_map tone_text (texts_of (items_of (keys_of sent)))) ++ codes "\n"
    ≡ keyed_text line number (keying trunk sent)
keyed line number trunk sent are =
    let rest : List Mark = map (λ d. tone (Digit d)) sent ++ tone St ∷ [] in
    ap (λ text. entry_head line number ++ codes " KEYED" ++ text ++ codes "\n")
    (ap (λ text. codes " " ++ four_digits trunk ++ (mark_text (tone Kp) ++ text)) (tones sent are)
    ∙ sym (marks_text-cons (mark.Trunk trunk) (tone Kp ∷ rest) ∙ ap (λ text. mark_text (mark.Trunk trunk) ++ text) (marks_text-cons (tone Kp) rest)))

of-keyed : (told : TimedEntry) (trunk : ℕ) (sent : List ℕ) → AreDigits sent
    → page_line_of (object_by told (orders.Key trunk sent)) ≡ entry_text told.line told.number (keying trunk sent)
of-keyed told trunk sent are =
    keyed told.line told.number trunk sent are
    ∙ sym (ap (entry_text_by told.line told.number (keying trunk sent)) (last-keying trunk sent))

-- an object that also has times of day
abbrev timed : Option (List ℕ) → Option (List ℕ) → Data → Data
timed from till value = with_time (codes "from") from (with_time (codes "at") till value)

-- they change nothing of its line
by-order : (told : TimedEntry) (from till : Option (List ℕ)) (order : Order) → Sends order
    → page_line_of (timed from till (object_by told order)) ≡ entry_text told.line told.number (marks_of order)
by-order told None None (orders.Refused reason heard) are = refl
by-order told None (Some till) (orders.Refused reason heard) are = refl
by-order told (Some from) None (orders.Refused reason heard) are = refl
by-order told (Some from) (Some till) (orders.Refused reason heard) are = refl
by-order told None None (orders.Key trunk sent) are = of-keyed told trunk sent are
by-order told None (Some till) (orders.Key trunk sent) are = of-keyed told trunk sent are
by-order told (Some from) None (orders.Key trunk sent) are = of-keyed told trunk sent are
by-order told (Some from) (Some till) (orders.Key trunk sent) are = of-keyed told trunk sent are

one-line : (told : TimedEntry) (from till : Option (List ℕ)) → AreKeyed told.marks
    → page_line_of (timed_object from till told) ≡ entry_text told.line told.number told.marks
one-line told from till keyed =
    ap (λ order. page_line_of (timed from till (object_by told order))) (ap order_in keyed.are ∙ order-in keyed.order)
    ∙ by-order told from till keyed.order keyed.sends
    ∙ ap (entry_text told.line told.number) (sym keyed.are)

all-lines : (from till : Option (List ℕ)) (tolds : List TimedEntry) → AllByRecursion (λ (told : TimedEntry). AreKeyed told.marks) tolds
    → AllByRecursion (λ (told : TimedEntry). page_line_of (timed_object from till told) ≡ entry_text told.line told.number told.marks) tolds
all-lines from till [] keyed = tt
all-lines from till (told ∷ tolds) keyed = (one-line told from till keyed.0, all-lines from till tolds keyed.1)

pub objects_are_lines : (text : List ℕ) (table : Table) → table_of_text text ≡ Ok table → (rows : List LoopRow) → ObjectsAreLines table rows
objects_are_lines text table reads rows = λ from till.
    all-lines from till (told_of_rows table rows) (told-keyed table (table-routes text table reads) rows)
