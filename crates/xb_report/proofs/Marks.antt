-- Signs that are marked.
use Rattle.std.proofs.Common.{◌≡◌, ◌++◌, ◌+◌, ◌==◌, ◌%◌, ◌<◌, ◌≤◌, ◌^◌, ◌∙◌, ◌∷◌, [], ℕ, List, ap, arith, codes, decimal, false, refl}
use Rattle.std.proofs.lemmas.Bool.Decides.{nat_tests}
use Rattle.std.proofs.lemmas.Fmt.{decimal_by_steps}
use Rattle.std.proofs.lemmas.Grind.{flat_map-append}
use Rattle.xb_model.specs.declared.limits.Limits.{Limits}
use Rattle.xb_heard.specs.declared.fault.PulseFault.{PulseFault}
use Rattle.xb_heard.specs.declared.fault.PulseFault.TheVariants.{LongBreak, ShortBreak, ShortMake, TooManyPulses}
use Rattle.xb_report.specs.Marked.{fault_marked, marked, marked_byte}
use Rattle.xb_report.specs.Words.{fault_with}

plain_byte : (b : ℕ) → 48 ≤ b → b < 58 → marked_byte b ≡ b ∷ []
plain_byte b low high =
    let lt : (b == 60) ≡ false = grind (arith, nat_tests) in
    let gt : (b == 62) ≡ false = grind (arith, nat_tests) in
    let amp : (b == 38) ≡ false = grind (arith, nat_tests) in
    rw (lt, gt, amp) refl

-- a number has no sign to be marked
pub marked-decimal : (n : ℕ) → n < 2 ^ 64 → marked (decimal n) ≡ decimal n
marked-decimal n h =
    decimal_by_steps (λ k ds. marked ds ≡ ds)
    (λ k below. ap (λ t. t ++ []) (plain_byte (48 + k) (omega arith) (omega arith)))
    (λ k ds ten is. flat_map-append marked_byte ds ((48 + k % 10) ∷ []) ∙ ap (λ t. t ++ (marked_byte (48 + k % 10) ++ [])) is
    ∙ ap (λ t. ds ++ (t ++ [])) (plain_byte (48 + k % 10) (omega arith) (omega arith)))
    n h

-- words, the ms, a sign, and the limit
marked-words : (front sign : List ℕ) (ms limit : ℕ) → ms < 2 ^ 64 → limit < 2 ^ 64
    → marked front ++ decimal ms ++ codes " ms " ++ marked sign ++ codes " " ++ decimal limit
    ≡ marked (front ++ decimal ms ++ codes " ms " ++ sign ++ codes " " ++ decimal limit)
marked-words front sign ms limit m l =
    rw (
      flat_map-append marked_byte (front ++ decimal ms ++ codes " ms " ++ sign ++ codes " ") (decimal limit),
      flat_map-append marked_byte (front ++ decimal ms ++ codes " ms " ++ sign) (codes " "),
      flat_map-append marked_byte (front ++ decimal ms ++ codes " ms ") sign,
      flat_map-append marked_byte (front ++ decimal ms) (codes " ms "),
      flat_map-append marked_byte front (decimal ms),
      marked-decimal ms m,
      marked-decimal limit l,
    ) refl

-- what is wrong with a run, with marked signs
pub marked-fault : (limits : Limits) (fault : PulseFault) (ms : ℕ) → ms < 2 ^ 64
    → limits.pulse_min < 2 ^ 64 → limits.pulse_max < 2 ^ 64 → limits.make_min < 2 ^ 64
    → fault_with (codes "&lt;") (codes "&gt;") limits fault ms ≡ fault_marked limits fault ms
marked-fault limits ShortBreak ms m least most make = marked-words (codes "break ") (codes "<") ms limits.pulse_min m least
marked-fault limits LongBreak ms m least most make = marked-words (codes "break ") (codes ">") ms limits.pulse_max m most
marked-fault limits ShortMake ms m least most make = marked-words (codes "make ") (codes "<") ms limits.make_min m make
marked-fault limits TooManyPulses ms m least most make = refl
