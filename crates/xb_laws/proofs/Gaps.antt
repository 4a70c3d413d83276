-- No silence inside a keying is heard as long as a time-out that outlasts the gaps of the sender.
use Rattle.std.proofs.Common.{◌≡◌, ◌∙◌, ℕ, ◌+◌, ◌-◌, ◌*◌, ◌/◌, ◌<◌, ◌≤◌, ◌^◌, min, Bool, true, false, List, [], ◌∷◌, ◌++◌, map, sym, ap, arith, refl, ℤ}
use Rattle.std.proofs.lemmas.Bool.{false≢true, lt-leb}
use Rattle.xb_model.specs.declared.key.Key.TheVariants.{Digit, Kp, St}
use Rattle.xb_model.specs.declared.key.Tone.{Tone as Pair}
use Rattle.xb_model.specs.declared.mark.Mark.{Mark}
use Rattle.xb_model.specs.declared.mark.Mark.TheVariants.{Trunk, Tone, Refused}
use Rattle.xb_model.specs.declared.order.Order.{Order}
use Rattle.xb_model.specs.declared.order.Order.TheVariants as orders
use Rattle.xb_model.specs.Keyings.{tone}
use Rattle.xb_sound.specs.declared.cadence.Cadence.{Cadence}
use Rattle.xb_sound.specs.Cadences.{tone_ms}
use Rattle.xb_sound.specs.HeardKeys.{AreKeyed}
use Rattle.xb_sound.proofs.KeyWaves.{keys_with-pair}
use Rattle.xb_ear.specs.declared.hearing.Heard.{Heard}
use Rattle.xb_ear.specs.Disturbed.{AreWithin}
use Rattle.xb_ear.specs.HeardKeys.{IsHearable, disturbable, pairs_in, tones_of}
use Rattle.xb_ear.specs.Receivers.{keys_of_sound}
use Rattle.xb_incoming.specs.Attempts.{is_kp, times_out}
use Rattle.xb_incoming.specs.Joined.{InTime}
use Rattle.xb_laws.specs.Timed.{OutlastsGaps, begin_of, first_symbol, length_of, symbol_of, symbol_of_pair, timed_keys, timed_of}
use Rattle.xb_laws.proofs.Orders.{marks_in}
use Rattle.xb_laws.proofs.Placed.{placed}
use Rattle.xb_laws.proofs.Places.{ArePlaced, first_within, past_within}

-- a lead, and the silence before the first key, stand just before a KP
abbrev OpenByKp : Bool → List Mark → Type 0
OpenByKp led [] = Unit {0}
OpenByKp led (Trunk t ∷ marks) = OpenByKp true marks
OpenByKp led (Refused reason heard ∷ marks) = OpenByKp led marks
OpenByKp true (Tone key p ∷ marks) = (key ≡ Kp) × OpenByKp false marks
OpenByKp false (Tone key p ∷ marks) = OpenByKp false marks

digits-open : (digits : List ℕ) (rest : List Mark) → OpenByKp false rest
    → OpenByKp false ((map (λ d. tone (Digit d)) digits ++ tone St ∷ []) ++ rest)
digits-open [] rest after = after
digits-open (d ∷ digits) rest after = digits-open digits rest after

orders-open : (orders : List Order) (led : Bool) → OpenByKp led (marks_in orders)
orders-open [] led = tt
orders-open (orders.Key trunk digits ∷ more) led = (refl, digits-open digits (marks_in more) (orders-open more false))
orders-open (orders.Refused reason heard ∷ more) led = orders-open more led

-- a tone ended at a sample, with a gap after it, and was heard to end no earlier than its last window
record IsAfter (cadence : Cadence) (at last : ℕ) : Type 0 where
  end : ℕ
  gap : at ≡ end + cadence.gap_ms * 8
  heard : min ((20 * past_within end + 33) / 8) (2 ^ 64 - 1) ≤ last

abbrev IsSince : Bool → Cadence → ℕ → ℕ → Type 0
IsSince true cadence at last = Unit {0}
IsSince false cadence at last = IsAfter cadence at last

-- so the next one is heard in time
early : (limit : ℕ) (cadence : Cadence) (at last : ℕ) (key : Heard) → OutlastsGaps limit cadence
    → IsAfter cadence at last → key.first ≤ first_within at → times_out limit last (begin_of key) ≡ false
early limit cadence at last key outlasts since first =
    let silence : begin_of key - last < limit =
    omega (arith, since.gap, since.heard, first, outlasts) in
    lt-leb limit (begin_of key - last) silence

ended : (key : Heard) (end : ℕ) → past_within end ≤ key.past
    → min ((20 * past_within end + 33) / 8) (2 ^ 64 - 1) ≤ min (begin_of key + length_of key) (2 ^ 64 - 1)
ended key end past = omega (arith, past)

first-pair : (p q : Pair) (ps qs : List Pair) → p ∷ ps ≡ q ∷ qs → p ≡ q
first-pair p q ps qs e = cc

later-pairs : (p q : Pair) (ps qs : List Pair) → p ∷ ps ≡ q ∷ qs → ps ≡ qs
later-pairs p q ps qs e = cc

placed-in-time : (limit : ℕ) (cadence : Cadence) → OutlastsGaps limit cadence → (marks : List Mark) (led : Bool)
    (at last : ℕ) (keys : List Heard) → OpenByKp led marks → AreKeyed marks → pairs_in keys ≡ tones_of marks
    → ArePlaced cadence at marks keys → IsSince led cadence at last → InTime limit last (map timed_of keys)
placed-in-time limit cadence outlasts [] led at last [] opens keyed pairs are since = tt
placed-in-time limit cadence outlasts [] led at last (k ∷ keys) opens keyed pairs are since = absurd are
placed-in-time limit cadence outlasts (Trunk t ∷ marks) led at last keys opens keyed pairs are since =
    placed-in-time limit cadence outlasts marks true (at + cadence.lead_ms * 8) last keys opens keyed.1 pairs are tt
placed-in-time limit cadence outlasts (Refused reason heard ∷ marks) led at last keys opens keyed pairs are since =
    placed-in-time limit cadence outlasts marks led at last keys opens keyed.1 pairs are since
placed-in-time limit cadence outlasts (Tone key p ∷ marks) led at last [] opens keyed pairs are since = absurd are
placed-in-time limit cadence outlasts (Tone key p ∷ marks) led at last (k ∷ keys) opens keyed pairs are since =
    let end : ℕ = at + tone_ms cadence key * 8 in
    let pair : k.sight.pair ≡ p = first-pair k.sight.pair p (pairs_in keys) (tones_of marks) pairs in
    let what : symbol_of_pair k.sight.pair ≡ symbol_of key =
    ap symbol_of_pair (pair ∙ keyed.0.1) ∙ ap first_symbol (keys_with-pair key keyed.0.0) in (
      in-time led opens since what,
      placed-in-time limit cadence outlasts marks false (end + cadence.gap_ms * 8) (min (begin_of k + length_of k) (2 ^ 64 - 1)) keys
          (later led opens) keyed.1 (later-pairs k.sight.pair p (pairs_in keys) (tones_of marks) pairs) are.2
          (record { end = end; gap = refl; heard = ended k end are.1 }),
    )
  where
    later : (led : Bool) → OpenByKp led (Tone key p ∷ marks) → OpenByKp false marks
    later true opens = opens.1
    later false opens = opens

    in-time : (led : Bool) → OpenByKp led (Tone key p ∷ marks) → IsSince led cadence at last
        → symbol_of_pair k.sight.pair ≡ symbol_of key → is_kp (symbol_of_pair k.sight.pair) ≡ false
        → times_out limit last (begin_of k) ≡ false
    in-time true opens since what other =
        absurd (false≢true (sym other ∙ ap is_kp (what ∙ ap symbol_of opens.0)))
    in-time false opens since what other = early limit cadence at last k outlasts since are.0

-- of the sound of orders
pub orders-in-time : (limit : ℕ) (cadence : Cadence) (orders : List Order) (samples : List ℤ) → OutlastsGaps limit cadence
    → IsHearable cadence → AreKeyed (marks_in orders) → AreWithin (disturbable cadence (marks_in orders)) samples
    → pairs_in (keys_of_sound samples) ≡ tones_of (marks_in orders) → InTime limit 0 (timed_keys samples)
orders-in-time limit cadence orders samples outlasts hearable keyed within pairs =
    placed-in-time limit cadence outlasts (marks_in orders) true 0 0 (keys_of_sound samples) (orders-open orders true)
    keyed pairs (placed cadence (marks_in orders) samples hearable keyed within) tt
